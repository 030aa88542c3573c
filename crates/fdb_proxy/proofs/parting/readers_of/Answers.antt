use Rattle.std.proofs.Common.{◌∙◌, ap, ◌&&◌, ◌==◌, List}
use Rattle.std.specs.List.{list_any}
use Rattle.fdb_keys.specs.Ranges.{in_set}
use Rattle.fdb_owners.specs.declared.parts.Owned.{Owned}
use Rattle.fdb_owners.specs.Ownership.{resolvers_of, owned_between}
use Rattle.fdb_proxy.proofs.SpreadLemmas.{none-asked, answers-owned, answers-held}
use Rattle.fdb_proxy.proofs.parting.readers_of.Goals as goal

pub returns-then-from-version-clause-held : goal.returns-then-from-version-clause-held
returns-then-from-version-clause-held c i x =
    ap (λ (parts : List Owned). list_any (λ (part : Owned). (part.resolver == i) && in_set part.ranges x) parts)
    c.new.ensures
    ∙ none-asked c.args.owners.now c.args.set.now i x c.args.from c.args.version c.if-from-version.true

pub returns-clause-owned : goal.returns-clause-owned
returns-clause-owned c =
    answers-owned (resolvers_of c.args.owners.now)
    (λ i x. in_set c.args.set.now x && owned_between c.args.owners.now i x c.args.from c.args.version)
    c.readers_of.result c.readers_of.ensures

pub returns-clause-held : goal.returns-clause-held
returns-clause-held c =
    answers-held (resolvers_of c.args.owners.now)
    (λ i x. in_set c.args.set.now x && owned_between c.args.owners.now i x c.args.from c.args.version)
    c.readers_of.result c.readers_of.ensures
