use Rattle.std.proofs.Common.{◌∙◌, ap}
use Rattle.std.specs.FinMap.{insert}
use Rattle.fdb_mutations.specs.Maps.{Map, has_legal_keys}
use Rattle.fdb_mutations.proofs.MapsLemmas.{one_set, legal-insert}
use Rattle.fdb_mutations.proofs.plain_map.PlainMap.set.Goals as goal

pub invariant_of-self-2 : goal.invariant_of-self-2
invariant_of-self-2 c =
    ap has_legal_keys c.in_ok-insert.ensures.entries
    ∙ legal-insert c.self.inside.pairs.entries c.args.key c.args.value c.requires c.self.invariant

pub returns-clause-answers : goal.returns-clause-answers
returns-clause-answers c =
    one_set c.self.inside.pairs.entries c.insert.new.self.entries c.args.key c.args.value
    c.in_ok-insert.ensures.updates.0
    ∙ ap (λ (map : Map). insert map c.args.key c.args.value) c.self.view_is
