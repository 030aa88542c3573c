use Rattle.std.proofs.Common.{sym, ⊎_elim, rules}
use Rattle.std.proofs.lemmas.Bool.{cases_Bool}
use Rattle.fdb_proxy.specs.Resolving.{are_on}
use Rattle.fdb_proxy.proofs.ResolvingLemmas.{on-lengths}
use Rattle.fdb_proxy.proofs.resolving.are_on.Goals as goal

pub returns-then-items-said : goal.returns-then-items-said
returns-then-items-said c =
    ⊎_elim (λ is. let same = on-lengths c.args.items.now c.args.said.now is in search rules) (λ isnt. sym isnt)
    (cases_Bool (are_on c.args.items.now c.args.said.now))
