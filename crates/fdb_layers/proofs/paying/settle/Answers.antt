use Rattle.std.proofs.Common.{◌≡◌, ◌+◌, ◌-◌, ◌≤◌, [], ◌∷◌, rules}
use Rattle.fdb_layers.specs.Paying.{setting}
use Rattle.fdb_layers.proofs.PayingLemmas.{more-and-more}
use Rattle.fdb_layers.proofs.paying.settle.Goals as goal

pub returns-clause-settles : goal.returns-clause-settles
returns-clause-settles g c =
    let pay = c.args.asked.now in
    let differ : pay.payer ≡ pay.payee → ⊥ = search rules in
    let covered : pay.amount ≤ c.args.had.0 = search rules in (
      differ,
      covered,
      more-and-more c.args.session.now.current c.set_amount.new.session.current c.set_amount-2.new.session.current
          (setting pay.payer (c.args.had.0 - pay.amount) ∷ []) (setting pay.payee (c.args.had.1 + pay.amount) ∷ [])
          c.in_ok-set_amount.ensures.sets c.in_ok-set_amount-2.ensures.sets,
    )
