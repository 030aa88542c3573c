use Rattle.std.proofs.Common.{◌≡◌, ◌∙◌, ◌+◌, ◌-◌, ap, sym, Some, nat_eq, arith, false}
use Rattle.std.specs.Cmp.Lexicographic.{pointwise, bytes_decides}
use Rattle.std.specs.Option.{option_and_then}
use Rattle.fdb_keys.specs.Points.{Point}
use Rattle.fdb_load.specs.Rings.{first_name, name_after, name_in}
use Rattle.fdb_load.proofs.RingsLemmas.{name_after-begin, name_after-leads, never-back, away-other, away-more}
use Rattle.fdb_load.proofs.ring.cycle_length.Goals as goal

pub loop-steps-init : goal.loop-steps-init
loop-steps-init c = record {
  at = name_after-begin c.args.pairs.now ∙ ap (λ (name : Point). Some name) (sym c.name_of-first.ensures);
  away = λ fewer any below. absurd (omega arith);
}

pub returns-in_err-value_of-clause-none : goal.returns-in_err-value_of-clause-none
returns-in_err-value_of-clause-none c =
    let at = c.loop-steps in
    let ends = ap (option_and_then name_in) (sym c.in_err-value_of.ensures) in
    rw c.from_residual.ensures (λ steps any within.
    never-back c.args.pairs.now at.steps at.at at.auto.steps at.invariant.at ends at.invariant.away steps any)

pub returns-in_err-at-clause-none : goal.returns-in_err-at-clause-none
returns-in_err-at-clause-none c =
    let at = c.loop-steps in
    let ends = ap (option_and_then name_in) (sym c.in_ok-value_of.ensures) ∙ sym c.in_err-at.ensures in
    rw c.from_residual-in_err-at.ensures (λ steps any within.
    never-back c.args.pairs.now at.steps at.at at.auto.steps at.invariant.at ends at.invariant.away steps any)

pub returns-then-eq-clause-some : goal.returns-then-eq-clause-some
returns-then-eq-clause-some c =
    let at = c.loop-steps in
    let leads = name_after-leads c.args.pairs.now at.steps at.at c.in_ok-value_of.field-0.now c.in_ok-at.at
    at.auto.steps
    at.invariant.at c.in_ok-value_of.ensures c.in_ok-at.ensures in
    let same = (bytes_decides c.in_ok-at.at c.name_of-first.result).0 (sym c.if-eq.ensures) in (
      omega arith,
      (
        at.auto.steps,
        leads ∙ ap (λ (name : Point). Some name) (same ∙ c.name_of-first.ensures),
        at.invariant.away,
      ),
    )

pub loop-steps-preserved : goal.loop-steps-preserved
loop-steps-preserved c =
    let at = c.loop-steps in
    let leads = name_after-leads c.args.pairs.now at.steps at.at c.in_ok-value_of.field-0.now c.in_ok-at.at
    at.auto.steps
    at.invariant.at c.in_ok-value_of.ensures c.in_ok-at.ensures in
    let less : at.steps + 1 - 1 ≡ at.steps = omega arith in
    let other : false ≡ pointwise nat_eq c.in_ok-at.at first_name
    = c.if-eq.ensures ∙ ap (λ (name : Point). pointwise nat_eq c.in_ok-at.at name) c.name_of-first.ensures in
    record {
      at = ap (name_after c.args.pairs.now) less ∙ leads;
      away = away-more c.args.pairs.now at.steps at.invariant.away
          (away-other c.args.pairs.now at.steps c.in_ok-at.at leads other);
    }
