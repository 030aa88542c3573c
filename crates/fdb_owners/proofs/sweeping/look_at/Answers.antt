use Rattle.std.proofs.Common.{◌≡◌, ◌∙◌, sym, ap, subst, rules}
use Rattle.std.specs.List.{AllByRecursion}
use Rattle.fdb_interval.specs.Breakpoints.{Breaks, value_from, AreRising}
use Rattle.fdb_owners.specs.declared.history.History.{History}
use Rattle.fdb_owners.specs.Histories.{AreFalling, owner_in}
use Rattle.fdb_owners.proofs.SweepingLemmas.{falling-at, falling-before, taken-agrees, taken-kept, set-agrees, set-kept}
use Rattle.fdb_owners.proofs.SweepingLemmas.{found-falling, IsPiece}
use Rattle.fdb_interval.proofs.Exports.{rising_from_sorted}
use Rattle.fdb_owners.proofs.sweeping.look_at.Goals as goal

pub is_same_from-requires-clause-this : goal.is_same_from-requires-clause-this
is_same_from-requires-clause-this c =
    subst (λ (history : History). AreFalling history.changes) (sym c.history_at.ensures.value)
    (falling-at c.args.pieces.now c.requires c.args.point.now)

pub is_same_from-requires-clause-others : goal.is_same_from-requires-clause-others
is_same_from-requires-clause-others c =
    subst (λ (history : History). AreFalling history.changes) (sym c.history_before-before.ensures.value)
    (falling-before c.args.pieces.now c.requires c.args.point.now)

pub cut-requires : goal.cut-requires
cut-requires c =
    found-falling c.args.pieces.now c.requires c.args.point.now c.in-Some.history.now (sym c.in-Some.ensures.value)

pub returns-then-is_same_from-clause-agree : goal.returns-then-is_same_from-clause-agree
returns-then-is_same_from-clause-agree c x v from =
    let front = c.args.pieces.now.lowest in
    ap (λ (es : Breaks History). owner_in (value_from front es x) v) c.remove.ensures.entries
    ∙ taken-agrees c.args.floor front c.args.point.now c.args.pieces.now.breaks.entries
    c.history_before-before.ensures.rising
    (λ w above.
    ap (λ (history : History). owner_in history w) (sym c.history_before-before.ensures.value)
    ∙ sym (c.is_same_from.ensures c.if-is_same_from.true w above)
    ∙ ap (λ (history : History). owner_in history w) c.history_at.ensures.value)
    x v from

pub returns-then-is_same_from-clause-kept : goal.returns-then-is_same_from-clause-kept
returns-then-is_same_from-clause-kept c resolvers last kept =
    record {
      lowest = kept.lowest;
      breaks =
          subst (AllByRecursion (IsPiece resolvers last)) (sym c.remove.ensures.entries)
          (taken-kept resolvers last c.args.point.now c.args.pieces.now.breaks.entries kept.breaks);
    }

pub returns-in-Some-clause-agree : goal.returns-in-Some-clause-agree
returns-in-Some-clause-agree c x v from =
    let front = c.args.pieces.now.lowest in
    ap (λ (es : Breaks History). owner_in (value_from front es x) v) (c.get_mut.follows.holds c.cut.new.self).0
    ∙ set-agrees c.args.floor c.args.point.now c.in-Some.history.now c.cut.new.self c.cut.ensures.kept
    c.args.pieces.now.breaks.entries (sym c.in-Some.ensures.value) front x v from

pub returns-in-Some-clause-kept : goal.returns-in-Some-clause-kept
returns-in-Some-clause-kept c resolvers last kept =
    record {
      lowest = kept.lowest;
      breaks =
          subst (AllByRecursion (IsPiece resolvers last)) (sym (c.get_mut.follows.holds c.cut.new.self).0)
          (set-kept resolvers last c.args.point.now c.in-Some.history.now c.cut.new.self
          (c.cut.ensures.history resolvers last) c.args.pieces.now.breaks.entries
          (sym c.in-Some.ensures.value) kept.breaks);
    }

pub returns-then-is_same_from-clause-rising : goal.returns-then-is_same_from-clause-rising
returns-then-is_same_from-clause-rising c = rising_from_sorted c.remove.new.self.entries c.remove.ensures.ordered

pub returns-in-Some-clause-rising : goal.returns-in-Some-clause-rising
returns-in-Some-clause-rising c = rising_from_sorted _ (c.get_mut.follows.holds c.cut.new.self).4

pub returns-in_default-clause-rising : goal.returns-in_default-clause-rising
returns-in_default-clause-rising c =
    let same : c.get_mut.follows.lender-at-none.entries ≡ c.args.pieces.now.breaks.entries = search rules in
    subst AreRising (sym same) c.history_before-before.ensures.rising
