use Rattle.std.proofs.Common.{◌≡◌, ◌∙◌, sym, ap, subst, ℕ, not, List, ◌∷◌}
use Rattle.std.specs.Prelude.{filter, slice_get}
use Rattle.std.specs.Option.{unwrap_or}
use Rattle.fdb_log.specs.Places.{AreRising, is_place, places_above}
use Rattle.fdb_log.specs.Waiting.{Waiting, waits}
use Rattle.fdb_log.proofs.ListedLemmas.{LeaveThrough, leave-next, left-wait}
use Rattle.fdb_log.proofs.PlacesLemmas.{above-first, above-all_places, all-above}
use Rattle.fdb_log.proofs.WaitingLemmas.{filter-either}
use Rattle.fdb_log.proofs.held.release_through.Goals as goal

pub loop-place-preserved : goal.loop-place-preserved
loop-place-preserved c =
    let test = waits (λ (tag : ℕ). unwrap_or (slice_get c.args.popped.now tag) 0) in
    let through = c.args.through in
    let place = c.in-Some.place in
    let places = c.next_through.new.self in
    let next : c.loop-place.places ≡ place ∷ places = c.in-Some.ensures.0 in
    let rising : AreRising c.loop-place.invariant.rising.0 (place ∷ places) =
    subst (AreRising c.loop-place.invariant.rising.0) next c.loop-place.invariant.rising.1 in
    record {
      rising = (c.loop-place.invariant.rising.0, rising.2);
      above =
          sym (above-first through place places c.in-Some.ensures.1)
          ∙ sym (ap (places_above through) next)
          ∙ c.loop-place.invariant.above;
      stay =
          ap (filter test) c.drop_unwaited.ensures
          ∙ filter-either test (λ (one : Waiting). not (is_place place one.0)) c.loop-place.tags.entries
          ∙ c.loop-place.invariant.stay;
      leave =
          subst (LeaveThrough test through places) (sym c.drop_unwaited.ensures)
          (leave-next test through place places c.loop-place.tags.entries
          (subst (λ (list : List (ℕ × ℕ)). LeaveThrough test through list c.loop-place.tags.entries) next
          c.loop-place.invariant.leave));
    }

pub returns-clause-places : goal.returns-clause-places
returns-clause-places c =
    c.in_default.ensures.0
    ∙ sym (above-all_places c.args.through c.loop-place.places
    (all-above c.loop-place.invariant.rising.0 c.args.through c.loop-place.places c.loop-place.invariant.rising.1
    c.in_default.ensures.1))
    ∙ c.loop-place.invariant.above

pub returns-clause-waiting : goal.returns-clause-waiting
returns-clause-waiting c =
    sym (left-wait (waits (λ (tag : ℕ). unwrap_or (slice_get c.args.popped.now tag) 0)) c.args.through
    c.loop-place.invariant.rising.0 c.loop-place.places c.loop-place.tags.entries c.loop-place.invariant.rising.1
    c.in_default.ensures.1 c.loop-place.invariant.leave)
    ∙ c.loop-place.invariant.stay
