use Rattle.std.proofs.Common.{◌≡◌, ℕ, length}
use Rattle.std.specs.Prelude.{filter, slice_get}
use Rattle.std.specs.Option.{unwrap_or}
use Rattle.fdb_log.specs.Places.{AreRising, places_above}
use Rattle.fdb_log.specs.Waiting.{waits}
use Rattle.fdb_log.proofs.ListedLemmas.{LeaveThrough}
use Rattle.fdb_log.proofs.held.release_through.Given as goal

abbrev pub invariant-loop-place : goal.invariant-loop-place
invariant-loop-place l =
    let test = waits (λ (tag : ℕ). unwrap_or (slice_get l.popped tag) 0) in
    record {
      rising : (last : ℕ) × AreRising last l.places;
      above : places_above l.through l.places ≡ places_above l.through l.initial.places;
      stay : filter test l.tags.entries ≡ filter test l.initial.tags.entries;
      leave : LeaveThrough test l.through l.places l.tags.entries;
    }

abbrev pub decreases-loop-place : goal.decreases-loop-place
decreases-loop-place l = length l.places
