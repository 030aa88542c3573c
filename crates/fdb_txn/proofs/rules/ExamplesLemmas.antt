-- The examples compute.
use Rattle.std.proofs.Common.{◌≡◌, ◌<◌, ◌≤◌, ◌+◌, ◌==◌, ◌∙◌, sym, ap, refl, arith, ⊎_elim, ℕ, Bool, true, false}
use Rattle.std.proofs.Common.{if◌then◌else◌}
use Rattle.std.specs.Prelude.{codes}
use Rattle.std.proofs.lemmas.Bool.{cases_Bool, and_parts, both_ways, eqb-true}
use Rattle.fdb_keys.specs.Points.{point_lt}
use Rattle.fdb_txn.specs.declared.txn_id.TxnId.{TxnId}
use Rattle.fdb_txn.specs.book.Once.{same_id, times_in_book}
use Rattle.fdb_txn.specs.laws.Examples.{OneBatch, WriteSkew, FalseConflict, FormerOwner, ThereAndBack, EqualIsNotNewer}
use Rattle.fdb_txn.specs.laws.Examples.{Window, OldReading, TwoMoves, Spans, AtBounds, ShardMessages, Entries}
use Rattle.fdb_txn.specs.laws.Examples.{of_three_ids, Books, Numbers, Horizon, Horizons}
use Rattle.fdb_txn.specs.laws.StampExamples.{Stamps}
use Rattle.fdb_txn.specs.laws.ConflictExamples.{OneKey, TwoResolvers, HalfRefused, MovedKeys, OtherPlaces, OldPlaces}
use Rattle.fdb_txn.specs.laws.ConflictExamples.{WorkedConflicts}

pub one_batch_computes : OneBatch
unfolding point_lt
one_batch_computes = (refl, refl, refl)

pub numbers_compute : Numbers
numbers_compute = (refl, refl)

pub horizon_computes : Horizon
unfolding point_lt
horizon_computes = (refl, refl, refl, refl, refl, refl, refl)

pub horizons_compute : Horizons
horizons_compute = (refl, refl, refl, refl, refl, refl, refl, refl)

pub write_skew_computes : WriteSkew
unfolding point_lt
write_skew_computes = (refl, refl)

pub false_conflict_computes : FalseConflict
unfolding point_lt
false_conflict_computes = (refl, refl)

pub former_owner_computes : FormerOwner
unfolding point_lt
former_owner_computes = (refl, refl)

pub there_and_back_computes : ThereAndBack
unfolding point_lt
there_and_back_computes = (refl, refl)

pub equal_is_not_newer_computes : EqualIsNotNewer
unfolding point_lt
equal_is_not_newer_computes = (refl, refl, refl, refl, refl)

pub window_computes : Window
unfolding point_lt
window_computes = (refl, refl, refl, refl, refl)

pub old_reading_computes : OldReading
unfolding point_lt
old_reading_computes = (refl, refl)

pub two_moves_computes : TwoMoves
unfolding point_lt
two_moves_computes = (refl, refl, refl)

pub spans_computes : Spans
unfolding point_lt
spans_computes = (refl, refl)

pub at_bounds_computes : AtBounds
unfolding point_lt
at_bounds_computes = (refl, refl, refl)

pub shard_messages_compute : ShardMessages
unfolding point_lt
shard_messages_compute = (refl, refl, refl)

pub stamps_compute : Stamps
unfolding point_lt
stamps_compute = (refl, refl, refl, refl, (λ none. both_ways true none.0 refl))

one_key_computes : OneKey
unfolding point_lt
one_key_computes = (refl, refl)

two_resolvers_computes : TwoResolvers
unfolding point_lt
two_resolvers_computes = refl

half_refused_computes : HalfRefused
unfolding point_lt
half_refused_computes = (refl, refl)

moved_keys_compute : MovedKeys
unfolding point_lt
moved_keys_compute = (refl, refl)

other_places_compute : OtherPlaces
unfolding point_lt
other_places_compute = (refl, refl, refl, refl)

old_places_compute : OldPlaces
unfolding point_lt
old_places_compute = (refl, refl)

-- the conflict sets of the examples compute
pub conflicts_compute : WorkedConflicts
conflicts_compute = (
  one_key_computes,
  two_resolvers_computes,
  half_refused_computes,
  moved_keys_compute,
  other_places_compute,
  old_places_compute,
)

pub entries_are_judged : Entries
entries_are_judged = (
  (
    omega arith,
    (refl, omega arith),
    (omega arith, tt),
    ((omega arith, λ x named. cc), tt),
    (omega arith, (refl, omega arith), tt, tt, tt),
  ),
  λ entries. let wrong : 0 < 0 = entries.0 in absurd (omega arith),
  λ entries. let wrong : 0 ≡ 1 = entries.4.1.0 in absurd (omega arith),
  λ entries. let wrong : 2 < 2 = entries.2.0 in absurd (omega arith),
  λ entries. let wrong : 1 < 1 = entries.3.0.0 in absurd (omega arith),
  λ entries. let wrong : false ≡ true = entries.3.0.1 (codes "a") refl in cc,
  λ entries. let wrong : 1 < 1 = entries.1.1 in absurd (omega arith),
)

abbrev counted : Bool → ℕ
counted is_it = if is_it then 1 else 0

at_most_one : (is_it : Bool) → counted is_it ≤ 1
at_most_one true = omega arith
at_most_one false = omega arith

-- one id is at most one of two that differ
one_of_two : (id a b : TxnId) → (a.session ≡ b.session → a.number ≡ b.number → ⊥)
    → counted (same_id id a) + counted (same_id id b) ≤ 1
one_of_two id a b differ = ⊎_elim
    (λ first. ⊎_elim
    (λ second.
    let of_a = and_parts (a.session == id.session) _ first in
    let of_b = and_parts (b.session == id.session) _ second in
    absurd (differ (eqb-true _ _ of_a.0 ∙ sym (eqb-true _ _ of_b.0)) (eqb-true _ _ of_a.1 ∙ sym (eqb-true _ _ of_b.1))))
    (λ other. let none : counted (same_id id b) ≡ 0 = ap counted other in omega
    (arith, none, at_most_one (same_id id a)))
    (cases_Bool (same_id id b)))
    (λ other. let none : counted (same_id id a) ≡ 0 = ap counted other in omega
    (arith, none, at_most_one (same_id id b)))
    (cases_Bool (same_id id a))

-- so one id is at most one of the three
three_ids : (id : TxnId) → times_in_book id of_three_ids ≤ 1
three_ids id =
    let a : TxnId = record { session = 0; number = 0 } in
    let b : TxnId = record { session = 1; number = 0 } in
    let c : TxnId = record { session = 0; number = 1 } in
    omega (
      arith,
      one_of_two id a b (λ sessions numbers. omega arith),
      one_of_two id a c (λ sessions numbers. omega arith),
      one_of_two id b c (λ sessions numbers. omega arith),
    )

pub books_are_judged : Books
books_are_judged = (
  record {
    linked = (omega arith, refl, (omega arith, refl, tt));
    horizons = (omega arith, (omega arith, tt));
    below = (omega arith, (omega arith, tt));
    reads = ((omega arith, (omega arith, tt)), ((omega arith, tt), tt));
    moves = (tt, (tt, tt));
    ids = three_ids;
  },
  λ book. let wrong : 2 ≤ 1 = book.ids (record { session = 0; number = 0 }) in absurd (omega arith),
  λ book. let wrong : 2 ≤ 1 = book.ids (record { session = 0; number = 0 }) in absurd (omega arith),
  (
    record {
      linked = (omega arith, refl, (omega arith, refl, (omega arith, refl, tt)));
      horizons = (omega arith, (omega arith, (omega arith, tt)));
      below = (omega arith, (omega arith, (omega arith, tt)));
      reads = (tt, (tt, (tt, tt)));
      moves = (tt, (tt, (tt, tt)));
      ids = λ id. omega arith;
    },
    λ book. let wrong : 100 ≤ 99 = book.horizons.1.1.0 in absurd (omega arith),
    λ book. let wrong : 250 < 250 = book.below.1.0 in absurd (omega arith),
  ),
)
