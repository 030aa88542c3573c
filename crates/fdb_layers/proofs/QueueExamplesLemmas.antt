-- The queue, worked.
use Rattle.std.proofs.Common.{◌≡◌, ◌∙◌, sym, ap, refl, subst, ℕ, true, false, List, [], ◌∷◌, Some}
use Rattle.std.proofs.Common.{arith}
use Rattle.std.specs.Prelude.{codes, drop, take, ◌≤◌}
use Rattle.std.specs.Int.{from_be_bytes, w32, w64}
use Rattle.std.proofs.Math.Logic.{inl, inr}
use Rattle.std.proofs.lemmas.Nat.{from_be_bytes-to_be_bytes_4, from_be_bytes-to_be_bytes_8}
use Rattle.fdb_mutations.specs.Stamps.{stamp_size}
use Rattle.fdb_mutations.specs.declared.mutation.Mutation.TheVariants.{Set}
use Rattle.fdb_txn.proofs.Exports.{get-effects}
use Rattle.fdb_txn.specs.declared.txn_id.TxnId.{TxnId}
use Rattle.fdb_keys.specs.Points.{Point, point_lt}
use Rattle.fdb_client.specs.declared.program.Op.{Op}
use Rattle.fdb_client.specs.declared.program.Reply.{Reply}
use Rattle.fdb_client.specs.declared.program.Reply.TheVariants.{Pairs}
use Rattle.fdb_layers.specs.Operations.{writing}
use Rattle.fdb_layers.specs.Queue.{item_key, pushing, FitsKey, IsOldest}
use Rattle.fdb_layers.specs.QueueExamples.{early, early_popped, job_pushed, late, EarlyIsPopped, JobIsPush}
use Rattle.fdb_layers.specs.QueueExamples.{LateIsNotOldest, PushesHaveOwnKeys, UnstampedPushesFail}
use Rattle.fdb_layers.proofs.OperationsLemmas.{written, of_ops, answered-so, nowhere}
use Rattle.fdb_layers.proofs.QueueLemmas.{queue_starts}

pub job_is_push : JobIsPush
job_is_push transcript map own is = (
  inr (inl (
    codes "job",
    subst FitsKey (sym own) (omega arith, omega arith),
    is ∙ ap (λ (id : TxnId). pushing id (codes "job")) (sym own),
  )),
  answered-so map transcript job_pushed is ((λ ordinary. refl), tt),
)

-- the item of version 100 has a lesser value than that of version 200
early-first : point_lt early.1 late.1 ≡ true
unfolding point_lt
early-first = refl

early-last : (point_lt late.1 early.1 ≡ false) × (point_lt early.1 early.1 ≡ false)
unfolding point_lt
early-last = (refl, refl)

early-oldest : IsOldest (late ∷ early ∷ []) early
early-oldest = record { at = 1; there = refl; least = (early-last.0, (early-last.1, tt)) }

pub early_is_popped : EarlyIsPopped
early_is_popped transcript map is has = (
  (Some early, (late ∷ early ∷ [], early-oldest, is), refl),
  inr (inr (Some early, (late ∷ early ∷ [], early-oldest, is))),
  answered-so map transcript early_popped is ((λ ordinary. refl), ((λ ordinary. ap Pairs (sym has)), tt)),
)

pub late_is_not_oldest : LateIsNotOldest
late_is_not_oldest oldest = let wrong : true ≡ false = sym early-first ∙ oldest.least.1.0 in cc

-- four bytes and eight bytes, of one number each
abbrev session-of : Point → ℕ
session-of key = from_be_bytes w32 (take 4 (drop 6 key))

abbrev number-of : Point → ℕ
number-of key = from_be_bytes w64 (drop 10 key)

pub pushes_have_own_keys : PushesHaveOwnKeys
pushes_have_own_keys one other fits others same =
    let sessions : one.session ≡ other.session =
    sym (from_be_bytes-to_be_bytes_4 one.session fits.0) ∙ ap session-of same
    ∙ from_be_bytes-to_be_bytes_4 other.session others.0 in
    let numbers : one.number ≡ other.number =
    sym (from_be_bytes-to_be_bytes_8 one.number fits.1) ∙ ap number-of same
    ∙ from_be_bytes-to_be_bytes_8 other.number others.1 in
    λ i. record { session = sessions i; number = numbers i }

-- an item of one byte with no stamp
abbrev bare : List (Op × Reply)
bare = writing (Set (item_key (record { session = 0; number = 0 })) (7 ∷ [])) ∷ []

pub unstamped_pushes_fail : UnstampedPushesFail
unstamped_pushes_fail keeps =
    let after : stamp_size ≤ 1 = keeps nowhere (of_ops bare) 0 0 (7 ∷ [], refl) ((λ ordinary. refl), tt) queue_starts
    (item_key (record { session = 0; number = 0 })) (7 ∷ []) refl
    (get-effects nowhere (written 0 0 bare) (item_key (record { session = 0; number = 0 }))) in
    absurd (omega arith)
