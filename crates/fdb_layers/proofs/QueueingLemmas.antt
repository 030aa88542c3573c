-- What pushes and pops of sessions come to.
use Rattle.std.proofs.Common.{◌≡◌, ◌∙◌, sym, ap, subst, ℕ, ◌+◌, true, false, List, [], ◌∷◌, ◌++◌, length, take, Option}
use Rattle.std.proofs.Common.{Some, None, Result, Ok, Err, slice_get, ⊎_elim}
use Rattle.std.specs.Prelude.{IfSome, OnOk}
use Rattle.std.specs.List.{AllByRecursion}
use Rattle.std.specs.Option.{option_map}
use Rattle.std.proofs.Math.Logic.{inl, inr}
use Rattle.std.proofs.lemmas.Bool.{cases_Bool, cond-true, cond-false}
use Rattle.std.proofs.lemmas.List.{take_more}
use Rattle.std.proofs.lemmas.Option.{get_or_from_slice_get, same_Some, slice_get_within}
use Rattle.fdb_keys.specs.Points.{Point, point_lt}
use Rattle.fdb_keys.specs.Prefixes.{prefix_range}
use Rattle.fdb_keys.proofs.Exports.{le_chain, lt-itself, lt_one_way}
use Rattle.fdb_mutations.specs.declared.mutation.Mutation.TheVariants.{Stamped}
use Rattle.fdb_txn.specs.declared.txn_id.TxnId.{TxnId}
use Rattle.fdb_client.specs.declared.program.Transcript.{Transcript}
use Rattle.fdb_runtime.specs.Works.{IsStillOpen, IsUntouched}
use Rattle.fdb_layers.specs.Operations.{DoesMore, HasDone, reading_range, writing}
use Rattle.fdb_layers.specs.Queue.{item_of, older, popping, pushing, queue, taking, FitsKey, IsOldestIfAny, IsOfQueue}
use Rattle.fdb_layers.specs.Queue.{PopsItem, item_key, unstamped}
use Rattle.fdb_layers.proofs.DoingLemmas.{begun-none}

-- what holds of a call that isn't refused, and what follows of both
pub on-ok-both : {T E : Type 0} (result : Result T E) (P Q R : Type 0) → (P → Q → R) → OnOk result P → OnOk result Q
    → OnOk result R
on-ok-both (Ok given) P Q R so first second = so first second
on-ok-both (Err why) P Q R so first second = tt

-- a stamped write of the item under the key of the id is a push of it
pub pushed-by : (old new : Option Transcript) (id : TxnId) (key : Point) (operand item : List ℕ) → key ≡ item_key id
    → operand ≡ unstamped item → DoesMore old (writing (Stamped key operand 0) ∷ []) new
    → DoesMore old (pushing id item) new
pushed-by old new id key operand item key-is operand-is more =
    subst (λ (o : List ℕ). DoesMore old (writing (Stamped (item_key id) o 0) ∷ []) new) operand-is
    (subst (λ (k : Point). DoesMore old (writing (Stamped k operand 0) ∷ []) new) key-is more)

-- an untouched transaction of the id has pushed the item, by one call
pub push-done : (old new : Option Transcript) (id : TxnId) (bytes item : List ℕ) → bytes ≡ item → IsUntouched old
    → option_map (λ (transcript : Transcript). transcript.id) old ≡ Some id → IsStillOpen old new
    → DoesMore old (pushing id bytes) new
    → IfSome new (λ (transcript : Transcript). transcript.ops ≡ pushing transcript.id item)
push-done None new id bytes item same begun is still pushes = absurd begun
push-done (Some old) None id bytes item same begun is still pushes = absurd still
push-done (Some old) (Some new) id bytes item same begun is still pushes =
    pushes [] begun ∙ ap (λ (text : List ℕ). pushing id text) same
    ∙ ap (λ (own : TxnId). pushing own item) (sym (same_Some old.id id is) ∙ sym still.0)

-- so it is one of the queue's
pub push-allowed : (old new : Option Transcript) (id : TxnId) (item : List ℕ) → FitsKey id
    → option_map (λ (transcript : Transcript). transcript.id) old ≡ Some id → IsStillOpen old new
    → IfSome new (λ (transcript : Transcript). transcript.ops ≡ pushing transcript.id item) → IfSome new IsOfQueue
push-allowed old None id item fits is still done = done
push-allowed None (Some new) id item fits is still done = absurd still
push-allowed (Some old) (Some new) id item fits is still done =
    inr (inl (item, subst FitsKey (sym (still.0 ∙ same_Some old.id id is)) fits, done))

-- The queue was read, and then the oldest pair taken, if there was any.
module _ (old middle new : Option Transcript) (pairs : List (Point × List ℕ)) (oldest : Option (Point × List ℕ))
    (begun : IsUntouched old) (reads : DoesMore old (reading_range (prefix_range queue) pairs ∷ []) middle)
    (first : IsOldestIfAny pairs oldest) (takes : DoesMore middle (taking oldest) new) where
  popped : HasDone new (popping pairs oldest)
  popped = takes (reading_range (prefix_range queue) pairs ∷ []) (reads [] (begun-none old begun))

  pub pop-done : (item : Option (List ℕ)) → item ≡ option_map (λ (pair : Point × List ℕ). item_of pair.1) oldest
      → IfSome new (λ (transcript : Transcript). PopsItem transcript item)
  pop-done item is = by_new new popped
    where
      by_new : (current : Option Transcript) → HasDone current (popping pairs oldest)
          → IfSome current (λ (transcript : Transcript). PopsItem transcript item)
      by_new None done = absurd done
      by_new (Some transcript) done = (oldest, (pairs, first, done), is)

  pub pop-allowed : IfSome new IsOfQueue
  pop-allowed = by_new new popped
    where
      by_new : (current : Option Transcript) → HasDone current (popping pairs oldest) → IfSome current IsOfQueue
      by_new None done = absurd done
      by_new (Some transcript) done = inr (inr (oldest, (pairs, first, done)))

-- what holds of all items of a list, and of one more
all-more : (P : Point × List ℕ → Type 0) (pairs : List (Point × List ℕ)) (pair : Point × List ℕ)
    → AllByRecursion P pairs → P pair → AllByRecursion P (pairs ++ pair ∷ [])
all-more P [] pair all here = (here, tt)
all-more P (one ∷ pairs) pair all here = (all.0, all-more P pairs pair all.1 here)

-- what follows of it for each
all-so : (P Q : Point × List ℕ → Type 0) → ((pair : Point × List ℕ) → P pair → Q pair)
    → (pairs : List (Point × List ℕ)) → AllByRecursion P pairs → AllByRecursion Q pairs
all-so P Q so [] all = tt
all-so P Q so (one ∷ pairs) all = (so one all.0, all-so P Q so pairs all.1)

-- the other one's value isn't less
abbrev pub IsNoOlder : Point × List ℕ → Point × List ℕ → Type 0
IsNoOlder pair other = point_lt other.1 pair.1 ≡ false

-- Of the pair that is the oldest one so far, and the next one, the older one is the oldest one so far.
module _ (pairs : List (Point × List ℕ)) (index : ℕ) (one pair : Point × List ℕ)
    (next : slice_get pairs index ≡ Some pair) where
  pub older-there : (at : ℕ) × (slice_get pairs at ≡ Some one) → (at : ℕ) × (slice_get pairs at ≡ Some (older one pair))
  older-there there = ⊎_elim
      (λ before. (
        index,
        next ∙ ap (λ (it : Point × List ℕ). Some it)
            (sym (cond-true (point_lt pair.1 one.1) pair one before)),
      ))
      (λ after. (
        there.0,
        there.1 ∙ ap (λ (it : Point × List ℕ). Some it)
            (sym (cond-false (point_lt pair.1 one.1) pair one after)),
      ))
      (cases_Bool (point_lt pair.1 one.1))

  pub older-least : AllByRecursion (IsNoOlder one) (take index pairs)
      → AllByRecursion (IsNoOlder (older one pair)) (take (index + 1) pairs)
  older-least least = subst (λ (some : List (Point × List ℕ)). AllByRecursion (IsNoOlder (older one pair)) some)
      (sym (take_more pairs index pair (slice_get_within pairs index pair next)
      ∙ ap (λ (it : Point × List ℕ). take index pairs ++ it ∷ []) (get_or_from_slice_get pairs index pair pair next)))
      (⊎_elim
      (λ before. subst
      (λ (it : Point × List ℕ). AllByRecursion (IsNoOlder it) (take index pairs ++ pair ∷ []))
      (sym (cond-true (point_lt pair.1 one.1) pair one before))
      (all-more (IsNoOlder pair) (take index pairs) pair
      (all-so (IsNoOlder one) (IsNoOlder pair)
      (λ other no_older. le_chain pair.1 one.1 other.1 (lt_one_way pair.1 one.1 before) no_older)
      (take index pairs) least)
      (lt-itself pair.1)))
      (λ after. subst
      (λ (it : Point × List ℕ). AllByRecursion (IsNoOlder it) (take index pairs ++ pair ∷ []))
      (sym (cond-false (point_lt pair.1 one.1) pair one after))
      (all-more (IsNoOlder one) (take index pairs) pair least after))
      (cases_Bool (point_lt pair.1 one.1)))
