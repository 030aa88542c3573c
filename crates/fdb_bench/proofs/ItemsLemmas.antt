-- Items with one more at the end.
use Rattle.std.proofs.Common.{◌≡◌, ℕ, ◌<◌, ◌+◌, true, List, [], ◌∷◌, ◌++◌, arith}
use Rattle.fdb_keys.proofs.Exports.{all-append, all-weaken, ordered-push}
use Rattle.fdb_txn.specs.rules.Admission.{has_points}
use Rattle.fdb_resolver.specs.declared.part.Item.{Item}
use Rattle.fdb_bench.specs.Items.{AreItemsBelow}

-- the item of the place may come after those below it
pub items-push : (place : ℕ) (items : List Item) (item : Item) → AreItemsBelow place items → item.place ≡ place
    → item.has_reads ≡ true → AreItemsBelow (place + 1) (items ++ item ∷ [])
items-push place items item kept is reads =
    record {
      rising = ordered-push (λ (one later : Item). one.place < later.place) items item kept.rising
          (all-weaken _ _ (λ (one : Item) below. omega (arith, is, below)) items kept.below);
      below =
          all-append (λ (one : Item). one.place < place + 1) items (item ∷ [])
          (all-weaken _ _ (λ (one : Item) below. omega (arith, below)) items kept.below)
          (omega (arith, is), tt);
      reads =
          all-append (λ (one : Item). has_points one.reads ≡ true → one.has_reads ≡ true) items (item ∷ []) kept.reads
          ((λ _. reads), tt);
    }
