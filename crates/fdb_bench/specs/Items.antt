-- Items as a resolver may be given them.
use Rattle.std.specs.Prelude.{◌≡◌, ◌<◌, ℕ, true, List}
use Rattle.std.specs.List.{AllByRecursion}
use Rattle.fdb_txn.specs.rules.Admission.{has_points}
use Rattle.fdb_resolver.specs.declared.part.Item.{Item}
use Rattle.fdb_resolver.specs.Parts.{AreRising}

-- the places rise, and lie below this one; who is sent reads has reads
pub record AreItemsBelow (place : ℕ) (items : List Item) : Type 0 where
  pub rising : AreRising items
  pub below : AllByRecursion (λ (item : Item). item.place < place) items
  pub reads : AllByRecursion (λ (item : Item). has_points item.reads ≡ true → item.has_reads ≡ true) items
