-- Which parts a resolver may be given.
use Rattle.std.specs.Prelude.{◌≡◌, ◌<◌, true, List}
use Rattle.std.specs.List.{AllByRecursion}
use Rattle.fdb_keys.specs.Ordered.{AreOrdered}
use Rattle.fdb_txn.specs.rules.Admission.{has_points}
use Rattle.fdb_resolver.specs.declared.part.Item.{Item}
use Rattle.fdb_resolver.specs.declared.part.Part.{Part}

-- each place has a greater number than those before it
abbrev pub AreRising : List Item → Type 0
AreRising items = AreOrdered (λ (item later : Item). item.place < later.place) items

-- The entry's version is above that of the entry before it, the places rise, and a transaction of which the
-- resolver is sent reads has reads.
pub record IsPart (part : Part) : Type 0 where
  pub later : part.prev < part.version
  pub rising : AreRising part.items
  pub reads : AllByRecursion (λ (item : Item). has_points item.reads ≡ true → item.has_reads ≡ true) part.items
