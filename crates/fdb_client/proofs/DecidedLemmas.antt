-- What a program decides as ranges, and point by point.
use Rattle.std.proofs.Common.{◌≡◌, ◌∙◌, ap, refl, Bool, true, false, ◌&&◌, ◌||◌, if◌then◌else◌, List, [], ◌∷◌}
use Rattle.fdb_keys.specs.Insertion.{with_range}
use Rattle.fdb_keys.specs.Points.{Point}
use Rattle.fdb_keys.specs.Ranges.{Range, in_set}
use Rattle.fdb_keys.proofs.Exports.{in_with_range}
use Rattle.fdb_mutations.specs.Mutations.{names, named_range, is_blind}
use Rattle.fdb_mutations.proofs.Exports.{in_named_range}
use Rattle.fdb_client.specs.declared.program.Op.{Op}
use Rattle.fdb_client.specs.declared.program.Op.TheVariants.{Get, Write, AddRead, AddWrite}
use Rattle.fdb_client.specs.declared.program.Op.TheVariants as operation
use Rattle.fdb_client.specs.Programs.{decides, decided, add_decided, decided_ranges}

-- one operation more adds what it decides
in_add_decided : (op : Op) (ranges : List Range) (x : Point)
    → in_set (add_decided op ranges) x ≡ (decides op x || in_set ranges x)
in_add_decided (Get key snapshot) ranges x = refl
in_add_decided (operation.Range range limit is_reverse snapshot) ranges x = refl
in_add_decided (Write mutation) ranges x = by_blind (is_blind mutation)
  where
    by_blind : (blind : Bool)
        → in_set (if blind then with_range (named_range mutation) ranges else ranges) x
        ≡ (blind && names mutation x || in_set ranges x)
    by_blind true =
        in_with_range (named_range mutation) ranges x
        ∙ ap (λ (here : Bool). here || in_set ranges x) (in_named_range mutation x)
    by_blind false = refl
in_add_decided (AddRead range) ranges x = refl
in_add_decided (AddWrite range) ranges x = refl

-- the ranges of what a program decides hold just the points that it decides
pub in_decided_ranges : (ops : List Op) (x : Point) → in_set (decided_ranges ops) x ≡ decided ops x
in_decided_ranges [] x = refl
in_decided_ranges (op ∷ earlier) x =
    in_add_decided op (decided_ranges earlier) x
    ∙ ap (λ (before : Bool). decides op x || before) (in_decided_ranges earlier x)
