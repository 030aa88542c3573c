-- What of a range lies behind one of its keys.
use Rattle.std.proofs.Common.{◌≡◌, ◌∙◌, sym, Bool, true, false}
use Rattle.std.proofs.lemmas.Bool.{and_left, and_right, not-false, not_from_true}
use Rattle.fdb_keys.specs.Cutting.{range_behind}
use Rattle.fdb_keys.specs.Points.{Point, point_lt}
use Rattle.fdb_keys.specs.Ranges.{Range, in_range, single_range}
use Rattle.fdb_keys.proofs.PointOrder.{lt-itself, lt_one_way, lt_chain, le_chain}
use Rattle.fdb_keys.proofs.RangesLemmas.{in_range_parts, in_range_from}
use Rattle.fdb_keys.proofs.SingleLemmas.{next_after, below_next}

-- from the next point on, a point comes after the key
pub after_next : (key x : Point) → point_lt x (single_range key).end ≡ false → point_lt key x ≡ true
after_next key x from = not-false _ (sym (below_next key x) ∙ from)

-- what lies behind a key of a range lies in the range
pub behind-inside : (range : Range) (is_reverse : Bool) (key : Point) → in_range range key ≡ true → (x : Point)
    → in_range (range_behind range is_reverse key) x ≡ true → in_range range x ≡ true
behind-inside range false key inside x there =
    let parts = in_range_parts range key inside in
    let here = in_range_parts (range_behind range false key) x there in
    in_range_from range x (le_chain range.begin key x parts.0 (lt_one_way key x (after_next key x here.0))) here.1
behind-inside range true key inside x there =
    let parts = in_range_parts range key inside in
    let here = in_range_parts (range_behind range true key) x there in
    in_range_from range x here.0 (lt_chain x key range.end here.1 parts.1)

-- and the key itself doesn't
pub not_behind-itself : (range : Range) (is_reverse : Bool) (key : Point)
    → in_range (range_behind range is_reverse key) key ≡ false
not_behind-itself range false key = and_left _ _ (not_from_true _ (next_after key))
not_behind-itself range true key = and_right _ _ (lt-itself key)
