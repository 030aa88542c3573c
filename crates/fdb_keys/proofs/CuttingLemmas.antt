-- A legal range that is cut at one of its keys has legal parts.
use Rattle.std.proofs.Common.{◌≡◌, ◌∙◌, true, false, not, ◌&&◌}
use Rattle.std.proofs.lemmas.Bool.{and_parts, and_from, not_from_true, not_from_false}
use Rattle.fdb_keys.specs.Points.{Point, point_lt}
use Rattle.fdb_keys.specs.Ranges.{Range, in_range, single_range}
use Rattle.fdb_keys.specs.Texts.{is_bound, is_key}
use Rattle.fdb_keys.proofs.PointOrder.{lt_one_way, le_lt_chain}
use Rattle.fdb_keys.proofs.RangesLemmas.{in_range_parts}
use Rattle.fdb_keys.proofs.InsertionLemmas.{HasLegalBounds}
use Rattle.fdb_keys.proofs.SingleLemmas.{next_after, below_next}
use Rattle.fdb_keys.proofs.TextsLemmas.{is_bound-key, is_bound-after}

pub legal_from : (begin end : Point) → is_bound begin ≡ true → is_bound end ≡ true → point_lt end begin ≡ false
    → HasLegalBounds (record { begin = begin; end = end })
legal_from begin end of_begin of_end ordered =
    and_from (is_bound begin && is_bound end) _ (and_from (is_bound begin) (is_bound end) of_begin of_end)
    (not_from_false _ ordered)

bounds_of : (range : Range) → HasLegalBounds range → (is_bound range.begin ≡ true) × (is_bound range.end ≡ true)
bounds_of range legal =
    let parts : (is_bound range.begin && is_bound range.end ≡ true)
    × (not (point_lt range.end range.begin) ≡ true) = and_parts _ _ legal in
    and_parts _ _ parts.0

-- the range of a key alone
pub single_is_legal : (key : Point) → is_key key ≡ true → HasLegalBounds (single_range key)
single_is_legal key legal =
    legal_from key (single_range key).end (is_bound-key key legal) (is_bound-after key legal)
    (lt_one_way key (single_range key).end (next_after key))

module _ (range : Range) (key : Point) (legal : HasLegalBounds range) (inside : in_range range key ≡ true) where
  -- what lies before the key, and what lies from it on
  pub before_is_legal : is_bound key ≡ true → HasLegalBounds (record { begin = range.begin; end = key })
  before_is_legal of_key = legal_from range.begin key (bounds_of range legal).0 of_key
      (in_range_parts range key inside).0

  pub from_is_legal : is_bound key ≡ true → HasLegalBounds (record { begin = key; end = range.end })
  from_is_legal of_key = legal_from key range.end of_key (bounds_of range legal).1
      (lt_one_way key range.end (in_range_parts range key inside).1)

  -- what lies up to the key, and what lies behind it
  pub through_is_legal : is_bound (single_range key).end ≡ true
      → HasLegalBounds (record { begin = range.begin; end = (single_range key).end })
  through_is_legal of_next = legal_from range.begin (single_range key).end (bounds_of range legal).0 of_next
      (lt_one_way range.begin (single_range key).end
      (le_lt_chain range.begin key (single_range key).end (in_range_parts range key inside).0 (next_after key)))

  pub behind_is_legal : is_bound (single_range key).end ≡ true
      → HasLegalBounds (record { begin = (single_range key).end; end = range.end })
  behind_is_legal of_next = legal_from (single_range key).end range.end of_next (bounds_of range legal).1
      (below_next key range.end ∙ not_from_true _ (in_range_parts range key inside).1)
