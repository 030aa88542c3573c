-- What of a range the own writes don't decide, found entry by entry.
use Rattle.std.proofs.Common.{◌≡◌, ◌∙◌, sym, ap, ap₂, refl, ⊎_elim, Bool, true, false, not, ◌&&◌, ◌||◌, cond, List, []}
use Rattle.std.proofs.Common.{◌∷◌, ◌++◌, Option, None}
use Rattle.std.specs.Cmp.Lexicographic.{bytes_decides}
use Rattle.std.proofs.lemmas.Bool.{and_left, and_right, cases_Bool, not_from_true, or_left, or_right}
use Rattle.std.proofs.lemmas.List.Folds.{list_any-append}
use Rattle.fdb_keys.specs.Cutting.{range_behind, range_through}
use Rattle.fdb_keys.specs.Points.{Point, point_lt}
use Rattle.fdb_keys.specs.Ranges.{Range, in_range, in_set}
use Rattle.fdb_keys.proofs.Exports.{behind-inside, below_next, in_range_from, in_range_parts, le_chain, lt-itself}
use Rattle.fdb_keys.proofs.Exports.{lt_chain, lt_one_way, not_behind-itself}
use Rattle.fdb_client.specs.declared.left.Left.{Left}
use Rattle.fdb_client.specs.declared.left.Left.TheVariants.{Value, Unreadable, Changes}
use Rattle.fdb_client.specs.declared.own_writes.OwnWrites.{OwnWrites}
use Rattle.fdb_client.specs.LeftAt.{entry_of, left_at}
use Rattle.fdb_client.specs.Merging.{IsPartOf}
use Rattle.fdb_client.specs.OwnWalk.{AreEntriesOf}
use Rattle.fdb_client.specs.OwnWrites.{is_value, kept_of, part_by}
use Rattle.fdb_client.proofs.OwnWalkLemmas.{comes-behind, left-entry, same-unless}

or-false : (b : Bool) → (b || false) ≡ b
or-false true = refl
or-false false = refl

module _ (own : OwnWrites) (x : Point) where
  abbrev pub undecided : Bool
  undecided = not (is_value (left_at own x))

  -- a point without an entry that wasn't cleared with a range
  undecided-none : entry_of own x ≡ None → in_set own.cleared x ≡ false → undecided ≡ true
  undecided-none none uncleared =
      ap (λ (left : Option Left). not (is_value (kept_of own.cleared x left))) none
      ∙ ap (λ (cleared : Bool). not (is_value (cond cleared (Value None) (Changes [])))) uncleared

  module _ (range : Range) (uncleared : in_range range x ≡ true → in_set own.cleared x ≡ false) where
    -- where no entry is left, none is decided
    pub undecided-rest : AreEntriesOf own range false [] → (in_range range x && undecided) ≡ in_range range x
    undecided-rest are = either (in_range range x) (λ inside. undecided-none (are x inside) (uncleared inside))
      where
        either : (inside : Bool) → (inside ≡ true → undecided ≡ true) → (inside && undecided) ≡ inside
        either true is = is refl
        either false is = refl

    module _ (entry : Point × Left) (list : List (Point × Left))
        (are : AreEntriesOf own range false (entry ∷ list)) where
      abbrev part : Range
      part = part_by range entry.0 entry.1

      abbrev Cut : Type 0
      Cut = (in_range range x && undecided)
          ≡ (in_range part x || in_range (range_behind range false entry.0) x && undecided)

      -- before the key all points are undecided
      before-cut : point_lt x entry.0 ≡ true → Cut
      before-cut before =
          let gone : in_range (range_behind range false entry.0) x ≡ false =
          and_left _ _ (not_from_true _ (below_next entry.0 x ∙ ap not (lt_one_way x entry.0 before))) in
          either (in_range range x)
          (λ inside. undecided-none (are.2 x (comes-behind range true entry.0 x inside before)) (uncleared inside))
          ∙ ap₂ (λ (here there : Bool). here || there && undecided) (sym (held entry.1)) (sym gone)
        where
          either : (inside : Bool) → (inside ≡ true → undecided ≡ true)
              → (inside && undecided) ≡ (inside || false && undecided)
          either true is = is refl
          either false is = refl

          sooner : point_lt x range.end ≡ true
          sooner = lt_chain x entry.0 range.end before (in_range_parts range entry.0 are.0).1

          held : (left : Left) → in_range (part_by range entry.0 left) x ≡ in_range range x
          held (Value value) = ap (λ (until : Bool). not (point_lt x range.begin) && until) (before ∙ sym sooner)
          held (Unreadable value) = ap (λ (until : Bool). not (point_lt x range.begin) && until) (before ∙ sym sooner)
          held (Changes mutations) = ap (λ (until : Bool). not (point_lt x range.begin) && until)
              (below_next entry.0 x ∙ ap not (lt_one_way x entry.0 before) ∙ sym sooner)

      -- behind it no point lies in the part
      behind-cut : point_lt entry.0 x ≡ true → Cut
      behind-cut after =
          sym (ap₂ (λ (here there : Bool). here || there && undecided)
          (and_right _ _ (ends entry.1))
          (ap₂ (λ (from until : Bool). from && until)
          (ap not (below_next entry.0 x ∙ ap not after)
          ∙ sym (ap not (le_chain range.begin entry.0 x (in_range_parts range entry.0 are.0).0
          (lt_one_way entry.0 x after)))) refl))
        where
          ends : (left : Left) → point_lt x (part_by range entry.0 left).end ≡ false
          ends (Value value) = lt_one_way entry.0 x after
          ends (Unreadable value) = lt_one_way entry.0 x after
          ends (Changes mutations) = below_next entry.0 x ∙ ap not after

      -- and the key is in the part where its entry doesn't decide it
      at-cut : x ≡ entry.0 → Cut
      at-cut same =
          ap₂ (λ (inside value : Bool). inside && not value)
          (ap (in_range range) same ∙ are.0)
          (ap is_value (ap (left_at own) same ∙ left-entry own entry.0 entry.1 are.1))
          ∙ sym (ap₂ (λ (here there : Bool). here || there && undecided)
          (ap (in_range part) same ∙ held entry.1)
          (ap (in_range (range_behind range false entry.0)) same ∙ not_behind-itself range false entry.0)
          ∙ or-false (not (is_value entry.1)))
        where
          held : (left : Left) → in_range (part_by range entry.0 left) entry.0 ≡ not (is_value left)
          held (Value value) = not_behind-itself range true entry.0
          held (Unreadable value) = not_behind-itself range true entry.0
          held (Changes mutations) = in_range_from (range_through range false entry.0) entry.0
              (in_range_parts range entry.0 are.0).0 (below_next entry.0 entry.0 ∙ ap not (lt-itself entry.0))

      pub cut : Cut
      cut = ⊎_elim before-cut
          (λ not_before. ⊎_elim behind-cut
          (λ not_after. at-cut ((bytes_decides x entry.0).0 (same-unless x entry.0 not_before not_after)))
          (cases_Bool (point_lt entry.0 x)))
          (cases_Bool (point_lt x entry.0))

-- ---- entry by entry
in_pushed : (parts : List Range) (part : Range) (x : Point)
    → in_set (parts ++ part ∷ []) x ≡ (in_set parts x || in_range part x)
in_pushed parts part x =
    list_any-append (λ (range : Range). in_range range x) parts (part ∷ [])
    ∙ ap (λ (here : Bool). in_set parts x || here) (or-false (in_range part x))

or_assoc : (a b c : Bool) → ((a || b) || c) ≡ (a || (b || c))
or_assoc true b c = refl
or_assoc false b c = refl

-- Of a range the parts were found up to what is left of it, which has these entries.
pub record FoundSoFar (own : OwnWrites) (range : Range) (before parts : List Range) (left : Range)
    (entries : List (Point × Left)) : Type 0 where
  pub at : AreEntriesOf own left false entries
  pub part : IsPartOf left range
  pub points : (x : Point) → (in_set parts x || in_range left x && undecided own x)
      ≡ (in_set before x || in_range range x && undecided own x)

pub found-start : (own : OwnWrites) (range : Range) (before : List Range) (entries : List (Point × Left))
    → AreEntriesOf own range false entries → FoundSoFar own range before before range entries
found-start own range before entries are = record {
  at = are;
  part = λ x inside. inside;
  points = λ x. refl;
}

module _ (own : OwnWrites) (range : Range) (before parts : List Range) (left : Range)
    (uncleared : (x : Point) → in_range range x ≡ true → in_set own.cleared x ≡ false) where
  pub found-more : (entry : Point × Left) (entries : List (Point × Left))
      → FoundSoFar own range before parts left (entry ∷ entries)
      → FoundSoFar own range before (parts ++ part_by left entry.0 entry.1 ∷ []) (range_behind left false entry.0)
      entries
  found-more entry entries so_far = record {
    at = so_far.at.3;
    part = λ x there. so_far.part x (behind-inside left false entry.0 so_far.at.0 x there);
    points = λ x.
        ap (λ (found : Bool). found || in_range (range_behind left false entry.0) x && undecided own x)
        (in_pushed parts (part_by left entry.0 entry.1) x)
        ∙ or_assoc (in_set parts x) (in_range (part_by left entry.0 entry.1) x)
        (in_range (range_behind left false entry.0) x && undecided own x)
        ∙ ap (λ (rest : Bool). in_set parts x || rest)
        (sym (cut own x left (λ inside. uncleared x (so_far.part x inside)) entry entries so_far.at))
        ∙ so_far.points x;
  }

  pub found-all : FoundSoFar own range before parts left [] → (x : Point)
      → in_set (parts ++ left ∷ []) x ≡ (in_set before x || in_range range x && undecided own x)
  found-all so_far x =
      in_pushed parts left x
      ∙ ap (λ (rest : Bool). in_set parts x || rest)
      (sym (undecided-rest own x left (λ inside. uncleared x (so_far.part x inside)) so_far.at))
      ∙ so_far.points x

-- ---- range by range
-- The parts of some of the ranges were found; the rest is left.
pub record FoundAmong (own : OwnWrites) (ranges parts rest : List Range) : Type 0 where
  pub part : (x : Point) → in_set rest x ≡ true → in_set ranges x ≡ true
  pub points : (x : Point) → (in_set parts x || in_set rest x && undecided own x)
      ≡ (in_set ranges x && undecided own x)

pub among-start : (own : OwnWrites) (ranges : List Range) → FoundAmong own ranges [] ranges
among-start own ranges = record { part = λ x inside. inside; points = λ x. refl }

pub among-more : (own : OwnWrites) (ranges parts after rest : List Range) (range : Range)
    → FoundAmong own ranges parts (range ∷ rest)
    → ((x : Point) → in_set after x ≡ (in_set parts x || in_range range x && undecided own x))
    → FoundAmong own ranges after rest
among-more own ranges parts after rest range so_far found = record {
  part = λ x inside. so_far.part x (or_right (in_range range x) (in_set rest x) inside);
  points = λ x.
      ap (λ (there : Bool). there || in_set rest x && undecided own x) (found x)
      ∙ either (in_set parts x) (in_range range x) (in_set rest x) (undecided own x)
      ∙ so_far.points x;
}
  where
    either : (p a b u : Bool) → ((p || a && u) || b && u) ≡ (p || (a || b) && u)
    either true a b u = refl
    either false true b true = refl
    either false true true false = refl
    either false true false false = refl
    either false false b u = refl

pub among-inside : (own : OwnWrites) (ranges parts rest : List Range) (range : Range)
    → FoundAmong own ranges parts (range ∷ rest) → (x : Point) → in_range range x ≡ true → in_set ranges x ≡ true
among-inside own ranges parts rest range so_far x inside =
    so_far.part x (or_left (in_range range x) (in_set rest x) inside)

pub among-all : (own : OwnWrites) (ranges parts : List Range) → FoundAmong own ranges parts [] → (x : Point)
    → in_set parts x ≡ (in_set ranges x && undecided own x)
among-all own ranges parts so_far x = sym (or-false (in_set parts x)) ∙ so_far.points x

-- what wasn't cleared and isn't decided is all that isn't decided, since what was cleared is
pub not_cleared : (inside cleared value : Bool) → (cleared ≡ true → value ≡ true)
    → ((inside && not cleared) && not value || false) ≡ (inside && not value)
not_cleared false cleared value decided = refl
not_cleared true true value decided = ap not (sym (decided refl))
not_cleared true false true decided = refl
not_cleared true false false decided = refl
