-- Parts that a walk over the pieces of a range makes.
use Rattle.std.proofs.Common.{◌≡◌, ◌∙◌, sym, ap, refl, subst, ℕ, ◌<◌, Bool, true, false, not, ◌&&◌, ◌||◌, List, []}
use Rattle.std.proofs.Common.{◌∷◌, ◌++◌, ⊎_elim}
use Rattle.std.specs.List.{AllByRecursion}
use Rattle.std.proofs.lemmas.Bool.{cases_Bool, and_right, cond-true, cond-false, and_parts}
use Rattle.fdb_keys.specs.Points.{Point, point_lt}
use Rattle.fdb_keys.specs.Ranges.{Range, in_range}
use Rattle.fdb_keys.specs.Texts.{is_bound}
use Rattle.fdb_keys.proofs.Exports.{lt-itself, lt_one_way, lt_chain, lt_le_chain, in_range_parts}
use Rattle.fdb_keys.proofs.Exports.{all-append, all-weaken}
use Rattle.fdb_interval.specs.Breakpoints.{Breaks, value_from, last_value, breaks_inside, AreRising as Rise}
use Rattle.fdb_interval.proofs.Exports.{sift, before, at, inside, inside-is, beyond, five_parts, all-sift, all_kept}
use Rattle.fdb_interval.proofs.Exports.{rising-sift, value-append, value-after, value-reached, at_same}
use Rattle.fdb_owners.specs.declared.history.Change.{Change}
use Rattle.fdb_owners.specs.declared.history.History.{History}
use Rattle.fdb_owners.specs.declared.parts.Owned.{Owned}
use Rattle.fdb_owners.specs.declared.pieces.Pieces.{Pieces}
use Rattle.fdb_owners.specs.Histories.{AreFalling, IsHistory}
use Rattle.fdb_owners.specs.Parts.{ArePartsOf, owned_from, with_owners, with_pieces, IsWay}
use Rattle.fdb_owners.specs.Pieces.{IsPieces, history_at}
use Rattle.fdb_owners.proofs.OwnedFromLemmas.{or-none}
use Rattle.fdb_owners.proofs.PartsLemmas.{HasOwnersBelow, parts-alike, parts-with_owners}

-- ---- inside a range the value at its begin counts, and the breakpoints inside it
module _ {V : Type 0} (start : V) (es : Breaks V) (begin end : Point) (rising : Rise es)
    (some : point_lt begin end ≡ true) where
  abbrev reached : V
  reached = last_value (last_value start (sift (before begin) es)) (sift (at begin) es)

  value-reaches : (x : Point) → point_lt x begin ≡ false → point_lt x end ≡ true
      → value_from start es x ≡ value_from reached (sift (inside begin end) es) x
  value-reaches x from until =
      let front = sift (before begin) es in
      let one = sift (at begin) es in
      let within = sift (inside begin end) es in
      let back = sift (at end) es ++ sift (beyond end) es in
      ap (λ (l : Breaks V). value_from start l x) (five_parts begin end some es rising)
      ∙ value-append start front (one ++ (within ++ back)) x
      ∙ ap (λ (value : V). value_from value (one ++ (within ++ back)) x)
      (value-reached start front x (all-sift (before begin) (λ y. point_lt x y ≡ false)
      (λ y sooner. lt_one_way y x (lt_le_chain y begin x sooner from)) es))
      ∙ value-append (last_value start front) one (within ++ back) x
      ∙ ap (λ (value : V). value_from value (within ++ back) x)
      (value-reached (last_value start front) one x (all-sift (at begin) (λ y. point_lt x y ≡ false)
      (λ y here. ap (point_lt x) (sym (at_same begin y here)) ∙ from) es))
      ∙ value-append reached within back x
      ∙ value-after (value_from reached within x) back x
      (all-append (λ (e : Point × V). point_lt x e.0 ≡ true) (sift (at end) es) (sift (beyond end) es)
      (all-sift (at end) (λ y. point_lt x y ≡ true)
      (λ y here. ap (point_lt x) (sym (at_same end y here)) ∙ until) es)
      (all-sift (beyond end) (λ y. point_lt x y ≡ true) (λ y after. lt_chain x end y until after) es))

  pub value-inside : (x : Point) → point_lt x begin ≡ false → point_lt x end ≡ true
      → value_from start es x ≡ value_from (value_from start es begin) (sift (inside begin end) es) x
  value-inside x from until =
      let within = sift (inside begin end) es in
      value-reaches x from until
      ∙ ap (λ (value : V). value_from value within x)
      (sym (value-reaches begin (lt-itself begin) some
      ∙ value-after reached within begin (all-sift (inside begin end) (λ y. point_lt begin y ≡ true)
      (λ y held. (and_parts _ _ (sym (inside-is begin end y) ∙ held)).0) es)))

-- ---- the way from a range's begin over the breakpoints inside it
pub way-goes : (history : History) (begin : Point) (pieces : Breaks History) (end : Point)
    → IsWay history begin pieces end → point_lt begin end ≡ true
way-goes history begin [] end way = way.3
way-goes history begin (piece ∷ rest) end way =
    lt_chain begin piece.0 end way.2 (way-goes piece.1 piece.0 rest end way.3)

way-rises : (history : History) (begin : Point) (pieces : Breaks History) (end : Point)
    → IsWay history begin pieces end → AllByRecursion (λ (piece : Point
    × History). point_lt begin piece.0 ≡ true) pieces
way-rises history begin [] end way = tt
way-rises history begin (piece ∷ rest) end way = (
  way.2,
  all-weaken _ (λ (later : Point × History). point_lt begin later.0 ≡ true)
      (λ (later : Point × History) after. lt_chain begin piece.0 later.0 way.2 after) rest
      (way-rises piece.1 piece.0 rest end way.3),
)

way-bound : (history : History) (begin : Point) (pieces : Breaks History) (end : Point)
    → IsWay history begin pieces end → is_bound begin ≡ true
way-bound history begin [] end way = way.0
way-bound history begin (piece ∷ rest) end way = way.0

-- one piece further, of which the point may bound a range
pub way-next : (history : History) (begin : Point) (pieces rest : Breaks History) (point : Point) (next : History)
    (end : Point) → pieces ≡ (point, next) ∷ rest → IsWay history begin pieces end → IsWay next point rest end
way-next history begin pieces rest point next end is way =
    (subst (λ (l : Breaks History). IsWay history begin l end) is way).3

pub way-next_bound : (history : History) (begin : Point) (pieces rest : Breaks History) (point : Point) (next : History)
    (end : Point) → pieces ≡ (point, next) ∷ rest → IsWay history begin pieces end → is_bound point ≡ true
way-next_bound history begin pieces rest point next end is way =
    way-bound next point rest end (way-next history begin pieces rest point next end is way)

pub way-same : (history other : History) (begin point : Point) (pieces others : Breaks History) (end : Point)
    → other ≡ history → point ≡ begin → others ≡ pieces → IsWay history begin pieces end → IsWay other point others end
way-same history other begin point pieces others end same_history same_point same_pieces way =
    subst (λ (l : Breaks History). IsWay other point l end) (sym same_pieces)
    (subst (λ (x : Point). IsWay other x pieces end) (sym same_point)
    (subst (λ (h : History). IsWay h begin pieces end) (sym same_history) way))

-- what is known of each breakpoint
abbrev IsKnown : Point × History → Type 0
IsKnown piece = (is_bound piece.0 ≡ true) × AreFalling piece.1.changes

way-by : (history : History) (begin : Point) (pieces : Breaks History) (end : Point) → is_bound begin ≡ true
    → AreFalling history.changes → is_bound end ≡ true → point_lt begin end ≡ true → Rise pieces
    → AllByRecursion (λ (piece : Point × History). point_lt begin piece.0 ≡ true) pieces
    → AllByRecursion (λ (piece : Point × History). point_lt piece.0 end ≡ true) pieces
    → AllByRecursion IsKnown pieces → IsWay history begin pieces end
way-by history begin [] end of_begin falling of_end some rising after sooner known =
    (of_begin, falling, of_end, some)
way-by history begin (piece ∷ rest) end of_begin falling of_end some rising after sooner known = (
  of_begin,
  falling,
  after.0,
  way-by piece.1 piece.0 rest end known.0.0 known.0.1 of_end sooner.0 rising.1 rising.0 sooner.1 known.1,
)

falling-at : (before : History) (pieces : Breaks History) (x : Point) → AreFalling before.changes
    → AllByRecursion IsKnown pieces → AreFalling (value_from before pieces x).changes
falling-at before [] x falling known = falling
falling-at before (piece ∷ rest) x falling known = ⊎_elim
    (λ (sooner : point_lt x piece.0 ≡ true).
    subst (λ (history : History). AreFalling (value_from history rest x).changes)
    (sym (cond-true (point_lt x piece.0) before piece.1 sooner)) (falling-at before rest x falling known.1))
    (λ (from : point_lt x piece.0 ≡ false).
    subst (λ (history : History). AreFalling (value_from history rest x).changes)
    (sym (cond-false (point_lt x piece.0) before piece.1 from)) (falling-at piece.1 rest x known.0.1 known.1))
    (cases_Bool (point_lt x piece.0))

known-pieces : (n last : ℕ) (pieces : Pieces) → IsPieces n last pieces → AllByRecursion IsKnown pieces.breaks.entries
known-pieces n last pieces are =
    all-weaken _ IsKnown (λ (piece : Point × History) is. (is.0, is.1.falling)) pieces.breaks.entries are.breaks

pub falling-history_at : (n last : ℕ) (pieces : Pieces) (x : Point) → IsPieces n last pieces
    → AreFalling (history_at pieces x).changes
falling-history_at n last pieces x are =
    falling-at pieces.lowest pieces.breaks.entries x are.lowest.falling (known-pieces n last pieces are)

pub way-inside : (n last : ℕ) (pieces : Pieces) (range : Range) → IsPieces n last pieces
    → Rise pieces.breaks.entries → is_bound range.begin ≡ true → is_bound range.end ≡ true
    → point_lt range.begin range.end ≡ true
    → IsWay (history_at pieces range.begin) range.begin (breaks_inside range pieces.breaks.entries) range.end
way-inside n last pieces range are rising of_begin of_end some =
    let entries = pieces.breaks.entries in
    let within = λ (y : Point) (held : inside range.begin range.end y ≡ true).
    and_parts _ _ (sym (inside-is range.begin range.end y) ∙ held) in
    way-by (history_at pieces range.begin) range.begin (breaks_inside range entries) range.end of_begin
    (falling-history_at n last pieces range.begin are) of_end some
    (rising-sift (inside range.begin range.end) entries rising)
    (all-sift (inside range.begin range.end) (λ y. point_lt range.begin y ≡ true) (λ y held. (within y held).0) entries)
    (all-sift (inside range.begin range.end) (λ y. point_lt y range.end ≡ true) (λ y held. (within y held).1) entries)
    (all_kept (inside range.begin range.end) IsKnown entries (known-pieces n last pieces are))

-- ---- the parts that the walk makes
-- the points of the first piece and those behind it are all
module _ (held : Bool) (test : History → Bool) (history : History) (begin : Point) (piece : Point × History)
    (rest : Breaks History) (end x : Point) (first : point_lt begin piece.0 ≡ true)
    (behind : IsWay piece.1 piece.0 rest end) where
  abbrev both : Bool
  both = (held || (in_range (record { begin = begin; end = piece.0 }) x && test history))
      || (in_range (record { begin = piece.0; end = end }) x && test (value_from piece.1 rest x))

  abbrev whole : Bool
  whole = held || (in_range (record { begin = begin; end = end }) x && test (value_from history (piece ∷ rest) x))

  parted-sooner : point_lt x piece.0 ≡ true → both ≡ whole
  parted-sooner sooner =
      let until : point_lt x end ≡ true = lt_chain x piece.0 end sooner (way-goes piece.1 piece.0 rest end behind) in
      let value : value_from history (piece ∷ rest) x ≡ history =
      ap (λ (value : History). value_from value rest x) (cond-true (point_lt x piece.0) history piece.1 sooner)
      ∙ value-after history rest x (all-weaken _ (λ (later : Point × History). point_lt x later.0 ≡ true)
      (λ (later : Point × History) after. lt_chain x piece.0 later.0 sooner after) rest
      (way-rises piece.1 piece.0 rest end behind)) in
      (λ k. (held || ((not (point_lt x begin) && sooner k) && test history))
      || ((not (sooner k) && point_lt x end) && test (value_from piece.1 rest x)))
      ∙ or-none (held || ((not (point_lt x begin) && true) && test history))
      ∙ (λ k. held || ((not (point_lt x begin) && sym until k) && test (sym value k)))

  parted-later : point_lt x piece.0 ≡ false → both ≡ whole
  parted-later from =
      let after : point_lt x begin ≡ false =
      lt_one_way begin x (lt_le_chain begin piece.0 x first from) in
      let value : value_from history (piece ∷ rest) x ≡ value_from piece.1 rest x =
      ap (λ (value : History). value_from value rest x) (cond-false (point_lt x piece.0) history piece.1 from) in
      (λ k. (held || ((not (point_lt x begin) && from k) && test history))
      || ((not (from k) && point_lt x end) && test (value_from piece.1 rest x)))
      ∙ ap (λ (b : Bool). (held || (b && test history)) || (point_lt x end && test (value_from piece.1 rest x)))
      (and_right (not (point_lt x begin)) false refl)
      ∙ ap (λ (b : Bool). b || (point_lt x end && test (value_from piece.1 rest x))) (or-none held)
      ∙ (λ k. held || ((not (sym after k) && point_lt x end) && test (sym value k)))

  pub parted : both ≡ whole
  parted = ⊎_elim parted-sooner parted-later (cases_Bool (point_lt x piece.0))

pub parts-with_pieces : (n : ℕ) (history : History) (since through : ℕ) (begin : Point) (pieces : Breaks History)
    (end : Point) (held : ℕ → Point → Bool) (parts : List Owned) → IsWay history begin pieces end
    → HasOwnersBelow n history
    → AllByRecursion (λ (piece : Point × History). HasOwnersBelow n piece.1) pieces → ArePartsOf n held parts
    → ArePartsOf n (λ j x. held j x || (in_range (record { begin = begin; end = end }) x
    && owned_from (value_from history pieces x) j since through))
    (with_pieces history since through begin pieces end parts)
parts-with_pieces n history since through begin [] end held parts way low all are =
    parts-with_owners n history since through (record { begin = begin; end = end }) held parts low way.3 are
parts-with_pieces n history since through begin (piece ∷ rest) end held parts way low all are =
    let range : Range = record { begin = begin; end = piece.0 } in
    parts-alike n _ _ (with_pieces history since through begin (piece ∷ rest) end parts)
    (parts-with_pieces n piece.1 since through piece.0 rest end _ (with_owners history since through range parts)
    way.3 all.0 all.1 (parts-with_owners n history since through range held parts low way.2 are))
    (λ j x. parted (held j x) (λ (h : History). owned_from h j since through) history begin piece rest end x way.2
    way.3)

owners_below : (n last : ℕ) (history : History) → IsHistory n last history → HasOwnersBelow n history
owners_below n last history is = record {
  first = is.first;
  changes = all-weaken _ (λ (change : Change). change.owner < n) (λ (change : Change) known. known.0) history.changes
      is.changes;
}

owners_below-at : (n : ℕ) (before : History) (pieces : Breaks History) (x : Point) → HasOwnersBelow n before
    → AllByRecursion (λ (piece : Point × History). HasOwnersBelow n piece.1) pieces
    → HasOwnersBelow n (value_from before pieces x)
owners_below-at n before [] x low all = low
owners_below-at n before (piece ∷ rest) x low all = ⊎_elim
    (λ (sooner : point_lt x piece.0 ≡ true).
    subst (λ (history : History). HasOwnersBelow n (value_from history rest x))
    (sym (cond-true (point_lt x piece.0) before piece.1 sooner)) (owners_below-at n before rest x low all.1))
    (λ (from : point_lt x piece.0 ≡ false).
    subst (λ (history : History). HasOwnersBelow n (value_from history rest x))
    (sym (cond-false (point_lt x piece.0) before piece.1 from)) (owners_below-at n piece.1 rest x all.0 all.1))
    (cases_Bool (point_lt x piece.0))

-- the walk over a range adds the points of the range to the parts
pub parts-walked : (n last since through : ℕ) (pieces : Pieces) (range : Range) (held : ℕ → Point → Bool)
    (old new : List Owned) → IsPieces n last pieces → Rise pieces.breaks.entries → is_bound range.begin ≡ true
    → is_bound range.end ≡ true → point_lt range.begin range.end ≡ true
    → new ≡ with_pieces (history_at pieces range.begin) since through range.begin
    (breaks_inside range pieces.breaks.entries) range.end old
    → ArePartsOf n held old
    → ArePartsOf n (λ i x. held i x || (in_range range x && owned_from (history_at pieces x) i since through)) new
parts-walked n last since through pieces range held old new known rising of_begin of_end some is are =
    let entries = pieces.breaks.entries in
    let within = breaks_inside range entries in
    let low : AllByRecursion (λ (piece : Point × History). HasOwnersBelow n piece.1) entries =
    all-weaken _ _ (λ (piece : Point × History) each. owners_below n last piece.1 each.1) entries known.breaks in
    subst
    (ArePartsOf n (λ i x. held i x || (in_range range x && owned_from (history_at pieces x) i since through)))
    (sym is)
    (parts-alike n _ _ (with_pieces (history_at pieces range.begin) since through range.begin within range.end old)
    (parts-with_pieces n (history_at pieces range.begin) since through range.begin within range.end held old
    (way-inside n last pieces range known rising of_begin of_end some)
    (owners_below-at n pieces.lowest entries range.begin (owners_below n last pieces.lowest known.lowest) low)
    (all_kept (inside range.begin range.end) (λ (piece : Point × History). HasOwnersBelow n piece.1) entries low) are)
    (λ j x. ap (λ (b : Bool). held j x || b) (⊎_elim
    (λ (lies : in_range range x ≡ true).
    let parts : (point_lt x range.begin ≡ false) × (point_lt x range.end ≡ true) = in_range_parts range x lies in
    ap (λ (history : History). in_range range x && owned_from history j since through)
    (sym (value-inside pieces.lowest entries range.begin range.end rising some x parts.0 parts.1)))
    (λ (out : in_range range x ≡ false).
    ap (λ (b : Bool). b && owned_from (value_from (history_at pieces range.begin) within x) j since through) out
    ∙ ap (λ (b : Bool). b && owned_from (history_at pieces x) j since through) (sym out))
    (cases_Bool (in_range range x)))))

-- a range without a point adds nothing to the parts
pub parts-unmet : (n : ℕ) (range : Range) (test held : ℕ → Point → Bool) (parts : List Owned)
    → ((x : Point) → in_range range x ≡ false) → ArePartsOf n held parts
    → ArePartsOf n (λ i x. held i x || (in_range range x && test i x)) parts
parts-unmet n range test held parts none are =
    parts-alike n held _ parts are
    (λ j x. sym (or-none (held j x)) ∙ ap (λ (b : Bool). held j x || (b && test j x)) (sym (none x)))
