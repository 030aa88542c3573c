-- What newer breakpoints, an expiry and a mark say of the versions at points.
use Rattle.std.proofs.Common.{◌≡◌, ◌∙◌, sym, ap, refl, ℕ, ◌+◌, ◌<◌, ◌≤◌, max, Bool, true, false, ◌||◌, ◌==◌}
use Rattle.std.proofs.Common.{nat_lt, List, [], ◌∷◌, map, length, if◌then◌else◌, ⊎_elim, ◌⊎◌, inl, inr, arith}
use Rattle.std.specs.List.{filter, list_any}
use Rattle.std.specs.Map.{values_of}
use Rattle.std.proofs.lemmas.Bool.{cases_Bool, cases_lt, both_ways, and_parts, and_from, or_cases, or_left, or_right}
use Rattle.std.proofs.lemmas.Bool.{ltb-true, lt-ltb, le-ltb, cond-true, cond-false, eqb-true, eq-eqb, not-true}
use Rattle.std.proofs.lemmas.Bool.{not_from_false}
use Rattle.fdb_keys.specs.Points.{Point, point_lt}
use Rattle.fdb_keys.specs.Ranges.{Range, in_range}
use Rattle.fdb_keys.proofs.Exports.{lt-itself, lt_one_way, le_lt_chain}
use Rattle.fdb_interval.specs.Breakpoints.{Breaks, value_from, AreRising, AreJoined}
use Rattle.fdb_interval.specs.Versions.{changes}
use Rattle.fdb_interval.proofs.BreaksLemmas.{sift, sift-true, sift-false, inside, inside-is, value-after}

-- ---- newer versions
abbrev pub any_newer : ℕ → Breaks ℕ → Bool
any_newer bar es = list_any (λ (entry : Point × ℕ). nat_lt bar entry.1) es

-- one breakpoint more hides none
any-more : (bar : ℕ) (p : Point → Bool) (e : Point × ℕ) (es : Breaks ℕ) → any_newer bar (sift p es) ≡ true
    → any_newer bar (sift p (e ∷ es)) ≡ true
any-more bar p e es found = ⊎_elim
    (λ kept. ap (any_newer bar) (sift-true p e es kept) ∙ or_right (nat_lt bar e.1) _ found)
    (λ dropped. ap (any_newer bar) (sift-false p e es dropped) ∙ found)
    (cases_Bool (p e.0))

-- at a newer breakpoint inside the range, the version is newer
abbrev HasAt : ℕ → Range → Breaks ℕ → Type 0
HasAt bar range es = (x : Point) × (inside range.begin range.end x ≡ true)
    × ((start : ℕ) → bar < value_from start es x)

at_newer : (bar : ℕ) (range : Range) (es : Breaks ℕ) → AreRising es
    → any_newer bar (sift (inside range.begin range.end) es) ≡ true → HasAt bar range es
at_newer bar range [] rising found = absurd (both_ways _ refl found)
at_newer bar range (e ∷ es) rising found = ⊎_elim
    (λ kept. ⊎_elim
    (λ newer.
    let above : bar < e.1 = ltb-true _ _ newer in (
      e.0,
      kept,
      λ start.
          let is : value_from start (e ∷ es) e.0 ≡ e.1 =
          ap (λ n. value_from n es e.0) (cond-false _ _ _ (lt-itself e.0)) ∙ value-after e.1 es e.0 rising.0 in
          omega (arith, is, above),
    ))
    (λ others.
    let later : HasAt bar range es = at_newer bar range es rising.1 others in
    (later.0, later.1, λ start. later.2 (if point_lt later.0 e.0 then start else e.1)))
    (or_cases (nat_lt bar e.1) _
    (sym (ap (any_newer bar) (sift-true (inside range.begin range.end) e es kept)) ∙ found)))
    (λ dropped.
    let later : HasAt bar range es = at_newer bar range es rising.1
    (sym (ap (any_newer bar) (sift-false (inside range.begin range.end) e es dropped)) ∙ found) in
    (later.0, later.1, λ start. later.2 (if point_lt later.0 e.0 then start else e.1)))
    (cases_Bool (inside range.begin range.end e.0))

-- A breakpoint carries on what is newer at both points, unless it lies between them and is itself newer.
carried : (after_x after_begin : Bool) (of_x of_begin version bar : ℕ) → (after_x ≡ true → after_begin ≡ true)
    → (bar < of_x → bar < of_begin)
    → (bar < (if after_x then of_x else version) → bar < (if after_begin then of_begin else version))
    ⊎ ((after_x ≡ false) × (after_begin ≡ true) × (bar < version))
carried true true of_x of_begin version bar order newer = inl newer
carried true false of_x of_begin version bar order newer = absurd (both_ways _ refl (order refl))
carried false false of_x of_begin version bar order newer = inl (λ above. above)
carried false true of_x of_begin version bar order newer = ⊎_elim
    (λ above. inr (refl, refl, above))
    (λ not_above. inl (λ above. absurd (omega (arith, above, not_above))))
    (cases_lt bar version)

-- what is newer at a point of the range is newer at its begin, or a breakpoint inside it is newer
newer_met : (bar : ℕ) (range : Range) (x : Point) → in_range range x ≡ true → (of_x of_begin : ℕ) (es : Breaks ℕ)
    → bar < value_from of_x es x → (bar < of_x → bar < of_begin)
    → (bar < value_from of_begin es range.begin) ⊎ (any_newer bar (sift (inside range.begin range.end) es) ≡ true)
newer_met bar range x within of_x of_begin [] above newer = inl (newer above)
newer_met bar range x within of_x of_begin (e ∷ es) above newer =
    let parts = and_parts _ _ within in
    let reached : point_lt x range.begin ≡ false = not-true _ parts.0 in
    ⊎_elim
    (λ both. ⊎_elim
    (λ at_begin. inl at_begin)
    (λ found. inr (any-more bar (inside range.begin range.end) e es found))
    (newer_met bar range x within (if point_lt x e.0 then of_x else e.1)
    (if point_lt range.begin e.0 then of_begin else e.1) es above both))
    (λ here.
    let before_end : point_lt e.0 range.end ≡ true = le_lt_chain e.0 x range.end here.0 parts.1 in
    let kept : inside range.begin range.end e.0 ≡ true =
    inside-is range.begin range.end e.0 ∙ and_from _ _ here.1 before_end in
    inr (ap (any_newer bar) (sift-true (inside range.begin range.end) e es kept)
    ∙ or_left (nat_lt bar e.1) _ (lt-ltb _ _ here.2)))
    (carried (point_lt x e.0) (point_lt range.begin e.0) of_x of_begin e.1 bar
    (λ after. le_lt_chain range.begin x e.0 reached after) newer)

-- ---- versions above a floor
abbrev pub above : ℕ → ℕ → ℕ
above floor version = if nat_lt floor version then version else 0

pub above-newer : (floor version : ℕ) → floor < version → above floor version ≡ version
above-newer floor version newer = cond-true (nat_lt floor version) version 0 (lt-ltb _ _ newer)

pub above-older : (floor version : ℕ) → version ≤ floor → above floor version ≡ 0
above-older floor version older = cond-false (nat_lt floor version) version 0 (le-ltb _ _ older)

pub newer-above : (floor version held : ℕ) → max version floor < held → version < above floor held
newer-above floor version held newer =
    let is = above-newer floor held (omega (arith, newer)) in
    omega (arith, newer, is)

pub above-is_newer : (floor version held : ℕ) → version < above floor held → max version floor < held
above-is_newer floor version held newer = ⊎_elim
    (λ higher. let is = above-newer floor held higher in omega (arith, newer, is, higher))
    (λ lower. let is = above-older floor held lower in absurd (omega (arith, newer, is)))
    (cases_lt floor held)

-- a point of the range has a version above this one
abbrev pub HasNewer : ℕ → Breaks ℕ → Range → ℕ → Type 0
HasNewer floor es range version =
    (x : Point) × (in_range range x ≡ true) × (version < above floor (value_from 0 es x))

pub newer_from_begin : (floor : ℕ) (es : Breaks ℕ) (range : Range) (version : ℕ) → point_lt range.begin range.end ≡ true
    → max version floor < value_from 0 es range.begin → HasNewer floor es range version
newer_from_begin floor es range version some newer =
    (range.begin, and_from _ _ (not_from_false _ (lt-itself range.begin)) some, newer-above floor version _ newer)

pub newer_from_inside : (floor : ℕ) (es : Breaks ℕ) (range : Range) (version : ℕ) → AreRising es
    → any_newer (max version floor) (sift (inside range.begin range.end) es) ≡ true → HasNewer floor es range version
newer_from_inside floor es range version rising found =
    let newer : HasAt (max version floor) range es = at_newer (max version floor) range es rising found in
    let parts = and_parts _ _ (sym (inside-is range.begin range.end newer.0) ∙ newer.1) in (
      newer.0,
      and_from _ _ (not_from_false _ (lt_one_way range.begin newer.0 parts.0)) parts.1,
      newer-above floor version _ (newer.2 0),
    )

pub found_from_newer : (floor : ℕ) (es : Breaks ℕ) (range : Range) (version : ℕ) → HasNewer floor es range version
    → (max version floor < value_from 0 es range.begin)
    ⊎ (any_newer (max version floor) (sift (inside range.begin range.end) es) ≡ true)
found_from_newer floor es range version newer =
    newer_met (max version floor) range newer.0 newer.1 0 0 es
    (above-is_newer floor version (value_from 0 es newer.0) newer.2) (λ same. same)

-- ---- an expiry
-- what is forgotten up to the greater of two floors is forgotten up to each
pub forgotten_twice : (floor version held : ℕ) → above (max floor version) held ≡ above version (above floor held)
forgotten_twice floor version held = ⊎_elim
    (λ higher. ⊎_elim
    (λ newer.
    above-newer (max floor version) held (omega (arith, higher, newer))
    ∙ sym (ap (above version) (above-newer floor held higher) ∙ above-newer version held newer))
    (λ older.
    above-older (max floor version) held (omega (arith, older))
    ∙ sym (ap (above version) (above-newer floor held higher) ∙ above-older version held older))
    (cases_lt version held))
    (λ lower.
    above-older (max floor version) held (omega (arith, lower))
    ∙ sym (ap (above version) (above-older floor held lower) ∙ above-older version 0 (omega arith)))
    (cases_lt floor held)

pub joined-higher : (floor higher before : ℕ) (es : Breaks ℕ) → floor ≤ higher → AreJoined floor before es
    → AreJoined higher before es
joined-higher floor higher before [] up joined = tt
joined-higher floor higher before (e ∷ es) up joined =
    ((λ newer same. joined.0 (omega (arith, up, newer)) same), joined-higher floor higher e.1 es up joined.1)

-- ---- a mark

-- of version 0 it changes nothing
pub marked-none : (version held : ℕ) (within : Bool) → version ≡ 0 → held ≤ version
    → held ≡ (if within then version else held)
marked-none version held true none below = omega (arith, none, below)
marked-none version held false none below = refl

-- ---- how many pieces
abbrev pub shown : ℕ → Breaks ℕ → List ℕ
shown floor es = map (λ (entry : Point × ℕ). if nat_lt floor entry.1 then entry.1 else 0) es

differs : (floor before version : ℕ) → floor < version → (version ≡ before → ⊥)
    → (above floor version == 0 || above floor version == above floor before) ≡ false
differs floor before version newer differ = true_from_ne_false_not _ (λ same. ⊎_elim
    (λ none. let is = above-newer floor version newer in let zero = eqb-true _ _ none in omega (arith, is, zero, newer))
    (λ equal.
    let is = above-newer floor version newer in
    let both = eqb-true _ _ equal in
    ⊎_elim
    (λ higher. differ (sym is ∙ both ∙ above-newer floor before higher))
    (λ lower. let zero = above-older floor before lower in omega (arith, is, zero, both, newer))
    (cases_lt floor before))
    (or_cases _ _ same))
  where
    true_from_ne_false_not : (t : Bool) → (t ≡ true → ⊥) → t ≡ false
    true_from_ne_false_not true never = absurd (never refl)
    true_from_ne_false_not false never = refl

changes-counted : (floor before : ℕ) (es : Breaks ℕ) → AreJoined floor before es
    → length (filter (λ version. nat_lt floor version) (values_of es)) ≡ changes (above floor before) (shown floor es)
changes-counted floor before [] joined = refl
changes-counted floor before (e ∷ es) joined = ⊎_elim
    (λ newer.
    let others = changes-counted floor e.1 es joined.1 in
    let kept = ap length (cond-true _ (e.1 ∷ filter (λ version. nat_lt floor version) (values_of es))
    (filter (λ version. nat_lt floor version) (values_of es)) (lt-ltb floor e.1 newer)) in
    let step = ap (λ n. n + changes (above floor e.1) (shown floor es))
    (cond-false _ 0 1 (differs floor before e.1 newer (joined.0 newer))) in
    omega (arith, others, kept, step))
    (λ older.
    let others = changes-counted floor e.1 es joined.1 in
    let dropped = ap length (cond-false _ (e.1 ∷ filter (λ version. nat_lt floor version) (values_of es))
    (filter (λ version. nat_lt floor version) (values_of es)) (le-ltb floor e.1 older)) in
    let step = ap (λ n. n + changes (above floor e.1) (shown floor es))
    (cond-true _ 0 1 (or_left (above floor e.1 == 0) (above floor e.1 == above floor before)
    (eq-eqb _ _ (above-older floor e.1 older)))) in
    omega (arith, others, dropped, step))
    (cases_lt floor e.1)

pub pieces-are : (floor : ℕ) (es : Breaks ℕ) → AreJoined floor 0 es
    → length (filter (λ version. nat_lt floor version) (values_of es)) ≡ changes 0 (shown floor es)
pieces-are floor es joined =
    changes-counted floor 0 es joined ∙ ap (λ n. changes n (shown floor es)) (above-older floor 0 (omega arith))
