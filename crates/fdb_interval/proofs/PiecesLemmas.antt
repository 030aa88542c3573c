-- The pieces that breakpoints make.
use Rattle.std.proofs.Common.{◌≡◌, ◌∙◌, sym, ap, refl, subst, ℕ, suc, ◌<◌, ◌≤◌, true, false, ◌&&◌, Bool, nat_lt, List}
use Rattle.std.proofs.Common.{[]}
use Rattle.std.proofs.Common.{◌∷◌, length, if◌then◌else◌, ⊎_elim, inl, inr, arith}
use Rattle.std.specs.List.{filter}
use Rattle.std.specs.Map.{values_of}
use Rattle.std.proofs.lemmas.Bool.{cases_Bool, cases_lt, and_from, and_left, cond-true, cond-false, lt-ltb, le-ltb}
use Rattle.std.proofs.lemmas.Bool.{not_from_true, not_from_false}
use Rattle.fdb_keys.specs.Points.{Point, point_lt}
use Rattle.fdb_keys.proofs.Exports.{lt_chain}
use Rattle.fdb_interval.specs.Breakpoints.{Breaks, value_from, last_value, AreRising, AreJoined}
use Rattle.fdb_interval.specs.Pieces.{Piece, version_in, EndsBefore, AreMaximal, ArePieces}
use Rattle.fdb_interval.proofs.BreaksLemmas.{all_imply, value-after}
use Rattle.fdb_interval.proofs.VersionsLemmas.{above, above-newer, above-older}

-- from a breakpoint up to the next one
abbrev pub piece : Point × ℕ → Point × ℕ → Piece
piece e f = (record { begin = e.0; end = f.0 }, e.1)

-- a piece from each breakpoint with a version above the floor; the last one has none
abbrev pub pieces_of : ℕ → Breaks ℕ → List Piece
pieces_of floor [] = []
pieces_of floor (e ∷ []) = []
pieces_of floor (e ∷ f ∷ es) =
    if nat_lt floor e.1 then piece e f ∷ pieces_of floor (f ∷ es) else pieces_of floor (f ∷ es)

pieces-more : (floor : ℕ) (e f : Point × ℕ) (es : Breaks ℕ) → floor < e.1
    → pieces_of floor (e ∷ f ∷ es) ≡ piece e f ∷ pieces_of floor (f ∷ es)
pieces-more floor e f es newer = cond-true _ _ _ (lt-ltb _ _ newer)

pieces-same : (floor : ℕ) (e f : Point × ℕ) (es : Breaks ℕ) → e.1 ≤ floor
    → pieces_of floor (e ∷ f ∷ es) ≡ pieces_of floor (f ∷ es)
pieces-same floor e f es older = cond-false _ _ _ (le-ltb _ _ older)

-- no piece holds a point before the first breakpoint
none_before : (floor : ℕ) (e : Point × ℕ) (es : Breaks ℕ) (x : Point) → AreRising (e ∷ es) → point_lt x e.0 ≡ true
    → version_in (pieces_of floor (e ∷ es)) x ≡ 0
none_before floor e [] x rising sooner = refl
none_before floor e (f ∷ es) x rising sooner =
    let others = none_before floor f es x rising.1 (lt_chain x e.0 f.0 sooner rising.0.0) in
    ⊎_elim
    (λ newer.
    ap (λ (ps : List Piece). version_in ps x) (pieces-more floor e f es newer)
    ∙ cond-false _ _ _ (and_left _ _ (not_from_true _ sooner))
    ∙ others)
    (λ older. ap (λ (ps : List Piece). version_in ps x) (pieces-same floor e f es older) ∙ others)
    (cases_lt floor e.1)

-- what a piece holds, and what it doesn't
held_by : (e f : Point × ℕ) (ps : List Piece) (x : Point) → point_lt x e.0 ≡ false → point_lt x f.0 ≡ true
    → version_in (piece e f ∷ ps) x ≡ e.1
held_by e f ps x reached sooner =
    cond-true _ _ _ (and_from _ _ (not_from_false _ reached) sooner)

passed_by : (e f : Point × ℕ) (ps : List Piece) (x : Point) → point_lt x e.0 ≡ false → point_lt x f.0 ≡ false
    → version_in (piece e f ∷ ps) x ≡ version_in ps x
passed_by e f ps x reached passed =
    cond-false _ _ _ (ap (λ (t : Bool). t && point_lt x f.0) (not_from_false _ reached) ∙ passed)

versions_from_first : (floor start : ℕ) (e : Point × ℕ) (es : Breaks ℕ) (x : Point) → AreRising (e ∷ es)
    → last_value e.1 es ≤ floor → point_lt x e.0 ≡ false
    → above floor (value_from start (e ∷ es) x) ≡ version_in (pieces_of floor (e ∷ es)) x
versions_from_first floor start e [] x rising low reached =
    ap (above floor) (cond-false _ _ _ reached) ∙ above-older floor e.1 low
versions_from_first floor start e (f ∷ es) x rising low reached =
    let begun : value_from start (e ∷ f ∷ es) x ≡ value_from e.1 (f ∷ es) x =
    ap (λ n. value_from n (f ∷ es) x) (cond-false _ _ _ reached) in
    ap (above floor) begun
    ∙ ⊎_elim
    (λ sooner.
    let later = all_imply (λ g. point_lt f.0 g.0 ≡ true) (λ g. point_lt x g.0 ≡ true)
    (λ g after. lt_chain x f.0 g.0 sooner after) es rising.1.0 in
    ap (above floor) (value-after e.1 (f ∷ es) x (sooner, later))
    ∙ ⊎_elim
    (λ newer.
    above-newer floor e.1 newer
    ∙ sym (ap (λ (ps : List Piece). version_in ps x) (pieces-more floor e f es newer)
    ∙ held_by e f (pieces_of floor (f ∷ es)) x reached sooner))
    (λ older.
    above-older floor e.1 older
    ∙ sym (ap (λ (ps : List Piece). version_in ps x) (pieces-same floor e f es older)
    ∙ none_before floor f es x rising.1 sooner))
    (cases_lt floor e.1))
    (λ passed.
    versions_from_first floor e.1 f es x rising.1 low passed
    ∙ ⊎_elim
    (λ newer.
    sym (ap (λ (ps : List Piece). version_in ps x) (pieces-more floor e f es newer)
    ∙ passed_by e f (pieces_of floor (f ∷ es)) x reached passed))
    (λ older. sym (ap (λ (ps : List Piece). version_in ps x) (pieces-same floor e f es older)))
    (cases_lt floor e.1))
    (cases_Bool (point_lt x f.0))

versions-pieces : (floor : ℕ) (es : Breaks ℕ) (x : Point) → AreRising es → last_value 0 es ≤ floor
    → above floor (value_from 0 es x) ≡ version_in (pieces_of floor es) x
versions-pieces floor [] x rising low = above-older floor 0 low
versions-pieces floor (e ∷ es) x rising low = ⊎_elim
    (λ sooner.
    let later = all_imply (λ g. point_lt e.0 g.0 ≡ true) (λ g. point_lt x g.0 ≡ true)
    (λ g after. lt_chain x e.0 g.0 sooner after) es rising.0 in
    ap (above floor) (value-after 0 (e ∷ es) x (sooner, later))
    ∙ above-older floor 0 (omega arith)
    ∙ sym (none_before floor e es x rising sooner))
    (λ reached. versions_from_first floor 0 e es x rising low reached)
    (cases_Bool (point_lt x e.0))

-- a piece that ends before a breakpoint is parted from those of it and of the later ones
ends_before_first : (floor : ℕ) (p : Piece) (e : Point × ℕ) (es : Breaks ℕ) → AreRising (e ∷ es)
    → point_lt p.0.end e.0 ≡ true → EndsBefore p (pieces_of floor (e ∷ es))
ends_before_first floor p e [] rising sooner = tt
ends_before_first floor p e (f ∷ es) rising sooner = ⊎_elim
    (λ newer. subst (EndsBefore p) (sym (pieces-more floor e f es newer)) (inl sooner))
    (λ older. subst (EndsBefore p) (sym (pieces-same floor e f es older))
    (ends_before_first floor p f es rising.1 (lt_chain p.0.end e.0 f.0 sooner rising.0.0)))
    (cases_lt floor e.1)

-- and one that ends at a breakpoint too
ends_at_first : (floor : ℕ) (p : Piece) (e : Point × ℕ) (es : Breaks ℕ) → AreRising (e ∷ es) → p.0.end ≡ e.0
    → (floor < e.1 → e.1 ≡ p.1 → ⊥) → EndsBefore p (pieces_of floor (e ∷ es))
ends_at_first floor p e [] rising at differ = tt
ends_at_first floor p e (f ∷ es) rising at differ = ⊎_elim
    (λ newer. subst (EndsBefore p) (sym (pieces-more floor e f es newer)) (inr (at, differ newer)))
    (λ older. subst (EndsBefore p) (sym (pieces-same floor e f es older))
    (ends_before_first floor p f es rising.1 (ap (λ (y : Point). point_lt y f.0) at ∙ rising.0.0)))
    (cases_lt floor e.1)

maximal-pieces : (floor before : ℕ) (es : Breaks ℕ) → AreRising es → AreJoined floor before es
    → AreMaximal (pieces_of floor es)
maximal-pieces floor before [] rising joined = tt
maximal-pieces floor before (e ∷ []) rising joined = tt
maximal-pieces floor before (e ∷ f ∷ es) rising joined =
    let others = maximal-pieces floor e.1 (f ∷ es) rising.1 joined.1 in
    ⊎_elim
    (λ newer. subst AreMaximal (sym (pieces-more floor e f es newer)) (
      rising.0.0,
      omega (arith, newer),
      ends_at_first floor (piece e f) f es rising.1 refl joined.1.0,
      others,
    ))
    (λ older. subst AreMaximal (sym (pieces-same floor e f es older)) others)
    (cases_lt floor e.1)

-- they are as many as the versions above the floor
abbrev count : ℕ → Breaks ℕ → ℕ
count floor es = length (filter (λ version. nat_lt floor version) (values_of es))

count-pieces : (floor before : ℕ) (es : Breaks ℕ) → last_value before es ≤ floor
    → count floor es ≡ length (pieces_of floor es)
count-pieces floor before [] low = refl
count-pieces floor before (e ∷ []) low = ap length (cond-false _ _ _ (le-ltb floor e.1 low))
count-pieces floor before (e ∷ f ∷ es) low =
    let others = count-pieces floor e.1 (f ∷ es) low in
    ⊎_elim
    (λ newer.
    ap length (cond-true _ _ _ (lt-ltb floor e.1 newer))
    ∙ ap suc others
    ∙ sym (ap length (pieces-more floor e f es newer)))
    (λ older.
    ap length (cond-false _ _ _ (le-ltb floor e.1 older))
    ∙ others
    ∙ sym (ap length (pieces-same floor e f es older)))
    (cases_lt floor e.1)

-- so the count is that of the pieces
abbrev pub CountsPieces : ℕ → (Point → ℕ) → Type 0
CountsPieces counted f = (pieces : List Piece) × ArePieces f pieces × (counted ≡ length pieces)

pub pieces-counted : (floor counted : ℕ) (es : Breaks ℕ) → AreRising es → AreJoined floor 0 es → last_value 0 es ≤ floor
    → counted ≡ count floor es → CountsPieces counted (λ x. above floor (value_from 0 es x))
pieces-counted floor counted es rising joined low is = (
  pieces_of floor es,
  record {
    versions = λ x. versions-pieces floor es x rising low;
    maximal = maximal-pieces floor 0 es rising joined;
  },
  is ∙ count-pieces floor 0 es low,
)
