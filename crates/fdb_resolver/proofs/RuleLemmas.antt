-- What one range of a set, or one place more, says of the whole.
use Rattle.std.proofs.Common.{◌≡◌, ◌∙◌, ◌↔◌, sym, ap, subst, refl, ℕ, ◌<◌, ◌≤◌, Bool, true, false, ◌&&◌, ◌||◌}
use Rattle.std.proofs.Common.{nat_lt, List, [], ◌∷◌, ◌++◌, ⊎_elim, arith}
use Rattle.std.proofs.lemmas.Bool.{or_cases, or_right, cond_both}
use Rattle.fdb_keys.specs.Points.{Point}
use Rattle.fdb_keys.specs.Ranges.{Range, in_range, in_set}
use Rattle.fdb_resolver.specs.declared.part.Item.{Item}
use Rattle.fdb_resolver.specs.declared.verdict.Verdict.{Verdict}
use Rattle.fdb_resolver.specs.declared.verdict.Verdict.TheVariants.{Yes, Conflict, Old}
use Rattle.fdb_resolver.specs.Rule.{HasNewer, IsVerdict, AreVerdicts, versions_with, versions_after}
use Rattle.fdb_resolver.specs.Rule.{Found, AreConflicts, IsFoundWith}

-- a range without a newer point leaves the question to the rest of the set
pub newer-rest : (f : Point → ℕ) (range : Range) (rest set : List Range) (version : ℕ)
    → (HasNewer f (range ∷ rest) version ↔ HasNewer f set version)
    → (((x : Point) × (in_range range x ≡ true) × (version < f x)) → ⊥)
    → HasNewer f rest version ↔ HasNewer f set version
newer-rest f range rest set version whole none = (
  (λ found. whole.0 (found.0, or_right (in_range range found.0) (in_set rest found.0) found.1, found.2)),
  (λ found. let here : HasNewer f (range ∷ rest) version = whole.1 found in (
    here.0,
    ⊎_elim (λ inside. absurd (none (here.0, inside, here.2))) (λ after. after)
        (or_cases (in_range range here.0) (in_set rest here.0) here.1),
    here.2,
  )),
)

regroup : (piece more newer rest : Bool)
    → (((piece && more) || newer) || (rest && more)) ≡ (newer || ((piece || rest) && more))
regroup true true true rest = refl
regroup true true false rest = refl
regroup true false true true = refl
regroup true false true false = refl
regroup true false false true = refl
regroup true false false false = refl
regroup false more true rest = refl
regroup false more false rest = refl

-- with the newer points of one range added, those of the rest of the set are left to add
pub newer-added : (f : Point → ℕ) (version : ℕ) (range : Range) (rest set pieces newer added : List Range)
    → ((x : Point) → (in_set newer x || (in_set (range ∷ rest) x && nat_lt version (f x)))
    ≡ (in_set set x && nat_lt version (f x)))
    → ((x : Point) → in_set pieces x ≡ (in_range range x && nat_lt version (f x)))
    → ((x : Point) → in_set added x ≡ (in_set pieces x || in_set newer x))
    → (x : Point) → (in_set added x || (in_set rest x && nat_lt version (f x)))
    ≡ (in_set set x && nat_lt version (f x))
newer-added f version range rest set pieces newer added whole found joined x =
    ap (λ (b : Bool). b || (in_set rest x && nat_lt version (f x)))
    (joined x ∙ ap (λ (b : Bool). b || in_set newer x) (found x))
    ∙ regroup (in_range range x) (nat_lt version (f x)) (in_set newer x) (in_set rest x)
    ∙ whole x

-- one place more, by the versions after those before it
AreVerdicts-push : (version horizon : ℕ) (f : Point → ℕ) (items : List Item) (answers : List (ℕ × Verdict))
    (item : Item) (verdict : Verdict)
    → AreVerdicts version horizon f items answers
    → IsVerdict horizon (versions_after version f items answers) item verdict
    → AreVerdicts version horizon f (items ++ item ∷ []) (answers ++ (item.place, verdict) ∷ [])
AreVerdicts-push version horizon f [] [] item verdict all here = (refl, here, tt)
AreVerdicts-push version horizon f [] (answer ∷ answers) item verdict all here = absurd all
AreVerdicts-push version horizon f (first ∷ items) [] item verdict all here = absurd all
AreVerdicts-push version horizon f (first ∷ items) (answer ∷ answers) item verdict all here = (
  all.0,
  all.1,
  AreVerdicts-push version horizon (versions_with version first answer.1 f) items answers item verdict all.2
      here,
)

versions_after-push : (version horizon : ℕ) (f : Point → ℕ) (items : List Item) (answers : List (ℕ × Verdict))
    (item : Item) (verdict : Verdict)
    → AreVerdicts version horizon f items answers
    → versions_after version f (items ++ item ∷ []) (answers ++ (item.place, verdict) ∷ []) ≡ versions_with version item
    verdict (versions_after version f items answers)
versions_after-push version horizon f [] [] item verdict all = refl
versions_after-push version horizon f [] (answer ∷ answers) item verdict all = absurd all
versions_after-push version horizon f (first ∷ items) [] item verdict all = absurd all
versions_after-push version horizon f (first ∷ items) (answer ∷ answers) item verdict all =
    versions_after-push version horizon (versions_with version first answer.1 f) items answers item verdict all.2

-- a place leaves no version above its entry's
with-below : (version : ℕ) (f : Point → ℕ) (item : Item) (verdict : Verdict) → ((x : Point) → f x ≤ version)
    → (x : Point) → versions_with version item verdict f x ≤ version
with-below version f item Yes below x = cond_both (in_set item.writes x) _ _ (λ n. n ≤ version) (λ written. omega arith)
    (λ kept. below x)
with-below version f item Conflict below x = below x
with-below version f item Old below x = below x

-- The places were judged by the versions f, and left the versions g.
pub record AreJudged (version horizon : ℕ) (f : Point → ℕ) (items : List Item)
    (answers : List (ℕ × Verdict)) (g : Point → ℕ) : Type 0 where
  pub verdicts : AreVerdicts version horizon f items answers
  pub versions : (x : Point) → g x ≡ versions_after version f items answers x
  pub below : (x : Point) → g x ≤ version

-- one place more is judged
pub judged-push : (version horizon : ℕ) (f g h : Point → ℕ) (items more : List Item) (answers said : List (ℕ × Verdict))
    (item : Item) (verdict : Verdict)
    → more ≡ items ++ item ∷ [] → said ≡ answers ++ (item.place, verdict) ∷ []
    → AreJudged version horizon f items answers g → IsVerdict horizon g item verdict
    → ((x : Point) → h x ≡ versions_with version item verdict g x)
    → AreJudged version horizon f more said h
judged-push version horizon f g h items more answers said item verdict is_more is_said judged here left =
    let after : g ≡ versions_after version f items answers = λ i x. judged.versions x i in
    subst (λ (ms : List Item). AreJudged version horizon f ms said h) (sym is_more)
    (subst (λ (ns : List (ℕ × Verdict)). AreJudged version horizon f (items ++ item ∷ []) ns h) (sym is_said)
    record {
      verdicts = AreVerdicts-push version horizon f items answers item verdict judged.verdicts
          (subst (λ (k : Point → ℕ). IsVerdict horizon k item verdict) after here);
      versions = λ x. left x ∙ ap (λ (k : Point → ℕ). versions_with version item verdict k x) after
          ∙ sym (ap (λ (k : Point → ℕ). k x)
          (versions_after-push version horizon f items answers item verdict judged.verdicts));
      below = λ x. let is = left x in let bounded = with-below version g item verdict judged.below x in omega
          (arith, is, bounded);
    })

-- what one place more found, behind a place of which something was found before
behind-first : (f : Point → ℕ) (item : Item) (verdict : Verdict) (one : ℕ × List Range) (found next : Found)
    → IsFoundWith f item verdict (one ∷ found) next
    → (rest : Found) × (next ≡ one ∷ rest) × IsFoundWith f item verdict found rest
behind-first f item Yes one found next is = (found, is, refl)
behind-first f item Old one found next is = (found, is, refl)
behind-first f item Conflict one found next is = (found ++ (item.place, is.0) ∷ [], is.2, (is.0, is.1, refl))

-- what a place without any before it found
alone : (version : ℕ) (f : Point → ℕ) (item : Item) (verdict : Verdict) (next : Found)
    → IsFoundWith f item verdict [] next
    → AreConflicts version f (item ∷ []) ((item.place, verdict) ∷ []) next
alone version f item Yes next is = is
alone version f item Old next is = is
alone version f item Conflict next is =
    subst (λ (all : Found). AreConflicts version f (item ∷ []) ((item.place, Conflict) ∷ []) all) (sym is.2)
    (refl, is.1, refl)

-- what one place more found, by the versions after those before it
AreConflicts-push : (version horizon : ℕ) (f : Point → ℕ) (items : List Item) (answers : List (ℕ × Verdict))
    (item : Item) (verdict : Verdict) (found next : Found)
    → AreVerdicts version horizon f items answers → AreConflicts version f items answers found
    → IsFoundWith (versions_after version f items answers) item verdict found next
    → AreConflicts version f (items ++ item ∷ []) (answers ++ (item.place, verdict) ∷ []) next
AreConflicts-push version horizon f [] [] item verdict found next all are is =
    alone version f item verdict next
    (subst (λ (before : Found). IsFoundWith f item verdict before next) are is)
AreConflicts-push version horizon f [] (answer ∷ answers) item verdict found next all are is = absurd all
AreConflicts-push version horizon f (first ∷ items) [] item verdict found next all are is = absurd all
AreConflicts-push version horizon f (first ∷ items) ((place, Yes) ∷ answers) item verdict found next all are is =
    AreConflicts-push version horizon (versions_with version first Yes f) items answers item verdict found next all.2
    are is
AreConflicts-push version horizon f (first ∷ items) ((place, Old) ∷ answers) item verdict found next all are is =
    AreConflicts-push version horizon f items answers item verdict found next all.2 are is
AreConflicts-push version horizon f (first ∷ items) ((place, Conflict) ∷ answers) item verdict [] next all are is =
    absurd are
AreConflicts-push version horizon f (first ∷ items) ((place, Conflict) ∷ answers) item verdict (one ∷ found) next all
    are is =
    let behind = behind-first (versions_after version f items answers) item verdict one found next is in
    subst
    (λ (ones : Found). AreConflicts version f (first ∷ (items ++ item ∷ []))
    ((place, Conflict) ∷ (answers ++ (item.place, verdict) ∷ [])) ones)
    (sym behind.1) (
      are.0,
      are.1,
      AreConflicts-push version horizon f items answers item verdict found behind.0 all.2 are.2 behind.2,
    )

-- a place in conflict leaves the versions by which its points were found
found-before : (version : ℕ) (g h : Point → ℕ) (item : Item) (verdict : Verdict) (found next : Found)
    → ((x : Point) → h x ≡ versions_with version item verdict g x) → IsFoundWith h item verdict found next
    → IsFoundWith g item verdict found next
found-before version g h item Yes found next left is = is
found-before version g h item Old found next left is = is
found-before version g h item Conflict found next left is = (
  is.0,
  λ x. is.1 x ∙ ap (λ (n : ℕ). in_set item.reads x && nat_lt item.read_version n) (left x),
  is.2,
)

-- one place more is judged, and what it found is noted
pub found-push : (version horizon : ℕ) (f g h : Point → ℕ) (items more : List Item)
    (answers said : List (ℕ × Verdict)) (item : Item) (verdict : Verdict) (found next : Found)
    → more ≡ items ++ item ∷ [] → said ≡ answers ++ (item.place, verdict) ∷ []
    → AreJudged version horizon f items answers g → AreConflicts version f items answers found
    → ((x : Point) → h x ≡ versions_with version item verdict g x) → IsFoundWith h item verdict found next
    → AreConflicts version f more said next
found-push version horizon f g h items more answers said item verdict found next is_more is_said judged are left is =
    let after : g ≡ versions_after version f items answers = λ i x. judged.versions x i in
    subst (λ (ms : List Item). AreConflicts version f ms said next) (sym is_more)
    (subst (λ (ns : List (ℕ × Verdict)). AreConflicts version f (items ++ item ∷ []) ns next) (sym is_said)
    (AreConflicts-push version horizon f items answers item verdict found next judged.verdicts are
    (subst (λ (k : Point → ℕ). IsFoundWith k item verdict found next) after
    (found-before version g h item verdict found next left is))))
