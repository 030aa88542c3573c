-- What a proxy hasn't had comes after the moves that it has had, among those that took effect.
use Rattle.std.proofs.Common.{◌≡◌, ◌∙◌, sym, ap, refl, ℕ, zero, suc, ◌<◌, ◌≤◌, Bool, ◌&&◌, List, [], ◌∷◌}
use Rattle.std.proofs.Common.{◌++◌, map, length, take, drop, replicate, slice_set, arith}
use Rattle.std.specs.List.{AllByRecursion}
use Rattle.std.specs.Cmp.Lexicographic.{pointwise}
use Rattle.std.proofs.Math.Bool.{and_assoc}
use Rattle.std.proofs.lemmas.List.{map-set, drop-append-le, drop_all, append-nil}
use Rattle.fdb_txn.specs.declared.entry.Move.{Move}
use Rattle.fdb_sequencer.specs.declared.dated.Dated.{Dated}
use Rattle.fdb_sequencer.specs.Moves.{dated, Moves, in_effect}

-- where nothing took effect, no proxy lacks any of it
pub none_unlearnt : {X : Type 0} (issued : List X) (proxies : ℕ) → issued ≡ []
    → map (λ (count : ℕ). drop count issued) (replicate proxies 0) ≡ replicate proxies []
none_unlearnt issued zero none = refl
none_unlearnt issued (suc proxies) none = λ i. none i ∷ none_unlearnt issued proxies none i

-- moves that take effect come after what each proxy hasn't had
issued_more : {X : Type 0} (issued more : List X) (had : List ℕ)
    → AllByRecursion (λ (count : ℕ). count ≤ length issued) had
    → map (λ (count : ℕ). drop count (issued ++ more)) had
    ≡ map (λ (moves : List X). moves ++ more) (map (λ (count : ℕ). drop count issued) had)
issued_more issued more [] within = refl
issued_more issued more (count ∷ had) within = λ i. drop-append-le count issued more within.0 i
    ∷ issued_more issued more had within.1 i

-- so they do where there are some, and they are put after those that took effect before
pub issued_at : (issued new : List Dated) (taken pending : List Move) (had : List ℕ) (version : ℕ)
    → AllByRecursion (λ (count : ℕ). count ≤ length issued) had
    → new ≡ issued ++ record { version = version; moves = taken } ∷ []
    → taken ≡ pending → 0 < length pending
    → map (λ (count : ℕ). drop count new) had
    ≡ map (λ (moves : List Dated). moves ++ dated version pending) (map (λ (count : ℕ). drop count issued) had)
issued_at issued new taken [] had version within put took some = absurd (omega (arith, some))
issued_at issued new taken (move ∷ pending) had version within put took some =
    let at : List Move → Dated = λ (moves : List Move). record { version = version; moves = moves } in
    (λ i. map (λ (count : ℕ). drop count ((put ∙ ap (λ (moves : List Move). issued ++ at moves ∷ []) took) i)) had)
    ∙ issued_more issued (at (move ∷ pending) ∷ []) had within

-- where there are none, nothing changes
nothing_more : (lists : List (List Dated)) → map (λ (moves : List Dated). moves ++ []) lists ≡ lists
nothing_more [] = refl
nothing_more (moves ∷ lists) = λ i. append-nil moves i ∷ nothing_more lists i

pub nothing_in_effect : (m : Moves) (version : ℕ) → m.pending ≡ [] → m ≡ in_effect m version
nothing_in_effect m version empty =
    let same : map (λ (moves : List Dated). moves ++ dated version m.pending) m.unlearnt ≡ m.unlearnt =
    (λ i. map (λ (moves : List Dated). moves ++ dated version (empty i)) m.unlearnt) ∙ nothing_more m.unlearnt in
    λ i. record { pending = empty i; unlearnt = sym same i }

-- a proxy that has had all lacks none
pub all_had : (issued : List Dated) (had : List ℕ) (proxy count : ℕ) → length issued ≤ count
    → map (λ (one : ℕ). drop one issued) (slice_set had proxy count)
    ≡ slice_set (map (λ (one : ℕ). drop one issued) had) proxy []
all_had issued had proxy count all =
    map-set (λ (one : ℕ). drop one issued) had proxy count
    ∙ ap (slice_set (map (λ (one : ℕ). drop one issued) had) proxy) (drop_all count issued all)

-- a list is two in a row where its front is the first, and the rest the second
pointwise-append : {X : Type 0} (E : X → X → Bool) (xs ys zs : List X) → length ys ≤ length xs
    → (pointwise E (take (length ys) xs) ys && pointwise E (drop (length ys) xs) zs) ≡ pointwise E xs (ys ++ zs)
pointwise-append E xs [] zs within = refl
pointwise-append E [] (y ∷ ys) zs within = absurd (omega (arith, within))
pointwise-append E (x ∷ xs) (y ∷ ys) zs within =
    and_assoc (E x y) (pointwise E (take (length ys) xs) ys) (pointwise E (drop (length ys) xs) zs)
    ∙ ap (λ rest. E x y && rest) (pointwise-append E xs ys zs (omega (arith, within)))

-- so two tests decide it: one of the front, and one of the rest
pub pointwise-parts : {X : Type 0} (E : X → X → Bool) (xs ys zs first front rest : List X) → first ≡ ys
    → length first ≤ length xs → front ≡ take (length first) xs → rest ≡ drop (length first) xs
    → (pointwise E front first && pointwise E rest zs) ≡ pointwise E xs (ys ++ zs)
pointwise-parts {X = X} E xs ys zs first front rest same within is_front is_rest =
    (λ i. pointwise E (is_front i) first && pointwise E (is_rest i) zs)
    ∙ pointwise-append E xs first zs within
    ∙ ap (λ (some : List X). pointwise E xs (some ++ zs)) same
