-- Keys that are lent, copied.
use Rattle.std.proofs.Common.{◌≡◌, ◌∙◌, sym, ap, ap₂, refl, get_or, Bor, ℕ, zero, suc, ◌+◌, ◌<◌, Bool, true, false}
use Rattle.std.proofs.Common.{List, [], ◌∷◌, ◌++◌, take, length, Option}
use Rattle.std.proofs.Common.{if◌then◌else◌, arith}
use Rattle.std.proofs.lemmas.List.{append-nil, take_more}
use Rattle.fdb_keys.specs.Points.{Point}
use Rattle.fdb_keys.specs.Texts.{is_key}
use Rattle.fdb_storage.specs.declared.version_list.VersionedValue.{VersionedValue}
use Rattle.fdb_storage.specs.VersionLists.{value_up_to}
use Rattle.fdb_storage.specs.KeyPages.{pair_of}
use Rattle.fdb_storage.specs.VersionMaps.{VersionedKeys}
use Rattle.fdb_storage.specs.KeyPages.{pairs_at, lent_keys}
use Rattle.fdb_storage.proofs.PagesLemmas.{AreLegal, cut_by}
use Rattle.fdb_storage.proofs.PairsLemmas.{pairs-append}

-- ---- keys that are lent
abbrev pub Lent : Type 0
Lent = Bor Point × Bor (List VersionedValue)

map-take : (n : ℕ) (keys : List Lent) → lent_keys (take n keys) ≡ take n (lent_keys keys)
map-take zero keys = refl
map-take (suc n) [] = refl
map-take (suc n) (held ∷ keys) = ap (λ (rest : VersionedKeys). (held.0.now, held.1.now) ∷ rest) (map-take n keys)

pub lent-cut : (limit : ℕ) (keys : List Lent) (more : Bool)
    → lent_keys (if more then take limit keys else keys) ≡ cut_by limit (lent_keys keys) more
lent-cut limit keys true = map-take limit keys
lent-cut limit keys false = refl

pub lent-length : (keys : List Lent) → length (lent_keys keys) ≡ length keys
lent-length [] = refl
lent-length (held ∷ keys) = ap suc (lent-length keys)

lent-append : (keys others : List Lent) → lent_keys (keys ++ others) ≡ lent_keys keys ++ lent_keys others
lent-append [] others = refl
lent-append (held ∷ keys) others =
    ap (λ (rest : VersionedKeys). (held.0.now, held.1.now) ∷ rest) (lent-append keys others)

pub legal-at : (keys : List Lent) (i : ℕ) (held : Lent) → AreLegal (lent_keys keys) → i < length keys
    → held ≡ get_or keys i held → is_key held.0.now ≡ true
legal-at [] i held legal inside is = absurd (omega (arith, inside))
legal-at (first ∷ keys) zero held legal inside is = ap (λ (it : Lent). is_key it.0.now) is ∙ legal.0
legal-at (first ∷ keys) (suc i) held legal inside is = legal-at keys i held legal.1 (omega (arith, inside)) is

-- one key more was copied
pub copied-more : (v i : ℕ) (keys : List Lent) (held : Lent) (pairs new : List (Point × List ℕ))
    (value : Option (List ℕ)) → i < length keys → held ≡ get_or keys i held
    → pairs ≡ pairs_at v (lent_keys (take i keys))
    → value ≡ value_up_to v held.1.now → new ≡ pairs ++ pair_of held.0.now value
    → new ≡ pairs_at v (lent_keys (take (i + 1) keys))
copied-more v i keys held pairs new value inside is copied stands pushed =
    pushed
    ∙ ap₂ (λ (some : List (Point × List ℕ)) (last : Option (List ℕ)). some ++ pair_of held.0.now last) copied stands
    ∙ ap (λ (last : List (Point × List ℕ)). pairs_at v (lent_keys (take i keys)) ++ last)
    (sym (append-nil (pair_of held.0.now (value_up_to v held.1.now))))
    ∙ sym (pairs-append v (lent_keys (take i keys)) ((held.0.now, held.1.now) ∷ []))
    ∙ ap (pairs_at v) (sym (lent-append (take i keys) (held ∷ [])))
    ∙ ap (λ (some : List Lent). pairs_at v (lent_keys some))
    (ap (λ (one : Lent). take i keys ++ one ∷ []) is ∙ sym (take_more keys i held inside))
