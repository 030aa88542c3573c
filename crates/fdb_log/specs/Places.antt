-- Where a log's mutations stand that each tag hasn't popped.
use Rattle.std.specs.Prelude.{◌≡◌, ◌<◌, ◌≤◌, ℕ, Bool, true, false, ◌&&◌, ◌==◌, List, [], ◌∷◌, ◌++◌, length, filter}
use Rattle.std.specs.Prelude.{nat_lt}
use Rattle.std.specs.Prelude.{slice_get, unwrap_or, if◌then◌else◌, ⊤}
use Rattle.std.specs.List.{AllByRecursion, list_any}
use Rattle.std.specs.Ordering.{nat_cmp, ordering_then}
use Rattle.std.specs.declared.cmp.Ordering.{Ordering}
use Rattle.fdb_log.specs.Logs.{Log, IsLog, keeps, popped_through}
use Rattle.fdb_log.specs.TagSets.{is_among}
use Rattle.fdb_log.specs.Waiting.{Waiting}

-- of each tag the places of its mutations, and the mutations that wait, by their places
pub record Holding : Type 0 where
  pub places : List (List (ℕ × ℕ))
  pub waiting : List Waiting

-- the list of the number
abbrev pub list_at : {A : Type 0} → List (List A) → ℕ → List A
list_at lists number = unwrap_or (slice_get lists number) []

-- places go by version, and then by index
abbrev pub place_cmp : ℕ × ℕ → ℕ × ℕ → Ordering
place_cmp one other = ordering_then (nat_cmp one.0 other.0) (nat_cmp one.1 other.1)

-- both are the same place
abbrev pub is_place : ℕ × ℕ → ℕ × ℕ → Bool
is_place one other = (one.0 == other.0) && (one.1 == other.1)

-- the place is one of these
abbrev pub has_place : List (ℕ × ℕ) → ℕ × ℕ → Bool
has_place places place = list_any (λ (other : ℕ × ℕ). is_place place other) places

-- those of versions above this one
abbrev pub places_above : ℕ → List (ℕ × ℕ) → List (ℕ × ℕ)
places_above version places = filter (λ (place : ℕ × ℕ). nat_lt version place.0) places

-- their versions don't fall, and go up to the last one
abbrev pub AreRising : ℕ → List (ℕ × ℕ) → Type 0
AreRising last [] = ⊤
AreRising last (first ∷ places) =
    (first.0 ≤ last) × AllByRecursion (λ (later : ℕ × ℕ). first.0 ≤ later.0) places × AreRising last places

-- there is none, or the first is of a version above this one
abbrev pub StartsAbove : ℕ → List (ℕ × ℕ) → Type 0
StartsAbove version [] = ⊤
StartsAbove version (first ∷ places) = version < first.0

-- the list of the tag, with the item at its end where the tag is one of these
abbrev pub with_one : {A : Type 0} → A → List ℕ → List (List A) → ℕ → List A
with_one one tags lists tag = if is_among tags tag then list_at lists tag ++ one ∷ [] else list_at lists tag

-- the list of each tag that is kept, and is one of these, has one more item at its end
abbrev pub AreAdded : {A : Type 0} → (ℕ → Bool) → A → List ℕ → (old new : List (List A)) → Type 0
AreAdded kept one tags old new = (tag : ℕ) → kept tag ≡ true → list_at new tag ≡ with_one one tags old tag

-- Of each tag that is kept the places rise, and those of the mutations are among them that have the tag and that it
-- hasn't popped.
pub record AreListed (kept : ℕ → Bool) (popped : ℕ → ℕ) (last : ℕ) (holding : Holding) : Type 0 where
  pub rising : (tag : ℕ) → kept tag ≡ true → AreRising last (list_at holding.places tag)
  pub listed : AllByRecursion
      (λ (one : Waiting). (tag : ℕ) → kept tag ≡ true → is_among one.1 tag ≡ true → popped tag < one.0.0
      → has_place (list_at holding.places tag) one.0 ≡ true)
      holding.waiting

-- the log with the places of its mutations, unless memory ran out
pub record IsWhole (core : Log) (holding : Holding) : Type 0 where
  pub is_log : IsLog core
  pub placed : core.is_failed ≡ false → length holding.places ≡ core.tags
  pub listed : core.is_failed ≡ false → AreListed (keeps core) (popped_through core) core.last holding
