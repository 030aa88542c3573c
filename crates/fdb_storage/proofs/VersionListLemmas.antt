-- What a list of versions shows, by parts of it.
use Rattle.std.proofs.Common.{◌≡◌, ◌≢◌, ◌∙◌, sym, ap, refl, ℕ, ◌<◌, ◌≤◌, Bool, false}
use Rattle.std.proofs.Common.{List, [], ◌∷◌, ◌++◌, nat_le, ◌==◌, if◌then◌else◌, arith}
use Rattle.std.proofs.Common.{Option, Some, None, ◌⊎◌, inl, inr}
use Rattle.std.specs.List.{fold}
use Rattle.std.specs.Bool.{Decides}
use Rattle.std.specs.Cmp.Lexicographic.{bytes_decides}
use Rattle.std.proofs.lemmas.Bool.{both_ways, cond-true, cond-false, le-leb, lt-leb}
use Rattle.std.proofs.lemmas.List.Sums.{fold-append}
use Rattle.fdb_keys.proofs.Exports.{all-weaken, ordered-front}
use Rattle.fdb_storage.specs.declared.version_list.VersionedValue.{VersionedValue}
use Rattle.fdb_storage.specs.VersionLists.{value_up_to, newest_of, ends_at, AreUpTo, AreAbove, AreBelow}
use Rattle.fdb_storage.specs.VersionLists.{AreChanges, IsVersionList, same_value}

-- ---- what stands after some versions, from what stood before them
abbrev pub value_from : Option (List ℕ) → ℕ → List VersionedValue → Option (List ℕ)
value_from before v values =
    fold (λ (before : Option (List ℕ)) (next : VersionedValue). if nat_le next.version v then next.value else before)
    before values

abbrev pub newest_from : Option (List ℕ) → List VersionedValue → Option (List ℕ)
newest_from before values = fold (λ (before : Option (List ℕ)) (next : VersionedValue). next.value) before values

pub value-of_both : (before : Option (List ℕ)) (v : ℕ) (through above : List VersionedValue)
    → value_from before v (through ++ above) ≡ value_from (value_from before v through) v above
value-of_both before v = fold-append (λ (stood : Option (List ℕ)) (next : VersionedValue).
    if nat_le next.version v then next.value else stood) before

pub newest-of_both : (before : Option (List ℕ)) (through above : List VersionedValue)
    → newest_from before (through ++ above) ≡ newest_from (newest_from before through) above
newest-of_both = fold-append (λ (stood : Option (List ℕ)) (next : VersionedValue). next.value)

pub value-up_to : (before : Option (List ℕ)) (v : ℕ) (values : List VersionedValue) → AreUpTo v values
    → value_from before v values ≡ newest_from before values
value-up_to before v [] all = refl
value-up_to before v (next ∷ later) all =
    ap (λ (stood : Option (List ℕ)). value_from stood v later)
    (cond-true (nat_le next.version v) next.value before (le-leb next.version v all.0))
    ∙ value-up_to next.value v later all.1

pub value-above : (before : Option (List ℕ)) (v : ℕ) (values : List VersionedValue) → AreAbove v values
    → value_from before v values ≡ before
value-above before v [] all = refl
value-above before v (next ∷ later) all =
    ap (λ (stood : Option (List ℕ)). value_from stood v later)
    (cond-false (nat_le next.version v) next.value before (lt-leb next.version v all.0))
    ∙ value-above before v later all.1

-- ---- what stands at a version
-- from the last version on it is the newest value
pub value_up_to-newest : (v : ℕ) (values : List VersionedValue) → AreUpTo v values
    → value_up_to v values ≡ newest_of values
value_up_to-newest v values all = value-up_to None v values all

-- versions above it don't count
pub value_up_to-above : (v : ℕ) (through above : List VersionedValue) → AreAbove v above
    → value_up_to v (through ++ above) ≡ value_up_to v through
value_up_to-above v through above all =
    value-of_both None v through above ∙ value-above (value_up_to v through) v above all

-- so it is what it was when versions above it change
pub value_up_to-same : (v : ℕ) (through above others : List VersionedValue) → AreAbove v above → AreAbove v others
    → value_up_to v (through ++ above) ≡ value_up_to v (through ++ others)
value_up_to-same v through above others all other =
    value_up_to-above v through above all ∙ sym (value_up_to-above v through others other)

-- between versions up to it and those above it, it is the newest value of the former
pub value_up_to-between : (v : ℕ) (through above : List VersionedValue) → AreUpTo v through → AreAbove v above
    → value_up_to v (through ++ above) ≡ newest_of through
value_up_to-between v through above up_to all =
    value_up_to-above v through above all ∙ value_up_to-newest v through up_to

pub up_to-weaken : (low high : ℕ) (values : List VersionedValue) → low ≤ high → AreUpTo low values → AreUpTo high values
up_to-weaken low high values order = all-weaken _ _ (λ (next : VersionedValue) reached. omega (arith, reached, order))
    values

pub below-up_to : (v : ℕ) (values : List VersionedValue) → AreBelow v values → AreUpTo v values
below-up_to v values = all-weaken _ _ (λ (next : VersionedValue) below. omega (arith, below)) values

pub below-weaken : (low high : ℕ) (values : List VersionedValue) → low ≤ high → AreBelow low values
    → AreBelow high values
below-weaken low high values order =
    all-weaken _ _ (λ (next : VersionedValue) below. omega (arith, below, order)) values

-- with the versions up to one, whose newest value stood before the others
pub value_up_to-after : (low v : ℕ) (through above : List VersionedValue) → AreUpTo low through → low ≤ v
    → value_up_to v (through ++ above) ≡ value_from (newest_of through) v above
value_up_to-after low v through above up_to order =
    value-of_both None v through above
    ∙ ap (λ (stood : Option (List ℕ)). value_from stood v above)
    (value_up_to-newest v through (up_to-weaken low v through order up_to))

-- ---- the list of a key where nothing ever stood
pub IsVersionList-empty : IsVersionList []
IsVersionList-empty = record { rising = tt; changes = tt }

-- ---- parts of lists
-- a version comes before those that are above it
abbrev pub comes_before : VersionedValue → VersionedValue → Type 0
comes_before next later = next.version < later.version

pub changes-front : (before : Option (List ℕ)) (front back : List VersionedValue) → AreChanges before (front ++ back)
    → AreChanges before front
changes-front before [] back changes = tt
changes-front before (next ∷ later) back changes = (changes.0, changes-front next.value later back changes.1)

pub changes-back : (before : Option (List ℕ)) (front back : List VersionedValue) → AreChanges before (front ++ back)
    → AreChanges (newest_from before front) back
changes-back before [] back changes = changes
changes-back before (next ∷ later) back changes = changes-back next.value later back changes.1

pub IsVersionList-front : (front back : List VersionedValue) → IsVersionList (front ++ back) → IsVersionList front
IsVersionList-front front back list = record {
  rising = ordered-front comes_before front back list.rising;
  changes = changes-front None front back list.changes;
}

-- ---- with a last version
-- a list is empty, or has a last one
pub record EndsWith (values : List VersionedValue) : Type 0 where
  pub front : List VersionedValue
  pub last : VersionedValue
  pub are : values ≡ front ++ last ∷ []

pub last-of : (values : List VersionedValue) → (values ≡ []) ⊎ EndsWith values
last-of [] = inl refl
last-of (next ∷ later) = inr (ended next later (last-of later))
  where
    ended : (next : VersionedValue) (later : List VersionedValue) → (later ≡ []) ⊎ EndsWith later
        → EndsWith (next ∷ later)
    ended next later (inl none) = record {
      front = [];
      last = next;
      are = ap (λ (rest : List VersionedValue). next ∷ rest) none;
    }
    ended next later (inr ends) = record {
      front = next ∷ ends.front;
      last = ends.last;
      are = ap (λ (rest : List VersionedValue). next ∷ rest) ends.are;
    }

pub ends_at-last : (v : ℕ) (front : List VersionedValue) (last : VersionedValue)
    → ends_at v (front ++ last ∷ []) ≡ (last.version == v)
ends_at-last v front last =
    fold-append (λ (before : Bool) (next : VersionedValue). next.version == v) false front (last ∷ [])

pub newest-last : (front : List VersionedValue) (last : VersionedValue) → newest_of (front ++ last ∷ []) ≡ last.value
newest-last front last = newest-of_both None front (last ∷ [])

-- ---- whether two values are the same
pub same_value_decides : (a b : Option (List ℕ)) → Decides (same_value a b) (a ≡ b)
same_value_decides None None = (λ equal. refl, λ same. refl)
same_value_decides None (Some b) = (λ equal. absurd (both_ways _ refl equal), λ same. absurd (cc))
same_value_decides (Some a) None = (λ equal. absurd (both_ways _ refl equal), λ same. absurd (cc))
same_value_decides (Some a) (Some b) = (
  λ equal. ap (λ (bytes : List ℕ). Some bytes) ((bytes_decides a b).0 equal),
  λ same. (bytes_decides a b).1 (cc),
)

pub other_value : (a b : Option (List ℕ)) → same_value a b ≡ false → a ≢ b
other_value a b differ same = both_ways (same_value a b) differ ((same_value_decides a b).1 same)
