-- Owners by changes whose versions fall: what a search by a version finds, and what a cut keeps.
use Rattle.std.proofs.Common.{◌≡◌, ◌∙◌, sym, ap, refl, ℕ, ◌<◌, ◌≤◌, Bool, true, false, ◌&&◌, ◌==◌, nat_le, nat_lt}
use Rattle.std.proofs.Common.{List, [], ◌∷◌, ◌++◌, take, drop, length, if◌then◌else◌, arith}
use Rattle.std.specs.List.{AllByRecursion}
use Rattle.std.specs.List.Sorted.{IsPartitionedBy, IsPartitionPoint}
use Rattle.std.proofs.lemmas.Bool.{both_ways, and_parts, cond-true, cond-false, eqb-true, le-leb, lt-leb, ltb-true}
use Rattle.std.proofs.lemmas.Bool.{lt-ltb, ltb-false}
use Rattle.std.specs.Cmp.Lexicographic.{pointwise}
use Rattle.fdb_owners.specs.contracts.history.ChangePartialEq.TheImpl.{eq-value}
use Rattle.fdb_keys.proofs.Exports.{all-parts, all-weaken, ordered-front, ordered-parted, searched-parts}
use Rattle.fdb_owners.specs.declared.history.Change.{Change}
use Rattle.fdb_owners.specs.Histories.{owner_by, AreFalling, AreAbove, AreUpTo, latest_of, IsHistory}

-- ---- changes above a version, and those up to it
-- a change comes before those that are of versions below its own
abbrev pub comes_before : Change → Change → Type 0
comes_before change earlier = earlier.version < change.version

abbrev pub is_above : ℕ → Change → Bool
is_above version change = nat_lt version change.version

pub parted-by_version : (version : ℕ) (changes : List Change) → AreFalling changes
    → IsPartitionedBy (is_above version) changes
parted-by_version version = ordered-parted comes_before (is_above version) (λ change earlier before above.
    let later = ltb-true version earlier.version above in lt-ltb version change.version (omega (arith, before, later)))

pub parted : (version : ℕ) (changes : List Change) (n : ℕ) → n ≤ length changes
    → IsPartitionPoint (λ change. is_above version change ≡ true) (λ change. is_above version change ≡ false) changes n
    → AreAbove version (take n changes) × AreUpTo version (drop n changes)
parted version = searched-parts (is_above version) (λ (change : Change). version < change.version)
    (λ (change : Change). change.version ≤ version) (λ change. ltb-true version change.version)
    (λ change. ltb-false version change.version)

-- ---- the owner at a version
-- changes above it don't count
pub owner-above : (first : ℕ) (above through : List Change) (v : ℕ) → AreAbove v above
    → owner_by first (above ++ through) v ≡ owner_by first through v
owner-above first [] through v all = refl
owner-above first (change ∷ above) through v all =
    cond-false (nat_le change.version v) _ _ (lt-leb change.version v all.0)
    ∙ owner-above first above through v all.1

-- and of those up to it the latest does
pub owner-through : (first : ℕ) (through : List Change) (v : ℕ) → AreUpTo v through
    → owner_by first through v ≡ latest_of first through
owner-through first [] v all = refl
owner-through first (change ∷ older) v all = cond-true (nat_le change.version v) _ _ (le-leb change.version v all.0)

pub up_to-weaken : (low high : ℕ) (changes : List Change) → low ≤ high → AreUpTo low changes → AreUpTo high changes
up_to-weaken low high changes order =
    all-weaken _ _ (λ (change : Change) reached. omega (arith, reached, order)) changes

-- from a version on, the latest owner up to it serves as the first one
pub owner-cut : (first : ℕ) (above through : List Change) (floor v : ℕ) → AreUpTo floor through → floor ≤ v
    → owner_by (latest_of first through) above v ≡ owner_by first (above ++ through) v
owner-cut first [] through floor v all from = sym (owner-through first through v
    (up_to-weaken floor v through from all))
owner-cut first (change ∷ above) through floor v all from =
    ap (λ (owner : ℕ). if nat_le change.version v then change.owner else owner)
    (owner-cut first above through floor v all from)

-- ---- what holds of all changes
latest-within : (resolvers last first : ℕ) (changes : List Change) → first < resolvers
    → AllByRecursion (λ (change : Change). (change.owner < resolvers) × (change.version ≤ last)) changes
    → latest_of first changes < resolvers
latest-within resolvers last first [] within all = within
latest-within resolvers last first (change ∷ older) within all = all.0.0

pub cut-is_history : (resolvers last first : ℕ) (above through : List Change)
    → IsHistory resolvers last (record { first = first; changes = above ++ through })
    → IsHistory resolvers last (record { first = latest_of first through; changes = above })
cut-is_history resolvers last first above through kept =
    let parts = all-parts (λ (change : Change). (change.owner < resolvers) × (change.version ≤ last)) above through
    kept.changes in
    record {
      first = latest-within resolvers last first through kept.first parts.1;
      changes = parts.0;
      falling = ordered-front comes_before above through kept.falling;
    }

-- changes of which each is the other's are the same
pub changes-same : (changes others : List Change) → pointwise eq-value.it changes others ≡ true → changes ≡ others
changes-same [] [] same = refl
changes-same [] (other ∷ others) same = absurd (both_ways _ refl same)
changes-same (change ∷ older) [] same = absurd (both_ways _ refl same)
changes-same (change ∷ older) (other ∷ others) same =
    let parts = and_parts (change.version == other.version && change.owner == other.owner) _ same in
    let fields = and_parts (change.version == other.version) _ parts.0 in
    (λ i. record {
      version = eqb-true change.version other.version fields.0 i;
      owner = eqb-true change.owner other.owner
          fields.1 i;
    }
    ∷ changes-same older others parts.1 i)
