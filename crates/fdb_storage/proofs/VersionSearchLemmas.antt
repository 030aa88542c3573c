-- What a search by a version finds in a list of versions.
use Rattle.std.proofs.Common.{◌≡◌, ℕ, ◌<◌, ◌≤◌, Bool, true, false, List, [], ◌∷◌, length}
use Rattle.std.proofs.Common.{fold, take, drop, nat_le, arith}
use Rattle.std.specs.List.Sorted.{IsPartitionedBy, IsPartitionPoint}
use Rattle.std.proofs.lemmas.Bool.{leb-true, leb-false, le-leb}
use Rattle.fdb_keys.proofs.Exports.{ordered-parted, searched-parts}
use Rattle.fdb_storage.specs.declared.version_list.VersionedValue.{VersionedValue}
use Rattle.fdb_storage.specs.VersionLists.{AreUpTo, AreAbove, AreRising, is_last_up_to}
use Rattle.fdb_storage.proofs.VersionListLemmas.{comes_before}

abbrev pub is_up_to : ℕ → VersionedValue → Bool
is_up_to version next = nat_le next.version version

pub parted-by_version : (version : ℕ) (values : List VersionedValue) → AreRising values
    → IsPartitionedBy (is_up_to version) values
parted-by_version version = ordered-parted comes_before (is_up_to version) (λ next later before up_to.
    let reached = leb-true later.version version up_to in le-leb next.version version (omega (arith, before, reached)))

pub parted : (version : ℕ) (values : List VersionedValue) (n : ℕ) → n ≤ length values
    → IsPartitionPoint (λ next. is_up_to version next ≡ true) (λ next. is_up_to version next ≡ false) values n
    → AreUpTo version (take n values) × AreAbove version (drop n values)
parted version = searched-parts (is_up_to version) (λ (next : VersionedValue). next.version ≤ version)
    (λ (next : VersionedValue). version < next.version) (λ next. leb-true next.version version)
    (λ next. leb-false next.version version)

-- no version is above that of the last one
up_to-last : (v : ℕ) (before : Bool) (values : List VersionedValue) → AreRising values
    → fold (λ (before : Bool) (next : VersionedValue). nat_le next.version v) before values ≡ true → AreUpTo v values
up_to-last v before [] rising is = tt
up_to-last v before (next ∷ []) rising is = (leb-true next.version v is, tt)
up_to-last v before (next ∷ (second ∷ later)) rising is =
    let others : AreUpTo v (second ∷ later) = up_to-last v (nat_le next.version v) (second ∷ later) rising.1 is in
    let here : next.version < second.version = rising.0.0 in
    let last : second.version ≤ v = others.0 in
    (omega (arith, here, last), others)

pub up_to-by_last : (v : ℕ) (values : List VersionedValue) → AreRising values → is_last_up_to v values ≡ true
    → AreUpTo v values
up_to-by_last v values = up_to-last v true values
