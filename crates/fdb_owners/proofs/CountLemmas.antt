-- How many versions give another owner, by the changes.
use Rattle.std.proofs.Common.{◌≡◌, ◌∙◌, sym, ap₂, subst, refl, ℕ, zero, suc, ◌+◌, ◌<◌, ◌≤◌, Bool, true, false}
use Rattle.std.proofs.Common.{◌==◌, not, nat_le, List, [], ◌∷◌, ◌++◌, if◌then◌else◌, arith}
use Rattle.std.proofs.lemmas.Bool.{cond-true, cond-false, le-leb, lt-leb, eq-eqb}
use Rattle.std.specs.List.{AllByRecursion}
use Rattle.fdb_keys.proofs.Exports.{all-weaken}
use Rattle.fdb_txn.specs.Versions.{count_between}
use Rattle.fdb_txn.proofs.Exports.{count-alike, count-around, count-steady, one_if}
use Rattle.fdb_owners.specs.declared.history.Change.{Change}
use Rattle.fdb_owners.specs.Histories.{owner_by, AreFalling, AreAbove, AreUpTo, latest_of, differing, changes_at}
use Rattle.fdb_owners.proofs.HistoryLemmas.{owner-through, owner-cut}

abbrev same_owner : ℕ → ℕ → Bool
same_owner owner other = owner == other

itself : (owner : ℕ) → same_owner owner owner ≡ true
itself owner = eq-eqb owner owner refl

-- changes that are below a version are up to the one before it
falling-up_to : (v : ℕ) (changes : List Change) → AllByRecursion (λ (one : Change). one.version < suc v) changes
    → AreUpTo v changes
falling-up_to v changes = all-weaken _ _ (λ (one : Change) below. omega (arith, below)) changes

one-not : (is : Bool) → (if is then 0 else 1) ≡ one_if (not is)
one-not true = refl
one-not false = refl

-- the latest change, which is of this version
count-latest : (first : ℕ) (change : Change) (older : List Change) (floor last v : ℕ) → change.version ≡ suc v
    → floor ≤ v → suc v ≤ last → AllByRecursion (λ (one : Change). one.version < suc v) older
    → differing first older ≡ count_between (changes_at (owner_by first older)) floor v
    → differing first (change ∷ older) ≡ count_between (changes_at (owner_by first (change ∷ older))) floor last
count-latest first change older floor last v is from within below counted =
    (λ i. (counted ∙ before) i + here i)
    ∙ none_after (count_between test floor v) (one_if (not (same_owner (owner_of (suc v)) (owner_of v))))
    (count-steady same_owner itself owner_of change.owner (suc v) last (λ w above under. reached w above))
    ∙ sym (count-around same_owner owner_of floor v last from (omega (arith, within)))
  where
    owner_of : ℕ → ℕ
    owner_of w = owner_by first (change ∷ older) w

    test : ℕ → Bool
    test = changes_at owner_of

    none_after : (n m : ℕ) → count_between test (suc v) last ≡ 0 → n + m ≡ n + (m + count_between test (suc v) last)
    none_after n m none = omega (arith, none)

    reached : (w : ℕ) → suc v ≤ w → owner_of w ≡ change.owner
    reached w above = cond-true (nat_le change.version w) _ _ (le-leb change.version w (omega (arith, is, above)))

    unreached : (w : ℕ) → w ≤ v → owner_of w ≡ owner_by first older w
    unreached w under = cond-false (nat_le change.version w) _ _ (lt-leb change.version w (omega (arith, is, under)))

    before : count_between (changes_at (owner_by first older)) floor v ≡ count_between test floor v
    before =
        count-alike same_owner (owner_by first older) owner_of floor v (λ w above under. sym (unreached w under))

    here : (if change.owner == latest_of first older then 0 else 1)
        ≡ one_if (not (same_owner (owner_of (suc v)) (owner_of v)))
    here =
        one-not (change.owner == latest_of first older)
        ∙ ap₂ (λ (after ago : ℕ). one_if (not (after == ago))) (sym (reached (suc v) (omega arith)))
        (sym (unreached v (omega arith) ∙ owner-through first older v (falling-up_to v older below)))

below-version : (change : Change) (older : List Change) (v : ℕ) → change.version ≡ suc v
    → AllByRecursion (λ (one : Change). one.version < change.version) older
    → AllByRecursion (λ (one : Change). one.version < suc v) older
below-version change older v is all =
    subst (λ (version : ℕ). AllByRecursion (λ (one : Change). one.version < version) older) is all

-- by the changes above the floor there are as many as by the versions
pub count-changes : (first : ℕ) (changes : List Change) (floor last : ℕ) → AreFalling changes → AreAbove floor changes
    → AreUpTo last changes
    → differing first changes ≡ count_between (changes_at (owner_by first changes)) floor last
count-changes first [] floor last falling above through =
    sym (count-steady same_owner itself (owner_by first []) first floor last (λ v at under. refl))
count-changes first (change ∷ older) floor last falling above through =
    by_version change.version refl (count-changes first older floor)
  where
    by_version : (version : ℕ) → change.version ≡ version
        → ((v : ℕ) → AreFalling older → AreAbove floor older → AreUpTo v older
        → differing first older ≡ count_between (changes_at (owner_by first older)) floor v)
        → differing first (change ∷ older) ≡ count_between (changes_at (owner_by first (change ∷ older))) floor last
    by_version zero is counted = absurd (omega (arith, is, above))
    by_version (suc v) is counted =
        let below = below-version change older v is falling.0 in
        count-latest first change older floor last v is (omega (arith, is, above)) (omega (arith, is, through)) below
        (counted v falling.1 above.1 (falling-up_to v older below))

-- and so there are by all changes, of which those up to the floor have an owner
pub count-above : (first : ℕ) (above through : List Change) (floor last : ℕ) → AreFalling above → AreAbove floor above
    → AreUpTo last above → AreUpTo floor through
    → differing (latest_of first through) above ≡ count_between (changes_at (owner_by first (above
    ++ through))) floor last
count-above first above through floor last falling are_above within known =
    count-changes (latest_of first through) above floor last falling are_above within
    ∙ count-alike same_owner (owner_by (latest_of first through) above) (owner_by first (above ++ through)) floor last
    (λ v from under. owner-cut first above through floor v known from)
