-- How many versions give another value, by the list of versions.
use Rattle.std.proofs.Common.{◌≡◌, ◌≢◌, ◌∙◌, sym, ap, ap₂, subst, refl, ℕ, zero, suc, ◌+◌, ◌≤◌}
use Rattle.std.proofs.Common.{true, false, not, List, [], ◌∷◌, ◌++◌, length, nat_le, is_some, Option, None, arith}
use Rattle.std.proofs.lemmas.Bool.{cond-true, cond-false, le-leb, lt-leb, false_from_ne_true}
use Rattle.fdb_keys.proofs.Exports.{all-parts, all-weaken, ordered-back}
use Rattle.fdb_txn.specs.Versions.{count_between}
use Rattle.fdb_txn.proofs.Exports.{count-alike, count-around, count-steady, one_if}
use Rattle.fdb_storage.specs.declared.version_list.VersionedValue.{VersionedValue}
use Rattle.fdb_storage.specs.VersionLists.{value_up_to, newest_of, AreUpTo, AreAbove, AreRising, AreChanges}
use Rattle.fdb_storage.specs.VersionLists.{IsVersionList, same_value, changes_at, kept_from}
use Rattle.fdb_storage.proofs.VersionListLemmas.{value_from, value-above, value_up_to-between, value_up_to-after}
use Rattle.fdb_storage.proofs.VersionListLemmas.{changes-back, comes_before, same_value_decides}

-- a value is the same as itself, and not as another one
itself : (value : Option (List ℕ)) → same_value value value ≡ true
itself value = (same_value_decides value value).1 refl

other : (after before : Option (List ℕ)) → after ≢ before → same_value after before ≡ false
other after before differ =
    false_from_ne_true (same_value after before) (λ same. differ ((same_value_decides after before).0 same))

-- ---- by the values above a version there are as many as by the versions
-- the first one, which is of version suc w, and those after it
count-first : (before : Option (List ℕ)) (next : VersionedValue) (later : List VersionedValue) (low high w : ℕ)
    → next.version ≡ suc w → low ≤ w → suc w ≤ high → next.value ≢ before → AreAbove (suc w) later
    → count_between (changes_at (λ (v : ℕ). value_from next.value v later)) (suc w) high ≡ length later
    → count_between (changes_at (λ (v : ℕ). value_from before v (next ∷ later))) low high ≡ suc (length later)
count-first before next later low high w is from within differ above counted =
    count-around same_value value_of low w high from (omega (arith, within))
    ∙ (λ i. none_before i + (one_if (not (here i)) + there i))
    ∙ one_more (length later)
  where
    value_of : ℕ → Option (List ℕ)
    value_of v = value_from before v (next ∷ later)

    reached : (v : ℕ) → suc w ≤ v → value_of v ≡ value_from next.value v later
    reached v at =
        ap (λ (stood : Option (List ℕ)). value_from stood v later)
        (cond-true (nat_le next.version v) next.value before (le-leb next.version v (omega (arith, is, at))))

    unreached : (v : ℕ) → v ≤ w → value_of v ≡ before
    unreached v under =
        ap (λ (stood : Option (List ℕ)). value_from stood v later)
        (cond-false (nat_le next.version v) next.value before (lt-leb next.version v (omega (arith, is, under))))
        ∙ value-above before v later (all-weaken _ _ (λ (one : VersionedValue) past. omega (arith, past, under)) later
        above)

    at_it : value_of (suc w) ≡ next.value
    at_it = reached (suc w) (omega arith) ∙ value-above next.value (suc w) later above

    none_before : count_between (changes_at value_of) low w ≡ 0
    none_before = count-steady same_value itself value_of before low w (λ v at under. unreached v under)

    here : same_value (value_of (suc w)) (value_of w) ≡ false
    here = other (value_of (suc w)) (value_of w) (λ same. differ (sym at_it ∙ same ∙ unreached w (omega arith)))

    there : count_between (changes_at value_of) (suc w) high ≡ length later
    there =
        count-alike same_value value_of (λ (v : ℕ). value_from next.value v later) (suc w) high
        (λ v at under. reached v at)
        ∙ counted

    one_more : (n : ℕ) → 0 + (1 + n) ≡ suc n
    one_more n = omega arith

pub count-changes : (before : Option (List ℕ)) (values : List VersionedValue) (low high : ℕ) → AreRising values
    → AreChanges before values → AreAbove low values → AreUpTo high values
    → count_between (changes_at (λ (v : ℕ). value_from before v values)) low high ≡ length values
count-changes before [] low high rising changes above up_to =
    count-steady same_value itself (λ (v : ℕ). value_from before v []) before low high (λ v at under. refl)
count-changes before (next ∷ later) low high rising changes above up_to =
    by_version next.version refl
    (λ w after. count-changes next.value later (suc w) high rising.1 changes.1 after up_to.1)
  where
    by_version : (version : ℕ) → next.version ≡ version
        → ((w : ℕ) → AreAbove (suc w) later
        → count_between (changes_at (λ (v : ℕ). value_from next.value v later)) (suc w) high ≡ length later)
        → count_between (changes_at (λ (v : ℕ). value_from before v (next ∷ later))) low high ≡ suc (length later)
    by_version zero is counted = absurd (omega (arith, is, above))
    by_version (suc w) is counted =
        let after : AreAbove (suc w) later = subst (λ (v : ℕ). AreAbove v later) is rising.0 in
        count-first before next later low high w is (omega (arith, is, above))
        (omega (arith, is, up_to)) changes.0 after
        (counted w after)

-- with what stands at the floor
pub kept-counted : (through above : List VersionedValue) (floor high : ℕ) → IsVersionList (through ++ above)
    → AreUpTo floor through → AreAbove floor above → AreUpTo high (through ++ above)
    → length above + one_if (is_some (newest_of through))
    ≡ kept_from (λ (v : ℕ). value_up_to v (through ++ above)) floor high
kept-counted through above floor high list up_to are_above within =
    ap₂ (λ (n : ℕ) (stood : Option (List ℕ)). n + one_if (is_some stood)) changes
    (sym (value_up_to-between floor through above up_to are_above))
  where
    changes : length above ≡ count_between (changes_at (λ (v : ℕ). value_up_to v (through ++ above))) floor high
    changes =
        sym (count-changes (newest_of through) above floor high (ordered-back comes_before through above list.rising)
        (changes-back None through above list.changes) are_above
        (all-parts (λ (next : VersionedValue). next.version ≤ high) through above within).1)
        ∙ count-alike same_value (λ (v : ℕ). value_from (newest_of through) v above)
        (λ (v : ℕ). value_up_to v (through ++ above)) floor high
        (λ v from under. sym (value_up_to-after floor v through above up_to from))
