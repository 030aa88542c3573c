-- What is left of a list of versions from a floor on.
use Rattle.std.proofs.Common.{◌≡◌, ◌≢◌, ◌∙◌, sym, ap, subst, refl, ℕ, ◌+◌, ◌-◌, ◌≤◌, Bool, true, false}
use Rattle.std.proofs.Common.{List, [], ◌∷◌, ◌++◌, length, length-append, length-drop}
use Rattle.std.proofs.Common.{append_assoc, drop, nat_le, is_some, arith, Option, Some, None, ◌⊎◌, inl, inr, ⊎_elim}
use Rattle.std.proofs.lemmas.Bool.{both_ways, cond-true, cases_Bool, le-leb}
use Rattle.std.proofs.Math.Seq.{drop-append_seam}
use Rattle.fdb_keys.proofs.Exports.{all-parts, ordered-back}
use Rattle.fdb_txn.proofs.Exports.{one_if}
use Rattle.fdb_storage.specs.declared.version_list.VersionedValue.{VersionedValue}
use Rattle.fdb_storage.specs.VersionLists.{value_up_to, newest_of, AreUpTo, AreRising, AreChanges}
use Rattle.fdb_storage.specs.VersionLists.{AreAbove, IsVersionList, kept_from}
use Rattle.fdb_storage.proofs.VersionCountLemmas.{kept-counted}
use Rattle.fdb_storage.proofs.VersionListLemmas.{value_from, value_up_to-after, comes_before, changes-back}
use Rattle.fdb_storage.proofs.VersionListLemmas.{EndsWith, last-of, newest-last}

-- ---- from a version on
-- what is kept: the versions above it, and the last of those up to it, if a value stands there
record IsLeft (floor : ℕ) (old new : List VersionedValue) : Type 0 where
  pub list : IsVersionList new
  pub kept : (v : ℕ) → floor ≤ v → value_up_to v new ≡ value_up_to v old

-- how many of the versions up to it show nothing
abbrev pub unseen : List VersionedValue → ℕ
unseen through = length through - one_if (is_some (newest_of through))

-- without those up to it
without-through : (floor : ℕ) (through above : List VersionedValue) → IsVersionList (through ++ above)
    → AreUpTo floor through → newest_of through ≡ None → IsLeft floor (through ++ above) above
without-through floor through above list up_to none = record {
  list = record {
    rising = ordered-back comes_before through above list.rising;
    changes =
        subst (λ (stood : Option (List ℕ)). AreChanges stood above) none (changes-back None through above list.changes);
  };
  kept = λ v from.
      sym (value_up_to-after floor v through above up_to from
      ∙ ap (λ (stood : Option (List ℕ)). value_from stood v above) none);
}

-- with the last of them, which has a value
with-last : (floor : ℕ) (front : List VersionedValue) (last : VersionedValue) (above : List VersionedValue)
    → IsVersionList ((front ++ last ∷ []) ++ above) → AreUpTo floor (front ++ last ∷ []) → last.value ≢ None
    → IsLeft floor ((front ++ last ∷ []) ++ above) (last ∷ above)
with-last floor front last above list up_to there = record {
  list = record {
    rising = ordered-back comes_before front (last ∷ above)
        (subst AreRising (append_assoc front (last ∷ []) above) list.rising);
    changes = (
      there,
      subst (λ (stood : Option (List ℕ)). AreChanges stood above) (newest-last front last)
          (changes-back None (front ++ last ∷ []) above list.changes),
    );
  };
  kept = λ v from.
      ap (λ (stood : Option (List ℕ)). value_from stood v above)
      (cond-true (nat_le last.version v) last.value None (le-leb last.version v (omega (arith, reached, from)))
      ∙ sym (newest-last front last))
      ∙ sym (value_up_to-after floor v (front ++ last ∷ []) above up_to from);
}
  where
    reached : last.version ≤ floor
    reached = (all-parts (λ (next : VersionedValue). next.version ≤ floor) front (last ∷ []) up_to).1.0

drop-all : (through above : List VersionedValue) → newest_of through ≡ None
    → drop (unseen through) (through ++ above) ≡ above
drop-all through above none =
    ap (λ (stood : Option (List ℕ)). drop (length through - one_if (is_some stood)) (through ++ above)) none
    ∙ ap (λ (n : ℕ). drop n (through ++ above)) (omega arith)
    ∙ drop-append_seam through above

drop-front : (front : List VersionedValue) (last : VersionedValue) (above : List VersionedValue)
    → is_some last.value ≡ true
    → drop (unseen (front ++ last ∷ [])) ((front ++ last ∷ []) ++ above) ≡ last ∷ above
drop-front front last above there =
    ap (λ (some : Bool). drop (length (front ++ last ∷ []) - one_if some) ((front ++ last ∷ []) ++ above))
    (ap is_some (newest-last front last) ∙ there)
    ∙ ap (λ (n : ℕ). drop n ((front ++ last ∷ []) ++ above)) (simp length-append (omega arith))
    ∙ ap (drop (length front)) (append_assoc front (last ∷ []) above)
    ∙ drop-append_seam front (last ∷ above)

none-of : (value : Option (List ℕ)) → is_some value ≡ false → value ≡ None
none-of None none = refl
none-of (Some bytes) none = absurd (both_ways true none refl)

left : (floor : ℕ) (through above : List VersionedValue) → IsVersionList (through ++ above)
    → AreUpTo floor through → IsLeft floor (through ++ above) (drop (unseen through) (through ++ above))
left floor through above list up_to =
    ⊎_elim
    (λ (there : is_some (newest_of through) ≡ true). ended there (last-of through))
    (λ (nothing : is_some (newest_of through) ≡ false).
    let none = none-of (newest_of through) nothing in
    subst (IsLeft floor (through ++ above)) (sym (drop-all through above none))
    (without-through floor through above list up_to none))
    (cases_Bool (is_some (newest_of through)))
  where
    with_last : (parts : EndsWith through) → is_some (newest_of through) ≡ true
        → IsLeft floor ((parts.front ++ parts.last ∷ []) ++ above)
        (drop (unseen (parts.front ++ parts.last ∷ [])) ((parts.front ++ parts.last ∷ []) ++ above))
    with_last parts there =
        let stands : is_some parts.last.value ≡ true =
        ap is_some (sym (ap newest_of parts.are ∙ newest-last parts.front parts.last)) ∙ there in
        subst (IsLeft floor ((parts.front ++ parts.last ∷ []) ++ above))
        (sym (drop-front parts.front parts.last above stands))
        (with-last floor parts.front parts.last above
        (subst (λ (some : List VersionedValue). IsVersionList (some ++ above)) parts.are list)
        (subst (AreUpTo floor) parts.are up_to)
        (λ none. both_ways (is_some parts.last.value) (ap is_some none) stands))

    ended : is_some (newest_of through) ≡ true → (through ≡ []) ⊎ EndsWith through
        → IsLeft floor (through ++ above) (drop (unseen through) (through ++ above))
    ended there (inl none) =
        absurd (both_ways (is_some (newest_of through)) (ap (λ (some : List VersionedValue). is_some
        (newest_of some)) none) there)
    ended there (inr parts) =
        subst (λ (some : List VersionedValue). IsLeft floor (some ++ above) (drop (unseen some) (some ++ above)))
        (sym parts.are)
        (with_last parts there)

left-length : (through above : List VersionedValue) → one_if (is_some (newest_of through)) ≤ length through
    → length (drop (unseen through) (through ++ above)) ≡ length above + one_if (is_some (newest_of through))
left-length through above few = simp (length-drop, length-append) (omega (arith, few))

-- the list that is left shows from the floor on what the old one does, and has no version more than that needs
pub record IsTrimmed (floor : ℕ) (old new : List VersionedValue) : Type 0 where
  pub list : IsVersionList new
  pub kept : (v : ℕ) → floor ≤ v → value_up_to v new ≡ value_up_to v old
  pub fewest : (through : ℕ) → floor ≤ through → AreUpTo through old
      → length new ≡ kept_from (λ (v : ℕ). value_up_to v old) floor through

pub trimmed : (floor count : ℕ) (old through above : List VersionedValue) → IsVersionList old → old ≡ through ++ above
    → AreUpTo floor through → AreAbove floor above → count ≡ one_if (is_some (newest_of through))
    → count ≤ length through
    → IsTrimmed floor old (drop (length through - count) old)
trimmed floor count old through above list are up_to are_above is few =
    subst (λ (some : List VersionedValue). IsTrimmed floor some (drop (length through - count) some)) (sym are)
    (subst (λ (n : ℕ). IsTrimmed floor (through ++ above) (drop (length through - n) (through
    ++ above))) (sym is) (record {
      list = rest.list;
      kept = rest.kept;
      fewest = λ high from within.
          left-length through above (subst (λ (n : ℕ). n ≤ length through) is few)
          ∙ kept-counted through above floor high whole up_to are_above within;
    }))
  where
    whole : IsVersionList (through ++ above)
    whole = subst IsVersionList are list

    rest : IsLeft floor (through ++ above) (drop (unseen through) (through ++ above))
    rest = left floor through above whole up_to
