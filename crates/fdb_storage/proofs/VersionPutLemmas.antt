-- A list of versions without the value of one version, and with a value put at one.
use Rattle.std.proofs.Common.{◌≡◌, ◌≢◌, ◌∙◌, sym, ap, subst, refl, ℕ, ◌-◌, ◌<◌, ◌≤◌, true, false}
use Rattle.std.proofs.Common.{List, [], ◌∷◌, ◌++◌, length, length-append, take, nat_le, arith, Option, None, ⊎_elim}
use Rattle.std.proofs.lemmas.Bool.{both_ways, cond-true, eqb-true, eqb-false, le-leb}
use Rattle.std.proofs.Math.Seq.{take-append_seam}
use Rattle.fdb_keys.proofs.Exports.{all-append, all-parts, ordered-before, ordered-push}
use Rattle.fdb_storage.specs.declared.version_list.VersionedValue.{VersionedValue}
use Rattle.fdb_storage.specs.VersionLists.{value_up_to, newest_of, ends_at, AreUpTo, AreBelow, AreRising, AreChanges}
use Rattle.fdb_storage.specs.VersionLists.{IsVersionList}
use Rattle.fdb_storage.proofs.VersionListLemmas.{newest_from, value-of_both, value_up_to-newest, value_up_to-above}
use Rattle.fdb_storage.proofs.VersionListLemmas.{up_to-weaken, below-up_to, below-weaken, comes_before}
use Rattle.fdb_storage.proofs.VersionListLemmas.{IsVersionList-front, EndsWith, last-of, newest-last, ends_at-last}

-- ---- without the value of one version
pub record IsWithout (version : ℕ) (values left : List VersionedValue) : Type 0 where
  pub list : IsVersionList left
  pub below : AreBelow version left
  pub before : (v : ℕ) → v < version → value_up_to v left ≡ value_up_to v values

take-front : (front : List VersionedValue) (last : VersionedValue)
    → take (length (front ++ last ∷ []) - 1) (front ++ last ∷ []) ≡ front
take-front front last =
    ap (λ (n : ℕ). take n (front ++ last ∷ [])) (simp length-append (omega arith)) ∙ take-append_seam front (last ∷ [])

pub ends_at-not_empty : (version : ℕ) (values : List VersionedValue) → ends_at version values ≡ true → 0 < length values
ends_at-not_empty version [] ends = absurd (both_ways false refl ends)
ends_at-not_empty version (next ∷ later) ends = omega arith

without-last : (version : ℕ) (front : List VersionedValue) (last : VersionedValue) → IsVersionList (front ++ last ∷ [])
    → last.version ≡ version → IsWithout version (front ++ last ∷ []) front
without-last version front last list is = record {
  list = IsVersionList-front front (last ∷ []) list;
  below = below-weaken last.version version front (omega arith) (ordered-before comes_before front last [] list.rising);
  before = λ v under. sym (value_up_to-above v front (last ∷ []) (omega (arith, is, under), tt));
}

pub without-it : (version : ℕ) (values : List VersionedValue) → IsVersionList values → ends_at version values ≡ true
    → IsWithout version values (take (length values - 1) values)
without-it version values list ends = ⊎_elim empty ended (last-of values)
  where
    empty : values ≡ [] → IsWithout version values (take (length values - 1) values)
    empty none = absurd (omega (arith, ends_at-not_empty version values ends, ap length none))

    ended : EndsWith values → IsWithout version values (take (length values - 1) values)
    ended parts =
        subst (λ (some : List VersionedValue). IsWithout version some (take (length some - 1) some)) (sym parts.are)
        (subst (λ (left : List VersionedValue). IsWithout version (parts.front ++ parts.last ∷ []) left)
        (sym (take-front parts.front parts.last))
        (without-last version parts.front parts.last (subst IsVersionList parts.are list)
        (eqb-true parts.last.version version
        (sym (ends_at-last version parts.front parts.last) ∙ sym (ap (ends_at version) parts.are) ∙ ends))))

pub without-any : (version : ℕ) (values : List VersionedValue) → IsVersionList values → AreUpTo version values
    → ends_at version values ≡ false → IsWithout version values values
without-any version values list up_to ends = record {
  list = list;
  below = ⊎_elim
      (λ (none : values ≡ []). subst (AreBelow version) (sym none) tt)
      (λ (parts : EndsWith values). subst (AreBelow version) (sym parts.are) (ended parts))
      (last-of values);
  before = λ v under. refl;
}
  where
    ended : (parts : EndsWith values) → AreBelow version (parts.front ++ parts.last ∷ [])
    ended parts =
        let within : AreUpTo version (parts.front ++ parts.last ∷ []) = subst (AreUpTo version) parts.are up_to in
        let last : parts.last.version ≤ version =
        (all-parts (λ (next : VersionedValue). next.version ≤ version) parts.front (parts.last ∷ []) within).1.0 in
        let other : parts.last.version ≢ version =
        eqb-false parts.last.version version
        (sym (ends_at-last version parts.front parts.last) ∙ sym (ap (ends_at version) parts.are) ∙ ends) in
        let under : parts.last.version < version = omega arith in
        all-append (λ (next : VersionedValue). next.version < version) parts.front (parts.last ∷ [])
        (below-weaken parts.last.version version parts.front (omega arith)
        (ordered-before comes_before parts.front parts.last [] (subst AreRising parts.are list.rising))) (under, tt)

-- ---- with a value at a version
pub record HasPut (version : ℕ) (value : Option (List ℕ)) (old new : List VersionedValue) : Type 0 where
  pub list : IsVersionList new
  pub before : (v : ℕ) → v < version → value_up_to v new ≡ value_up_to v old
  pub after : (v : ℕ) → version ≤ v → value_up_to v new ≡ value
  pub newest : newest_of new ≡ value
  pub up_to : AreUpTo version new

changes-push : (before : Option (List ℕ)) (values : List VersionedValue) (last : VersionedValue)
    → AreChanges before values → last.value ≢ newest_from before values → AreChanges before (values ++ last ∷ [])
changes-push before [] last changes other = (other, tt)
changes-push before (next ∷ later) last changes other = (changes.0, changes-push next.value later last changes.1 other)

pub put-pushed : (version : ℕ) (value : Option (List ℕ)) (values : List VersionedValue) → IsVersionList values
    → AreBelow version values → newest_of values ≢ value
    → HasPut version value values (values ++ record { version = version; value = value } ∷ [])
put-pushed version value values list below other = record {
  list = record {
    rising = ordered-push comes_before values last list.rising below;
    changes = changes-push None values last list.changes (λ same. other (sym same));
  };
  before = λ v under. value_up_to-above v values (last ∷ []) (under, tt);
  after = λ v from.
      value-of_both None v values (last ∷ [])
      ∙ cond-true (nat_le version v) value (value_up_to v values) (le-leb version v from);
  newest = newest-last values last;
  up_to = all-append (λ (next : VersionedValue). next.version ≤ version) values (last ∷ [])
      (below-up_to version values below)
      (omega arith, tt);
}
  where
    last : VersionedValue
    last = record { version = version; value = value }

pub put-none : (version : ℕ) (value : Option (List ℕ)) (values : List VersionedValue) → IsVersionList values
    → AreBelow version values → newest_of values ≡ value → HasPut version value values values
put-none version value values list below same = record {
  list = list;
  before = λ v under. refl;
  after = λ v from.
      value_up_to-newest v values (up_to-weaken version v values from (below-up_to version values below)) ∙ same;
  newest = same;
  up_to = below-up_to version values below;
}
