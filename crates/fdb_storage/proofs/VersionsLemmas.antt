-- What stands in lists of versions, and at keys once something was put there.
use Rattle.std.proofs.Common.{◌≡◌, ◌∙◌, sym, ap, refl, subst, ℕ, ◌≤◌, ◌<◌, nat_le, Bool, true, false, cond}
use Rattle.std.proofs.Common.{List, ◌∷◌, Option, Some, None, is_some, if◌then◌else◌, arith, ⊎_elim}
use Rattle.std.specs.Prelude.{OnOk}
use Rattle.std.proofs.Common.{Result, Ok, Err}
use Rattle.std.specs.BTreeMap.{is_at}
use Rattle.std.specs.Cmp.{eq_by_cmp_equiv}
use Rattle.std.specs.Cmp.Lexicographic.{slice_cmp, bytes_decides}
use Rattle.std.specs.Ordering.{nat_cmp}
use Rattle.std.proofs.lemmas.Bool.{cases_Bool, cond-true, cond-false, leb-true, leb-false}
use Rattle.std.proofs.lemmas.Cmp.{nat_list_cmp_total}
use Rattle.std.proofs.lemmas.Map.Text.{is_eq-slice_cmp}
use Rattle.fdb_keys.specs.Points.{Point, point_eq}
use Rattle.fdb_keys.specs.Texts.{is_key}
use Rattle.fdb_storage.specs.declared.version_list.VersionedValue.{VersionedValue}
use Rattle.fdb_storage.specs.VersionLists.{value_up_to, newest_of, AreUpTo}
use Rattle.fdb_storage.specs.VersionMaps.{VersionedKeys, found, listed, versions_at, value_of, EndBy, HaveLegalKeys}
use Rattle.fdb_storage.specs.Changes.{HavePut, HaveChanged, put_at}
use Rattle.fdb_storage.proofs.VersionListLemmas.{value_up_to-newest, up_to-weaken}

-- ---- lists of versions
-- from the last version on the newest value stands
pub value-newest : (v w : ℕ) (values : List VersionedValue) → AreUpTo w values → w ≤ v
    → value_up_to v values ≡ newest_of values
value-newest v w values up_to reached = value_up_to-newest v values (up_to-weaken w v values reached up_to)

pub end_by-more : (v w : ℕ) (keys : VersionedKeys) → v ≤ w → EndBy v keys → EndBy w keys
end_by-more v w keys more ended x = up_to-weaken v w (versions_at keys x) more (ended x)

-- so from there on all versions show the same
pub value-ended : (v w : ℕ) (keys : VersionedKeys) (x : Point) → EndBy w keys → w ≤ v
    → value_of keys v x ≡ value_of keys w x
value-ended v w keys x ended reached =
    value-newest v w (versions_at keys x) (ended x) reached
    ∙ sym (value-newest w w (versions_at keys x) (ended x) (omega arith))

-- ---- which points are the same
pub same_point : (key x : Point) → is_at (slice_cmp nat_cmp key) x ≡ point_eq x key
same_point key x = (eq_by_cmp_equiv nat_list_cmp_total).symm key x ∙ is_eq-slice_cmp x key

-- what holds at a point that is the key, and at one that isn't
pub by_point : (x key : Point) (P : Type 0) → (x ≡ key → P) → (point_eq x key ≡ false → P) → P
by_point x key P here elsewhere =
    ⊎_elim (λ (same : point_eq x key ≡ true). here ((bytes_decides x key).0 same)) elsewhere
    (cases_Bool (point_eq x key))

-- ---- keys of which one has others versions
module _ (key : Point) (versions : Option (List VersionedValue)) (old new : VersionedKeys)
    (there : (x : Point) → found new x ≡ cond (is_at (slice_cmp nat_cmp key) x) versions (found old x)) where
  pub found-here : found new key ≡ versions
  found-here = there key ∙ cond-true _ versions (found old key) (same_point key key ∙ (bytes_decides key key).1 refl)

  pub found-elsewhere : (x : Point) → point_eq x key ≡ false → found new x ≡ found old x
  found-elsewhere x other = there x ∙ cond-false _ versions (found old x) (same_point key x ∙ other)

  pub legal-after : HaveLegalKeys old → is_key key ≡ true → HaveLegalKeys new
  legal-after legal is_legal x some = by_point x key (is_key x ≡ true)
      (λ (same : x ≡ key). ap is_key same ∙ is_legal)
      (λ other. legal x (ap is_some (sym (found-elsewhere x other)) ∙ some))

  pub ended-after : (v : ℕ) → EndBy v old → AreUpTo v (listed versions) → EndBy v new
  ended-after v ended up_to x = by_point x key (AreUpTo v (versions_at new x))
      (λ (same : x ≡ key). subst (λ (y : Point). AreUpTo v (versions_at new y)) (sym same)
      (subst (λ (o : Option (List VersionedValue)). AreUpTo v (listed o)) (sym found-here) up_to))
      (λ other. subst (λ (o : Option (List VersionedValue)). AreUpTo v (listed o)) (sym (found-elsewhere x other))
      (ended x))

-- ---- going through the keys
pub found-first : (key x : Point) (versions : List VersionedValue) (keys : VersionedKeys) → point_eq x key ≡ true
    → found ((x, versions) ∷ keys) key ≡ Some versions
found-first key x versions keys same = cond-true _ (Some versions) (found keys key) (same_point key x ∙ same)

pub found-later : (key x : Point) (versions : List VersionedValue) (keys : VersionedKeys) → point_eq x key ≡ false
    → found ((x, versions) ∷ keys) key ≡ found keys key
found-later key x versions keys other = cond-false _ (Some versions) (found keys key) (same_point key x ∙ other)

pub either_same : {A : Type 0} (t : Bool) (a : A) → (if t then a else a) ≡ a
either_same true a = refl
either_same false a = refl

-- what stands at a point after the value was put at the key
abbrev aim : ℕ → Point → Option (List ℕ) → VersionedKeys → ℕ → Point → Option (List ℕ)
aim version key value old v x = if nat_le version v then put_at key value x (value_of old v x) else value_of old v x

-- the versions of one key have had a value put
pub changed-put : (version : ℕ) (key : Point) (value : Option (List ℕ)) (before after : List VersionedValue)
    (old new : VersionedKeys)
    → ((x : Point) → found new x ≡ cond (is_at (slice_cmp nat_cmp key) x) (Some after) (found old x))
    → before ≡ versions_at old key → HavePut version value before after
    → EndBy version old → HaveLegalKeys old → is_key key ≡ true → HaveChanged version (put_at key value) old new
changed-put version key value before after old new there was put ended legal is_legal = record {
  values = λ v x. by_point x key (value_of new v x ≡ aim version key value old v x)
      (λ (same : x ≡ key). subst (λ (y : Point). value_of new v y ≡ aim version key value old v y) (sym same) (here v))
      (λ other. ap (λ (o : Option (List VersionedValue)). value_up_to v (listed o))
      (found-elsewhere key (Some after) old new there x other)
      ∙ sym (either_same (nat_le version v) (value_of old v x))
      ∙ ap (λ (changed : Option (List ℕ)). if nat_le version v then changed else value_of old v x)
      (sym (cond-false (point_eq x key) value (value_of old v x) other)));
  end_by = ended-after key (Some after) old new there version ended put.up_to;
  legal_keys = legal-after key (Some after) old new there legal is_legal;
}
  where
    here : (v : ℕ) → value_of new v key ≡ aim version key value old v key
    here v =
        ap (λ (o : Option (List VersionedValue)). value_up_to v (listed o)) (found-here key (Some after) old new there)
        ∙ put.values v
        ∙ ap (λ (values : List VersionedValue). if nat_le version v then value else value_up_to v values) was
        ∙ ap (λ (changed : Option (List ℕ)). if nat_le version v then changed else value_of old v key)
        (sym (cond-true (point_eq key key) value (value_of old v key) ((bytes_decides key key).1 refl)))

-- nothing is put where nothing is
pub changed-absent : (version : ℕ) (key : Point) (old new : VersionedKeys) → found old key ≡ None → new ≡ old
    → EndBy version old → HaveLegalKeys old → HaveChanged version (put_at key None) old new
changed-absent version key old new absent same ended legal =
    subst (HaveChanged version (put_at key None) old) (sym same) (record {
      values = λ v x. sym (either (nat_le version v) v x);
      end_by = ended;
      legal_keys = legal;
    })
  where
    nothing : (v : ℕ) (x : Point) → put_at key None x (value_of old v x) ≡ value_of old v x
    nothing v x = by_point x key (put_at key None x (value_of old v x) ≡ value_of old v x)
        (λ (is : x ≡ key).
        cond-true (point_eq x key) None (value_of old v x) ((bytes_decides x key).1 is)
        ∙ sym (ap (value_of old v) is
        ∙ ap (λ (o : Option (List VersionedValue)). value_up_to v (listed o)) absent))
        (λ other. cond-false (point_eq x key) None (value_of old v x) other)

    either : (reached : Bool) (v : ℕ) (x : Point)
        → (if reached then put_at key None x (value_of old v x) else value_of old v x) ≡ value_of old v x
    either true v x = nothing v x
    either false v x = refl

-- ---- what follows of what holds of a call that isn't refused
pub on_ok-then : {T E : Type 0} (result : Result T E) (P Q : Type 0) → (P → Q) → OnOk result P → OnOk result Q
on_ok-then (Ok given) P Q step holds = step holds
on_ok-then (Err why) P Q step holds = tt

-- a value that was put, by what it leaves before the version and from it on
pub put-parts : (version : ℕ) (value : Option (List ℕ)) (old new : List VersionedValue)
    → ((v : ℕ) → v < version → value_up_to v new ≡ value_up_to v old)
    → ((v : ℕ) → version ≤ v → value_up_to v new ≡ value) → AreUpTo version new → HavePut version value old new
put-parts version value old new before after up_to = record {
  values = λ v. ⊎_elim
      (λ (reached : nat_le version v ≡ true).
      after v (leb-true version v reached) ∙ sym (cond-true (nat_le version v) value (value_up_to v old) reached))
      (λ (sooner : nat_le version v ≡ false).
      before v (leb-false version v sooner) ∙ sym (cond-false (nat_le version v) value (value_up_to v old) sooner))
      (cases_Bool (nat_le version v));
  up_to = up_to;
}
