-- What is dropped of keys, and shows at no version from a floor on.
use Rattle.std.proofs.Common.{◌≡◌, ◌∙◌, sym, ap, refl, subst, ℕ, ◌≤◌, true, cond}
use Rattle.std.proofs.Common.{List, [], Option, Some, None, is_some}
use Rattle.std.specs.BTreeMap.{is_at}
use Rattle.std.specs.Cmp.Lexicographic.{slice_cmp}
use Rattle.std.specs.Ordering.{nat_cmp}
use Rattle.std.proofs.lemmas.Bool.{both_ways}
use Rattle.fdb_keys.specs.Points.{Point}
use Rattle.fdb_keys.specs.Texts.{is_key}
use Rattle.fdb_storage.specs.declared.version_list.VersionedValue.{VersionedValue}
use Rattle.fdb_storage.specs.VersionLists.{value_up_to, AreUpTo}
use Rattle.fdb_storage.specs.VersionMaps.{VersionedKeys, found, listed, versions_at, value_of}
use Rattle.fdb_storage.specs.VersionMaps.{HaveForgotten}
use Rattle.fdb_storage.proofs.VersionsLemmas.{by_point, found-here, found-elsewhere, legal-after, ended-after}

-- ---- what is forgotten
pub forgotten-none : (floor : ℕ) (keys : VersionedKeys) → HaveForgotten floor keys keys
forgotten-none floor keys = record {
  values = λ v x reached. refl;
  end_by = λ v ended. ended;
  legal_keys = λ legal. legal;
}

pub forgotten-then : (floor : ℕ) (old mid new : VersionedKeys) → HaveForgotten floor old mid
    → HaveForgotten floor mid new → HaveForgotten floor old new
forgotten-then floor old mid new one two = record {
  values = λ v x reached. two.values v x reached ∙ one.values v x reached;
  end_by = λ v ended. two.end_by v (one.end_by v ended);
  legal_keys = λ legal. two.legal_keys (one.legal_keys legal);
}

-- the versions of one key were cut
pub forgotten-cut : (floor : ℕ) (key : Point) (before after : List VersionedValue) (old new : VersionedKeys)
    → ((x : Point) → found new x ≡ cond (is_at (slice_cmp nat_cmp key) x) (Some after) (found old x))
    → found old key ≡ Some before
    → ((v : ℕ) → floor ≤ v → value_up_to v after ≡ value_up_to v before)
    → ((v : ℕ) → AreUpTo v before → AreUpTo v after) → HaveForgotten floor old new
forgotten-cut floor key before after old new there was same up_to = record {
  values = λ v x reached. by_point x key (value_of new v x ≡ value_of old v x)
      (λ (is : x ≡ key).
      subst (λ (y : Point). value_of new v y ≡ value_of old v y) (sym is)
      (ap (λ (o : Option (List VersionedValue)). value_up_to v (listed o)) (found-here key (Some after) old new there)
      ∙ same v reached
      ∙ sym (ap (λ (o : Option (List VersionedValue)). value_up_to v (listed o)) was)))
      (λ other. ap (λ (o : Option (List VersionedValue)). value_up_to v (listed o))
      (found-elsewhere key (Some after) old new there x other));
  end_by = λ v ended. ended-after key (Some after) old new there v ended
      (up_to v (subst (λ (o : Option (List VersionedValue)). AreUpTo v (listed o)) was (ended key)));
  legal_keys = λ legal. legal-after key (Some after) old new there legal (legal key (ap is_some was));
}

-- a key with no versions was taken out
pub forgotten-taken : (floor : ℕ) (key : Point) (old new : VersionedKeys)
    → ((x : Point) → found new x ≡ cond (is_at (slice_cmp nat_cmp key) x) None (found old x))
    → versions_at old key ≡ [] → HaveForgotten floor old new
forgotten-taken floor key old new there empty = record {
  values = λ v x reached. by_point x key (value_of new v x ≡ value_of old v x)
      (λ (is : x ≡ key).
      subst (λ (y : Point). value_of new v y ≡ value_of old v y) (sym is)
      (ap (λ (o : Option (List VersionedValue)). value_up_to v (listed o)) (found-here key None old new there)
      ∙ sym (ap (value_up_to v) empty)))
      (λ other. ap (λ (o : Option (List VersionedValue)). value_up_to v (listed o))
      (found-elsewhere key None old new there x other));
  end_by = λ v ended. ended-after key None old new there v ended tt;
  legal_keys = λ legal x some. by_point x key (is_key x ≡ true)
      (λ (is : x ≡ key). absurd (both_ways _
      (ap is_some (ap (found new) is ∙ found-here key None old new there)) some))
      (λ other. legal x (ap is_some (sym (found-elsewhere key None old new there x other)) ∙ some));
}
