use Rattle.std.proofs.Common.{◌≡◌, ◌∙◌, sym, ap, refl, subst, cond, List, [], Option, Some, None, IfSome, rules}
use Rattle.std.specs.BTreeMap.{is_at}
use Rattle.std.specs.Cmp.Lexicographic.{slice_cmp}
use Rattle.std.specs.Ordering.{nat_cmp}
use Rattle.fdb_keys.specs.Points.{Point}
use Rattle.fdb_storage.specs.declared.version_list.VersionedValue.{VersionedValue}
use Rattle.fdb_storage.specs.VersionMaps.{VersionedKeys, HaveForgotten, found, listed, versions_at}
use Rattle.fdb_storage.proofs.ForgottenLemmas.{forgotten-none, forgotten-cut}
use Rattle.fdb_storage.proofs.VersionsLemmas.{found-here}
use Rattle.fdb_storage.proofs.version_map.VersionMap.trim_versions.Goals as goal

-- a key that came back has no versions
emptied-at : (result : Option Point) (key : Point) (versions : List VersionedValue) (new : VersionedKeys)
    → found new key ≡ Some versions → IfSome result (λ emptied. (emptied ≡ key) × (versions ≡ []))
    → IfSome result (λ emptied. versions_at new emptied ≡ [])
emptied-at None key versions new here none = tt
emptied-at (Some emptied) key versions new here none =
    ap (versions_at new) none.0 ∙ ap listed here ∙ none.1

pub returns-in-Some : goal.returns-in-Some
returns-in-Some c =
    let old = c.args.self.now.keys.entries in
    let key = c.args.key in
    let new = (c.get_mut.follows.lender c.trim_in.new.versions).entries in
    let there : (x : Point) → found new x
    ≡ cond (is_at (slice_cmp nat_cmp key) x) (Some c.trim_in.new.versions) (found old x)
    = λ x. let follows = c.get_mut.follows.holds c.trim_in.new.versions in search rules in
    record {
      forgotten = forgotten-cut c.args.floor key c.in-Some.versions.now c.trim_in.new.versions old new there
          (sym c.in-Some.ensures.value) c.trim_in.ensures.kept c.trim_in.ensures.up_to;
      none = emptied-at c.trim_in.result key c.trim_in.new.versions new
          (found-here key (Some c.trim_in.new.versions) old new there) c.trim_in.ensures.none;
      live = refl;
    }

pub returns-in-None : goal.returns-in-None
returns-in-None c =
    let same : c.get_mut.follows.lender-at-none.entries ≡ c.args.self.now.keys.entries = search rules in
    record {
      forgotten = subst (HaveForgotten c.args.floor c.args.self.now.keys.entries) (sym same)
          (forgotten-none c.args.floor c.args.self.now.keys.entries);
      none = tt;
      live = refl;
    }
