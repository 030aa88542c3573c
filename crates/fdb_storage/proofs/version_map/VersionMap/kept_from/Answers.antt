use Rattle.std.proofs.Common.{◌≡◌, ◌∙◌, sym, ap, subst, ℕ, List, Some, None, rules}
use Rattle.fdb_storage.specs.declared.version_list.VersionedValue.{VersionedValue}
use Rattle.fdb_storage.specs.VersionLists.{value_up_to, AreUpTo, kept_from}
use Rattle.fdb_storage.specs.VersionMaps.{found, listed, versions_at}
use Rattle.fdb_storage.proofs.version_map.VersionMap.kept_from.Goals as goal

pub returns-in-Some : goal.returns-in-Some
returns-in-Some c through above ended =
    let was : found c.args.self.now.keys.entries c.args.key.now ≡ Some c.in-Some.versions.now = search rules in
    let same : versions_at c.args.self.now.keys.entries c.args.key.now ≡ c.in-Some.versions.now = ap listed was in
    c.kept_from.ensures through above (subst (AreUpTo through) same (ended c.args.key.now))
    ∙ ap (λ (versions : List VersionedValue). kept_from (λ (v : ℕ). value_up_to v versions) c.args.floor through)
    (sym same)

pub returns-in-None : goal.returns-in-None
returns-in-None c through above ended =
    let absent : found c.args.self.now.keys.entries c.args.key.now ≡ None = search rules in
    let same : versions_at c.args.self.now.keys.entries c.args.key.now ≡ c.new.result =
    ap listed absent ∙ sym c.new.ensures in
    c.kept_from-in-None.ensures through above (subst (AreUpTo through) same (ended c.args.key.now))
    ∙ ap (λ (versions : List VersionedValue). kept_from (λ (v : ℕ). value_up_to v versions) c.args.floor through)
    (sym same)
