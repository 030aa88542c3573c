use Rattle.std.proofs.Common.{◌≡◌, sym, ap, subst, cond, false, List, Option, Some, None, is_some, rules}
use Rattle.std.specs.BTreeMap.{is_at}
use Rattle.std.specs.Cmp.Lexicographic.{slice_cmp}
use Rattle.std.specs.Ordering.{nat_cmp}
use Rattle.fdb_keys.specs.Points.{Point}
use Rattle.fdb_storage.specs.declared.version_list.VersionedValue.{VersionedValue}
use Rattle.fdb_storage.specs.VersionLists.{AreUpTo, newest_of}
use Rattle.fdb_storage.specs.VersionMaps.{HaveLive, HaveNoted, VersionedKeys, found, listed}
use Rattle.fdb_storage.proofs.LiveLemmas.{live-put, on_ok-both}
use Rattle.fdb_storage.proofs.VersionsLemmas.{changed-put, changed-absent, on_ok-then}
use Rattle.fdb_storage.proofs.version_map.VersionMap.clear.Goals as goal
use Rattle.fdb_storage.proofs.version_map.VersionMap.clear.Goals.{After-put_in}

-- the key has other versions now, and others have what they had
there : (c : After-put_in) (x : Point) → found (c.get_mut.follows.lender c.put_in.new.versions).entries x
    ≡ cond (is_at (slice_cmp nat_cmp c.args.key.now) x) (Some c.put_in.new.versions)
    (found c.args.self.now.keys.entries x)
there c x = let follows = c.get_mut.follows.holds c.put_in.new.versions in search rules

pub returns-in-Some-clause-changed : goal.returns-in-Some-clause-changed
returns-in-Some-clause-changed c =
    let here = (goal.at.returns-in-Some-clause-changed c).After-put_in in
    let old = c.args.self.now.keys.entries in
    let key = c.args.key.now in
    let new = (c.get_mut.follows.lender c.put_in.new.versions).entries in
    let was : found old key ≡ Some c.in-Some.versions.now = sym c.in-Some.ensures.value in
    on_ok-then c.put_in.result _ _
    (λ put. changed-put c.args.version key None c.in-Some.versions.now c.put_in.new.versions old new (there here)
    (sym (ap listed was)) put c.requires.ended c.requires.legal_keys (c.requires.legal_keys key (ap is_some was)))
    c.put_in.ensures.put

pub returns-in-Some-clause-live : goal.returns-in-Some-clause-live
returns-in-Some-clause-live c =
    let here = (goal.at.returns-in-Some-clause-live c).After-put_in in
    let old = c.args.self.now.keys.entries in
    let key = c.args.key.now in
    let copy : c.in_ok-key.key ≡ key = search rules in
    let new = (c.get_mut.follows.lender c.put_in.new.versions).entries in
    let was : found old key ≡ Some c.in-Some.versions.now = sym c.in-Some.ensures.value in
    on_ok-both c.put_in.result _ _ _
    (λ put noted. live-put c.args.version key None c.in-Some.versions.now c.put_in.new.versions old new
    c.args.self.now.live.keys c.put_in.new.live.keys (there here) (sym (ap listed was)) put
    (subst (λ (it : Point). HaveNoted it (is_some (newest_of c.in-Some.versions.now)) false
    c.args.self.now.live.keys c.put_in.new.live.keys) copy noted)
    c.requires.live)
    c.put_in.ensures.put c.put_in.ensures.live

pub returns-clause-changed : goal.returns-clause-changed
returns-clause-changed c =
    let old = c.args.self.now.keys.entries in
    let absent : found old c.args.key.now ≡ None = search rules in
    let same : c.get_mut.follows.lender-at-none.entries ≡ old = search rules in
    changed-absent c.args.version c.args.key.now old _ absent same c.requires.ended c.requires.legal_keys

pub returns-clause-live : goal.returns-clause-live
returns-clause-live c =
    let same : c.get_mut.follows.lender-at-none.entries ≡ c.args.self.now.keys.entries = search rules in
    subst (λ (keys : VersionedKeys). HaveLive keys c.args.self.now.live.keys) (sym same) c.requires.live

pub put_in-requires : goal.put_in-requires
put_in-requires c =
    subst (λ (o : Option (List VersionedValue)). AreUpTo c.args.version (listed o)) (sym c.in-Some.ensures.value)
    (c.requires.ended c.args.key.now)
