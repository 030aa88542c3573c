use Rattle.std.proofs.Common.{◌≡◌, ◌∙◌, sym, ap, cond, subst, List, ℕ, Option, Some, is_some, rules}
use Rattle.std.specs.BTreeMap.{is_at}
use Rattle.std.specs.Cmp.Lexicographic.{slice_cmp}
use Rattle.std.specs.Ordering.{nat_cmp}
use Rattle.fdb_keys.specs.Points.{Point}
use Rattle.fdb_keys.specs.Texts.{is_key}
use Rattle.fdb_mutations.specs.Mutations.{new_value}
use Rattle.fdb_storage.specs.VersionLists.{newest_of}
use Rattle.fdb_storage.specs.VersionMaps.{HaveNoted, found, listed}
use Rattle.fdb_storage.proofs.VersionsLemmas.{changed-put}
use Rattle.fdb_storage.proofs.ChangesLemmas.{answers-then, changed-key, on_ok-answers}
use Rattle.fdb_storage.proofs.LiveLemmas.{live-put, on_ok-both}
use Rattle.fdb_storage.proofs.version_map.VersionMap.change.Goals as goal
use Rattle.fdb_storage.proofs.version_map.VersionMap.change.Goals.{After-change_in}

-- the key has other versions now, and others have what they had
there : (c : After-change_in) (x : Point) → found (c.get_mut.follows.lender c.change_in.new.versions).entries x
    ≡ cond (is_at (slice_cmp nat_cmp c.args.key.now) x) (Some c.change_in.new.versions)
    (found c.args.self.now.keys.entries x)
there c x = let follows = c.get_mut.follows.holds c.change_in.new.versions in search rules

was : (c : After-change_in) → found c.args.self.now.keys.entries c.args.key.now ≡ Some c.in-Some.versions.now
was c = search rules

pub returns-in-Some-clause-changed : goal.returns-in-Some-clause-changed
returns-in-Some-clause-changed c =
    let here = (goal.at.returns-in-Some-clause-changed c).After-change_in in
    let old = c.args.self.now.keys.entries in
    let key = c.args.key.now in
    let new = (c.get_mut.follows.lender c.change_in.new.versions).entries in
    let value : Option (List ℕ) = new_value c.args.mutation.now (newest_of c.in-Some.versions.now) in
    answers-then c.change_in.result _ _
    (λ put. changed-key c.args.version key c.args.mutation.now value old new c.requires.ended
    (ap (λ (o : Option _). new_value c.args.mutation.now (newest_of (listed o))) (sym (was here)))
    (changed-put c.args.version key value c.in-Some.versions.now c.change_in.new.versions old new (there here)
    (sym (ap listed (was here))) put c.requires.ended c.requires.legal_keys c.at.ensures.legal))
    c.change_in.ensures.put

pub returns-in-Some-clause-live : goal.returns-in-Some-clause-live
returns-in-Some-clause-live c =
    let here = (goal.at.returns-in-Some-clause-live c).After-change_in in
    let old = c.args.self.now.keys.entries in
    let key = c.args.key.now in
    let point : c.in_ok-point.point ≡ key = c.in_ok-point.ensures.value in
    let new = (c.get_mut.follows.lender c.change_in.new.versions).entries in
    let value : Option (List ℕ) = new_value c.args.mutation.now (newest_of c.in-Some.versions.now) in
    on_ok-both c.change_in.result _ _ _
    (λ put noted. live-put c.args.version key value c.in-Some.versions.now c.change_in.new.versions old new
    c.args.self.now.live.keys c.change_in.new.live.keys (there here) (sym (ap listed (was here))) put
    (subst (λ (it : Point). HaveNoted it (is_some (newest_of c.in-Some.versions.now)) (is_some value)
    c.args.self.now.live.keys c.change_in.new.live.keys) point noted)
    c.requires.live)
    (on_ok-answers c.change_in.result _ c.change_in.ensures.put) c.change_in.ensures.live

pub put_first-requires-clause-legal : goal.put_first-requires-clause-legal
put_first-requires-clause-legal c = ap is_key c.in_ok-point.ensures.value ∙ c.at.ensures.legal
