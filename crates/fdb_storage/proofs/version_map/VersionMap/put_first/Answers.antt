use Rattle.std.proofs.Common.{◌≡◌, ◌∙◌, sym, ap, refl, subst, cond, ℕ, List, [], Option, Some, None, is_some, true}
use Rattle.std.proofs.Common.{false, rules}
use Rattle.std.specs.BTreeMap.{is_at}
use Rattle.std.specs.Cmp.Lexicographic.{slice_cmp}
use Rattle.std.specs.Ordering.{nat_cmp}
use Rattle.std.proofs.lemmas.Bool.{both_ways}
use Rattle.fdb_keys.specs.Points.{Point}
use Rattle.fdb_storage.specs.VersionLists.{value_up_to}
use Rattle.fdb_storage.specs.Changes.{put_at, HaveChanged}
use Rattle.fdb_storage.specs.VersionMaps.{found, listed}
use Rattle.fdb_storage.proofs.LiveLemmas.{live-put, noted-turned}
use Rattle.fdb_storage.proofs.VersionsLemmas.{changed-put, changed-absent, put-parts}
use Rattle.fdb_storage.proofs.version_map.VersionMap.put_first.Goals as goal

is_none : (value : Option (List ℕ)) → is_some value ≡ false → value ≡ None
is_none None is = refl
is_none (Some value) is = absurd (both_ways true is refl)

pub returns-in_ok-insert-2-clause-changed : goal.returns-in_ok-insert-2-clause-changed
returns-in_ok-insert-2-clause-changed c =
    let old = c.args.self.now.keys.entries in
    let key = c.args.key in
    let there : (x : Point) → found c.insert-then-is_some.new.self.entries x
    ≡ cond (is_at (slice_cmp nat_cmp key) x) (Some c.put.new.self) (found old x)
    = λ x. search rules in
    changed-put c.args.version key c.args.value [] c.put.new.self old c.insert-then-is_some.new.self.entries there
    (sym (ap listed c.requires.absent))
    (put-parts c.args.version c.args.value [] c.put.new.self
    (λ v sooner. c.in_ok-put.ensures.before v sooner ∙ ap (value_up_to v) c.new-versions.ensures)
    c.in_ok-put.ensures.after c.in_ok-put.ensures.up_to)
    c.requires.ended c.requires.legal_keys c.requires.legal

pub returns-in_ok-insert-2-clause-live : goal.returns-in_ok-insert-2-clause-live
returns-in_ok-insert-2-clause-live c =
    let old = c.args.self.now.keys.entries in
    let live = c.args.self.now.live.keys in
    let key = c.args.key in
    let there : (x : Point) → found c.insert-then-is_some.new.self.entries x
    ≡ cond (is_at (slice_cmp nat_cmp key) x) (Some c.put.new.self) (found old x)
    = λ x. search rules in
    live-put c.args.version key c.args.value [] c.put.new.self old c.insert-then-is_some.new.self.entries live
    c.insert.new.self.keys there
    (sym (ap listed c.requires.absent))
    (put-parts c.args.version c.args.value [] c.put.new.self
    (λ v sooner. c.in_ok-put.ensures.before v sooner ∙ ap (value_up_to v) c.new-versions.ensures)
    c.in_ok-put.ensures.after c.in_ok-put.ensures.up_to)
    (noted-turned key false (is_some c.args.value) true live c.insert.new.self.keys refl
    (sym c.is_some.ensures ∙ c.if-is_some.true) (λ x. search rules))
    c.requires.live

pub returns-else-is_some-clause-changed : goal.returns-else-is_some-clause-changed
returns-else-is_some-clause-changed c =
    let old = c.args.self.now.keys.entries in
    let key = c.args.key in
    let none : c.args.value ≡ None = is_none c.args.value (sym c.is_some.ensures ∙ c.if-is_some.false) in
    subst (λ (value : Option (List ℕ)). HaveChanged c.args.version (put_at key value) old old) (sym none)
    (changed-absent c.args.version key old old c.requires.absent refl c.requires.ended c.requires.legal_keys)
