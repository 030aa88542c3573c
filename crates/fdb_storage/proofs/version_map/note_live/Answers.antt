use Rattle.std.proofs.Common.{◌≡◌, ◌∙◌, sym, ap, refl, Bool, true, false, not, is_some, rules}
use mathlib.Core.Bool.{beq}
use Rattle.fdb_storage.specs.VersionLists.{newest_of}
use Rattle.fdb_storage.proofs.LiveLemmas.{noted-turned}
use Rattle.fdb_storage.proofs.version_map.note_live.Goals as goal

the_other : (a b : Bool) → beq a b ≡ false → b ≡ not a
the_other true true apart = cc
the_other true false apart = refl
the_other false true apart = refl
the_other false false apart = cc

pub returns-then-stood : goal.returns-then-stood
returns-then-stood c =
    let stood : is_some (newest_of c.args.versions.now) ≡ true = search rules in
    let stands : is_some c.args.value.now ≡ false =
    sym c.is_some.ensures
    ∙ the_other c.is_some-stood.result c.is_some.result c.if-stood-is_some.false
    ∙ ap not c.if-stood.true in
    noted-turned c.args.key.now _ _ false c.args.live.now.keys c.remove.new.self.keys stood stands
    c.remove.ensures.updates.0

pub returns : goal.returns
returns c =
    let stood : is_some (newest_of c.args.versions.now) ≡ false = search rules in
    let stands : is_some c.args.value.now ≡ true =
    sym c.is_some.ensures
    ∙ the_other c.is_some-stood.result c.is_some.result c.if-stood-is_some.false
    ∙ ap not c.if-stood.false in
    noted-turned c.args.key.now _ _ true c.args.live.now.keys c.insert.new.self.keys stood stands
    (λ x. search rules)
