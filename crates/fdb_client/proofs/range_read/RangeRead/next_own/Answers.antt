use Rattle.std.proofs.Common.{◌≡◌, ◌∙◌, sym, ap, subst, rules, Bor, Option, Some, None}
use Rattle.std.specs.Option.{option_copied}
use Rattle.fdb_keys.specs.Points.{Point}
use Rattle.fdb_client.specs.declared.left.Left.{Left}
use Rattle.fdb_client.specs.OwnWalk.{AreEntriesOf, in_order, left_of, with_next}
use Rattle.fdb_client.proofs.OwnWalkLemmas.{later-first, none-first, own-first}
use Rattle.fdb_client.proofs.range_read.RangeRead.next_own.Goals as goal
use Rattle.fdb_client.proofs.range_read.RangeRead.next_own.Goals.{in_default-via-in-Some+else-is_ahead}
use Rattle.fdb_client.proofs.range_read.RangeRead.next_own.Goals.{in_default-via-in_default}

pub returns-in-Some-clause-first : goal.returns-in-Some-clause-first
returns-in-Some-clause-first c =
    let own = c.args.self.now.own.now in
    let reverse = c.args.self.now.reverse in
    let walk = c.args.walk.now in
    let entry : Point × Left = (c.in-Some.text.now, c.in-Some.left.now) in
    let some : walk.next ≡ Some (c.in-Some.text, c.in-Some.left) = search rules in
    let are = subst (AreEntriesOf own (left_of reverse walk) reverse)
    (ap (λ (next : Option (Bor Point × Bor Left)). with_next next (in_order reverse walk.rest)) some)
    c.requires.at.entries in
    own-first own (left_of reverse walk) reverse (option_copied c.args.next) entry (in_order reverse walk.rest)
    c.requires.next are (sym c.is_ahead.ensures ∙ c.if-is_ahead.true)

pub returns-in_default-clause-first : goal.returns-in_default-clause-first
returns-in_default-clause-first c =
    let own = c.args.self.now.own.now in
    let reverse = c.args.self.now.reverse in
    let walk = c.args.walk.now in
    elim c.in_default.branch [
      | in_default-via-in-Some+else-is_ahead w ↦
          let entry : Point × Left = (w.in-Some.text.now, w.in-Some.left.now) in
          let some : walk.next ≡ Some (w.in-Some.text, w.in-Some.left) = search rules in
          let are = subst (AreEntriesOf own (left_of reverse walk) reverse)
          (ap (λ (next : Option (Bor Point × Bor Left)). with_next next (in_order reverse walk.rest)) some)
          c.requires.at.entries in
          later-first own (left_of reverse walk) reverse (option_copied c.args.next) entry (in_order reverse walk.rest)
          c.requires.next are (sym w.is_ahead.ensures ∙ w.if-is_ahead.false)
      | in_default-via-in_default w ↦
          let none : walk.next ≡ None = search rules in
          let are = subst (AreEntriesOf own (left_of reverse walk) reverse)
          (ap (λ (next : Option (Bor Point × Bor Left)). with_next next (in_order reverse walk.rest)) none)
          c.requires.at.entries in
          none-first own (left_of reverse walk) reverse (option_copied c.args.next) c.requires.next are
    ]
