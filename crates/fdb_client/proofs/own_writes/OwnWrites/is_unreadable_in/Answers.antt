use Rattle.std.proofs.Common.{◌≡◌, ◌∙◌, sym, ap, rules, true, false, [], ◌∷◌}
use Rattle.fdb_keys.specs.Points.{Point}
use Rattle.fdb_mutations.proofs.Exports.{forward-bounds}
use Rattle.fdb_client.specs.declared.left.Left.{Left}
use Rattle.fdb_client.specs.OwnWrites.{is_unreadable}
use Rattle.fdb_client.proofs.OwnWalkLemmas.{walk-start}
use Rattle.fdb_client.proofs.UnreadableLemmas.{has_unreadable, says-unreadable, unreadable-first}
use Rattle.fdb_client.proofs.own_writes.OwnWrites.is_unreadable_in.Goals as goal

pub range-text-items-requires : goal.range-text-items-requires
range-text-items-requires c =
    rw (c.begin_text.ensures, c.end_text.ensures.value)
    (forward-bounds c.args.range.now.begin c.args.range.now.end c.end_text.ensures.order)

pub returns-then-is_unreadable : goal.returns-then-is_unreadable
returns-then-is_unreadable c =
    let own = c.args.self.now in
    let range = c.args.range.now in
    let items : c.into_iter-text-iterator.result ≡ c.range-text-items.result = search rules in
    let entry : Point × Left = (c.in-Some._text.now, c.in-Some.entry.now) in
    let steps : c.loop-text._text-iterator ≡ entry ∷ c.next.new.self = search rules in
    let is : is_unreadable entry.1 ≡ true = search rules in
    says-unreadable own range c.range-text-items.result
    (walk-start own range false c.begin_text.result.now c.end_text.result.now c.range-text-items.result
    c.begin_text.ensures c.end_text.ensures.value (c.range-text-items.ensures.between tt)
    c.range-text-items.ensures.ordered) true
    (sym (ap has_unreadable items) ∙ sym c.loop-text.invariant ∙ ap has_unreadable steps
    ∙ unreadable-first entry c.next.new.self is)

pub returns : goal.returns
returns c =
    let own = c.args.self.now in
    let range = c.args.range.now in
    let items : c.into_iter-text-iterator.result ≡ c.range-text-items.result = search rules in
    let none : c.loop-text._text-iterator ≡ [] = search rules in
    says-unreadable own range c.range-text-items.result
    (walk-start own range false c.begin_text.result.now c.end_text.result.now c.range-text-items.result
    c.begin_text.ensures c.end_text.ensures.value (c.range-text-items.ensures.between tt)
    c.range-text-items.ensures.ordered) false
    (sym (ap has_unreadable items) ∙ sym c.loop-text.invariant ∙ ap has_unreadable none)
