use Rattle.std.proofs.Common.{◌≡◌, ◌∙◌, ap, subst, false, List, [], ◌∷◌, rules}
use Rattle.fdb_keys.specs.Ranges.{Range, in_set}
use Rattle.fdb_mutations.proofs.Exports.{forward-bounds}
use Rattle.fdb_client.specs.declared.left.Left.{Left}
use Rattle.fdb_keys.specs.Points.{Point}
use Rattle.fdb_client.proofs.OwnWalkLemmas.{walk-start}
use Rattle.fdb_client.proofs.UndecidedLemmas.{FoundSoFar, found-start, found-more, found-all}
use Rattle.fdb_client.proofs.own_writes.OwnWrites.push_undecided.Goals as goal

pub range-text-items-requires : goal.range-text-items-requires
range-text-items-requires c =
    rw (c.begin_text.ensures, c.end_text.ensures.value)
    (forward-bounds c.args.range.now.begin c.args.range.now.end c.end_text.ensures.order)

pub loop-text-init : goal.loop-text-init
loop-text-init c =
    let own = c.args.self.now in
    let range = c.args.range.now in
    let left : c.in_ok-left.left ≡ range = search rules in
    let items : c.into_iter-text-iterator.result ≡ c.range-text-items.result = search rules in
    rw (left, items)
    (found-start own range c.args.parts.now.items c.range-text-items.result
    (walk-start own range false c.begin_text.result.now c.end_text.result.now c.range-text-items.result
    c.begin_text.ensures c.end_text.ensures.value (c.range-text-items.ensures.between tt)
    c.range-text-items.ensures.ordered))

pub loop-text-preserved : goal.loop-text-preserved
loop-text-preserved c =
    let own = c.args.self.now in
    let entry : Point × Left = (c.in-Some.text.now, c.in-Some.entry.now) in
    let steps : c.loop-text.text-iterator ≡ entry ∷ c.next.new.self = search rules in
    let so_far = subst (λ (entries : List (Point × Left)). FoundSoFar own c.args.range.now c.args.parts.now.items
    c.loop-text.parts.items c.loop-text.left entries) steps c.loop-text.invariant in
    let more = found-more own c.args.range.now c.args.parts.now.items c.loop-text.parts.items c.loop-text.left
    c.requires.uncleared entry c.next.new.self so_far in
    search rules

pub returns : goal.returns
returns c = λ x.
    let own = c.args.self.now in
    let none : c.loop-text.text-iterator ≡ [] = search rules in
    let so_far = subst (λ (entries : List (Point × Left)). FoundSoFar own c.args.range.now c.args.parts.now.items
    c.loop-text.parts.items c.loop-text.left entries) none c.loop-text.invariant in
    ap (λ (set : List Range). in_set set x) c.in_ok-push.ensures.items
    ∙ found-all own c.args.range.now c.args.parts.now.items c.loop-text.parts.items c.loop-text.left
    c.requires.uncleared so_far x
