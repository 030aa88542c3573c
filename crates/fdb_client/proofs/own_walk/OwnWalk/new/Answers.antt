use Rattle.std.proofs.Common.{◌≡◌, rules, None}
use Rattle.std.specs.Option.{option_copied}
use Rattle.fdb_mutations.proofs.Exports.{forward-bounds}
use Rattle.fdb_client.specs.OwnWalk.{in_order, left_of}
use Rattle.fdb_client.proofs.OwnWalkLemmas.{at-start, walk-start}
use Rattle.fdb_client.proofs.own_walk.OwnWalk.new.Goals as goal

pub range-rest-requires : goal.range-rest-requires
range-rest-requires c =
    rw (c.begin_text.ensures, c.end_text.ensures.value)
    (forward-bounds c.args.range.now.begin c.args.range.now.end c.end_text.ensures.order)

pub returns-clause-at : goal.returns-clause-at
returns-clause-at c =
    let own = c.args.own.now in
    let range = c.args.range.now in
    let reverse = c.args.reverse in
    let left : left_of reverse c.step.new.self ≡ range = search rules in
    let none : option_copied c.step.new.self.last ≡ None = search rules in
    at-start own range reverse c.step.new.self (in_order reverse c.range-rest.result) left c.step.ensures.to_come none
    (walk-start own range reverse c.begin_text.result.now c.end_text.result.now c.range-rest.result
    c.begin_text.ensures c.end_text.ensures.value (c.range-rest.ensures.between tt) c.range-rest.ensures.ordered)
