use Rattle.std.proofs.Common.{arith}
use Rattle.fdb_proxy.specs.declared.parting.Kind.TheVariants.{Reads}
use Rattle.fdb_proxy.specs.Held.{EndsWithItem, with_parts, items_at}
use Rattle.fdb_proxy.proofs.HeldLemmas.{place-whole, ends-at_first, nothing_held}
use Rattle.fdb_proxy.proofs.parting.hold_place.Goals as goal

pub returns-clause-answers : goal.returns-clause-answers
returns-clause-answers c i within below =
    let place = c.args.place in
    let spread = c.args.spread in
    let before = items_at c.args.lists.now i in
    let reads : EndsWithItem place spread.reading (with_parts Reads spread.reads i nothing_held) before
    (items_at c.hold_all.new.lists i) =
    c.in_ok-hold_all.ensures.answers i nothing_held before within below (ends-at_first place spread.reading before) in
    let count = c.in_ok-hold_all.ensures.count in
    place-whole place spread i before _ below
    (c.in_ok-hold_all-2.ensures.answers i (with_parts Reads spread.reads i nothing_held) before
    (omega (arith, within, count)) below reads)
