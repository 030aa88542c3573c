use Rattle.std.proofs.Common.{◌≡◌, ◌∙◌, ◌<◌, refl, sym, ap, List, length, take, Some, slice_get}
use Rattle.std.proofs.Common.{rules, arith}
use Rattle.std.proofs.lemmas.Option.{slice_get_read}
use Rattle.fdb_client.specs.declared.program.Op.{Op}
use Rattle.fdb_client.specs.declared.program.Reply.{Reply}
use Rattle.fdb_client.specs.Programs.{program, copy, decided_ranges}
use Rattle.fdb_client.proofs.AnsweredLemmas.{answered-at, taken-through}
use Rattle.fdb_client.proofs.RequestLemmas.{AreSettled, settled-read, settled-unread, read-next}
use Rattle.fdb_client.proofs.request.read.Goals as goal
use Rattle.fdb_client.proofs.request.read.Goals.{then-is_ordinary_read+in_ok-add_all_settled, else-is_ordinary_read}

pub add_read-requires : goal.add_read-requires
add_read-requires c ordinary =
    let ops = c.args.ops.now in
    let number = c.loop-number.number in
    let done = c.index-ops-number.result in
    let within : number < length ops = search rules in
    let there : slice_get ops number ≡ Some done = slice_get_read ops (length ops) number done refl within
    c.index-ops-number.is in (
      copy c.requires.0 (program (take number ops)),
      answered-at c.requires.0 ops number done there c.requires.1 ordinary,
    )

pub loop-number-preserved : goal.loop-number-preserved
loop-number-preserved c =
    let ops = c.args.ops.now in
    let number = c.loop-number.number in
    let done = c.index-ops-number.result in
    let now = c.if-is_ordinary_read in
    let within : number < length ops = search rules in
    let there : slice_get ops number ≡ Some done = slice_get_read ops (length ops) number done refl within
    c.index-ops-number.is in
    let settled : AreSettled ops number done now.decided now.settled = elim now.branch [
      | then-is_ordinary_read+in_ok-add_all_settled w ↦
          rw (w.decided-is, w.settled-is)
          (settled-read ops number done _
          (w.in_ok-add_all_settled.ensures (take c.loop-number.settled ops) c.loop-number.invariant.2
          ∙ ap (λ (all : List (Op × Reply)). decided_ranges (program all))
          (taken-through ops c.loop-number.settled number c.loop-number.invariant.0)))
      | else-is_ordinary_read w ↦
          rw (w.decided-is, w.settled-is)
          (settled-unread ops number done c.loop-number.decided c.loop-number.settled
          (sym c.is_ordinary_read.ensures ∙ w.if-is_ordinary_read.false) c.loop-number.invariant.0
          c.loop-number.invariant.2)
    ] in
    let before = settled.0 in (
      omega (arith, before),
      c.in_ok-add_read.ensures (program (take now.settled ops)) settled.1
          ∙ settled.2 c.loop-number.reads
          ∙ read-next ops number done there c.loop-number.reads c.loop-number.invariant.1,
      settled.1,
    )
