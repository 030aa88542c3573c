use Rattle.std.proofs.Common.{◌≡◌, ◌∙◌, ◌<◌, ◌++◌, refl, sym, ap, subst, List, length, take, Some, slice_get}
use Rattle.std.proofs.Common.{rules, arith}
use Rattle.std.specs.List.{slice_range}
use Rattle.std.proofs.lemmas.Bool.{both_ways}
use Rattle.std.proofs.lemmas.List.{take_all}
use Rattle.std.proofs.lemmas.Option.{slice_get_read}
use Rattle.fdb_client.specs.declared.program.Op.{Op}
use Rattle.fdb_client.specs.declared.program.Reply.{Reply}
use Rattle.fdb_client.specs.Programs.{program}
use Rattle.fdb_client.specs.TxnState.{AreWritesOf}
use Rattle.fdb_client.proofs.AnsweredLemmas.{AnsweredSoFar, IsReady, ready-read, ready-unread, answered-next}
use Rattle.fdb_client.proofs.AnsweredLemmas.{answered-at, taken-through}
use Rattle.fdb_client.proofs.answered.is_answered_on.Goals as goal
use Rattle.fdb_client.proofs.answered.is_answered_on.Goals.{After-is_answered}
use Rattle.fdb_client.proofs.answered.is_answered_on.Goals.{then-is_ordinary_read+in_ok-add_all, else-is_ordinary_read}

-- the operation with the number
there : (c : After-is_answered)
    → slice_get c.args.transcript.now.ops c.loop-number.number ≡ Some c.index-ops-number.result
there c =
    let items = c.as_slice-ops.result.now in
    let number = c.loop-number.number in
    let done = c.index-ops-number.result in
    let within : number < length items = search rules in
    subst (λ (list : List (Op × Reply)). slice_get list number ≡ Some done) c.as_slice-ops.ensures
    (slice_get_read items (length items) number done refl within c.index-ops-number.is)

ready : (c : After-is_answered) → IsReady c.args.map.now c.args.transcript.now.ops c.loop-number.number
    c.index-ops-number.result c.if-is_ordinary_read.written.own c.if-is_ordinary_read.written.writes
    c.if-is_ordinary_read.added
ready c =
    let map = c.args.map.now in
    let ops = c.args.transcript.now.ops in
    let loop = c.loop-number in
    let number = loop.number in
    let done = c.index-ops-number.result in
    elim c.if-is_ordinary_read.branch [
      | then-is_ordinary_read+in_ok-add_all w ↦
          let after = w.add_all.new.self in
          rw (w.written-is, w.added-is)
          (ready-read map ops number done after.own after.writes
          (subst (λ (all : List (Op × Reply)). AreWritesOf (program all) after.own after.writes)
          (ap (λ (items : List (Op × Reply)). take loop.added ops ++ slice_range items loop.added number)
          c.as_slice-ops.ensures ∙ taken-through ops loop.added number loop.invariant.0)
          (w.in_ok-add_all.ensures (take loop.added ops) loop.invariant.1)))
      | else-is_ordinary_read w ↦
          rw (w.written-is, w.added-is)
          (ready-unread map ops number done loop.written.own loop.written.writes loop.added
          (sym c.is_ordinary_read.ensures ∙ w.if-is_ordinary_read.false) loop.invariant.0 loop.invariant.1)
    ]

pub returns-then-not-branch : goal.returns-then-not-branch
returns-then-not-branch c =
    let at = (goal.at.returns-then-not-branch c).After-is_answered in
    let ops = c.args.transcript.now.ops in
    let number = c.loop-number.number in
    let its = ready at in
    let told = c.in_ok-is_answered.ensures (program (take c.if-is_ordinary_read.added ops)) its.1 in (
      λ never. absurd (both_ways _ refl never),
      λ answered. absurd (both_ways _ c.if-not-branch.true
          (told.1 (its.2.1 (answered-at c.args.map.now ops number c.index-ops-number.result (there at) answered)))),
    )

pub loop-number-preserved : goal.loop-number-preserved
loop-number-preserved c =
    let at = (goal.at.loop-number-preserved c).After-is_answered in
    let ops = c.args.transcript.now.ops in
    let number = c.loop-number.number in
    let its = ready at in
    let before = its.0 in
    let told = c.in_ok-is_answered.ensures (program (take c.if-is_ordinary_read.added ops)) its.1 in (
      omega (arith, before),
      its.1,
      answered-next c.args.map.now ops number c.index-ops-number.result (there at)
          (its.2.0 (told.0 c.if-not-branch.false)) c.loop-number.invariant.2,
    )

pub returns : goal.returns
returns c =
    let ops = c.args.transcript.now.ops in
    let count = ap (λ (list : List (Op × Reply)). length list) c.as_slice-ops.ensures in
    let all : take c.loop-number.number ops ≡ ops = take_all c.loop-number.number ops
    (omega (arith, count, c.loop-number-test.false)) in (
      λ same. subst (AnsweredSoFar c.args.map.now) all c.loop-number.invariant.2,
      λ answered. refl,
    )
