use Rattle.std.proofs.Common.{◌≡◌, ◌<◌, refl, sym, subst, List, length, ◌++◌, take, Some, slice_get, rules}
use Rattle.std.proofs.lemmas.Option.{slice_get_read}
use Rattle.fdb_client.specs.declared.program.Op.{Op}
use Rattle.fdb_client.specs.Programs.{program}
use Rattle.fdb_client.specs.TxnState.{AreWritesOf}
use Rattle.fdb_client.proofs.AnsweredLemmas.{program-after}
use Rattle.fdb_client.proofs.answered.Written.add_all.Goals as goal

pub add-requires : goal.add-requires
add-requires c = (
  program (c.requires.0 ++ take c.loop-op.op-index c.args.ops.now),
  c.loop-op.invariant c.requires.0 c.requires.1,
)

pub loop-op-preserved : goal.loop-op-preserved
loop-op-preserved c = λ earlier are.
    let ops = c.args.ops.now in
    let index = c.loop-op.op-index in
    let done = c.loop-op-item.result in
    let within : index < length ops = search rules in
    let there : slice_get ops index ≡ Some done = slice_get_read ops (length ops) index done refl within
    c.loop-op-item.is in
    let after = c.add.new.self in
    subst (λ (all : List Op). AreWritesOf all after.own after.writes) (sym (program-after earlier ops index done there))
    (c.in_ok-add.ensures (program (earlier ++ take index ops)) (c.loop-op.invariant earlier are))
