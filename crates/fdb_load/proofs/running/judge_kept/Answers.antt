use Rattle.std.proofs.Common.{rules, ◌≡◌}
use Rattle.fdb_load.proofs.JudgingLemmas.{shown}
use Rattle.fdb_load.proofs.running.judge_kept.Goals as goal

pub returns : goal.returns
returns g c =
    let told = c.judge.ensures in
    let same : c.as_slice.result.now ≡ c.args.record.now.front = search rules in
    record {
      report = shown c.args.config.now.resolver_splits c.as_slice.result.now c.committed.result c.pairs.result.now
          c.args.asked.now c.args.played.now.placed.items c.judge.result (search rules) (
            rw same c.committed.ensures.reached,
            rw (same, c.committed.ensures.value, c.requires.config) c.pairs.ensures.serial,
          )
          told.serial told.pairs told.acknowledged told.entries told.workload;
    }
