use Rattle.fdb_client.proofs.ClearedLemmas.{cleared-range}
use Rattle.fdb_client.proofs.buffering.buffer.Goals as goal

pub returns-in-Range-clause-cleared : goal.returns-in-Range-clause-cleared
returns-in-Range-clause-cleared c =
    cleared-range c.clear_range.result c.args.own.now c.clear_range.new.own c.in-Range.range.now c.requires.cleared
    c.clear_range.ensures.kept c.clear_range.ensures.cleared c.clear_range.ensures.kept_err
    c.clear_range.ensures.cleared_err
