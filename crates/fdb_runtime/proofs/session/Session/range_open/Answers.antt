use Rattle.std.proofs.Common.{ℕ, List, Ok, Err}
use Rattle.fdb_keys.specs.Points.{Point}
use Rattle.fdb_client.specs.Programs.{program}
use Rattle.fdb_sections.specs.Reading.{scans_unreadable}
use Rattle.fdb_sections.specs.ShardViews.{run_of}
use Rattle.fdb_runtime.proofs.UnreadableLemmas.{range-told, told-as}
use Rattle.fdb_runtime.proofs.session.Session.range_open.Goals as goal

pub returns-in-Ok-clause-told : goal.returns-in-Ok-clause-told
returns-in-Ok-clause-told g c =
    range-told g.B.DatabaseName.config c.self.inside.client.session c.args.self.now
    (c.in_ok-version.version, c.in_ok-version.front) c.new-shards.result.version c.new-shards.result.front.now
    (Ok c.in-Ok.pairs) c.args.range.now c.args.limit c.args.reverse c.self.view_is c.in_ok-version.ensures.answers
    c.new-shards.ensures.version c.new-shards.ensures.front c.in-Ok.ensures.fault

pub returns-clause-told : goal.returns-clause-told
returns-clause-told g c =
    told-as (List (Point × List ℕ)) c.args.self.now.current c.in-Err.why c.range_refusal.result
    (λ transcript. scans_unreadable (run_of g.B.DatabaseName.config transcript.read_version c.args.self.now.front)
    (program transcript.ops) c.args.range.now c.args.limit c.args.reverse) c.range_refusal.ensures.told
    (range-told {T = List (Point × List ℕ)} g.B.DatabaseName.config c.self.inside.client.session c.args.self.now
    (c.in_ok-version.version, c.in_ok-version.front) c.new-shards.result.version c.new-shards.result.front.now
    (Err c.in-Err.why) c.args.range.now c.args.limit c.args.reverse c.self.view_is c.in_ok-version.ensures.answers
    c.new-shards.ensures.version c.new-shards.ensures.front c.in-Err.ensures.fault)
