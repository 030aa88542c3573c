use Rattle.std.proofs.Common.{◌≤◌, ◌<◌, length, rules}
use Rattle.fdb_proxy.proofs.DecidingLemmas.{verdict-taken, verdict-past}
use Rattle.fdb_proxy.proofs.deciding.take_one.Goals as goal

pub returns-then-at-len : goal.returns-then-at-len
returns-then-at-len c version count verdicts said is =
    let inside : c.args.place < length c.args.outcomes.now = search rules in
    verdict-taken version count verdicts said c.args.place c.args.verdict _ c.args.outcomes.now c.as_slice.result.now
    c.set.new.self c.worse-outcome.result is c.as_slice.ensures inside c.worse-outcome.ensures c.set.ensures

pub returns-else-at-len : goal.returns-else-at-len
returns-else-at-len c version count verdicts said is =
    let beyond : length c.args.outcomes.now ≤ c.args.place = search rules in
    verdict-past version count verdicts said c.args.place c.args.verdict c.args.outcomes.now is beyond
