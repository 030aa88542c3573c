use Rattle.fdb_check.proofs.standing.is_run_on.Goals as goal

pub is_request_of-requires : goal.is_request_of-requires
is_request_of-requires c = (c.args.map.now, c.in_ok-is_answered_on.ensures.0 c.if-not-branch.false)
