use Rattle.fdb_machine.proofs.headline.FailingLaws.{failed_roles_stay_failed, none_fails_with_memory}
use Rattle.fdb_machine.proofs.headline.FailingLaws.{roles_fail_for_memory}
use Rattle.fdb_machine.proofs.laws.roles_fail_for_memory_alone_and_stay_failed.Goals as goal

pub returns : goal.returns
returns c =
    record { steps = roles_fail_for_memory; stay = failed_roles_stay_failed; traces = none_fails_with_memory }
