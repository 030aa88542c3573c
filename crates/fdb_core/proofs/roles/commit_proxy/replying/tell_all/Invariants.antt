use Rattle.std.proofs.Common.{◌≡◌, take}
use Rattle.fdb_machine.specs.machine.Sessions.{tell_all}
use Rattle.fdb_machine.specs.machine.Acting.{HaveActed}
use Rattle.fdb_core.proofs.roles.commit_proxy.replying.tell_all.Given as goal

abbrev pub invariant-loop-transcript : goal.invariant-loop-transcript
invariant-loop-transcript l =
    (l.sessions ≡ tell_all (take l.transcript-index l.transcripts) l.initial.sessions)
    × HaveActed l.sessions l.transcripts
