-- What the machine does at each step.
use Rattle.std.specs.Prelude.{Bool, true, false, Result, Ok, Err}
use Rattle.fdb_keys.specs.declared.refusal.Refusal.{Refusal}
use Rattle.fdb_keys.specs.declared.refusal.Refusal.TheVariants.{NoMemory}
use Rattle.fdb_client.specs.declared.program.Op.TheVariants as op
use Rattle.fdb_machine.specs.machine.Machine.{Machine, Transition}
use Rattle.fdb_machine.specs.machine.ClientSteps.{reads, writes, adds_read, adds_write, submits}
use Rattle.fdb_machine.specs.machine.GrvProxySteps.{asks, grants}
use Rattle.fdb_machine.specs.machine.CommitProxySteps.{seals, receives, decides, reports, answers}
use Rattle.fdb_machine.specs.machine.Roles.{FromResolver, FromLog}
use Rattle.fdb_machine.specs.machine.RoleSteps.{resolves, pushes, pulls, forgets, pops}
use Rattle.fdb_machine.specs.machine.SequencerSteps.{moves, sets_window}
use Rattle.fdb_machine.specs.machine.AnyStep.{Step}
use Rattle.fdb_machine.specs.declared.step.AnyStep.TheVariants as step
use Rattle.fdb_machine.specs.declared.step.Answered.{Answered}

abbrev pub next : Machine → Step → Result Transition Refusal
next m (step.Ask session proxy) = asks m session proxy
next m (step.Grant proxy) = grants m proxy
next m (step.Get session key snapshot) = reads m session (op.Get key snapshot)
next m (step.GetRange session range limit is_reverse snapshot) =
    reads m session (op.Range range limit is_reverse snapshot)
next m (step.Write session mutation) = writes m session mutation
next m (step.AddRead session range) = adds_read m session range
next m (step.AddWrite session range) = adds_write m session range
next m (step.Submit session proxy) = submits m session proxy
next m (step.Seal proxy advance) = seals m proxy advance
next m (step.Resolve entry resolver) = resolves m entry resolver
next m (step.Verdict entry resolver) = receives m entry (FromResolver resolver)
next m (step.Decide proxy) = decides m proxy
next m (step.Push entry log) = pushes m entry log
next m (step.Logged entry log) = receives m entry (FromLog log)
next m (step.Report proxy) = reports m proxy
next m (step.Answer proxy) = answers m proxy
next m (step.Pull shard limit) = pulls m shard limit
next m (step.Forget shard version) = forgets m shard version
next m (step.Pop shard) = pops m shard
next m (step.Move range to) = moves m range to
next m (step.Window window) = sets_window m window

-- what a transition answers
abbrev pub answer_of : Result Transition Refusal → Result Answered Refusal
answer_of (Ok transition) = Ok transition.answer
answer_of (Err refusal) = Err refusal

-- the machine after a transition; a refused step changes nothing
abbrev pub after : Machine → Result Transition Refusal → Machine
after m (Ok transition) = transition.next
after m (Err refusal) = m

-- memory ran out in the step
abbrev pub ran_out : Result Answered Refusal → Bool
ran_out (Ok given) = false
ran_out (Err NoMemory) = true
ran_out (Err why) = false

-- one of two, by a test
abbrev pub ByTest : Bool → Type 0 → Type 0 → Type 0
ByTest true P Q = P
ByTest false P Q = Q
