-- How the code's enums are seen by the machine.
use Rattle.fdb_core.specs.declared.roles.commit_proxy.Sender.{Sender as CodeSender}
use Rattle.fdb_core.specs.declared.roles.commit_proxy.Sender.TheVariants as code_sender
use Rattle.fdb_core.specs.declared.roles.client.session.SessionState.{SessionState as CodeState}
use Rattle.fdb_core.specs.declared.roles.client.session.SessionState.TheVariants as code_state
use Rattle.fdb_machine.specs.machine.Sessions.{SessionState, Idle as Free, Asking, Open, Waiting}
use Rattle.fdb_machine.specs.machine.Roles.{Sender, FromResolver, FromLog}

abbrev pub sender_of : CodeSender → Sender
sender_of (code_sender.Resolver resolver) = FromResolver resolver
sender_of (code_sender.Log log) = FromLog log

abbrev pub state_of : CodeState → SessionState
state_of code_state.Idle = Free
state_of code_state.Asking = Asking
state_of (code_state.Open txn) = Open txn
state_of code_state.Waiting = Waiting
