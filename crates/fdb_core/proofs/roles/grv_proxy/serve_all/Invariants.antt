use Rattle.std.proofs.Common.{◌≡◌, fold, take}
use Rattle.fdb_proxy.specs.Askers.{Asker}
use Rattle.fdb_machine.specs.machine.Sessions.{Sessions, serve}
use Rattle.fdb_machine.specs.machine.Acting.{AreKnown}
use Rattle.fdb_core.proofs.roles.grv_proxy.serve_all.Given as goal

abbrev pub invariant-loop-session : goal.invariant-loop-session
invariant-loop-session l =
    (l.sessions ≡ fold (λ (served : Sessions) (asker : Asker). serve asker.1 served asker.0) l.initial.sessions
    (take l.session-index l.granted))
    × (AreKnown l.initial.sessions l.granted → AreKnown l.sessions l.granted)
