-- Which sessions did something before.
use Rattle.std.specs.Prelude.{◌≡◌, true, List}
use Rattle.std.specs.FinMap.{get}
use Rattle.std.specs.List.{AllByRecursion}
use Rattle.std.specs.Option.{is_some}
use Rattle.fdb_proxy.specs.Askers.{Asker}
use Rattle.fdb_client.specs.declared.program.Transcript.{Transcript}
use Rattle.fdb_machine.specs.machine.Sessions.{Sessions}

-- each of those who ask did something before
abbrev pub AreKnown : Sessions → List Asker → Type 0
AreKnown sessions askers = AllByRecursion (λ (asker : Asker). is_some (get sessions asker.0) ≡ true) askers

-- and so did the session of each of these transactions
abbrev pub HaveActed : Sessions → List Transcript → Type 0
HaveActed sessions transcripts =
    AllByRecursion (λ (transcript : Transcript). is_some (get sessions transcript.id.session) ≡ true) transcripts
