-- A session that may have submitted a transaction which it isn't told of yet.
use Rattle.std.specs.Prelude.{◌≡◌, ◌⊎◌, false, List, Option, Some, None, IfSome, Result, Ok, Err, if◌then◌else◌}
use Rattle.std.specs.Option.{is_none}
use Rattle.fdb_keys.specs.Points.{Point}
use Rattle.fdb_keys.specs.declared.refusal.Refusal.{Refusal}
use Rattle.fdb_keys.specs.declared.refusal.Refusal.TheVariants.{NoMemory, WrongState}
use Rattle.fdb_client.specs.Programs.{is_read_only, commit_request_of}
use Rattle.fdb_client.specs.declared.program.Transcript.{Transcript}
use Rattle.fdb_proxy.specs.declared.config.Config.{Config}
use Rattle.fdb_sections.specs.declared.client.Asked.{Asked}
use Rattle.fdb_sections.specs.declared.client.Asked.TheVariants as asked
use Rattle.fdb_sections.specs.Commits.{open_fault, HasReceipt}
use Rattle.fdb_sections.specs.Sessions.{Session, IsOpenAt, with_current}

pub record Client : Type 0 where
  pub session : Session
  pub submitted : Option Transcript

-- What a session submitted wrote something, and may be settled on its front. None is open beside it.
pub record MayEnd (splits : List Point) (it : Session) (transcript : Transcript) : Type 0 where
  pub wrote : is_read_only transcript ≡ false
  pub opened : IsOpenAt splits it.number it.next_number it.front transcript
  pub alone : it.current ≡ None

abbrev pub IsClient : List Point → Client → Type 0
IsClient splits it = IfSome it.submitted (MayEnd splits it.session)

-- why a session doesn't begin: it isn't told yet of what it submitted, or else for its own reason
abbrev pub unless_submitted : Client → Option Refusal → Option Refusal
unless_submitted it fault = if is_none it.submitted then fault else Some WrongState

-- What a session that is to commit comes to. What wrote nothing has its receipt; everything else is submitted, as the
-- request that it makes; or nothing is, and what was open stays.
abbrev pub Asks : {B : Type 0} → Config → Client → Result (Asked B) Refusal → Client → Type 0
Asks config old (Ok (asked.Acknowledged receipt)) new =
    (open_fault old.session.current ≡ None) × (new.submitted ≡ old.submitted)
    × IfSome old.session.current (λ transcript. HasReceipt old.session transcript receipt new.session)
Asks config old (Ok (asked.ToCommit request)) new =
    (open_fault old.session.current ≡ None)
    × IfSome old.session.current (λ transcript. (is_read_only transcript ≡ false)
    × (request ≡ record { front = old.session.front; transaction = commit_request_of transcript })
    × (new ≡ record { session = with_current old.session None; submitted = Some transcript }))
Asks config old (Err why) new =
    (new ≡ old) × ((why ≡ NoMemory) ⊎ (open_fault old.session.current ≡ Some why))
