-- What a session that is to commit comes to, where it is told later what became of that.
use Rattle.std.proofs.Common.{◌≡◌, ◌∙◌, refl, ap, subst, false, Option, Some, None}
use Rattle.std.specs.Prelude.{Result, Ok, IfSome}
use Rattle.fdb_keys.specs.declared.refusal.Refused.{Refused}
use Rattle.fdb_proxy.specs.declared.config.Config.{Config}
use Rattle.fdb_client.specs.declared.program.Transcript.{Transcript}
use Rattle.fdb_client.specs.Programs.{is_read_only, commit_request_of}
use Rattle.fdb_sections.specs.Asking.{AskedAtFront}
use Rattle.fdb_sections.specs.declared.client.Asked.TheVariants as asked
use Rattle.fdb_sections.specs.Clients.{Client, Asks}
use Rattle.fdb_sections.specs.Commits.{Back, CommitAnswers, CommitEnds, open_fault}
use Rattle.fdb_sections.specs.Receipts.{ReceiptAtFront}
use Rattle.fdb_sections.specs.Sessions.{with_current}
use Rattle.fdb_sections.proofs.CommitLemmas.{ended-open}

-- A session that is told what became of what it submitted is answered that of what was open, and has submitted nothing
-- then.
pub settled : (B : Type 0) (config : Config) (old middle new : Client) (request : AskedAtFront)
    (result : Result ReceiptAtFront (Refused Back))
    → Asks {B = B} config old (Ok (asked.ToCommit request)) middle
    → IfSome middle.submitted (λ transcript. (new.submitted ≡ None)
    × CommitEnds config middle.session transcript result new.session)
    → (new.submitted ≡ None) × CommitAnswers config old.session result new.session
settled B config old middle new request result asks ends =
    by_current old.session.current refl asks.0 asks.1
  where
    by_current : (current : Option Transcript) → old.session.current ≡ current → open_fault current ≡ None
        → IfSome current (λ transcript. (is_read_only transcript ≡ false) × (request ≡ record {
          front =
              old.session.front;
          transaction = commit_request_of transcript;
        })
        × (middle ≡ record { session = with_current old.session None; submitted = Some transcript }))
        → (new.submitted ≡ None) × CommitAnswers config old.session result new.session
    by_current None is may given = absurd cc
    by_current (Some transcript) is may given =
        let its : (new.submitted ≡ None)
        × CommitEnds config (with_current old.session None) transcript result new.session =
        subst (λ (it : Client). IfSome it.submitted (λ own. (new.submitted ≡ None)
        × CommitEnds config it.session own result new.session)) given.2 ends in
        (its.0, ended-open config old.session new.session transcript result is (ap open_fault is ∙ may) its.1)
