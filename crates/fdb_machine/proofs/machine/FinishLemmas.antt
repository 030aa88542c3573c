-- What is left to do of a finished transaction.
use Rattle.std.proofs.Common.{◌≡◌, refl, ℕ, Bool, true, false, Some, None, Ok, Err, if◌then◌else◌, ⊎_elim}
use Rattle.std.specs.List.{slice_get}
use Rattle.fdb_keys.specs.declared.refusal.Refusal.{Refusal}
use Rattle.fdb_txn.specs.book.Size.{size_fault}
use Rattle.fdb_txn.specs.book.Transactions.{Transaction}
use Rattle.fdb_client.specs.Finishing.{IsFinished}
use Rattle.fdb_client.specs.Programs.{is_read_only, commit_request_of}
use Rattle.fdb_client.specs.declared.finished.Finished.{Finished}
use Rattle.fdb_client.specs.declared.finished.Finished.TheVariants.{ReadOnly, ToCommit}
use Rattle.fdb_client.specs.declared.program.Transcript.{Transcript}
use Rattle.fdb_roles.specs.Sessions.{OfOpen, Finishes}
use Rattle.fdb_machine.specs.machine.ClientSteps.{submits}
use Rattle.fdb_machine.specs.machine.Machine.{Machine, Transition, refused_by}
use Rattle.fdb_machine.specs.machine.Roles.{CommitProxy}
use Rattle.fdb_machine.specs.machine.Sessions.{open_at}
use Rattle.fdb_machine.specs.machine.Steps.{ran_out}
use Rattle.fdb_machine.proofs.common.FaultLemmas.{Unless, unless}
use Rattle.fdb_machine.proofs.machine.OpenLemmas.{open-refused}

-- what is left to commit of a transaction is what is submitted of it
pub finished-to_commit : (transcript shown : Transcript) (sealed : Transaction) (finished : Finished)
    → IsFinished transcript finished → finished ≡ ToCommit sealed shown
    → (is_read_only transcript ≡ false) × (sealed ≡ commit_request_of transcript) × (shown ≡ transcript)
finished-to_commit transcript shown sealed finished is shows = by_test (is_read_only transcript) is
  where
    by_test : (test : Bool)
        → finished ≡ (if test then ReadOnly transcript else ToCommit (commit_request_of transcript) transcript)
        → (test ≡ false) × (sealed ≡ commit_request_of transcript) × (shown ≡ transcript)
    by_test true is = cc
    by_test false is = (refl, cc, cc)

-- and what is left of one that wrote nothing is itself
pub finished-read_only : (transcript shown : Transcript) (finished : Finished)
    → IsFinished transcript finished → finished ≡ ReadOnly shown
    → (is_read_only transcript ≡ true) × (shown ≡ transcript)
finished-read_only transcript shown finished is shows = by_test (is_read_only transcript) is
  where
    by_test : (test : Bool)
        → finished ≡ (if test then ReadOnly transcript else ToCommit (commit_request_of transcript) transcript)
        → (test ≡ true) × (shown ≡ transcript)
    by_test true is = (refl, cc)
    by_test false is = cc

-- who isn't finished isn't submitted, unless memory ran out
pub unfinished : (m : Machine) (session proxy : ℕ) (commit_proxy : CommitProxy) (why : Refusal)
    → slice_get m.commit_proxies proxy ≡ Some commit_proxy
    → OfOpen {T = Finished} (open_at m.sessions session) (Err why) (Finishes (Err why))
    → Unless (ran_out (Err why)) (submits m session proxy ≡ Err why)
unfolding submits
unfinished m session proxy commit_proxy why at is =
    rw at (open-refused Finished (open_at m.sessions session) why (Finishes (Err why)) _ is (λ transcript. ⊎_elim
    (λ out. rw out tt)
    (λ fault. unless (ran_out (Err why)) _ (too_large (is_read_only transcript) _ _ transcript fault))))
  where
    too_large : (test : Bool) (accepted waiting : Transition) (transcript : Transcript)
        → (if test then None else size_fault (commit_request_of transcript)) ≡ Some why
        → (if test then Ok accepted else refused_by (size_fault (commit_request_of transcript)) (Ok waiting)) ≡ Err why
    too_large true accepted waiting transcript is = cc
    too_large false accepted waiting transcript is = rw is refl
