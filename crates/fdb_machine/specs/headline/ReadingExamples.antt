-- What is read off steps of every kind with their answers.
use Rattle.std.specs.Prelude.{◌≡◌, ℕ, true, false, List, [], ◌∷◌, Some, None, Result, Ok, take, codes}
use Rattle.fdb_keys.specs.declared.refusal.Refusal.{Refusal}
use Rattle.fdb_keys.specs.Ranges.{Range}
use Rattle.fdb_mutations.specs.declared.mutation.Mutation.TheVariants.{Set}
use Rattle.fdb_txn.specs.declared.spot.Spot.TheVariants as spot
use Rattle.fdb_txn.specs.laws.Examples.{move_of}
use Rattle.fdb_resolver.specs.declared.verdict.Verdict.TheVariants as verdict
use Rattle.fdb_proxy.specs.declared.outcome.Outcome.TheVariants as outcome
use Rattle.fdb_client.specs.declared.program.Op.TheVariants as op
use Rattle.fdb_client.specs.declared.program.Reply.TheVariants as reply
use Rattle.fdb_client.specs.declared.program.Transcript.{Transcript}
use Rattle.fdb_client.specs.Programs.{commit_request_of}
use Rattle.fdb_roles.specs.SmallBooks.{from_to}
use Rattle.fdb_machine.specs.headline.Readings.{Readings, Progress, readings_of}
use Rattle.fdb_machine.specs.declared.step.Answered.{Answered}
use Rattle.fdb_machine.specs.declared.step.Answered.TheVariants as answered
use Rattle.fdb_machine.specs.machine.AnyStep.{Step}
use Rattle.fdb_machine.specs.declared.step.AnyStep.TheVariants as step

abbrev pub a_to_c : Range
a_to_c = from_to (codes "a") (codes "c")

-- session 3 is served at version 0, reads the keys a and b and two ranges, sets a key, and adds to both sets
abbrev pub all_operations : List Step
all_operations =
    step.Ask 3 0 ∷ step.Grant 0
    ∷ step.Get 3 (codes "a") false ∷ step.Get 3 (codes "b") true
    ∷ step.GetRange 3 a_to_c 9 true false ∷ step.GetRange 3 a_to_c 1 false true
    ∷ step.Write 3 (Set (codes "a") (codes "1")) ∷ step.AddRead 3 a_to_c
    ∷ step.AddWrite 3 (from_to (codes "c") (codes "d")) ∷ []

abbrev pub their_answers : List (Result Answered Refusal)
their_answers =
    Ok answered.Done ∷ Ok (answered.Granted ((3, 0) ∷ []))
    ∷ Ok (answered.Value None) ∷ Ok (answered.Value (Some (codes "2")))
    ∷ Ok (answered.Pairs []) ∷ Ok (answered.Pairs ((codes "b", codes "2") ∷ []))
    ∷ Ok answered.Done ∷ Ok answered.Done ∷ Ok answered.Done ∷ []

-- Each operation is noted as what it is, with its reply: the second read of a key and that of a range as snapshots, and
-- the first read of a range as one from its end.
abbrev pub EachOperationIsNoted : Type 0
EachOperationIsNoted = (readings_of all_operations their_answers).opened ≡ record {
  id = record { session = 3; number = 0 };
  read_version = 0;
  ops = (op.Get (codes "a") false, reply.Value None)
      ∷ (op.Get (codes "b") true, reply.Value (Some (codes "2")))
      ∷ (op.Range a_to_c 9 true false, reply.Pairs [])
      ∷ (op.Range a_to_c 1 false true, reply.Pairs ((codes "b", codes "2") ∷ []))
      ∷ (op.Write (Set (codes "a") (codes "1")), reply.Done)
      ∷ (op.AddRead a_to_c, reply.Done)
      ∷ (op.AddWrite (from_to (codes "c") (codes "d")), reply.Done) ∷ [];
} ∷ []

-- Two sessions are served, each by a proxy of its own. One sets a key and waits at proxy 1, the other one wrote
-- nothing. Keys go over, the batch of proxy 1 is sealed, keys go over once more, and the client is told that it was too
-- old.
abbrev pub at_two_proxies : List Step
at_two_proxies =
    step.Ask 1 0 ∷ step.Grant 0 ∷ step.Ask 2 1 ∷ step.Grant 1
    ∷ step.Write 1 (Set (codes "a") (codes "1")) ∷ step.Submit 1 1 ∷ step.Submit 2 0 ∷ step.Move a_to_c 1
    ∷ step.Seal 1 9000000 ∷ step.Move a_to_c 0 ∷ step.Report 1 ∷ step.Answer 1 ∷ []

abbrev pub one_is_old : List (Result Answered Refusal)
one_is_old =
    Ok answered.Done ∷ Ok (answered.Granted ((1, 0) ∷ [])) ∷ Ok answered.Done ∷ Ok (answered.Granted ((2, 0) ∷ []))
    ∷ Ok answered.Done ∷ Ok answered.Done ∷ Ok (answered.ReadOnly 0) ∷ Ok answered.Done
    ∷ Ok (answered.Issued 0 9000000 0 1) ∷ Ok answered.Done ∷ Ok (answered.Version 9000000)
    ∷ Ok (answered.Answers ((1, outcome.Old) ∷ [])) ∷ []

-- what is read off the first steps
abbrev pub after_first : ℕ → Readings
after_first n = readings_of (take n at_two_proxies) (take n one_is_old)

abbrev pub sets_a : Transcript
sets_a = record {
  id = record { session = 1; number = 0 };
  read_version = 0;
  ops = (op.Write (Set (codes "a") (codes "1")), reply.Done) ∷ [];
}

-- Who submits waits at the proxy that was named, until this one seals; its batch has just those who waited, and its
-- entry the moves before it. Who wrote nothing is acknowledged at its read version, and who is too old isn't.
abbrev pub ReadAtTwoProxies : Type 0
ReadAtTwoProxies =
    ((after_first 8).waiting 0 ≡ []) × ((after_first 8).waiting 1 ≡ sets_a ∷ [])
    × ((after_first 8).pending ≡ move_of (codes "a") (codes "c") 1 ∷ [])
    × ((after_first 12).begun ≡ 1 ∷ 2 ∷ []) × ((after_first 12).opened ≡ [])
    × ((after_first 12).waiting 1 ≡ [])
    × ((after_first 12).sealed 1 ≡ record { entry = 0; version = 9000000; transcripts = sets_a ∷ [] })
    × ((after_first 12).sealed 0 ≡ record { entry = 0; version = 0; transcripts = [] })
    × ((after_first 12).book ≡ record {
      version = 9000000;
      prev = 0;
      horizon = 4000000;
      moves = move_of (codes "a") (codes "c") 1 ∷ [];
      batch = commit_request_of sets_a ∷ [];
    } ∷ [])
    × ((after_first 12).pending ≡ move_of (codes "a") (codes "c") 0 ∷ [])
    × ((after_first 12).acknowledged ≡ record {
      spot = spot.ReadOnly 0;
      transcript = record { id = record { session = 2; number = 0 }; read_version = 0; ops = [] };
    } ∷ [])
    × ((after_first 12).answered ≡ 0 ∷ []) × ((after_first 12).reported ≡ 9000000)

-- An entry goes through the roles: proxy 0 seals it, resolver 1 takes it and its verdicts come, it is decided, log 2
-- takes it and its acknowledgement comes, and it is reported. Shard 3 has it then, serves from version 40 on, and its
-- log drops it.
abbrev pub through_the_roles : List Step
through_the_roles =
    step.Ask 1 0 ∷ step.Grant 0 ∷ step.Write 1 (Set (codes "a") (codes "1")) ∷ step.Submit 1 0 ∷ step.Seal 0 100
    ∷ step.Resolve 0 1 ∷ step.Verdict 0 1 ∷ step.Decide 0 ∷ step.Push 0 2 ∷ step.Logged 0 2 ∷ step.Report 0
    ∷ step.Pull 3 5 ∷ step.Forget 3 40 ∷ step.Pop 3 ∷ []

abbrev pub each_is_accepted : List (Result Answered Refusal)
each_is_accepted =
    Ok answered.Done ∷ Ok (answered.Granted ((1, 0) ∷ [])) ∷ Ok answered.Done ∷ Ok answered.Done
    ∷ Ok (answered.Issued 0 100 0 1) ∷ Ok (answered.Verdicts ((0, verdict.Yes) ∷ [])) ∷ Ok answered.Done
    ∷ Ok (answered.Decided (outcome.Commit 100 0 ∷ [])) ∷ Ok answered.Done ∷ Ok answered.Done
    ∷ Ok (answered.Version 100) ∷ Ok (answered.Version 100) ∷ Ok (answered.Version 40) ∷ Ok (answered.Version 100) ∷ []

-- how far the roles are after the first steps
abbrev pub progress_after : ℕ → Progress
progress_after n = (readings_of (take n through_the_roles) (take n each_is_accepted)).progress

-- Each step is noted of the role that took it, and of no other one: the proxy waits for verdicts from its seal on until
-- it decides, and then for acknowledgements until it reports.
abbrev pub ReadOffTheRoles : Type 0
ReadOffTheRoles =
    ((progress_after 4).resolving 0 ≡ None) × ((progress_after 5).resolving 0 ≡ Some 0)
    × ((progress_after 5).resolving 1 ≡ None) × ((progress_after 5).logging 0 ≡ None)
    × ((progress_after 5).resolved 1 ≡ 0) × ((progress_after 6).resolved 1 ≡ 1) × ((progress_after 6).resolved 0 ≡ 0)
    × ((progress_after 6).verdicts_came 0 1 ≡ false) × ((progress_after 7).verdicts_came 0 1 ≡ true)
    × ((progress_after 7).verdicts_came 0 0 ≡ false) × ((progress_after 7).verdicts_came 1 1 ≡ false)
    × ((progress_after 7).acknowledgements_came 0 1 ≡ false)
    × ((progress_after 7).decided 0 ≡ false) × ((progress_after 8).decided 0 ≡ true)
    × ((progress_after 8).decided 1 ≡ false)
    × ((progress_after 8).resolving 0 ≡ None) × ((progress_after 8).logging 0 ≡ Some 0)
    × ((progress_after 8).logged 2 ≡ 0) × ((progress_after 9).logged 2 ≡ 1) × ((progress_after 9).logged 0 ≡ 0)
    × ((progress_after 9).acknowledgements_came 0 2 ≡ false) × ((progress_after 10).acknowledgements_came 0 2 ≡ true)
    × ((progress_after 10).verdicts_came 0 2 ≡ false) × ((progress_after 10).logging 0 ≡ Some 0)
    × ((progress_after 11).logging 0 ≡ None) × ((progress_after 11).reached 3 ≡ 0)
    × ((progress_after 14).reached 3 ≡ 100) × ((progress_after 14).floor 3 ≡ 40)
    × ((progress_after 14).reached 0 ≡ 0) × ((progress_after 14).floor 0 ≡ 0)
