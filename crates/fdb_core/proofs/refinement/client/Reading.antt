-- What a read at the shards comes to for the machine.
use Rattle.std.proofs.Common.{◌≡◌, ◌∙◌, ◌≤◌, refl, sym, ap, subst, ℕ, suc, true, false, List, take, length}
use Rattle.std.proofs.Common.{Some, Result, Ok, Err, slice_get}
use Rattle.std.specs.Prelude.{OnErr}
use Rattle.std.specs.FinMap.{get}
use Rattle.fdb_keys.specs.Answers.{Answers}
use Rattle.fdb_keys.specs.Points.{Point}
use Rattle.fdb_keys.specs.Ranges.{in_range}
use Rattle.fdb_keys.specs.declared.refusal.Refusal.{Refusal}
use Rattle.fdb_mutations.specs.Maps.{Map}
use Rattle.fdb_txn.specs.book.Book.{seen_of, last_version}
use Rattle.fdb_txn.specs.book.History.{AreEntries}
use Rattle.fdb_txn.specs.declared.entry.Entry.{Entry}
use Rattle.fdb_txn.specs.rules.SerialMap.{serial_map_at}
use Rattle.fdb_txn.specs.rules.Splits.{are_splits, piece}
use Rattle.fdb_client.specs.declared.program.Op.{Op}
use Rattle.fdb_client.specs.declared.program.Reply.{Reply}
use Rattle.fdb_client.specs.declared.program.Transcript.{Transcript}
use Rattle.fdb_client.specs.TxnState.{with_op}
use Rattle.fdb_client.specs.Programs.{program, copy, reply_on}
use Rattle.fdb_storage.specs.Shards.{value_at}
use Rattle.fdb_core.specs.declared.cluster.Cluster.{Cluster}
use Rattle.fdb_core.specs.declared.roles.shard.ShardRole.{ShardRole}
use Rattle.fdb_machine.specs.declared.step.Answered.{Answered}
use Rattle.fdb_machine.specs.machine.ClientSteps.{answered_by, reply_after}
use Rattle.fdb_machine.specs.machine.Failures.{Failures}
use Rattle.fdb_machine.specs.machine.Sessions.{Sessions, Open, open_at, with_state}
use Rattle.fdb_machine.specs.machine.Steps.{ran_out}
use Rattle.fdb_core.specs.refinement.Cluster.{machine_of}
use Rattle.fdb_core.specs.refinement.shard.Reads.{ShardReads, AreReadable, run_map}
use Rattle.fdb_machine.proofs.Exports.{unless-fault, Unless}
use Rattle.fdb_roles.proofs.Exports.{answers-fault, entries-rising, serial-front}
use Rattle.fdb_core.proofs.refinement.client.ReadFaults.{reads_of, failed_shards, fault_at, read_refusal, read_step}
use Rattle.fdb_core.proofs.refinement.client.ReadFaults.{call_fault-given, call_fault-refused, call_fault_at}
use Rattle.fdb_core.proofs.refinement.client.ReadFaults.{fault-known, read_fault-is, read-refused, read-accepted}

-- what is shown is that
pub same_reads : (k : Cluster) (transcript shown : Transcript) (book : List Entry) (shards : List ShardRole)
    → shown ≡ transcript → book ≡ k.book.items → shards ≡ k.shards.items
    → record { version = shown.read_version; config = k.config; book = book; shards = shards }
    ≡ reads_of k transcript.read_version
same_reads k transcript shown book shards is entries roles = rw (is, entries, roles) refl

-- A shard holds its piece of the keys, applied some entries, and answers from the run of these, if it works.
abbrev pub AnswersRun : Cluster → ℕ → ShardRole → Type 0
AnswersRun k i role =
    (role.state.range ≡ piece k.config.shard_splits i)
    × (role.state.version ≡ last_version (take role.applied k.book.items))
    × (role.state.is_failed ≡ false → (v : ℕ) (x : Point) → role.state.floor ≤ v → v ≤ role.state.version
    → in_range (piece k.config.shard_splits i) x ≡ true
    → value_at role.state v x
    ≡ get (serial_map_at k.config.resolver_splits v (seen_of (take role.applied k.book.items)).places) x)

-- Each is readable: the run of the entries that it applied has, up to its version, what the run of all of them has.
pub are_readable : (k : Cluster) (version : ℕ) → are_splits k.config.shard_splits ≡ true
    → AreEntries (suc (length k.config.resolver_splits)) 0 k.book.items
    → length k.shards.items ≡ suc (length k.config.shard_splits)
    → ((i : ℕ) (role : ShardRole) → slice_get k.shards.items i ≡ Some role → AnswersRun k i role)
    → AreReadable (reads_of k version)
are_readable k version splits entries as_many each = record {
  splits = splits;
  as_many = as_many;
  each = λ i role there.
      let it = each i role there in
      record {
        range = it.0;
        version = it.1;
        serves = λ works x above reached inside.
            it.2 works version x above reached inside
            ∙ ap (λ (map : Map). get map x) (sym (serial-front k.config.resolver_splits k.book.items
            (entries-rising (suc (length k.config.resolver_splits)) k.book.items entries) role.applied version
            (subst (λ (greatest : ℕ). version ≤ greatest) it.1 reached)));
      };
}

module _ (k : Cluster) (failed : Failures) (session : ℕ) (operation : Op) (transcript : Transcript)
    (sessions : Sessions)
  where
    -- the sessions with the operation and a reply noted
    abbrev pub HasNoted : Reply → Type 0
    HasNoted reply = sessions ≡ with_state k.sessions session (Open (with_op transcript operation reply))

    -- the call is refused as the shards refuse the read, unless memory ran out, and else gives the reply on the serial
    -- map, which the transaction has noted
    abbrev pub AnswersAt : ShardReads → Result Answered Refusal → Type 0
    AnswersAt shown result =
        let reply = reply_on (copy (run_map shown) (program transcript.ops)) operation in
        Answers result (call_fault_at result shown transcript operation)
        (λ (given : Answered). (given ≡ answered_by reply) × HasNoted reply)

    -- for the machine the reply is the same
    abbrev pub reply : Reply
    reply = reply_after (machine_of k) transcript operation

    -- a read that gave something is one that the machine accepts, and goes on to the sessions that noted it
    abbrev pub IsGiven : Answered → Type 0
    IsGiven given =
        (read_step (machine_of k) failed session operation
        ≡ Ok (record { answer = given; next = machine_of (record k { sessions = sessions }) }))
        × HasNoted reply

    -- one that was refused is one that the machine refuses so, unless memory ran out
    abbrev pub IsRefused : Refusal → Type 0
    IsRefused why = Unless (ran_out (Err why)) (read_step (machine_of k) failed session operation ≡ Err why)

    module _ (flags : failed.shards ≡ failed_shards k)
        (as_many : length k.shards.items ≡ suc (length k.config.shard_splits))
        (is_open : open_at k.sessions session ≡ Some transcript)
        (shown : ShardReads) (same : shown ≡ reads_of k transcript.read_version) where
      -- the refusal is the machine's too
      faults-alike : fault_at (reads_of k transcript.read_version) transcript operation
          ≡ read_refusal (machine_of k) failed transcript operation
      faults-alike = read_fault-is k failed flags transcript operation

      pub answer-follows : (given : Answered) → AnswersAt shown (Ok given) → IsGiven given
      answer-follows given answers =
          let there : AnswersAt (reads_of k transcript.read_version) (Ok given) =
          subst (λ (it : ShardReads). AnswersAt it (Ok given)) same answers in
          let parts = answers-fault
          (call_fault_at (Ok given) (reads_of k transcript.read_version) transcript operation) given
          (λ (one : Answered). (one ≡ answered_by reply) × HasNoted reply) there in
          let faultless =
          sym (call_fault-given given (reads_of k transcript.read_version) transcript operation) ∙ parts.0 in
          let changed : machine_of (record k { sessions = sessions })
          ≡ record (machine_of k) {
            sessions = with_state k.sessions session (Open (with_op transcript operation reply));
          } =
          ap (λ (others : Sessions). record (machine_of k) { sessions = others }) parts.1.1 in (
            rw (parts.1.0, changed)
                (read-accepted (machine_of k) failed session operation transcript is_open
                (sym faults-alike ∙ faultless)),
            parts.1.1,
          )

      pub refusal-follows : (why : Refusal) → AnswersAt shown (Err why) → IsRefused why
      refusal-follows why answers =
          let there : AnswersAt (reads_of k transcript.read_version) (Err why) =
          subst (λ (it : ShardReads). AnswersAt it (Err why)) same answers in
          unless-fault (call_fault_at (Err why) (reads_of k transcript.read_version) transcript operation) why
          (λ (one : Answered). (one ≡ answered_by reply) × HasNoted reply)
          (read_step (machine_of k) failed session operation ≡ Err why) there
          (λ faulty. read-refused (machine_of k) failed session operation transcript is_open
          (fault-known k as_many transcript operation) why (sym faults-alike
          ∙ call_fault-refused why (reads_of k transcript.read_version) transcript operation faulty))

      -- So what the call owes is what the machine's step does, where the shards are read at the transaction's read
      -- version: whatever follows from the one and from the other case.
      pub read-follows : (P : Result Answered Refusal → Type 0)
          → ((given : Answered) → IsGiven given → P (Ok given))
          → ((why : Refusal) → IsRefused why → sessions ≡ k.sessions → P (Err why))
          → (result : Result Answered Refusal) → AnswersAt shown result → OnErr result (sessions ≡ k.sessions)
          → P result
      read-follows P given refused (Ok answer) answers kept = given answer (answer-follows answer answers)
      read-follows P given refused (Err why) answers kept = refused why (refusal-follows why answers) kept
