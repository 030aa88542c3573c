-- Why the shards refuse a read, and what the read comes to for the machine, some of whose shards may have failed.
use Rattle.std.proofs.Common.{◌≡◌, ◌∙◌, ◌<◌, refl, sym, ap, ℕ, suc, Bool, true, false, not, ◌&&◌, List, [], length, map}
use Rattle.std.proofs.Common.{arith}
use Rattle.std.proofs.Common.{Option, Some, None, Result, Ok, Err, slice_get, if◌then◌else◌}
use Rattle.std.specs.Prelude.{nat_lt}
use Rattle.std.specs.List.{list_any}
use Rattle.std.specs.Option.{option_map, option_or}
use Rattle.std.proofs.lemmas.Bool.{both_ways}
use Rattle.std.proofs.lemmas.Option.{slice_get-map}
use Rattle.fdb_keys.specs.declared.refusal.Refusal.{Refusal}
use Rattle.fdb_keys.specs.declared.refusal.Refusal.TheVariants.{AccessedUnreadable, Failed, FutureVersion}
use Rattle.fdb_keys.specs.declared.refusal.Refusal.TheVariants.{NoMemory, TransactionTooOld, Unknown}
use Rattle.fdb_keys.specs.Points.{Point}
use Rattle.fdb_txn.specs.rules.Owners.{first_owner}
use Rattle.fdb_txn.proofs.Exports.{owner-exists}
use Rattle.fdb_client.specs.declared.program.Op.{Op}
use Rattle.fdb_client.specs.declared.program.Op.TheVariants as op
use Rattle.fdb_client.specs.declared.program.Transcript.{Transcript}
use Rattle.fdb_client.specs.Programs.{program, copy, decided}
use Rattle.fdb_client.specs.Unreadable.{scan_fault, unless_out, unreadable}
use Rattle.fdb_client.proofs.Exports.{unreadable-decided}
use Rattle.fdb_storage.specs.Shards.{serving_fault}
use Rattle.fdb_core.specs.declared.cluster.Cluster.{Cluster}
use Rattle.fdb_core.specs.declared.roles.shard.ShardRole.{ShardRole}
use Rattle.fdb_machine.specs.machine.ClientSteps.{reads, answered_by, read_fault, fault_after, reply_after}
use Rattle.fdb_machine.specs.machine.ClientSteps.{add_operation, map_read, shard_begins}
use Rattle.fdb_machine.specs.machine.ClientSteps as machine
use Rattle.fdb_machine.specs.declared.step.Answered.{Answered}
use Rattle.fdb_machine.specs.machine.Failures.{Failures, asks_failed, reads_failed, unless_failed}
use Rattle.fdb_machine.specs.machine.Machine.{Machine, Transition, is_set, refused_by}
use Rattle.fdb_machine.specs.machine.RoleSteps.{shard_fault}
use Rattle.fdb_machine.specs.machine.Sessions.{open_at}
use Rattle.fdb_core.specs.refinement.Cluster.{machine_of}
use Rattle.fdb_core.specs.refinement.client.Reading.{call_fault}
use Rattle.fdb_core.specs.refinement.log.Ties.{progress_of}
use Rattle.fdb_core.specs.refinement.shard.RangeFaults.{unrefused}
use Rattle.fdb_machine.proofs.Exports.{of-range, reads-transition, reads-refused}
use Rattle.fdb_core.specs.refinement.shard.Reads.{ShardReads, key_fault, range_fault, point_fault, run_map}
use Rattle.fdb_roles.proofs.Exports.{within-item}

-- a version that isn't served is too old or not there yet
served-known : (version floor greatest : ℕ) → serving_fault version floor greatest ≡ Some Unknown → ⊥
served-known version floor greatest = by_tests (nat_lt version floor) (nat_lt greatest version)
  where
    by_tests : (old future : Bool)
        → (if old then Some TransactionTooOld else (if future then Some FutureVersion else None)) ≡ Some Unknown → ⊥
    by_tests true future is = cc
    by_tests false true is = cc
    by_tests false false is = cc

-- the world's shards, read at a version
abbrev pub reads_of : Cluster → ℕ → ShardReads
reads_of k version = record { version = version; config = k.config; book = k.book.items; shards = k.shards.items }

-- which shards of the world have failed
abbrev pub failed_shards : Cluster → List Bool
failed_shards k = map (λ (role : ShardRole). role.state.is_failed) k.shards.items

-- why the shards refuse a read of the transaction
abbrev pub fault_at : ShardReads → Transcript → Op → Option Refusal
fault_at shards transcript operation =
    read_fault (key_fault shards) (range_fault shards) (run_map shards) (program transcript.ops) operation

-- why a call that reads there is refused, by what it answered
abbrev pub call_fault_at : Result Answered Refusal → ShardReads → Transcript → Op → Option Refusal
call_fault_at result shards transcript operation =
    call_fault result (key_fault shards) (range_fault shards) (run_map shards) (program transcript.ops) operation

-- one that gave something was refused for nothing
pub call_fault-given : (given : Answered) (shards : ShardReads) (transcript : Transcript) (operation : Op)
    → call_fault_at (Ok given) shards transcript operation ≡ fault_at shards transcript operation
call_fault-given given shards transcript (op.Get key snapshot) = refl
call_fault-given given shards transcript (op.Range range limit is_reverse snapshot) = refl
call_fault-given given shards transcript (op.Write mutation) = refl
call_fault-given given shards transcript (op.AddRead range) = refl
call_fault-given given shards transcript (op.AddWrite range) = refl

-- and a fault of one that was refused is one of the read
pub call_fault-refused : (why : Refusal) (shards : ShardReads) (transcript : Transcript) (operation : Op)
    → call_fault_at (Err why) shards transcript operation ≡ Some why
    → fault_at shards transcript operation ≡ Some why
call_fault-refused why shards transcript (op.Get key snapshot) faulty = faulty
call_fault-refused why shards transcript (op.Range range limit is_reverse snapshot) faulty =
    by_shards (range_fault shards range) _ faulty
  where
    by_reason : (why one : Refusal) (scan : Option Refusal)
        → unless_out {T = Answered} (Err why) scan ≡ Some one → scan ≡ Some one
    by_reason NoMemory one scan is = cc
    by_reason why one scan is = is

    by_shards : (fault scan : Option Refusal)
        → option_or fault (unless_out {T = Answered} (Err why) scan) ≡ Some why → option_or fault scan ≡ Some why
    by_shards None scan is = by_reason why why scan is
    by_shards (Some first) scan is = is
call_fault-refused why shards transcript (op.Write mutation) faulty = faulty
call_fault-refused why shards transcript (op.AddRead range) faulty = faulty
call_fault-refused why shards transcript (op.AddWrite range) faulty = faulty

-- why the machine refuses it: it asks a shard that has failed, or else has a fault
abbrev pub read_refusal : Machine → Failures → Transcript → Op → Option Refusal
read_refusal m failed transcript operation =
    if asks_failed m failed transcript operation then Some Failed else fault_after m transcript operation

-- the machine's step of a read
abbrev pub read_step : Machine → Failures → ℕ → Op → Result Transition Refusal
read_step m failed session operation =
    unless_failed (reads_failed m failed (open_at m.sessions session) operation) (reads m session operation)

-- The shards refuse a read as the machine does.
module _ (k : Cluster) (failed : Failures) (flags : failed.shards ≡ failed_shards k) (transcript : Transcript) where
  pub read_fault-is : (operation : Op)
      → fault_at (reads_of k transcript.read_version) transcript operation
      ≡ read_refusal (machine_of k) failed transcript operation
  read_fault-is (op.Get key snapshot) = by_own (unreadable ops key) (decided ops key) (unreadable-decided ops key)
    where
      ops : List Op
      ops = program transcript.ops

      shard : ℕ
      shard = first_owner k.config.shard_splits key

      unserved : Option Refusal
      unserved = point_fault (reads_of k transcript.read_version) key

      by_own : (hidden is_decided : Bool) → (hidden ≡ true → is_decided ≡ true)
          → (if hidden then Some AccessedUnreadable
          else (if is_decided then None else (if is_set (failed_shards k) shard then Some Failed else unserved)))
          ≡ (if not is_decided && is_set failed.shards shard then Some Failed
          else (if hidden then Some AccessedUnreadable else (if is_decided then None else unserved)))
      by_own true true decides = refl
      by_own true false decides = absurd (both_ways false refl (decides refl))
      by_own false true decides = refl
      by_own false false decides =
          ap (λ (them : List Bool). if is_set them shard then Some Failed else unserved) (sym flags)
  read_fault-is (op.Range range limit is_reverse snapshot) =
      asked_first (list_any (λ (x : Point). is_set (failed_shards k) (first_owner k.config.shard_splits x))
      (shard_begins k.config.shard_splits range))
      (machine.range_fault (machine_of k) transcript.read_version range)
      (scan_fault (copy (map_read (machine_of k) transcript) (program transcript.ops)) (program transcript.ops) range
      limit is_reverse)
      ∙ ap (λ (them : List Bool).
      if list_any (λ (x : Point). is_set them (first_owner k.config.shard_splits x))
      (shard_begins k.config.shard_splits range) then Some Failed
      else fault_after (machine_of k) transcript (op.Range range limit is_reverse snapshot)) (sym flags)
    where
      asked_first : (asks : Bool) (fault scan : Option Refusal)
          → option_or (if asks then Some Failed else fault) scan ≡ (if asks then Some Failed else option_or fault scan)
      asked_first true fault scan = refl
      asked_first false fault scan = refl
  read_fault-is (op.Write mutation) = refl
  read_fault-is (op.AddRead range) = refl
  read_fault-is (op.AddWrite range) = refl

-- Where there is a shard for each point, no read is refused since there were none.
module _ (k : Cluster) (as_many : length k.shards.items ≡ suc (length k.config.shard_splits)) where
  point-known : (version : ℕ) (x : Point) → machine.point_fault (machine_of k) version x ≡ Some Unknown → ⊥
  point-known version x refused =
      let splits = k.config.shard_splits in
      let few : first_owner splits x < suc (length splits) = owner-exists splits 0 [] x 0 tt in
      let one = within-item k.shards.items (first_owner splits x) (omega (arith, few, as_many)) in
      let role = one.0 in
      served-known version role.state.floor _
      (sym (ap (shard_fault k.book.items version)
      (slice_get-map progress_of k.shards.items (first_owner splits x) ∙ ap (option_map progress_of) one.1)) ∙ refused)

  pub fault-known : (transcript : Transcript) (operation : Op)
      → fault_after (machine_of k) transcript operation ≡ Some Unknown → ⊥
  fault-known transcript (op.Get key snapshot) =
      by_own (unreadable (program transcript.ops) key) (decided (program transcript.ops) key)
    where
      by_own : (hidden is_decided : Bool)
          → (if hidden then Some AccessedUnreadable
          else (if is_decided then None else machine.point_fault (machine_of k) transcript.read_version key))
          ≡ Some Unknown → ⊥
      by_own true is_decided refused = cc
      by_own false true refused = cc
      by_own false false refused = point-known transcript.read_version key refused
  fault-known transcript (op.Range range limit is_reverse snapshot) = λ refused.
      let point = of-range k.config.shard_splits range
      (machine.point_fault (machine_of k) transcript.read_version)
      (λ x y same. ap (λ (n : ℕ).
      shard_fault k.book.items transcript.read_version (slice_get (map progress_of k.shards.items) n)) same)
      Unknown (not_scanned _ _ refused) in
      point-known transcript.read_version point.0 point.2
    where
      not_scanned : (fault : Option Refusal) (hidden : Bool)
          → option_or fault (if hidden then Some AccessedUnreadable else None) ≡ Some Unknown → fault ≡ Some Unknown
      not_scanned None true refused = cc
      not_scanned None false refused = cc
      not_scanned (Some why) hidden refused = refused
  fault-known transcript (op.Write mutation) = λ refused. cc
  fault-known transcript (op.AddRead range) = λ refused. cc
  fault-known transcript (op.AddWrite range) = λ refused. cc

-- A read on an open transaction, where the machine doesn't refuse it since there is no such shard.
module _ (m : Machine) (failed : Failures) (session : ℕ) (operation : Op) (transcript : Transcript)
    (opened : open_at m.sessions session ≡ Some transcript) where
  -- whether it asks a shard that has failed is known once the transaction is
  asked-is : read_step m failed session operation
      ≡ unless_failed (asks_failed m failed transcript operation) (reads m session operation)
  asked-is =
      ap (λ (there : Option Transcript). unless_failed (reads_failed m failed there operation)
      (reads m session operation)) opened

  -- one that asks such a shard is refused so
  asks-refused : (fault_after m transcript operation ≡ Some Unknown → ⊥)
      → unless_failed true (reads m session operation) ≡ Err Failed
  unfolding reads
  asks-refused known = rw opened (by_fault (fault_after m transcript operation) _ known)
    where
      by_fault : (fault : Option Refusal) (to : Transition) → (fault ≡ Some Unknown → ⊥)
          → unless_failed true (refused_by fault (Ok to)) ≡ Err Failed
      by_fault None to known = refl
      by_fault (Some Unknown) to known = absurd (known refl)
      by_fault (Some why) to known = refl

  -- one that has to be refused is, with the reason that there is
  pub read-refused : (fault_after m transcript operation ≡ Some Unknown → ⊥) → (why : Refusal)
      → read_refusal m failed transcript operation ≡ Some why → read_step m failed session operation ≡ Err why
  read-refused known why refused = asked-is ∙ by_test (asks_failed m failed transcript operation) refused
    where
      by_test : (asks : Bool) → (if asks then Some Failed else fault_after m transcript operation) ≡ Some why
          → unless_failed asks (reads m session operation) ≡ Err why
      by_test true is =
          let same : Failed ≡ why = cc in
          asks-refused known ∙ ap (λ (refusal : Refusal). Err refusal) same
      by_test false is = (reads-refused m session operation transcript opened why).1 is

  -- and any other one is accepted
  pub read-accepted : read_refusal m failed transcript operation ≡ None
      → let reply = reply_after m transcript operation in
      read_step m failed session operation ≡ Ok (record {
        answer = answered_by reply;
        next = add_operation m session transcript operation reply;
      })
  read-accepted faultless =
      let neither = unrefused (asks_failed m failed transcript operation)
      (fault_after m transcript operation) faultless in
      asked-is
      ∙ ap (λ (asks : Bool). unless_failed asks (reads m session operation)) neither.0
      ∙ reads-transition m session operation transcript opened neither.1
