-- The steps of clients.
use Rattle.std.specs.Prelude.{ℕ, Bool, true, false, List, [], ◌∷◌, ◌++◌, filter, Option, Some, None, Result, Ok}
use Rattle.std.specs.Prelude.{slice_get, slice_set, if◌then◌else◌}
use Rattle.std.specs.List.{list_any}
use Rattle.std.specs.Option.{option_or}
use Rattle.fdb_keys.specs.declared.refusal.Refusal.{Refusal}
use Rattle.fdb_keys.specs.declared.refusal.Refusal.TheVariants.{TransactionTooOld}
use Rattle.fdb_keys.specs.Points.{Point}
use Rattle.fdb_keys.specs.Ranges.{Range, in_range}
use Rattle.fdb_mutations.specs.declared.mutation.Mutation.{Mutation}
use Rattle.fdb_mutations.specs.Maps.{Map}
use Rattle.fdb_mutations.specs.Mutations.{mutation_fault}
use Rattle.fdb_txn.specs.declared.spot.Spot.TheVariants as spot
use Rattle.fdb_txn.specs.book.Book.{seen_of}
use Rattle.fdb_txn.specs.book.Size.{size_fault}
use Rattle.fdb_txn.specs.rules.Owners.{first_owner}
use Rattle.fdb_txn.specs.rules.SerialMap.{serial_map_at}
use Rattle.fdb_client.specs.declared.program.Op.{Op}
use Rattle.fdb_client.specs.declared.program.Op.TheVariants as op
use Rattle.fdb_client.specs.declared.program.Reply.{Reply}
use Rattle.fdb_client.specs.declared.program.Reply.TheVariants as reply
use Rattle.fdb_client.specs.declared.program.Transcript.{Transcript}
use Rattle.fdb_client.specs.TxnState.{with_op}
use Rattle.fdb_client.specs.Programs.{program, copy, reply_on, commit_request_of, is_read_only}
use Rattle.fdb_client.specs.Unreadable.{get_fault, range_read_fault}
use Rattle.fdb_machine.specs.machine.Machine.{Machine, Transition, found, refused_by, with_open}
use Rattle.fdb_machine.specs.machine.Sessions.{Idle, Open, Waiting, open_at, with_state}
use Rattle.fdb_machine.specs.machine.RoleSteps.{shard_fault}
use Rattle.fdb_machine.specs.declared.step.Answered.{Answered}
use Rattle.fdb_machine.specs.declared.step.Answered.TheVariants as answered

-- the answer that gives a reply
abbrev pub answered_by : Reply → Answered
answered_by (reply.Value value) = answered.Value value
answered_by (reply.Pairs pairs) = answered.Pairs pairs
answered_by reply.Done = answered.Done

-- the machine with one more operation and its reply at the session's open transaction
abbrev pub add_operation : Machine → ℕ → Transcript → Op → Reply → Machine
add_operation m session transcript op reply = record m {
  sessions = with_state m.sessions session (Open (with_op transcript op reply));
}

-- why the shard that holds a point doesn't serve a version
abbrev pub point_fault : Machine → ℕ → Point → Option Refusal
point_fault m version point =
    shard_fault m.book version (slice_get m.shards (first_owner m.config.shard_splits point))

-- the first fault that some of the points has
abbrev pub first_fault : (Point → Option Refusal) → List Point → Option Refusal
first_fault fault [] = None
first_fault fault (point ∷ points) = option_or (fault point) (first_fault fault points)

-- the points of a range from which on a shard holds it: its begin, if it has a point, and the splits in it
abbrev pub shard_begins : List Point → Range → List Point
shard_begins splits range = filter (λ point. in_range range point) (range.begin ∷ splits)

-- the fault is that the version is no longer served, which goes before that it isn't served yet
abbrev pub is_too_old : Option Refusal → Bool
is_too_old (Some TransactionTooOld) = true
is_too_old fault = false

-- why some points are not served: one of them is no longer served, or else the first fault that one has
abbrev pub fault_among : (Point → Option Refusal) → List Point → Option Refusal
fault_among fault points =
    if list_any (λ point. is_too_old (fault point)) points then Some TransactionTooOld else first_fault fault points

-- why a range is not served: the first refusal, in the order of refusals, of the shards that hold some of it
abbrev pub range_fault : Machine → ℕ → Range → Option Refusal
range_fault m version range = fault_among (point_fault m version) (shard_begins m.config.shard_splits range)

-- why an operation is not executed on a map after the earlier ones: a read of a key that these don't decide is refused
-- as the key is, and a read of a range as the range is, whatever its limit; and no unreadable key is read
abbrev pub read_fault : (Point → Option Refusal) → (Range → Option Refusal) → Map → List Op → Op → Option Refusal
read_fault key_fault range_fault there earlier (op.Get key snapshot) = get_fault earlier key (key_fault key)
read_fault key_fault range_fault there earlier (op.Range range limit is_reverse snapshot) =
    range_read_fault there earlier range limit is_reverse (range_fault range)
read_fault key_fault range_fault there earlier operation = None

-- the map that a transaction reads
abbrev pub map_read : Machine → Transcript → Map
map_read m transcript = serial_map_at m.config.resolver_splits transcript.read_version (seen_of m.book).places

-- why the operation is refused after those of the transaction
abbrev pub fault_after : Machine → Transcript → Op → Option Refusal
fault_after m transcript operation =
    let version = transcript.read_version in
    read_fault (point_fault m version) (range_fault m version) (map_read m transcript) (program transcript.ops)
    operation

-- what the operation is replied after those of the transaction, on the map at its read version
abbrev pub reply_after : Machine → Transcript → Op → Reply
reply_after m transcript operation = reply_on (copy (map_read m transcript) (program transcript.ops)) operation

-- Get and GetRange: the reply of the program run on the map at its read version.
unfoldable pub reads : Machine → ℕ → Op → Result Transition Refusal
reads m session operation = with_open (open_at m.sessions session) (λ transcript.
    let reply = reply_after m transcript operation in
    refused_by (fault_after m transcript operation)
    (Ok (record { answer = answered_by reply; next = add_operation m session transcript operation reply })))

-- the session's open transaction notes an operation that gives nothing
abbrev pub notes : Machine → ℕ → Transcript → Op → Result Transition Refusal
notes m session transcript op =
    Ok (record { answer = answered.Done; next = add_operation m session transcript op reply.Done })

-- Write: the mutation is buffered.
unfoldable pub writes : Machine → ℕ → Mutation → Result Transition Refusal
writes m session mutation = with_open (open_at m.sessions session) (λ transcript.
    refused_by (mutation_fault mutation) (notes m session transcript (op.Write mutation)))

-- AddRead: the range joins the read set, whole.
unfoldable pub adds_read : Machine → ℕ → Range → Result Transition Refusal
adds_read m session range = with_open (open_at m.sessions session) (λ transcript.
    notes m session transcript (op.AddRead range))

-- AddWrite: the range joins the write set, whole.
unfoldable pub adds_write : Machine → ℕ → Range → Result Transition Refusal
adds_write m session range = with_open (open_at m.sessions session) (λ transcript.
    notes m session transcript (op.AddWrite range))

-- Submit: a transaction that wrote nothing is acknowledged at its read version, any other waits at the proxy. One that
-- is too large is refused, and stays open.
unfoldable pub submits : Machine → ℕ → ℕ → Result Transition Refusal
submits m session proxy = found (slice_get m.commit_proxies proxy) (λ commit_proxy.
    with_open (open_at m.sessions session) (λ transcript.
    if is_read_only transcript
    then Ok (record {
      answer = answered.ReadOnly transcript.read_version;
      next = record m {
        sessions = with_state m.sessions session Idle;
        acknowledged = m.acknowledged ++ record
            { spot = spot.ReadOnly transcript.read_version; transcript = transcript } ∷ [];
      };
    })
    else refused_by (size_fault (commit_request_of transcript)) (Ok (record {
      answer = answered.Done;
      next = record m {
        sessions = with_state m.sessions session Waiting;
        commit_proxies = slice_set m.commit_proxies proxy
            (record commit_proxy { waiting = commit_proxy.waiting ++ transcript ∷ [] });
      };
    }))))
