-- What a session reads at shards.
use Rattle.std.specs.Prelude.{◌≡◌, ◌⊎◌, ℕ, Bool, true, false, List, Option, Some, None, Result, Ok, Err}
use Rattle.std.specs.Prelude.{⊤, IfSome}
use Rattle.fdb_keys.specs.Points.{Point}
use Rattle.fdb_keys.specs.Ranges.{Range}
use Rattle.fdb_keys.specs.declared.refusal.Refusal.{Refusal}
use Rattle.fdb_keys.specs.declared.refusal.Refusal.TheVariants.{NoMemory, AccessedUnreadable}
use Rattle.fdb_mutations.specs.Maps.{Map}
use Rattle.fdb_mutations.specs.PairLaws.{scanned_of}
use Rattle.fdb_txn.specs.book.Book.{seen_of}
use Rattle.fdb_txn.specs.rules.SerialMap.{serial_map_at}
use Rattle.fdb_client.specs.Programs.{program, copy, decided, reply_on}
use Rattle.fdb_client.specs.TxnState.{with_op}
use Rattle.fdb_client.specs.Unreadable.{unreadable_in}
use Rattle.fdb_client.specs.declared.program.Op.{Op}
use Rattle.fdb_client.specs.declared.program.Reply.{Reply}
use Rattle.fdb_client.specs.declared.program.Transcript.{Transcript}
use Rattle.fdb_sections.specs.Sessions.{Session, with_current}

-- The open transaction, if there is one, was given the reply that the operation has after its own writes, on the serial
-- map of what the session has seen of the book, at the read version; and it noted both.
abbrev pub HasRead : (splits : List Point) (old : Session) (op : Op) (reply : Reply) (new : Session) → Type 0
HasRead splits old op reply new =
    IfSome old.current (λ (transcript : Transcript).
    (reply
    ≡ reply_on (copy (serial_map_at splits transcript.read_version (seen_of old.front).places)
    (program transcript.ops)) op)
    × (new ≡ with_current old (Some (with_op transcript op reply))))

-- whether the own writes of an open transaction decide a key, if one is open
abbrev pub own_writes_decide : Option Transcript → Point → Bool
own_writes_decide None key = false
own_writes_decide (Some transcript) key = decided (program transcript.ops) key

-- The call is refused where there is a fault, with that fault unless memory ran out first, and else only as NoMemory.
abbrev pub RefusedBy : {T : Type 0} → Result T Refusal → Option Refusal → Type 0
RefusedBy (Ok given) fault = fault ≡ None
RefusedBy (Err why) fault = (why ≡ NoMemory) ⊎ (fault ≡ Some why)

-- what a read of a range scans on a map after a program has a key that the program leaves unreadable
abbrev pub scans_unreadable : Map → List Op → Range → ℕ → Bool → Bool
scans_unreadable there ops range limit is_reverse =
    unreadable_in ops (scanned_of (copy there ops) range limit is_reverse)

-- What a read is told of an unreadable key: the read isn't answered, and is refused for such a key only where it reads
-- one.
abbrev pub TellsUnreadable : {T : Type 0} → Result T Refusal → Bool → Type 0
TellsUnreadable (Ok given) reads_one = reads_one ≡ false
TellsUnreadable (Err why) reads_one = why ≡ AccessedUnreadable → reads_one ≡ true

-- a get of an unreadable key is refused for that, unless memory ran out first
abbrev pub RefusesUnreadable : {T : Type 0} → Result T Refusal → Bool → Type 0
RefusesUnreadable (Ok given) reads_one = ⊤
RefusesUnreadable (Err why) reads_one = reads_one ≡ true → (why ≡ AccessedUnreadable) ⊎ (why ≡ NoMemory)
