-- The conflict set of a session's last transaction, where it was refused for a conflict.
use Rattle.std.specs.Prelude.{◌≡◌, ℕ, true, false, List, Option, Some, None, if◌then◌else◌}
use Rattle.fdb_keys.specs.Points.{Point}
use Rattle.fdb_keys.specs.Ranges.{Range, in_set}
use Rattle.fdb_txn.specs.declared.txn_id.TxnId.{TxnId}
use Rattle.fdb_txn.specs.book.Book.{Place}
use Rattle.fdb_txn.specs.book.Places.{place_at}
use Rattle.fdb_txn.specs.rules.Admission.{is_fresh, committed}
use Rattle.fdb_txn.specs.rules.Conflicts.{in_conflict}
use Rattle.fdb_machine.specs.machine.Machine.{Machine, is_set}
use Rattle.fdb_machine.specs.machine.Sessions.{Sessions, session_of, is_waiting}

-- the id of a transaction of the session with the number, if there is one
abbrev pub id_of : ℕ → Option ℕ → Option TxnId
id_of session None = None
id_of session (Some number) = Some (record { session = session; number = number })

-- the id of the session's last transaction, unless it waits for what becomes of it
abbrev pub last_told : Sessions → ℕ → Option TxnId
last_told sessions number =
    let session = session_of sessions number in
    if is_waiting session.state then None else id_of number session.last_number

-- The session's last transaction stands at place p of entry n, which is decided, and was refused for a conflict: it
-- isn't old, and isn't committed. The session was told so, since it waits no more, and began no other one since.
pub record IsRefusedAt (m : Machine) (session n p : ℕ) (there : Place × List Place) : Type 0 where
  pub at : place_at m.book n p ≡ Some there
  pub decided : is_set m.decided n ≡ true
  pub own : there.0.transaction.id.session ≡ session
  pub last : (session_of m.sessions session).last_number ≡ Some there.0.transaction.id.number
  pub told : is_waiting (session_of m.sessions session).state ≡ false
  pub fresh : is_fresh there.0 ≡ true
  pub uncommitted : committed m.config.resolver_splits there.1 there.0 ≡ false

-- a set, if there is one, has just the points of the conflict set of the session's last transaction, which was refused
-- for a conflict; and where there is none, it wasn't
abbrev pub IsConflictOf : Machine → ℕ → Option (List Range) → Type 0
IsConflictOf m session None = (n p : ℕ) (there : Place × List Place) → IsRefusedAt m session n p there → ⊥
IsConflictOf m session (Some set) =
    (n : ℕ) × (p : ℕ) × (there : Place × List Place) × IsRefusedAt m session n p there
    × ((x : Point) → in_set set x ≡ in_conflict m.config.resolver_splits there.1 there.0 x)
