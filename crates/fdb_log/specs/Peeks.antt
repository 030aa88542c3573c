-- Which peeks there are.
use Rattle.std.specs.Prelude.{◌≡◌, ◌<◌, ⊤, ℕ, List, [], ◌∷◌, fold}
use Rattle.fdb_txn.specs.declared.tag_msg.TagMsg.{TagMsg}
use Rattle.fdb_log.specs.declared.peek.Peek.{Peek}

-- each message is of a version above that of the one before it, and the first above this one
abbrev pub RiseAfter : ℕ → List TagMsg → Type 0
RiseAfter version [] = ⊤
RiseAfter version (message ∷ messages) = (version < message.version) × RiseAfter message.version messages

-- the version of the last message, and this one where there is none
abbrev pub through_after : ℕ → List TagMsg → ℕ
through_after version messages = fold (λ (before : ℕ) (message : TagMsg). message.version) version messages

-- its messages rise after its version up to the one through which it goes
pub record IsPeek (peek : Peek) : Type 0 where
  pub rising : RiseAfter peek.after peek.messages
  pub through : peek.through ≡ through_after peek.after peek.messages
