-- Read-version proxies that run: who waits, and what they are told.
use Rattle.std.specs.Prelude.{◌≡◌, ◌⊎◌, ℕ, List, length, Option, Some, None}
use Rattle.fdb_keys.specs.declared.refusal.Refusal.TheVariants.{NoMemory, Failed}
use Rattle.fdb_sections.specs.declared.messages.reply.GrantReply.{GrantReply}
use Rattle.fdb_sections.specs.declared.messages.reply.GrantReply.TheVariants as reply

-- who waits in order, the last answer, and for how many of the first of them it is
pub record ReadVersionMachine (B W : Type 0) : Type 0 where
  pub waiting : List W
  pub answer : Option (GrantReply B)
  pub granted : ℕ

-- the answer is for all who wait
abbrev pub granting : {B W : Type 0} → ReadVersionMachine B W → GrantReply B → ReadVersionMachine B W
granting it answer = record it { answer = Some answer; granted = length it.waiting }

-- one is told the answer, and of a version alone it may be told that memory ran out for a share of its front
abbrev pub IsTold : {B : Type 0} → Option (GrantReply B) → GrantReply B → Type 0
IsTold None told = told ≡ reply.Refused Failed
IsTold (Some (reply.Refused why)) told = told ≡ reply.Refused why
IsTold (Some (reply.Granted granted)) told = (told ≡ reply.Granted granted) ⊎ (told ≡ reply.Refused NoMemory)
