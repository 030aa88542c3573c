-- The abstract machine: its state is what can be read off the steps so far with their answers.
use Rattle.std.specs.Prelude.{ℕ, suc, Bool, true, false, not, ◌&&◌, nat_lt, List, [], ◌∷◌, Option, Some, None}
use Rattle.std.specs.Prelude.{unwrap_or, Result, Err, slice_get, if◌then◌else◌}
use Rattle.fdb_keys.specs.declared.refusal.Refusal.{Refusal}
use Rattle.fdb_keys.specs.declared.refusal.Refusal.TheVariants.{Unknown, Stale, NotYet, NoTransaction}
use Rattle.fdb_txn.specs.declared.entry.Move.{Move}
use Rattle.fdb_txn.specs.declared.entry.Entry.{Entry}
use Rattle.fdb_proxy.specs.declared.config.Config.{Config}
use Rattle.fdb_client.specs.declared.program.Transcript.{Transcript}
use Rattle.fdb_roles.specs.declared.placed.Placed.{Placed}
use Rattle.fdb_machine.specs.machine.Roles.{CommitProxy, ShardProgress}
use Rattle.fdb_machine.specs.machine.Sessions.{Sessions}
use Rattle.fdb_machine.specs.declared.step.Answered.{Answered}

pub record Machine : Type 0 where
  pub config : Config
  -- the entries, the first one first, and for each the number of its proxy and whether it is decided
  pub book : List Entry
  pub entry_proxies : List ℕ
  pub decided : List Bool
  -- moves that take effect with the next entry
  pub pending : List Move
  -- the window by which the next entry has its horizon
  pub window : ℕ
  -- the commit proxies
  pub commit_proxies : List CommitProxy
  -- how many entries each resolver and each log took
  pub resolvers : List ℕ
  pub logs : List ℕ
  -- how far each shard is
  pub shards : List ShardProgress
  -- for each read-version proxy the sessions that ask there
  pub grv_proxies : List (List ℕ)
  -- what each session is at
  pub sessions : Sessions
  -- the greatest version that was reported
  pub committed : ℕ
  -- the acknowledged transactions
  pub acknowledged : List Placed

-- what a step answers, and the machine after it
pub record Transition : Type 0 where
  pub answer : Answered
  pub next : Machine

-- a step goes on with what has the number, and is refused where nothing has it
abbrev pub found : {A : Type 0} → Option A → (A → Result Transition Refusal) → Result Transition Refusal
found None next = Err Unknown
found (Some x) next = next x

-- a step is refused where the test holds
abbrev pub refused_where : Bool → Refusal → Result Transition Refusal → Result Transition Refusal
refused_where true refusal next = Err refusal
refused_where false refusal next = next

-- entry i is taken by one who took some entries only as the next one
abbrev pub in_turn : ℕ → ℕ → Entry → Result Transition Refusal → Result Transition Refusal
in_turn taken i entry next = refused_where (nat_lt i taken) Stale
    (refused_where (nat_lt taken i) (NotYet entry.prev) next)

-- a step goes on where there is no fault
abbrev pub refused_by : Option Refusal → Result Transition Refusal → Result Transition Refusal
refused_by None next = next
refused_by (Some fault) next = Err fault

-- a step waits for the least one that is missing
abbrev pub waits_for : Option ℕ → Result Transition Refusal → Result Transition Refusal
waits_for None next = next
waits_for (Some i) next = Err (NotYet i)

-- the flag with the number is there and set
abbrev pub is_set : List Bool → ℕ → Bool
is_set flags i = unwrap_or (slice_get flags i) false

-- the least number from n on that is needed and whose flag isn't set
abbrev pub first_missing : (ℕ → Bool) → ℕ → List Bool → Option ℕ
first_missing needed n [] = None
first_missing needed n (flag ∷ flags) = if needed n && not flag then Some n else first_missing needed (suc n) flags

-- a step goes on with the open transaction, and is refused where there is none
abbrev pub with_open : Option Transcript → (Transcript → Result Transition Refusal) → Result Transition Refusal
with_open None next = Err NoTransaction
with_open (Some transcript) next = next transcript
