-- Shards' pulls that run: what each wants next, and what is left of the shard and the log that are lent to it.
use Rattle.std.specs.Prelude.{◌≡◌, ◌==◌, ◌&&◌, ◌-◌, ◌⊎◌, ℕ, Bool, true, false, nat_lt, nat_le, length, Option, Some}
use Rattle.std.specs.Prelude.{None, unwrap_or, if◌then◌else◌}
use Rattle.fdb_keys.specs.declared.refusal.Refusal.{Refusal}
use Rattle.fdb_keys.specs.declared.refusal.Refusal.TheVariants.{Failed}
use Rattle.fdb_txn.specs.Limits.{window}
use Rattle.fdb_log.specs.Logs.{peek_of, tag_fault, HasPopped}
use Rattle.fdb_storage.specs.Shards.{HasFailed, HasForgotten}
use Rattle.fdb_sections.specs.declared.machines.pull.Phase.{Phase}
use Rattle.fdb_sections.specs.declared.machines.pull.Phase.TheVariants as phase
use Rattle.fdb_sections.specs.declared.machines.pull.PullNext.{PullNext}
use Rattle.fdb_sections.specs.declared.machines.pull.PullNext.TheVariants as next
use Rattle.fdb_sections.specs.Messages.{PeekAtFront}
use Rattle.fdb_sections.specs.RolesAtFronts.{LogAtFront}
use Rattle.fdb_sections.specs.ShardsAtFronts.{ShardAtFront, HasGoneOn}

-- whose it is, the version through which messages were taken, how far it is with what the log gave, and that
pub record PullMachine : Type 0 where
  pub tag : ℕ
  pub through : ℕ
  pub phase : Phase
  pub given : Option PeekAtFront

abbrev pub next_of : PullMachine → PullNext
next_of it = in_phase it.phase
  where
    in_phase : Phase → PullNext
    in_phase phase.Resting = next.Messages it.through
    in_phase phase.Given = next.Apply
    in_phase phase.Applied = next.Drop
    in_phase phase.Dropped = next.Forget
    in_phase (phase.Ended why) = next.End why

-- it takes what the log gave; where that is nothing, it has ended
abbrev pub peeked : PullMachine → PeekAtFront → Option Refusal → PullMachine
peeked it given ended =
    if length given.peek.messages == 0 then record it { phase = phase.Ended (unwrap_or ended Failed) }
    else record it { given = Some given; phase = phase.Given }

-- the log gives that for the shard
abbrev pub IsGivenBy : PullMachine → LogAtFront → PeekAtFront → Type 0
IsGivenBy it log given = (given.front ≡ log.front) × (given.peek ≡ peek_of log.state it.tag it.through 256)

-- It takes what the log gives, or has ended where the log refuses that.
abbrev pub HasPeeked : PullMachine → LogAtFront → Option Refusal → PullMachine → Type 0
HasPeeked it log ended new =
    ((given : PeekAtFront) × IsGivenBy it log given × (new ≡ peeked it given ended))
    ⊎ (new ≡ record it { phase = phase.Ended Failed })

-- The shard applied what was given; or it refused it, and is as it was but for what memory ran out in, and then the
-- pull has ended.
abbrev pub HasAppliedGiven : PullMachine → ShardAtFront → PeekAtFront → ShardAtFront → PullMachine → Type 0
HasAppliedGiven it shard given shard_new new =
    (HasGoneOn shard given shard_new
    × (new ≡ record it { through = given.peek.through; phase = phase.Applied; given = None }))
    ⊎ (((shard_new.shard ≡ shard.shard) ⊎ HasFailed shard.shard shard_new.shard)
    × (new ≡ record it { through = given.peek.through; phase = phase.Ended Failed; given = None }))

-- The log dropped what the shard applied, or refused that, and then the pull has ended.
abbrev pub HasDropped : PullMachine → LogAtFront → LogAtFront → PullMachine → Type 0
HasDropped it log log_new new = in_phase it.phase
  where
    by_fault : Option Refusal → Type 0
    by_fault None = HasPopped log.state it.tag it.through log_new.state × (new ≡ record it { phase = phase.Dropped })
    by_fault (Some why) = (log_new ≡ log) × (new ≡ record it { phase = phase.Ended Failed })

    in_phase : Phase → Type 0
    in_phase phase.Applied = by_fault (tag_fault log.state it.tag it.through)
    in_phase other = (log_new ≡ log) × (new ≡ it)

-- whether a shard that works is to forget what lies below the version
abbrev pub is_to_forget : ShardAtFront → ℕ → Bool
is_to_forget shard floor = nat_lt 0 floor && nat_le floor shard.shard.version

-- The shard forgot what lies more than the greatest window below the committed version, where it has come that far.
abbrev pub HasLetForget : PullMachine → ℕ → ShardAtFront → ShardAtFront → PullMachine → Type 0
HasLetForget it committed shard shard_new new = in_phase it.phase
  where
    by_due : Bool → Type 0
    by_due true = shard.shard.is_failed ≡ false → HasForgotten shard.shard (committed - window) shard_new.shard
    by_due false = shard_new ≡ shard

    in_phase : Phase → Type 0
    in_phase phase.Dropped =
        by_due (is_to_forget shard (committed - window)) × (new ≡ record it { phase = phase.Resting })
    in_phase other = (shard_new ≡ shard) × (new ≡ it)
