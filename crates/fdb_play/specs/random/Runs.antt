-- The steps of a run, one after another.
use Rattle.std.specs.Prelude.{◌≡◌, ◌<◌, ◌⊎◌, ℕ, zero, suc, [], ◌∷◌, codes, Result, Err}
use Rattle.fdb_keys.specs.declared.refusal.Refusal.{Refusal}
use Rattle.fdb_keys.specs.declared.refusal.Refusal.TheVariants.{InvertedRange, KeyOutsideLegalRange}
use Rattle.fdb_keys.specs.declared.refusal.Refusal.TheVariants.{KeyTooLarge, NoMemory}
use Rattle.fdb_proxy.specs.declared.config.Config.{Config}
use Rattle.fdb_machine.specs.declared.step.Answered.{Answered}
use Rattle.fdb_machine.specs.declared.step.AnyStep.{AnyStep}
use Rattle.fdb_machine.specs.machine.AnyStep.{Step}
use Rattle.fdb_machine.specs.machine.Failures.{State}
use Rattle.fdb_machine.specs.machine.Worlds.{IsStep}
use Rattle.fdb_play.specs.declared.random.acts.Change.{Change}
use Rattle.fdb_play.specs.declared.random.acts.Span.{Span}
use Rattle.fdb_play.specs.declared.random.tally.Tally.{Tally}
use Rattle.fdb_play.specs.random.Tallies.{AreCounted, kind_of, no_tally, noting}

-- a step by its numbers
abbrev pub Act : Type 0
Act = AnyStep ℕ Span Change

-- two proxies of each kind, two resolvers, two logs and two shards
abbrev pub drawn_config : Config
drawn_config = record {
  proxies = 2;
  logs = 2;
  resolver_splits = codes "k/4" ∷ [];
  shard_splits = codes "k/4" ∷ [];
  book = 1000000;
}

-- why a step can't be made: a key or a range is none, or memory runs out for it
abbrev pub IsUnmade : Refusal → Type 0
IsUnmade refusal = (refusal ≡ NoMemory)
    ⊎ ((refusal ≡ KeyTooLarge) ⊎ ((refusal ≡ KeyOutsideLegalRange) ⊎ (refusal ≡ InvertedRange)))

-- The world answers a step of the kind, or the step can't be made and the world stays as it is.
abbrev pub IsAnswered : ℕ → State → Result Answered Refusal → State → Type 0
IsAnswered kind old answer new =
    ((step : Step) × (kind_of step ≡ kind) × IsStep old step answer new)
    ⊎ ((refusal : Refusal) × (answer ≡ Err refusal) × IsUnmade refusal × (new ≡ old))

-- the world answers one more step, which is counted
abbrev pub CountsStep : State → Tally → State → Tally → Type 0
CountsStep old tally new counted =
    (act : Act) × (answer : Result Answered Refusal) × IsAnswered (kind_of act) old answer new
    × (counted ≡ noting tally (kind_of act) answer)

-- the world answers so many steps one after another, and all that is counted are their answers
abbrev pub CountsSteps : ℕ → State → State → Tally → Type 0
CountsSteps zero old new counted = (new ≡ old) × (counted ≡ no_tally)
CountsSteps (suc steps) old new counted =
    (middle : State) × (tally : Tally) × CountsSteps steps old middle tally × CountsStep middle tally new counted

-- What a run counts has each of its steps once.
abbrev pub RunsCountSteps : Type 0
RunsCountSteps =
    (steps : ℕ) (old : State) (new : State) (tally : Tally) → steps < 4294967296
    → CountsSteps steps old new tally → AreCounted steps tally
