-- Resolvers that run: parts that wait for those before them, and the one whose turn it is.
use Rattle.std.specs.Prelude.{◌≡◌, ◌⊎◌, Option, Some, None, Result, Ok, Err, if◌then◌else◌}
use Rattle.std.specs.FinMap.{get, insert, remove}
use Rattle.std.specs.Option.{is_none}
use Rattle.fdb_keys.specs.declared.refusal.Refusal.{Refusal}
use Rattle.fdb_keys.specs.declared.refusal.Refusal.TheVariants.{NoMemory}
use Rattle.fdb_txn.specs.book.Book.{last_version}
use Rattle.fdb_resolver.specs.Resolvers.{part_fault, IsAnswer, HasTaken}
use Rattle.fdb_sections.specs.declared.machines.resolver.ResolverMachine.{ResolverMachine}
use Rattle.fdb_sections.specs.declared.machines.resolver.SentPart.{SentPart}
use Rattle.fdb_sections.specs.declared.machines.resolver.SentVerdicts.{SentVerdicts}
use Rattle.fdb_sections.specs.Turns.{front_fault}

-- a part waits under its previous version; one that comes again is dropped
abbrev pub keeping : {B : Type 0} → ResolverMachine B → SentPart B → ResolverMachine B
keeping it sent = record it {
  early = if is_none (get it.early sent.message.part.prev) then insert it.early sent.message.part.prev sent
      else it.early;
}

-- where no turn is found, it is that of the part which comes after the last one that was taken
abbrev pub finding : {B : Type 0} → ResolverMachine B → ResolverMachine B
finding it =
    if is_none it.turn then record it {
      early = remove it.early (last_version it.at.front);
      turn = get it.early (last_version it.at.front);
    }
    else it

-- The part whose turn it is was taken, and its proxy is given the verdicts on it; or why it isn't: it came in another
-- order, or the resolver refuses it, or memory ran out.
abbrev pub TakesTurn : {B : Type 0} → ResolverMachine B → SentPart B → Result (Option (SentVerdicts B)) Refusal
    → ResolverMachine B → Type 0
TakesTurn it sent (Ok None) new = ⊥
TakesTurn it sent (Ok (Some given)) new =
    (given.proxy ≡ sent.proxy) × (given.message.front ≡ sent.message.front)
    × IsAnswer it.at.state sent.message.part given.message.verdicts
    × HasTaken it.at.state sent.message.part given.message.verdicts new.at.state
    × (new.at.front ≡ sent.message.front)
    × (new ≡ finding (record it { at = new.at; turn = None }))
TakesTurn it sent (Err why) new =
    (front_fault it.at.front sent.message.front ≡ Some why) ⊎ (why ≡ NoMemory)
    ⊎ (part_fault it.at.state sent.message.part ≡ Some why)
