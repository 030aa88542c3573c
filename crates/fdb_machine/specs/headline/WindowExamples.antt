-- What the machine does where the window is set, and what is read of it.
use Rattle.std.specs.Prelude.{◌≡◌, ℕ, List, [], ◌∷◌, map, length, Result, Ok, Err, take}
use Rattle.fdb_keys.specs.declared.refusal.Refusal.{Refusal}
use Rattle.fdb_keys.specs.declared.refusal.Refusal.TheVariants.{BadConfig}
use Rattle.fdb_txn.specs.declared.entry.Entry.{Entry}
use Rattle.fdb_machine.specs.headline.ReadingExamples.{a_to_c}
use Rattle.fdb_machine.specs.headline.Readings.{Readings, readings_of}
use Rattle.fdb_machine.specs.headline.ScriptExamples.{parted_at_m}
use Rattle.fdb_machine.specs.headline.Traces.{machine_of_trace}
use Rattle.fdb_machine.specs.machine.Machine.{Machine}
use Rattle.fdb_machine.specs.machine.Steps.{next, answer_of}
use Rattle.fdb_machine.specs.machine.Worlds.{start}
use Rattle.fdb_machine.specs.declared.step.Answered.{Answered}
use Rattle.fdb_machine.specs.declared.step.Answered.TheVariants as answered
use Rattle.fdb_machine.specs.machine.AnyStep.{Step}
use Rattle.fdb_machine.specs.declared.step.AnyStep.TheVariants as step

-- entries of nobody, each of a proxy of its own, between which the window is set, and once refused
abbrev pub windows_are_set : List Step
windows_are_set =
    step.Seal 0 100 ∷ step.Window 0 ∷ step.Window 150 ∷ step.Seal 1 150 ∷ step.Seal 2 1 ∷ step.Window 5000000
    ∷ step.Seal 3 1 ∷ []

abbrev pub one_is_refused : List (Result Answered Refusal)
one_is_refused =
    Ok (answered.Issued 0 100 0 0) ∷ Err BadConfig ∷ Ok answered.Done ∷ Ok (answered.Issued 1 250 100 0)
    ∷ Ok (answered.Issued 2 251 250 0) ∷ Ok answered.Done ∷ Ok (answered.Issued 3 252 251 0) ∷ []

-- the machine after the first steps, and what is read off them
abbrev pub machine_after : ℕ → Machine
machine_after n = machine_of_trace (parted_at_m 4) (take n windows_are_set) (take n one_is_refused)

abbrev pub read_after : ℕ → Readings
read_after n = readings_of (take n windows_are_set) (take n one_is_refused)

-- the horizons of entries
abbrev pub horizons : List Entry → List ℕ
horizons book = map (λ (entry : Entry). entry.horizon) book

-- The window is the greatest one at first. One that is set holds from the next entry on: horizons rise with the
-- versions, and the last one stays, which would fall since the window grew again. A window of nothing and one above the
-- greatest are refused. What waits for the next entry goes on waiting.
abbrev pub WindowsHoldFromTheNextEntry : Type 0
WindowsHoldFromTheNextEntry =
    ((machine_after 2).window ≡ 5000000) × ((machine_after 3).window ≡ 150)
    × (horizons (machine_after 3).book ≡ 0 ∷ []) × (horizons (machine_after 4).book ≡ 0 ∷ 100 ∷ [])
    × ((machine_after 7).window ≡ 5000000) × (horizons (machine_after 7).book ≡ 0 ∷ 100 ∷ 101 ∷ 101 ∷ [])
    × (answer_of (next (start (parted_at_m 4)) (step.Window 5000000)) ≡ Ok answered.Done)
    × (next (start (parted_at_m 4)) (step.Window 0) ≡ Err BadConfig)
    × (next (start (parted_at_m 4)) (step.Window 5000001) ≡ Err BadConfig)
    × (length (machine_of_trace (parted_at_m 4) (step.Move a_to_c 1 ∷ step.Window 150 ∷ [])
    (Ok answered.Done ∷ Ok answered.Done ∷ [])).pending ≡ 1)

-- So they are read off the accepted steps, and none off a refused one.
abbrev pub WindowsAreRead : Type 0
WindowsAreRead =
    ((read_after 0).window ≡ 5000000) × ((read_after 2).window ≡ 5000000) × ((read_after 3).window ≡ 150)
    × ((read_after 7).window ≡ 5000000) × (horizons (read_after 7).book ≡ 0 ∷ 100 ∷ 101 ∷ 101 ∷ [])
