-- What verdicts decide.
use Rattle.std.specs.Prelude.{ℕ, Bool, true, false, ◌&&◌, ◌==◌, List, [], map, Option, Some, None, if◌then◌else◌}
use Rattle.std.specs.List.{list_any, range_with_len}
use Rattle.fdb_resolver.specs.declared.verdict.Verdict.{Verdict}
use Rattle.fdb_resolver.specs.declared.verdict.Verdict.TheVariants as verdict
use Rattle.fdb_proxy.specs.declared.outcome.Outcome.{Outcome}
use Rattle.fdb_proxy.specs.declared.outcome.Outcome.TheVariants as outcome

-- a resolver's verdicts on places, each with the place's number
abbrev pub Said : Type 0
Said = List (ℕ × Verdict)

abbrev pub is_old : Verdict → Bool
is_old verdict.Yes = false
is_old verdict.Conflict = false
is_old verdict.Old = true

abbrev pub is_conflict : Verdict → Bool
is_conflict verdict.Yes = false
is_conflict verdict.Conflict = true
is_conflict verdict.Old = false

-- what becomes of a place once one more verdict on it came
abbrev pub worse : Outcome → Verdict → Outcome
worse before verdict.Yes = before
worse before verdict.Old = outcome.Old
worse outcome.Old verdict.Conflict = outcome.Old
worse outcome.Conflict verdict.Conflict = outcome.Conflict
worse (outcome.Commit version place) verdict.Conflict = outcome.Conflict

-- what a resolver said, nothing as long as its verdicts haven't come
abbrev pub heard_of : Option Said → Said
heard_of None = []
heard_of (Some said) = said

-- some resolver says this of place p
abbrev pub is_said : (Verdict → Bool) → ℕ → List (Option Said) → Bool
is_said test p verdicts =
    list_any (λ (of : Option Said). list_any (λ (one : ℕ × Verdict). (one.0 == p) && test one.1) (heard_of of)) verdicts

-- what becomes of place p of the entry with the version: old where some resolver says that it is, else a conflict
-- where some says so, else a commit
abbrev pub outcome_by : ℕ → List (Option Said) → ℕ → Outcome
outcome_by version verdicts p =
    if is_said is_old p verdicts then outcome.Old
    else (if is_said is_conflict p verdicts then outcome.Conflict else outcome.Commit version p)

-- of as many places
abbrev pub outcomes_by : ℕ → List (Option Said) → ℕ → List Outcome
outcomes_by version verdicts count = map (outcome_by version verdicts) (range_with_len 0 count)
