-- How steps are counted by what they are answered.
use Rattle.std.specs.Prelude.{◌≡◌, ◌+◌, ◌==◌, ℕ, min, List, [], ◌∷◌, replicate, slice_set, slice_index_or}
use Rattle.std.specs.Prelude.{if◌then◌else◌, Result, Ok, Err}
use Rattle.std.specs.List.{position_or_len, sum}
use Rattle.fdb_keys.specs.declared.refusal.Refusal.{Refusal}
use Rattle.fdb_keys.specs.Refusals.{code_of}
use Rattle.fdb_proxy.specs.declared.outcome.Outcome.{Outcome}
use Rattle.fdb_proxy.specs.declared.outcome.Outcome.TheVariants as outcome
use Rattle.fdb_machine.specs.declared.step.Answered.{Answered}
use Rattle.fdb_machine.specs.declared.step.Answered.TheVariants as answered
use Rattle.fdb_machine.specs.declared.step.AnyStep.{AnyStep}
use Rattle.fdb_machine.specs.declared.step.AnyStep.TheVariants as step
use Rattle.fdb_play.specs.declared.random.tally.Tally.{Tally}

-- one more, up to the greatest number that a count holds
abbrev pub raised : ℕ → ℕ
raised count = min (count + 1) 4294967295

-- the counts with one more at the place, if there is such a place
abbrev pub raised_at : List ℕ → ℕ → List ℕ
raised_at counts place = slice_set counts place (raised (slice_index_or counts place 0))

-- the codes of all refusals
abbrev pub refusal_codes : List ℕ
refusal_codes =
    1007 ∷ 1009 ∷ 1020 ∷ 1021 ∷ 1036 ∷ 2004 ∷ 2005 ∷ 2101 ∷ 2102 ∷ 2103 ∷ 9001 ∷ 9002 ∷ 9003 ∷ 9004 ∷ 9005 ∷ 9006
    ∷ 9007 ∷ 9008 ∷ 9009 ∷ 9010 ∷ 9011 ∷ 9012 ∷ 9013 ∷ 9014 ∷ 9015 ∷ 9016 ∷ []

-- the place of a code among all codes, and behind them where it is none
abbrev pub place_of : ℕ → ℕ
place_of code = position_or_len (λ known. known == code) refusal_codes

-- the place of a step's kind among all kinds, where a read of a snapshot is another kind
abbrev pub kind_of : {K R M : Type 0} → AnyStep K R M → ℕ
kind_of (step.Ask session proxy) = 0
kind_of (step.Grant proxy) = 1
kind_of (step.Get session key snapshot) = if snapshot then 3 else 2
kind_of (step.GetRange session range limit reverse snapshot) = if snapshot then 5 else 4
kind_of (step.Write session mutation) = 6
kind_of (step.AddRead session range) = 7
kind_of (step.AddWrite session range) = 8
kind_of (step.Submit session proxy) = 9
kind_of (step.Seal proxy advance) = 10
kind_of (step.Resolve entry resolver) = 11
kind_of (step.Verdict entry resolver) = 12
kind_of (step.Decide proxy) = 13
kind_of (step.Push entry log) = 14
kind_of (step.Logged entry log) = 15
kind_of (step.Report proxy) = 16
kind_of (step.Answer proxy) = 17
kind_of (step.Pull shard limit) = 18
kind_of (step.Forget shard version) = 19
kind_of (step.Pop shard) = 20
kind_of (step.Move range to) = 21
kind_of (step.Window window) = 22

-- of no step
abbrev pub no_tally : Tally
no_tally = record {
  refused = 0;
  committed = 0;
  read_only = 0;
  conflicting = 0;
  too_old = 0;
  accepted = replicate 23 0;
  refusals = replicate 26 0;
  refused_kinds = replicate 23 0;
}

-- one more transaction of which this became
abbrev pub noting_outcome : Tally → Outcome → Tally
noting_outcome tally (outcome.Commit version place) = record tally { committed = raised tally.committed }
noting_outcome tally outcome.Conflict = record tally { conflicting = raised tally.conflicting }
noting_outcome tally outcome.Old = record tally { too_old = raised tally.too_old }

-- one more for each client of a batch, by what it is told
abbrev pub noting_outcomes : Tally → List (ℕ × Outcome) → Tally
noting_outcomes tally [] = tally
noting_outcomes tally (told ∷ more) = noting_outcomes (noting_outcome tally told.1) more

-- one more for each transaction that the answer ends
abbrev pub noting_answer : Tally → Answered → Tally
noting_answer tally (answered.ReadOnly version) = record tally { read_only = raised tally.read_only }
noting_answer tally (answered.Answers told) = noting_outcomes tally told
noting_answer tally other = tally

-- One more step of the kind that is answered so. It is counted as accepted, with the transactions that it ends, or as
-- refused, with the code of its refusal and with its kind, and nothing else changes.
abbrev pub noting : Tally → ℕ → Result Answered Refusal → Tally
noting tally kind (Ok answer) = noting_answer (record tally { accepted = raised_at tally.accepted kind }) answer
noting tally kind (Err refusal) = record tally {
  refused = raised tally.refused;
  refusals = raised_at tally.refusals (place_of (code_of refusal));
  refused_kinds = raised_at tally.refused_kinds kind;
}

-- So many steps are counted, each as refused or as accepted with its kind, and each refused one with its code and its
-- kind.
abbrev pub AreCounted : ℕ → Tally → Type 0
AreCounted steps tally =
    (tally.refused + sum tally.accepted ≡ steps) × (sum tally.refusals ≡ tally.refused)
    × (sum tally.refused_kinds ≡ tally.refused)
