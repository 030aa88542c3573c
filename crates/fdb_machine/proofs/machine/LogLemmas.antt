-- Logs that go on, and the flags of those that told a proxy that they took its entry.
use Rattle.std.proofs.Common.{◌≡◌, refl, ℕ, zero, suc, ◌+◌, ◌<◌, ◌≤◌, le_refl, Bool, true, false, List, [], ◌∷◌, length}
use Rattle.std.proofs.Common.{replicate, Some, None, ◌⊎◌, arith}
use Rattle.std.specs.Prelude.{⊤}
use Rattle.std.specs.List.{AllByRecursion, slice_get, slice_set}
use Rattle.fdb_machine.specs.machine.CommitProxySteps.{is_logging}
use Rattle.fdb_machine.specs.machine.Machine.{first_missing}
use Rattle.fdb_machine.specs.machine.Roles.{CommitProxy, Stage}

-- each log took what it had taken, or more
abbrev pub Grew : List ℕ → List ℕ → Type 0
Grew [] [] = ⊤
Grew [] (new ∷ news) = ⊥
Grew (old ∷ olds) [] = ⊥
Grew (old ∷ olds) (new ∷ news) = (old ≤ new) × Grew olds news

pub grew-same : (logs : List ℕ) → Grew logs logs
grew-same [] = tt
grew-same (log ∷ logs) = (le_refl log, grew-same logs)

pub grew-set : (logs : List ℕ) (l taken : ℕ) → slice_get logs l ≡ Some taken → Grew logs (slice_set logs l (taken + 1))
grew-set [] l taken at = cc
grew-set (log ∷ logs) zero taken at = let same : log ≡ taken = cc in (omega (arith, same), grew-same logs)
grew-set (log ∷ logs) (suc l) taken at = (le_refl log, grew-set logs l taken at)

-- every log took the entry
abbrev pub Took : ℕ → List ℕ → Type 0
Took entry logs = AllByRecursion (λ (taken : ℕ). entry < taken) logs

pub took-grew : (entry : ℕ) (olds news : List ℕ) → Grew olds news → Took entry olds → Took entry news
took-grew entry [] [] grew took = tt
took-grew entry [] (new ∷ news) grew took = absurd grew
took-grew entry (old ∷ olds) [] grew took = absurd grew
took-grew entry (old ∷ olds) (new ∷ news) grew took =
    let more = grew.0 in let before = took.0 in
    (omega (arith, more, before), took-grew entry olds news grew.1 took.1)

-- each log whose flag is set took the entry
abbrev pub FlagsTell : ℕ → List Bool → List ℕ → Type 0
FlagsTell entry [] [] = ⊤
FlagsTell entry [] (log ∷ logs) = ⊥
FlagsTell entry (flag ∷ flags) [] = ⊥
FlagsTell entry (flag ∷ flags) (log ∷ logs) = (flag ≡ true → entry < log) × FlagsTell entry flags logs

pub flags-none : (entry : ℕ) (logs : List ℕ) → FlagsTell entry (replicate (length logs) false) logs
flags-none entry [] = tt
flags-none entry (log ∷ logs) = ((λ set. cc), flags-none entry logs)

pub flags-grew : (entry : ℕ) (flags : List Bool) (olds news : List ℕ) → Grew olds news → FlagsTell entry flags olds
    → FlagsTell entry flags news
flags-grew entry [] [] [] grew tell = tt
flags-grew entry [] [] (new ∷ news) grew tell = absurd grew
flags-grew entry [] (old ∷ olds) news grew tell = absurd tell
flags-grew entry (flag ∷ flags) [] news grew tell = absurd tell
flags-grew entry (flag ∷ flags) (old ∷ olds) [] grew tell = absurd grew
flags-grew entry (flag ∷ flags) (old ∷ olds) (new ∷ news) grew tell = (
  (λ set. let more = grew.0 in let before = tell.0 set in omega (arith, more, before)),
  flags-grew entry flags olds news grew.1 tell.1,
)

pub flags-set : (entry : ℕ) (flags : List Bool) (logs : List ℕ) (l taken : ℕ) → slice_get logs l ≡ Some taken
    → entry < taken → FlagsTell entry flags logs → FlagsTell entry (slice_set flags l true) logs
flags-set entry [] [] l taken at after tell = cc
flags-set entry [] (log ∷ logs) l taken at after tell = absurd tell
flags-set entry (flag ∷ flags) [] l taken at after tell = absurd tell
flags-set entry (flag ∷ flags) (log ∷ logs) zero taken at after tell =
    let same : log ≡ taken = cc in ((λ set. omega (arith, same, after)), tell.1)
flags-set entry (flag ∷ flags) (log ∷ logs) (suc l) taken at after tell =
    (tell.0, flags-set entry flags logs l taken at after tell.1)

-- where no flag is missing, every log took the entry
pub flags-all : (n entry : ℕ) (flags : List Bool) (logs : List ℕ) → first_missing (λ log. true) n flags ≡ None
    → FlagsTell entry flags logs → Took entry logs
flags-all n entry [] [] whole tell = tt
flags-all n entry [] (log ∷ logs) whole tell = absurd tell
flags-all n entry (flag ∷ flags) [] whole tell = absurd tell
flags-all n entry (true ∷ flags) (log ∷ logs) whole tell =
    (tell.0 refl, flags-all (suc n) entry flags logs whole tell.1)
flags-all n entry (false ∷ flags) (log ∷ logs) whole tell = cc

-- where a proxy goes on to a stage, its batch isn't decided yet, or no log acknowledged it yet, or one more log did,
-- which took the entry
abbrev pub AcknowledgementCame : List ℕ → CommitProxy → Stage → List Bool → Type 0
AcknowledgementCame logs commit_proxy stage received =
    (is_logging stage ≡ false)
    ⊎ ((received ≡ replicate (length logs) false)
    ⊎ ((is_logging commit_proxy.stage ≡ true)
    × (log : ℕ) × (taken : ℕ) × (slice_get logs log ≡ Some taken) × (commit_proxy.entry < taken)
    × (received ≡ slice_set commit_proxy.acknowledgements_received log true)))
