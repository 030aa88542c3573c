-- The steps that drive a batch in flight to its end.
use Rattle.std.specs.Prelude.{◌≡◌, ℕ, zero, suc, List, [], ◌∷◌, ◌++◌, Result, Ok, Err, ◌⊎◌}
use Rattle.fdb_keys.specs.declared.refusal.Refusal.{Refusal}
use Rattle.fdb_machine.specs.declared.in_flight.InFlight.{InFlight}
use Rattle.fdb_machine.specs.declared.step.Answered.{Answered}
use Rattle.fdb_machine.specs.machine.AnyStep.{Step}
use Rattle.fdb_machine.specs.declared.step.AnyStep.TheVariants.{Resolve, Verdict, Decide, Push, Logged, Report, Answer}
use Rattle.fdb_machine.specs.machine.InFlight.{in_flight}
use Rattle.fdb_machine.specs.machine.Failures.{State}
use Rattle.fdb_machine.specs.machine.Worlds.{IsStep}

-- the steps of each role of a kind, from role 0 on
abbrev pub for_each : (ℕ → List Step) → ℕ → List Step
for_each steps zero = []
for_each steps (suc n) = for_each steps n ++ steps n

-- the resolver takes the entry, and its verdicts reach the proxy
abbrev pub resolver_steps : ℕ → ℕ → List Step
resolver_steps entry resolver = Resolve entry resolver ∷ Verdict entry resolver ∷ []

-- the log takes its message of the entry, and its acknowledgement reaches the proxy
abbrev pub log_steps : ℕ → ℕ → List Step
log_steps entry log = Push entry log ∷ Logged entry log ∷ []

-- the steps of a batch in flight, but for the last one, which answers its clients
abbrev pub steps_before_answer : ℕ → InFlight → List Step
steps_before_answer proxy flight =
    for_each (resolver_steps flight.entry) flight.resolvers ++ (Decide proxy ∷ [])
    ++ for_each (log_steps flight.entry) flight.logs ++ (Report proxy ∷ [])

-- the steps are taken one after another, and none is refused
abbrev pub AreAccepted : State → List Step → State → Type 0
AreAccepted old [] new = new ≡ old
AreAccepted old (step ∷ steps) new =
    (said : Answered) × (mid : State) × IsStep old step (Ok said) mid × AreAccepted mid steps new

-- the steps are taken one after another through the first one that is refused
abbrev pub AreRefused : State → List Step → Refusal → State → Type 0
AreRefused old [] why new = ⊥
AreRefused old (step ∷ steps) why new =
    IsStep old step (Err why) new
    ⊎ ((said : Answered) × (mid : State) × IsStep old step (Ok said) mid × AreRefused mid steps why new)

-- the steps are taken until one is refused
abbrev pub AreTried : {T : Type 0} → State → List Step → Result T Refusal → State → Type 0
AreTried old steps (Ok given) new = AreAccepted old steps new
AreTried old steps (Err why) new = AreRefused old steps why new

-- All steps of the batch are taken, and the last one answers its clients; or one of them is refused, and no
-- further one is taken.
abbrev pub DrivesWhole : ℕ → InFlight → State → Result Answered Refusal → State → Type 0
DrivesWhole proxy flight old (Ok said) new =
    (mid : State) × AreAccepted old (steps_before_answer proxy flight) mid
    × IsStep mid (Answer proxy) (Ok said) new
DrivesWhole proxy flight old (Err why) new = AreRefused old
    (steps_before_answer proxy flight ++ (Answer proxy ∷ [])) why new

-- a batch that is there is driven, and else nothing is done
abbrev pub DrivesFlight : ℕ → Result InFlight Refusal → State
    → Result Answered Refusal → State → Type 0
DrivesFlight proxy (Ok flight) old result new = DrivesWhole proxy flight old result new
DrivesFlight proxy (Err why) old result new = (result ≡ Err why) × (new ≡ old)

-- the batch that the proxy has in flight is driven to its end, or to the first step that is refused
abbrev pub Drives : ℕ → State → Result Answered Refusal → State → Type 0
Drives proxy old result new = DrivesFlight proxy (in_flight old proxy) old result new
