-- A world that stands for a trace is strictly serializable.
use Rattle.std.proofs.Common.{◌∙◌, sym, ap, subst, List, [], ◌∷◌, ◌++◌, Result}
use Rattle.fdb_keys.specs.declared.refusal.Refusal.{Refusal}
use Rattle.fdb_txn.specs.declared.entry.Entry.{Entry}
use Rattle.fdb_proxy.specs.declared.config.Config.{Config}
use Rattle.fdb_machine.specs.headline.Headline.{IsStrictlySerializable}
use Rattle.fdb_machine.specs.headline.Readings.{readings_of}
use Rattle.fdb_machine.specs.machine.Machine.{Machine}
use Rattle.fdb_machine.specs.invariant.Invariant.{Invariant}
use Rattle.fdb_machine.specs.machine.Steps.{next, after}
use Rattle.fdb_machine.specs.headline.Serving.{System, AllServe, RolesKeep}
use Rattle.fdb_machine.specs.headline.Traces.{IsTraceOf}
use Rattle.fdb_machine.specs.machine.Worlds.{first_state, IsStep}
use Rattle.fdb_machine.proofs.headline.RunsLemmas.{run-push}
use Rattle.fdb_machine.proofs.headline.TraceLaws.{traces_tell}
use Rattle.fdb_machine.proofs.invariant.SoundLaws.{sound_steps}
use Rattle.fdb_machine.proofs.readings.TraceReadings.{acknowledged_serialized, config-kept, traces_tell_books}
use Rattle.fdb_machine.proofs.readings.TraceReadings.{real_time, trace-tells}
use Rattle.fdb_machine.proofs.machine.Steps.{kept-next}
use Rattle.fdb_machine.specs.declared.step.Answered.{Answered}
use Rattle.fdb_machine.specs.machine.AnyStep.{Step}

-- every step leaves a sound machine sound
pub sound-after : (m : Machine) (one_step : Step) → Invariant m → Invariant (after m (next m one_step))
sound-after = kept-next Invariant sound_steps

-- a world that stands for a trace, and whose roles keep what the book says, is strictly serializable
pub strictly_serializable : (config : Config) (steps : List Step) (given : List (Result Answered Refusal))
    (system : System)
    → IsTraceOf config steps given system.state → RolesKeep system → IsStrictlySerializable config steps given system
strictly_serializable config steps given system stands keep = record {
  is_trace_of = stands;
  book = traces_tell_books config steps given system.state stands;
  serial = acknowledged_serialized config steps given system.state stands;
  real_time = real_time config steps given system.state stands;
  served = served;
}
  where
    m : Machine
    m = system.state.machine

    served : AllServe config (readings_of steps given).book system.shards
    served =
        let is = traces_tell config steps given system.state stands in
        let told = trace-tells config steps given system.state stands in
        subst (λ (c : Config). AllServe c (readings_of steps given).book system.shards)
        (ap (λ (n : Machine). n.config) is ∙ config-kept config steps given)
        (subst (λ (book : List Entry). AllServe m.config book system.shards)
        (ap (λ (n : Machine). n.book) is ∙ sym told.book_told) keep.7)

-- where a world stands for a trace, it then stands for that trace with the next step and its answer
pub serializable-step : (config : Config) (steps : List Step) (given : List (Result Answered Refusal))
    (old new : System) (one_step : Step) (answer : Result Answered Refusal)
    → IsStep old.state one_step answer new.state → RolesKeep new → IsTraceOf config steps given old.state
    → IsStrictlySerializable config (steps ++ one_step ∷ []) (given ++ answer ∷ []) new
serializable-step config steps given old new one_step answer stepped keep stands =
    strictly_serializable config (steps ++ one_step ∷ []) (given ++ answer ∷ []) new
    (run-push (first_state config) old.state new.state steps given one_step answer stands stepped) keep
