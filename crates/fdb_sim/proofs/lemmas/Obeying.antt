-- What words lead to, by what they ask for.
use Rattle.std.proofs.Common.{inl, inr, ℕ, List, Option, Ok, Err, ◌≡◌}
use Rattle.clap.specs.Words.{Text, kind_of}
use Rattle.clap.specs.declared.error.Error.{Error}
use Rattle.clap.specs.declared.error.kind.ErrorKind.TheVariants.{OutOfMemory}
use Rattle.fdb_play.specs.random.Reports.{RunPrints}
use Rattle.fdb_play.specs.play.Scripts.{Knows, Plays, Printed}
use Rattle.fdb_load.specs.declared.load.Load.{Load}
use Rattle.fdb_load.specs.Reports.{PrintsEnd}
use Rattle.fdb_simulate.specs.declared.simulation.Simulation.{Simulation}
use Rattle.fdb_simulate.specs.Reports.{SimulationPrints}
use Rattle.fdb_sim.specs.Commands.{EndsBy, LackMemory, Obeys}
use Rattle.fdb_sim.specs.command.Tasks.{Asks}
use Rattle.fdb_sim.specs.declared.command.task.Schedule.{Schedule}
use Rattle.fdb_sim.specs.declared.command.task.Task.TheVariants.{Draw, Random, Run, Simulate, Threads}

module _ (words : List Text) (input old new err_old err_new : Option (List ℕ)) (status : ℕ) where
  pub plays : Asks words (Ok Run) → Printed old new (λ printed. Knows input (λ lines. Plays 0 lines printed status))
      → Obeys words input old new err_old err_new status
  plays (inl none) played = absurd none
  plays (inr (workloads, named, (faults, asked))) played = inl (workloads, named, inl (faults, asked, played))

  pub draws : (schedule : Schedule) → Asks words (Ok (Random schedule))
      → Printed old new (λ printed. RunPrints schedule.steps printed status)
      → Obeys words input old new err_old err_new status
  draws schedule (inl none) printed = absurd none
  draws schedule (inr (workloads, named, (faults, asked))) printed =
      inl (workloads, named, inr (inl (faults, schedule, asked, printed)))

  pub runs : (load : Load) → Asks words (Ok (Threads load))
      → Printed old new (λ printed. PrintsEnd load printed status)
      → Obeys words input old new err_old err_new status
  runs load (inl none) printed = absurd none
  runs load (inr (workloads, named, (faults, asked))) printed =
      inl (workloads, named, inr (inr (inl (faults, load, asked, printed))))

  pub simulates : (asked : Simulation) → Asks words (Ok (Simulate asked))
      → Printed old new (λ printed. SimulationPrints asked printed status)
      → Obeys words input old new err_old err_new status
  simulates asked (inl none) printed = absurd none
  simulates asked (inr (workloads, named, (faults, is))) printed =
      inl (workloads, named, inr (inr (inr (inl (faults, asked, is, printed)))))

  pub draws_run : Asks words (Ok Draw) → Obeys words input old new err_old err_new status
  draws_run (inl none) = absurd none
  draws_run (inr (workloads, named, (faults, asked))) =
      inl (workloads, named, inr (inr (inr (inr (inl (faults, asked))))))

  pub ends : (fault : Error) → Asks words (Err fault) → EndsBy (kind_of fault) old new status
      → (kind_of fault ≡ OutOfMemory → LackMemory old new err_old err_new status)
      → Obeys words input old new err_old err_new status
  ends fault (inl none) ended lacks = inr (lacks none)
  ends fault (inr (workloads, named, (inl none, given))) ended lacks = inr (lacks none)
  ends fault (inr (workloads, named, (inr among, given))) ended lacks =
      inl (workloads, named, inr (inr (inr (inr (inr (kind_of fault, among, ended))))))
