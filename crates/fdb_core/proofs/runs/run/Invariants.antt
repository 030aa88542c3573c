use Rattle.std.proofs.Common.{◌≡◌, take, None}
use Rattle.fdb_machine.specs.headline.Serving.{RolesKeep}
use Rattle.fdb_machine.specs.headline.Traces.{IsTraceOf}
use Rattle.fdb_proxy.specs.Configs.{config_fault}
use Rattle.fdb_core.proofs.runs.run.Given as goal

abbrev pub invariant-loop-step : goal.invariant-loop-step
invariant-loop-step l = record {
  legal : config_fault l.fn.config ≡ None;
  stands : IsTraceOf l.fn.config (take l.step-index l.steps) l.answers l.world.state;
  keep : RolesKeep l.world;
}
