use Rattle.std.proofs.Common.{◌≡◌}
use Rattle.fdb_play.proofs.lemmas.Script.{refused_world}
use Rattle.fdb_proxy.specs.Configs.{config_fault}
use Rattle.fdb_machine.specs.machine.Worlds.{first_state}
use Rattle.fdb_roles.proofs.Exports.{answers-fault}
use Rattle.fdb_play.proofs.play.script.make_world.Goals as goal

pub returns-in-Err-clause-stops : goal.returns-in-Err-clause-stops
returns-in-Err-clause-stops c number lines = refused_world _ _ _ c.in-Err.ensures.started number lines

-- a world that was made was refused nothing
pub returns-in-Ok-clause-ok : goal.returns-in-Ok-clause-ok
returns-in-Ok-clause-ok c =
    answers-fault (config_fault c.args.config) c.in-Ok.world (λ world. world.state ≡ first_state c.args.config)
    c.in-Ok.ensures.started
