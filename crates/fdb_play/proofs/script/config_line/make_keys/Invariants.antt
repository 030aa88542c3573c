use Rattle.std.proofs.Common.{◌≡◌, drop, take}
use Rattle.fdb_play.specs.script.Configs.{first_fault}
use Rattle.fdb_play.proofs.script.config_line.make_keys.Given as goal

-- what is left to make keys of has the fault of all
abbrev pub invariant-loop-text : goal.invariant-loop-text
invariant-loop-text l =
    (l.keys ≡ take l.text-index l.texts) × (first_fault (drop l.text-index l.texts) ≡ first_fault l.texts)
