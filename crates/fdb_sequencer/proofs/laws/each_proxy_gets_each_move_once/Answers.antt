use Rattle.fdb_sequencer.proofs.HandingLemmas.{each_move_takes_effect_once, each_proxy_gets_each_move_once}
use Rattle.fdb_sequencer.proofs.laws.each_proxy_gets_each_move_once.Goals as goal

pub returns-clause-effect : goal.returns-clause-effect
returns-clause-effect c = each_move_takes_effect_once

pub returns-clause-told : goal.returns-clause-told
returns-clause-told c = each_proxy_gets_each_move_once
