use Rattle.fdb_layers.proofs.TableExamplesLemmas.{pink_is_put, forgetful_puts_fail}
use Rattle.fdb_layers.proofs.laws.worked_table.Goals as goal

pub returns : goal.returns
returns c = record { puts = pink_is_put; forgetful = forgetful_puts_fail }
