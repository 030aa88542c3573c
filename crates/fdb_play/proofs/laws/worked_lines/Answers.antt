use Rattle.fdb_play.proofs.lemmas.ScriptExamples.{worked_stamped_lines}
use Rattle.fdb_play.proofs.laws.worked_lines.Goals as goal

pub returns : goal.returns
returns c = worked_stamped_lines
