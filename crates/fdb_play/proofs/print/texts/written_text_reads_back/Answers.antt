use Rattle.fdb_play.proofs.lemmas.ReadBack.{reads_back}
use Rattle.fdb_play.proofs.print.texts.written_text_reads_back.Goals as goal

pub returns : goal.returns
returns c = reads_back
