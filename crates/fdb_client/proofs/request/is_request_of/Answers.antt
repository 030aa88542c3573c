use Rattle.std.proofs.Common.{sym, subst}
use Rattle.fdb_client.proofs.AnsweredLemmas.{AnsweredSoFar}
use Rattle.fdb_client.proofs.request.is_request_of.Goals as goal

pub read_set-requires : goal.read_set-requires
read_set-requires c = (
  c.requires.0,
  subst (AnsweredSoFar c.requires.0) (sym c.as_slice-ops.ensures) c.requires.1,
)
