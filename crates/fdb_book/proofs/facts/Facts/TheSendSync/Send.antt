use denote.RattleType.{RattleType}
use denote.Param.Send.{IsSend}
use Rattle.fdb_book.specs.contracts.facts.Facts.{the_row}
use Rattle.fdb_book.proofs.Known.{all_keyless}

pub send : (T : RattleType) → IsSend (the_row T)
send T = record {
  owned = λ f vs. ((λ vss. (tt, ((λ uss. (tt, tt)), tt))), all_keyless T f.known);
  leaving = λ k f vs. tt;
}
