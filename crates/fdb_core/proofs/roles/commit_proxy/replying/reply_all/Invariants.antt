use Rattle.std.proofs.Common.{◌≡◌, ◌+◌, ◌++◌, map, take, vec_len}
use Rattle.std.specs.Prelude.{vec_capacity}
use Rattle.fdb_txn.specs.declared.txn_id.TxnId.{TxnId}
use Rattle.fdb_proxy.specs.declared.outcome.Outcome.{Outcome}
use Rattle.fdb_core.proofs.roles.commit_proxy.replying.reply_all.Given as goal

abbrev pub invariant-loop-id : goal.invariant-loop-id
invariant-loop-id l =
    record {
      told :
          l.told.items
          ≡ l.initial.told.items
          ++ map (λ (of : TxnId × Outcome). (of.0.session, of.1)) (take l.id-index l.answers);
      len : vec_len l.told ≡ vec_len l.initial.told + l.id-index;
      capacity : vec_capacity l.told ≡ vec_capacity l.initial.told;
    }
