use Rattle.std.proofs.Common.{◌≡◌, ◌+◌, ◌≤◌, ◌++◌, List, drop, length, map, vec_len}
use Rattle.std.specs.Prelude.{vec_capacity}
use Rattle.std.specs.Iterator.Adapters.{enumerate_source, enumerate_count}
use Rattle.std.specs.Vec.Iter.{into_iter_items}
use Rattle.fdb_txn.specs.declared.txn_id.TxnId.{TxnId}
use Rattle.fdb_proxy.specs.declared.outcome.Outcome.{Outcome}
use Rattle.fdb_machine.specs.machine.CommitProxySteps.{placed_from}
use Rattle.fdb_core.proofs.roles.commit_proxy.replying.place_all.Given as goal

-- what became of each place
abbrev outcomes : List (TxnId × Outcome) → List Outcome
outcomes answers = map (λ (of : TxnId × Outcome). of.1) answers

abbrev pub invariant-loop-at : goal.invariant-loop-at
invariant-loop-at l =
    record {
      can_next : (goal.iterator-loop-at).can_next l.at-iterator;
      is_finite : (goal.iterator-loop-at).is_finite l.at-iterator;
      within : enumerate_count l.at-iterator ≤ length l.fn.transcripts;
      left : into_iter_items (enumerate_source l.at-iterator) ≡ drop (enumerate_count l.at-iterator) l.fn.transcripts;
      room : vec_len l.placed + length (drop (enumerate_count l.at-iterator) l.fn.transcripts) ≤ vec_capacity l.placed;
      placed :
          l.placed.items
          ++ placed_from l.index (drop (enumerate_count l.at-iterator) l.fn.transcripts)
          (outcomes (drop (enumerate_count l.at-iterator) l.answers))
          ≡ l.initial.placed.items ++ placed_from l.index l.fn.transcripts (outcomes l.answers);
    }
