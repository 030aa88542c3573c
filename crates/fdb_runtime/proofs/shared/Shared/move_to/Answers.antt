use Rattle.std.proofs.Common.{refl, inl, inr, Bool, true, false, Some, None, Result, Ok, Err, nat_le, if◌then◌else◌}
use Rattle.fdb_keys.specs.Answers.{Answers}
use Rattle.fdb_keys.specs.declared.refusal.Refusal.{Refusal}
use Rattle.fdb_keys.specs.declared.refusal.Refusal.TheVariants.{BadConfig, MovesFull}
use Rattle.fdb_txn.specs.Limits.{move_limit}
use Rattle.fdb_runtime.specs.Databases.{AnswersMove, is_bad_move}
use Rattle.fdb_runtime.proofs.shared.Shared.move_to.Goals as goal

-- by whether the move is a bad one, and whether as many were made as may be
answered : {T : Type 0} (bad full : Bool) (result : Result T Refusal) (P : T → Type 0)
    → Answers result (if bad then Some BadConfig else (if full then Some MovesFull else None)) P
    → AnswersMove bad result
answered true full (Ok done) P told = absurd told
answered false true (Ok done) P told = absurd told
answered false false (Ok done) P told = refl
answered true full (Err why) P told = inr (inl (refl, told))
answered false true (Err why) P told = inr (inr (refl, told))
answered false false (Err why) P told = inl told

pub returns : goal.returns
returns g c =
    let state = c.deref_mut.result.now.state in
    answered (is_bad_move g.B.DatabaseName.config c.args.one_move) (nat_le move_limit state.made) c.move_to.result _
    (rw c.move_to.ensures.resolvers at c.move_to.ensures.answers)
