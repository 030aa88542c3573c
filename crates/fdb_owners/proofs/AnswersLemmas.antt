-- What calls answer.
use Rattle.std.proofs.Common.{Result, Ok, Err, Option, Some, None}
use Rattle.fdb_keys.specs.Answers.{Answers}
use Rattle.fdb_keys.specs.declared.refusal.Refusal.{Refusal}

-- what is given has each property that follows
pub answers-also : {T : Type 0} (result : Result T Refusal) (fault : Option Refusal) (P Q : T → Type 0)
    → ((given : T) → P given → Q given) → Answers result fault P → Answers result fault Q
answers-also (Ok given) None P Q also answered = also given answered
answers-also (Ok given) (Some fault) P Q also answered = answered
answers-also (Err why) None P Q also answered = answered
answers-also (Err why) (Some fault) P Q also answered = answered
