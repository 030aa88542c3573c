-- One operation more of a transcript.
use Rattle.std.proofs.Common.{◌≡◌, ◌∙◌, sym, ap, ap₂, List, [], ◌∷◌, ◌++◌}
use Rattle.std.proofs.lemmas.List.Sums.{fold-append}
use Rattle.fdb_client.specs.declared.program.Op.{Op}
use Rattle.fdb_client.specs.declared.program.Reply.{Reply}
use Rattle.fdb_client.specs.Programs.{program, replies_of, exec}
use Rattle.fdb_client.specs.ProgramLaws.{OneMoreIsExecuted}

-- one more operation is the newest of the program
pub program-push : (ops : List (Op × Reply)) (done : Op × Reply) → program (ops ++ done ∷ []) ≡ done.0 ∷ program ops
program-push ops done = fold-append (λ (earlier : List Op) (one : Op × Reply). one.0 ∷ earlier) [] ops (done ∷ [])

-- and its reply the newest reply
pub replies-push : (ops : List (Op × Reply)) (done : Op × Reply)
    → replies_of (ops ++ done ∷ []) ≡ done.1 ∷ replies_of ops
replies-push ops done = fold-append (λ (earlier : List Reply) (one : Op × Reply). one.1 ∷ earlier) [] ops (done ∷ [])

-- a transcript that is the execution of its program is so with one operation more that replies from the copy
pub one_more_is_executed : OneMoreIsExecuted
one_more_is_executed map ops op reply executed answered =
    replies-push ops (op, reply)
    ∙ ap₂ (λ (now : Reply) (others : List Reply). now ∷ others) answered executed
    ∙ ap (exec map) (sym (program-push ops (op, reply)))
