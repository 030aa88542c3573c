use Rattle.std.proofs.Common.{◌≡◌, ◌+◌, ◌++◌, take, vec_len}
use Rattle.std.specs.Prelude.{vec_capacity}
use Rattle.fdb_core.proofs.roles.resolver.copy_all.Given as goal

abbrev pub invariant-loop-verdict : goal.invariant-loop-verdict
invariant-loop-verdict l =
    record {
      verdicts : l.answer.items ≡ l.initial.answer.items ++ take l.verdict-index l.verdicts;
      len : vec_len l.answer ≡ vec_len l.initial.answer + l.verdict-index;
      capacity : vec_capacity l.answer ≡ vec_capacity l.initial.answer;
    }
