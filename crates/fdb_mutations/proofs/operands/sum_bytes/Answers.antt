use Rattle.std.proofs.Common.{◌≡◌, ◌∙◌, ◌+◌, ◌%◌, ◌^◌, ap, rules, true, length, take, List, ℕ, nat_le}
use Rattle.std.specs.Int.{w128, to_le_bytes}
use Rattle.std.proofs.lemmas.Bool.{and_parts, leb-true}
use Rattle.fdb_mutations.specs.Numbers.{number_of}
use Rattle.fdb_mutations.specs.Operands.{fit}
use Rattle.fdb_mutations.proofs.NumbersLemmas.{take-sum}
use Rattle.fdb_mutations.proofs.operands.sum_bytes.Goals as goal

pub returns : goal.returns
returns c =
    let parts : (nat_le 1 (length c.args.operand.now) ≡ true)
    × (nat_le (length c.args.operand.now) 16 ≡ true) = and_parts _ _ c.requires in
    let value : c.as_slice.result.now ≡ fit (length c.args.operand.now) c.args.value.now = search rules in
    let bytes : c.in_ok-bytes.bytes ≡ take (length c.args.operand.now) c.sum-sum.result = search rules in
    bytes ∙ ap (take (length c.args.operand.now)) c.sum-sum.ensures
    ∙ ap (λ (given : List ℕ). take (length c.args.operand.now)
    (to_le_bytes w128 ((number_of given + number_of c.args.operand.now) % 2 ^ 128))) value
    ∙ take-sum (length c.args.operand.now) _ (leb-true _ _ parts.1)
