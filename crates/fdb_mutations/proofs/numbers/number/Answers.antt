use Rattle.std.proofs.Common.{◌≡◌, ◌∙◌, ◌++◌, length, drop, rules}
use Rattle.std.specs.Prelude.{replicate}
use Rattle.std.specs.Int.{w128, from_le_bytes}
use Rattle.fdb_mutations.proofs.NumbersLemmas.{from_le_bytes-number_of}
use Rattle.fdb_mutations.proofs.numbers.number.Goals as goal

pub returns : goal.returns
returns c =
    let wide : c.from_le_bytes.result
    ≡ from_le_bytes w128 (c.args.bytes.now ++ drop (length c.args.bytes.now) (replicate 16 0)) = search rules in
    wide ∙ from_le_bytes-number_of c.args.bytes.now c.requires
