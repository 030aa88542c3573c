-- Lines that write a stamped value, and lines that don't.
use Rattle.std.specs.Prelude.{ℕ, List, codes}
use Rattle.fdb_machine.specs.declared.step.AnyStep.TheVariants as made
use Rattle.fdb_mutations.specs.declared.mutation.Mutation.{Mutation}
use Rattle.fdb_mutations.specs.declared.mutation.Mutation.TheVariants.{Set, Stamped}
use Rattle.fdb_play.specs.declared.script.line.Line.{Line}
use Rattle.fdb_play.specs.declared.script.line.Line.TheVariants as given
use Rattle.fdb_play.specs.declared.script.step_line.Kind.TheVariants.{Write}
use Rattle.fdb_play.specs.script.Grammar.{WritesLine}

-- session 0 writes the mutation
abbrev pub writes : Mutation → Line
writes mutation = given.Step Write (made.Write 0 mutation)

-- the line writes nothing
abbrev pub IsBad : List ℕ → Type 0
IsBad line = (read : Line) → ¬ WritesLine line read

-- A key, an operand and an offset write a Stamped mutation, with this offset and no other, and no Set. With no word
-- after 'stamped', without an offset, with one above all numbers of 32 bits, with one that is no number, and with a
-- word after it the line is bad.
abbrev pub WorkedStampedLines : Type 0
WorkedStampedLines =
    WritesLine (codes "write 0 stamped a x0123456789y 1") (writes (Stamped (codes "a") (codes "x0123456789y") 1))
    × WritesLine (codes "write 0 stamped a x 4294967295") (writes (Stamped (codes "a") (codes "x") 4294967295))
    × ¬ WritesLine (codes "write 0 stamped a x0123456789y 1") (writes (Stamped (codes "a") (codes "x0123456789y") 12))
    × ¬ WritesLine (codes "write 0 stamped a x0123456789y 1") (writes (Set (codes "a") (codes "x0123456789y")))
    × IsBad (codes "write 0 stamped")
    × IsBad (codes "write 0 stamped a x0123456789y")
    × IsBad (codes "write 0 stamped a x0123456789y 4294967296")
    × IsBad (codes "write 0 stamped a x0123456789y b")
    × IsBad (codes "write 0 stamped a x0123456789y 1 2")
