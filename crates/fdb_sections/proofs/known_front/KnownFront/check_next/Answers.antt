use Rattle.std.proofs.Common.{◌≡◌, suc, length, arith}
use Rattle.fdb_sections.proofs.TurnLemmas.{one-more, next-in-turn}
use Rattle.fdb_sections.proofs.known_front.KnownFront.check_next.Goals as goal

pub returns-clause-answers : goal.returns-clause-answers
returns-clause-answers g c =
    let count : length c.args.other.now ≡ suc (length c.args.self.now) =
    omega (arith, c.if-theirs-own-2.false, c.len-own.ensures, c.len-theirs.ensures) in
    rw (next-in-turn c.args.self.now c.args.other.now count)
    (one-more c.args.self.now c.args.other.now count (c.know_one_book.ensures.shorter (omega (arith, count))))
