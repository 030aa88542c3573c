use Rattle.std.proofs.Common.{◌∙◌, sym, ap, ◌&&◌, List}
use Rattle.std.specs.Cmp.Lexicographic.{pointwise}
use Rattle.fdb_sequencer.specs.Equality.{dated_eq}
use Rattle.fdb_txn.specs.declared.entry.Move.{Move}
use Rattle.fdb_sequencer.specs.Moves.{dated, unlearnt_of}
use Rattle.fdb_sequencer.proofs.MoveLemmas.{pointwise-parts}
use Rattle.fdb_sequencer.proofs.moves.Moves.are_moves_at.Goals as goal

pub returns-then-eq : goal.returns-then-eq
returns-then-eq c =
    let self = c.args.self.now in
    let rest = c.split_at.result.1.now in
    let pending = dated c.args.version self.pending in
    let parts =
    pointwise-parts dated_eq c.args.moves.now (unlearnt_of self c.args.proxy) pending c.unlearnt-unlearnt.result.now
    c.split_at.result.0.now rest c.unlearnt-unlearnt.ensures c.if-moves-unlearnt.false c.split_at.ensures.front
    c.split_at.ensures.back in
    let same = sym c.if-eq.true ∙ c.eq.ensures in
    c.are_dated.ensures
    ∙ ap (λ (moves : List Move). pointwise dated_eq rest (dated c.args.version moves)) c.pending.ensures
    ∙ (λ i. same i && pointwise dated_eq rest pending)
    ∙ parts

pub returns-else-eq : goal.returns-else-eq
returns-else-eq c =
    let self = c.args.self.now in
    let rest = c.split_at.result.1.now in
    let pending = dated c.args.version self.pending in
    let parts =
    pointwise-parts dated_eq c.args.moves.now (unlearnt_of self c.args.proxy) pending c.unlearnt-unlearnt.result.now
    c.split_at.result.0.now rest c.unlearnt-unlearnt.ensures c.if-moves-unlearnt.false c.split_at.ensures.front
    c.split_at.ensures.back in
    let differ = sym c.if-eq.false ∙ c.eq.ensures in
    c.if-eq.false ∙ (λ i. differ i && pointwise dated_eq rest pending) ∙ parts
