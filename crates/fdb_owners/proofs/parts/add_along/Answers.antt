use Rattle.std.proofs.Common.{◌∙◌, sym, ap₂, subst, None}
use Rattle.fdb_interval.specs.Breakpoints.{Breaks}
use Rattle.fdb_owners.specs.declared.history.History.{History}
use Rattle.fdb_owners.specs.Histories.{AreFalling}
use Rattle.fdb_owners.specs.Parts.{with_pieces}
use Rattle.fdb_owners.proofs.AnswersLemmas.{answers-also}
use Rattle.fdb_owners.proofs.WalkLemmas.{falling-history_at, way-inside, parts-walked}
use Rattle.fdb_owners.proofs.parts.add_along.Goals as goal

pub add_owners-requires-clause-falling : goal.add_owners-requires-clause-falling
add_owners-requires-clause-falling c =
    subst (λ (history : History). AreFalling history.changes) (sym c.in-Some.ensures.history)
    (falling-history_at c.requires.known.0 c.requires.known.1 c.args.pieces.now c.args.range.now.begin
    c.requires.known.2)

pub add_pieces-requires-clause-way : goal.add_pieces-requires-clause-way
add_pieces-requires-clause-way c =
    way-inside c.requires.known.0 c.requires.known.1 c.args.pieces.now c.args.range.now c.requires.known.2
    c.history_throughout.ensures.rising c.history_throughout.ensures.begin c.history_throughout.ensures.end
    c.requires.some

pub returns-in-Some : goal.returns-in-Some
returns-in-Some c =
    answers-also c.add_owners.result None _ _
    (λ given added n last held known are.
    parts-walked n last c.args.span.since c.args.span.through c.args.pieces.now c.args.range.now held
    c.args.parts.now.items c.add_owners.new.parts.items known c.history_throughout.ensures.rising
    c.history_throughout.ensures.begin c.history_throughout.ensures.end c.requires.some
    (added
    ∙ ap₂ (λ (history : History) (pieces : Breaks History). with_pieces history c.args.span.since c.args.span.through
    c.args.range.now.begin pieces c.args.range.now.end c.args.parts.now.items) c.in-Some.ensures.history
    (sym c.in-Some.ensures.inside))
    are)
    c.add_owners.ensures

pub returns : goal.returns
returns c =
    answers-also c.add_pieces.result None _ _
    (λ given added n last held known are.
    parts-walked n last c.args.span.since c.args.span.through c.args.pieces.now c.args.range.now held
    c.args.parts.now.items c.add_pieces.new.parts.items known c.history_throughout.ensures.rising
    c.history_throughout.ensures.begin c.history_throughout.ensures.end c.requires.some added are)
    c.add_pieces.ensures
