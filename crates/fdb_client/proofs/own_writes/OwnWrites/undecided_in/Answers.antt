use Rattle.std.proofs.Common.{◌∙◌, sym, ap, refl, Bool, false, not, ◌&&◌, ◌||◌, List, []}
use Rattle.std.proofs.lemmas.Bool.{and_parts, not-true}
use Rattle.fdb_keys.specs.Insertion.{with_ranges}
use Rattle.fdb_keys.specs.Ranges.{Range, in_range, in_set, is_apart}
use Rattle.fdb_keys.proofs.Exports.{apart-with_ranges}
use Rattle.fdb_client.specs.LeftAt.{left_at}
use Rattle.fdb_client.specs.OwnWrites.{is_value}
use Rattle.fdb_client.proofs.UndecidedLemmas.{not_cleared}
use Rattle.fdb_client.proofs.own_writes.OwnWrites.undecided_in.Goals as goal

pub undecided_among-requires-clause-uncleared : goal.undecided_among-requires-clause-uncleared
undecided_among-requires-clause-uncleared c = λ x there.
    not-true _ (and_parts _ _ (sym (c.in_ok-uncleared.ensures.points x) ∙ there)).1

pub returns-clause-answers : goal.returns-clause-answers
returns-clause-answers c = λ x.
    let own = c.args.self.now in
    let value = is_value (left_at own x) in
    c.in_ok-add_all.ensures.answers x
    ∙ ap (λ (set : List Range). in_set c.in_ok-parts.parts.items x || in_set set x) c.new-undecided.ensures
    ∙ ap (λ (found : Bool). found || false)
    (c.in_ok-parts.ensures x ∙ ap (λ (uncleared : Bool). uncleared && not value) (c.in_ok-uncleared.ensures.points x))
    ∙ not_cleared (in_range c.args.range.now x) (in_set own.cleared x) value (c.requires.cleared x)

pub returns-clause-apart : goal.returns-clause-apart
returns-clause-apart c =
    ap is_apart (c.in_ok-add_all.ensures.list ∙ ap (with_ranges c.in_ok-parts.parts.items) c.new-undecided.ensures)
    ∙ apart-with_ranges c.in_ok-parts.parts.items [] refl
