use Rattle.std.proofs.Common.{◌≤◌, ◌∙◌, ap, length, slice_set, []}
use Rattle.std.proofs.Common.{arith}
use Rattle.fdb_sequencer.specs.Moves.{Moves}
use Rattle.fdb_sequencer.proofs.MoveLemmas.{all_had}
use Rattle.fdb_sequencer.proofs.moves.Moves.hand_out.Goals as goal

pub returns : goal.returns
returns c =
    let issued = c.self.inside.issued in
    let len = c.len.ensures in
    let ok = issued.ok.0 in
    let all : length issued.items ≤ c.len.result = omega (arith, len, ok) in
    let is = c.self.view_is ∙ c.issue.ensures in
    let unlearnt =
    all_had issued.items c.self.inside.had.items c.args.proxy c.len.result all
    ∙ ap (λ (m : Moves). slice_set m.unlearnt c.args.proxy []) is in
    λ i. record { pending = (is i).pending; unlearnt = unlearnt i }
