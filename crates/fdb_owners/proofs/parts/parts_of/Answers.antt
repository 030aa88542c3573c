use Rattle.std.proofs.Common.{◌≡◌, sym, subst, false, [], ℕ, Bool, ◌&&◌, rules}
use Rattle.fdb_keys.specs.Points.{Point}
use Rattle.fdb_keys.specs.Ranges.{in_range}
use Rattle.fdb_owners.specs.Parts.{ArePartsOf, owned_from}
use Rattle.fdb_owners.specs.Pieces.{history_at}
use Rattle.fdb_owners.proofs.PartsLemmas.{parts-none}
use Rattle.fdb_owners.proofs.parts.parts_of.Goals as goal

pub returns : goal.returns
returns c n last known =
    let held : ℕ → Point → Bool = λ i x.
    in_range c.args.range.now x
    && owned_from (history_at c.args.pieces.now x) i c.args.span.since c.args.span.through in
    let none : c.new-parts.result.items ≡ [] = search rules in
    subst (ArePartsOf n held) (sym c.from_vec.ensures)
    (c.in_ok-add_range.ensures n last (λ i x. false) known
    (subst (ArePartsOf n (λ i x. false)) (sym none) (parts-none n)))
