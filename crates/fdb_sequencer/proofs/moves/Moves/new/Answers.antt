use Rattle.std.proofs.Common.{◌∙◌, ap, ℕ, [], map, drop}
use Rattle.fdb_sequencer.proofs.MoveLemmas.{none_unlearnt}
use Rattle.fdb_sequencer.proofs.moves.Moves.new.Goals as goal

pub returns : goal.returns
returns c =
    let had = c.in_ok-vec.ensures.items_if_clones_equal (λ y same. same) in
    let unlearnt =
    ap (map (λ (count : ℕ). drop count c.new.result.items)) had
    ∙ none_unlearnt c.new.result.items c.args.proxies c.new.ensures.items in
    λ i. record { pending = []; unlearnt = unlearnt i }
