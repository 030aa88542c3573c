use Rattle.std.proofs.Common.{◌≡◌, ◌∙◌, ap, subst, false, IfOk, List, [], ◌∷◌, length, reverse, ℕ, rules}
use Rattle.std.specs.Iterator.Adapters.{rev_source, rev_steps}
use Rattle.std.specs.Map.Iter.{TakesLast, deref_pair}
use Rattle.std.proofs.lemmas.List.{reverse-append}
use Rattle.std.proofs.lemmas.Iterator.{YieldsList, YieldsList-from_take}
use Rattle.std.proofs.lemmas.Iterator.Consumers.{YieldsList-from_shown, YieldsList-at, map_from_collect}
use Rattle.fdb_keys.specs.Points.{Point, point_lt}
use Rattle.fdb_mutations.specs.Lent.{lent_pairs}
use Rattle.fdb_mutations.proofs.MapsLemmas.{forward-bounds, found-backward}
use Rattle.fdb_mutations.proofs.pairs.backward.Goals as goal

pub range-requires : goal.range-requires
range-requires c =
    let ordered : point_lt c.end_text.result.now c.begin_text.result.now ≡ false = search rules in
    forward-bounds c.begin_text.result.now c.end_text.result.now ordered

pub returns : goal.returns
returns c =
    subst (λ (pairs : List (Point × List ℕ)). IfOk c.collect.result (λ found. lent_pairs found.items ≡ pairs))
    (found-backward c.args.pairs.now.entries c.args.range.now c.begin_text.result.now c.end_text.result.now c.args.limit
    c.count_of.result c.range.result c.begin_text.ensures c.end_text.ensures.value (c.range.ensures.between tt)
    c.range.ensures.ordered c.range.ensures.fits c.count_of.ensures)
    (map_from_collect c.collect.result c.collect.ensures.ran
    (YieldsList-from_take c.count_of.result
    (YieldsList-at c.take.ensures.source
    (subst (λ (pairs : List (Point × List ℕ)). YieldsList (rev_steps (TakesLast deref_pair)) deref_pair c.rev.result
    (reverse pairs))
    c.rev.ensures.source
    (YieldsList-from_shown (rev_steps (TakesLast deref_pair)) deref_pair (λ s. reverse (rev_source s))
    (λ s t none. ap (λ (pairs : List (Point × List ℕ)). length (reverse pairs)) none.0)
    (λ s x t some. ap reverse some ∙ reverse-append (rev_source t) (deref_pair x ∷ []))
    c.rev.result))) c.take.ensures.count))
