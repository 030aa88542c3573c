use Rattle.std.proofs.Common.{◌≡◌, ◌∙◌, ap, subst, IfOk, [], ◌∷◌, length, reverse, rules, tests}
use Rattle.std.specs.Iterator.Adapters.{rev_source, rev_steps}
use Rattle.std.specs.Map.Iter.{TakesLast, deref_pair}
use Rattle.std.proofs.lemmas.List.{reverse-append}
use Rattle.std.proofs.lemmas.Iterator.{YieldsList, YieldsList-from_take}
use Rattle.std.proofs.lemmas.Iterator.Consumers.{YieldsList-from_shown, YieldsList-from_filter, YieldsList-at}
use Rattle.std.proofs.lemmas.Iterator.Consumers.{map_from_collect}
use Rattle.fdb_keys.specs.Ranges.{Range}
use Rattle.fdb_storage.specs.KeyPages.{is_live, lent_keys}
use Rattle.fdb_storage.specs.VersionMaps.{VersionedKeys}
use Rattle.fdb_mutations.proofs.Exports.{forward-bounds}
use Rattle.fdb_storage.proofs.PagesLemmas.{found-backward}
use Rattle.fdb_storage.proofs.paging.backward.Goals as goal

pub range-requires : goal.range-requires
range-requires c =
    forward-bounds c.begin.result.now c.end.result.now (rw (c.begin.ensures, c.end.ensures.value) c.end.ensures.order)

pub returns : goal.returns
returns c =
    subst (λ (keys : VersionedKeys). IfOk c.collect.result (λ found. lent_keys found.items ≡ keys))
    (found-backward c.args.version c.args.range.now c.args.limit c.one_more.result c.begin.result.now
    c.end.result.now c.args.keys.now.entries c.range.result
    (c.begin.ensures ∙ ap (λ (range : Range). range.begin) c.in_ok-keyed.ensures)
    (c.end.ensures.value ∙ ap (λ (range : Range). range.end) c.in_ok-keyed.ensures)
    (c.range.ensures.between tt) c.range.ensures.fits c.one_more.ensures)
    (map_from_collect c.collect.result c.collect.ensures.ran
    (YieldsList-from_take c.one_more.result
    (YieldsList-at c.take.ensures.source
    (YieldsList-from_filter _ (is_live c.args.version)
    (YieldsList-at c.filter.ensures.source
    (subst (λ (keys : VersionedKeys). YieldsList (rev_steps (TakesLast deref_pair)) deref_pair c.rev.result
    (reverse keys))
    c.rev.ensures.source
    (YieldsList-from_shown (rev_steps (TakesLast deref_pair)) deref_pair (λ s. reverse (rev_source s))
    (λ s t none. ap (λ (keys : VersionedKeys). length (reverse keys)) none.0)
    (λ s x t some. ap reverse some ∙ reverse-append (rev_source t) (deref_pair x ∷ []))
    c.rev.result))) c.filter.ensures.closure
    (λ x b q k. search (rules, tests)))) c.take.ensures.count))
