use Rattle.std.proofs.Common.{◌≡◌, ◌∙◌, ap, refl, arith, rules}
use Rattle.std.specs.Ordering.{nat_cmp, is_lt}
use Rattle.std.specs.Prelude.{reverse}
use Rattle.std.specs.Cmp.Lexicographic.{slice_cmp}
use Rattle.std.specs.Slice.Iter.{iter_rest}
use Rattle.std.specs.Iterator.Adapters.{rev_source}
use Rattle.std.proofs.lemmas.Iterator.Search.{cmp_from_yields_List}
use Rattle.std.proofs.lemmas.Iterator.Adapters.{YieldsList-from_rev_slice}
use Rattle.fdb_mutations.proofs.NumbersLemmas.{below-number_of}
use Rattle.fdb_mutations.proofs.numbers.is_below.Goals as goal

pub returns : goal.returns
returns c =
    let given : iter_rest (rev_source c.rev-2.result) ≡ c.args.b.now = search rules in
    let order : c.cmp.result ≡ slice_cmp nat_cmp (reverse c.args.a.now) (reverse c.args.b.now) =
    cmp_from_yields_List (λ u t. t ≡ u) c.rev-2.result nat_cmp c.cmp.result c.cmp.ensures.ran
    (YieldsList-from_rev_slice c.args.a.now (search rules))
    (λ it same. YieldsList-from_rev_slice c.args.b.now (ap (λ s. iter_rest (rev_source s)) same
    ∙ given)) (λ x y. refl) in
    c.is_lt.ensures ∙ ap is_lt order ∙ below-number_of c.args.a.now c.args.b.now c.requires
    (λ i. omega (arith, c.type_inv.a i)) (λ i. omega (arith, c.type_inv.b i))
