use Rattle.std.proofs.Common.{◌≡◌, ◌∙◌, sym, ap, refl, subst, arith, rules, length, List, Some, None, ℕ}
use Rattle.std.specs.List.{slice_get}
use Rattle.std.proofs.lemmas.Option.{slice_get_read}
use Rattle.fdb_keys.specs.Points.{Point}
use Rattle.fdb_client.specs.LeftAt.{left_at}
use Rattle.fdb_client.specs.OwnWalk.{left_of}
use Rattle.fdb_client.specs.OwnWrites.{value_over}
use Rattle.fdb_client.proofs.FaultLemmas.{same_fault}
use Rattle.fdb_client.proofs.MergingLemmas.{within-take}
use Rattle.fdb_client.proofs.PagesLemmas.{PagesSoFar, next-inside, next-none, next-full, next-taken, page-more}
use Rattle.fdb_client.proofs.PagesLemmas.{page-none, page-last}
use Rattle.fdb_client.proofs.range_read.RangeRead.merge.Goals as goal

pub take_own-requires-clause-next : goal.take_own-requires-clause-next
take_own-requires-clause-next c =
    let i = c.loop-key.key-index in
    let pairs = c.args.page.now.pairs in
    let items = c.as_slice-key-items.result.now in
    let at : slice_get pairs i ≡ Some c.loop-key-item.result =
    ap (λ (l : List (Point × List ℕ)). slice_get l i) (sym c.as_slice-key-items.ensures)
    ∙ slice_get_read items (length items) i c.loop-key-item.result refl (omega arith) c.loop-key-item.is in
    next-inside c.args.self.now.own.now c.args.page.now c.args.self.now.reverse c.args.self.now.limit i _ _ _ _
    c.loop-key-item.result.0 c.loop-key-item.result.1 c.loop-key.invariant.0 at c.requires.page.0 c.requires.page.1
    c.requires.page.2 c.requires.page.3

pub returns-then-is_full-clause-answers : goal.returns-then-is_full-clause-answers
returns-then-is_full-clause-answers c = λ map copy is_copy first.
    let i = c.loop-key.key-index in
    let pairs = c.args.page.now.pairs in
    let items = c.as_slice-key-items.result.now in
    let at : slice_get pairs i ≡ Some c.loop-key-item.result =
    ap (λ (l : List (Point × List ℕ)). slice_get l i) (sym c.as_slice-key-items.ensures)
    ∙ slice_get_read items (length items) i c.loop-key-item.result refl (omega arith) c.loop-key-item.is in
    let none = next-none c.args.self.now.own.now c.args.page.now c.args.self.now.reverse c.args.self.now.limit i _ _ _ _
    c.loop-key-item.result.0 c.loop-key-item.result.1 c.loop-key.invariant.0 at map copy is_copy first in
    let took = c.in_ok-take_own.ensures.answers map copy is_copy none in
    next-full c.args.self.now.own.now c.args.page.now c.args.self.now.reverse c.args.self.now.limit i _ _ _ _
    c.loop-key-item.result.0 c.loop-key-item.result.1 c.loop-key.invariant.0 at map copy is_copy first _ _ took
    c.args.page.now.more (length pairs) (search rules)

pub take_pair-requires-clause-inside : goal.take_pair-requires-clause-inside
take_pair-requires-clause-inside c =
    let i = c.loop-key.key-index in
    let pairs = c.args.page.now.pairs in
    let items = c.as_slice-key-items.result.now in
    let at : slice_get pairs i ≡ Some c.loop-key-item.result =
    ap (λ (l : List (Point × List ℕ)). slice_get l i) (sym c.as_slice-key-items.ensures)
    ∙ slice_get_read items (length items) i c.loop-key-item.result refl (omega arith) c.loop-key-item.is in
    let none = next-none c.args.self.now.own.now c.args.page.now c.args.self.now.reverse c.args.self.now.limit i _ _ _ _
    c.loop-key-item.result.0 c.loop-key-item.result.1 c.loop-key.invariant.0 at c.requires.page.0 c.requires.page.1
    c.requires.page.2 c.requires.page.3 in
    (c.in_ok-take_own.ensures.answers c.requires.page.0 c.requires.page.1 c.requires.page.2 none).lies_in

pub loop-key-preserved : goal.loop-key-preserved
loop-key-preserved c =
    let i = c.loop-key.key-index in
    let own = c.args.self.now.own.now in
    let key = c.loop-key-item.result.0 in
    let pairs = c.args.page.now.pairs in
    let items = c.as_slice-key-items.result.now in
    let at : slice_get pairs i ≡ Some c.loop-key-item.result =
    ap (λ (l : List (Point × List ℕ)). slice_get l i) (sym c.as_slice-key-items.ensures)
    ∙ slice_get_read items (length items) i c.loop-key-item.result refl (omega arith) c.loop-key-item.is in
    let within = within-take c.args.self.now.limit c.take_own.new.given key
    (value_over (left_at own key) (Some c.loop-key-item.result.1)) (search rules) c.in_ok-take_own.ensures.within in (
      rw (c.in_ok-take_pair.ensures.given, c.in_ok-take_pair.ensures.left) (
        within,
        λ map copy is_copy first.
            let none = next-none own c.args.page.now c.args.self.now.reverse c.args.self.now.limit i _ _ _ _
            key c.loop-key-item.result.1 c.loop-key.invariant.0 at map copy is_copy first in
            let took = c.in_ok-take_own.ensures.answers map copy is_copy none in
            next-taken own c.args.page.now c.args.self.now.reverse c.args.self.now.limit i _ _ _ _
            key c.loop-key-item.result.1 c.loop-key.invariant.0 at map copy is_copy first _ _ took (search rules),
      ),
      c.in_ok-take_pair.ensures.at,
      c.in_ok-take_pair.ensures.range ∙ c.in_ok-take_own.ensures.range ∙ c.loop-key.invariant.2,
    )

pub returns-then-page-clause-answers : goal.returns-then-page-clause-answers
returns-then-page-clause-answers c = λ map copy is_copy first.
    let own = c.args.self.now.own.now in
    let page = c.args.page.now in
    let reverse = c.args.self.now.reverse in
    let before = c.args.given.now in
    let whole = left_of reverse c.args.walk.now in
    let now = c.loop-key.given in
    let left = left_of reverse c.loop-key.walk in
    let as_many : length c.as_slice-key-items.result.now ≡ length page.pairs = ap length c.as_slice-key-items.ensures in
    let count : c.loop-key.key-index ≡ length page.pairs = omega (arith, as_many) in
    let so_far = subst (λ (n : ℕ). PagesSoFar own page reverse c.args.self.now.limit n before whole now left) count
    c.loop-key.invariant.0 in
    page-more own page reverse c.args.self.now.limit before now whole left so_far
    map copy is_copy first c.if-page.true

pub returns-clause-answers : goal.returns-clause-answers
returns-clause-answers c =
    let own = c.args.self.now.own.now in
    let page = c.args.page.now in
    let reverse = c.args.self.now.reverse in
    let before = c.args.given.now in
    let whole = left_of reverse c.args.walk.now in
    let now = c.loop-key.given in
    let left = left_of reverse c.loop-key.walk in
    let as_many : length c.as_slice-key-items.result.now ≡ length page.pairs = ap length c.as_slice-key-items.ensures in
    let count : c.loop-key.key-index ≡ length page.pairs = omega (arith, as_many) in
    let so_far = subst (λ (n : ℕ). PagesSoFar own page reverse c.args.self.now.limit n before whole now left) count
    c.loop-key.invariant.0 in
    same_fault c.take_own-2.result None _ _
    (λ _ took map copy is_copy first.
    page-last own page reverse c.args.self.now.limit before now whole left so_far
    map copy is_copy first _ _
    (took map copy is_copy
    (page-none own page reverse c.args.self.now.limit before now whole left so_far
    map copy is_copy first c.if-page.false)))
    c.take_own-2.ensures.answers
