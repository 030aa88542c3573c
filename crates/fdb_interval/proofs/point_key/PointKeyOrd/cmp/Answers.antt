use Rattle.std.proofs.Common.{◌≡◌, ◌∙◌, sym, arith}
use Rattle.std.specs.Cmp.Lexicographic.{slice_cmp}
use Rattle.std.specs.Ordering.{nat_cmp}
use Rattle.fdb_interval.proofs.HeadsLemmas.{less-by-head, greater-by-head, same-by-head}
use Rattle.fdb_interval.proofs.point_key.PointKeyOrd.cmp.Goals as goal

pub returns-then-self-other : goal.returns-then-self-other
returns-then-self-other c =
    sym (less-by-head c.self.inside.head c.other.inside.head c.self.inside.text c.other.inside.text
    c.self.invariant.0 c.other.invariant.0 c.if-self-other.true)
    ∙ (λ i. slice_cmp nat_cmp (c.self.view_is i) (c.other.view_is i))

pub returns-then-other-self : goal.returns-then-other-self
returns-then-other-self c =
    sym (greater-by-head c.self.inside.head c.other.inside.head c.self.inside.text c.other.inside.text
    c.self.invariant.0 c.other.invariant.0 c.if-other-self.true)
    ∙ (λ i. slice_cmp nat_cmp (c.self.view_is i) (c.other.view_is i))

pub returns-then-len-le-HEAD-2 : goal.returns-then-len-le-HEAD-2
returns-then-len-le-HEAD-2 c =
    let own = c.len-then-len-le-HEAD-2.ensures.value in
    let others = c.len-then-len-le-HEAD-2-2.ensures.value in
    let heads : c.self.inside.head ≡ c.other.inside.head =
    omega (arith, c.if-self-other.false, c.if-other-self.false) in
    c.cmp.ensures
    ∙ (λ i. nat_cmp (own i) (others i))
    ∙ sym (same-by-head c.self.inside.head c.other.inside.head c.self.inside.text c.other.inside.text
    c.self.invariant.0 c.other.invariant.0 heads
    (omega (arith, c.len.ensures.value, c.if-len-le-HEAD.true))
    (omega (arith, c.len-then-len-le-HEAD.ensures.value, c.if-len-le-HEAD-2.true)))
    ∙ (λ i. slice_cmp nat_cmp (c.self.view_is i) (c.other.view_is i))
