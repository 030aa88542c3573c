use Rattle.std.proofs.Common.{◌≡◌, ◌∙◌, sym, ap, subst, ◌++◌, rules, true, false, Bor, List, ℕ, Option, None}
use Rattle.std.specs.Option.{option_copied}
use Rattle.std.specs.Prelude.{is_some}
use Rattle.fdb_keys.specs.Ranges.{Range}
use Rattle.fdb_mutations.specs.PairLaws.{pair_of}
use Rattle.fdb_mutations.specs.Pairs.{is_limit_reached}
use Rattle.fdb_client.specs.declared.left.Left.{Left}
use Rattle.fdb_client.specs.OwnWalk.{AreEntriesOf, in_order, left_of}
use Rattle.fdb_client.specs.OwnWrites.{value_over}
use Rattle.fdb_client.proofs.MergingLemmas.{own-all, own-full, own-take}
use Rattle.fdb_client.proofs.OwnWalkLemmas.{at-passed, left-entry, left-passed}
use Rattle.fdb_client.proofs.range_read.RangeRead.take_own.Goals as goal

pub returns-in_default-clause-answers : goal.returns-in_default-clause-answers
returns-in_default-clause-answers c =
    let none : c.next_own.result ≡ None = search rules in
    let first = rw none at c.next_own.ensures.first in
    own-all c.args.self.now.own.now _ _ _ _ _ _ _ c.loop-walk.invariant.0 first

pub loop-walk-preserved : goal.loop-walk-preserved
loop-walk-preserved c =
    let own = c.args.self.now.own.now in
    let reverse = c.args.self.now.reverse in
    let walk = c.loop-walk.walk in
    let text = c.in-Some.text.now in
    let so_far = c.loop-walk.invariant.0 in
    let at = c.loop-walk.invariant.1 in
    let are = subst (AreEntriesOf own (left_of reverse walk) reverse) c.in-Some.ensures.rest at.entries in
    let room : is_limit_reached c.args.self.now.limit c.loop-walk.given ≡ false = search rules in
    let taken = own-take own reverse c.args.self.now.limit (option_copied c.args.next) _ _ _ _ so_far text
    c.in-Some.ensures.first room in
    let given = c.in_ok-give.ensures
    ∙ ap (λ (value : Option (List ℕ)). c.loop-walk.given ++ pair_of text value)
    (c.in_ok-value.ensures
    ∙ ap (λ (left : Left). value_over left None)
    (c.lent.ensures ∙ sym (left-entry own text c.in-Some.left.now are.1))) in
    let left = left-passed reverse walk c.pass_own.new.self text c.pass_own.ensures.range c.pass_own.ensures.last in (
      rw (given, left) taken,
      at-passed own reverse walk c.pass_own.new.self text (in_order reverse walk.rest) at
          (c.requires.legal_keys text (ap is_some are.1)) are.0 c.pass_own.ensures.range c.pass_own.ensures.last
          c.pass_own.ensures.to_come are.3,
      ap (λ (lent : Bor Range). lent.now) c.pass_own.ensures.range ∙ c.loop-walk.invariant.2,
    )

pub returns-clause-answers : goal.returns-clause-answers
returns-clause-answers c =
    let full : is_limit_reached c.args.self.now.limit c.loop-walk.given ≡ true = search rules in
    own-full c.args.self.now.own.now _ _ _ _ _ _ _ c.loop-walk.invariant.0 full
