use Rattle.std.proofs.Common.{◌≡◌, ◌∙◌, sym, ap, subst, ◌&&◌, ◌||◌, ◌==◌, ◌<◌, true, false, ℕ, Bool, List, []}
use Rattle.std.proofs.Common.{Option, IfSome, rules}
use Rattle.std.proofs.Math.Bool.{or-false}
use Rattle.std.proofs.lemmas.List.{nil_from_length}
use Rattle.std.specs.Slice.Iter.{iter_rest}
use Rattle.fdb_keys.specs.Points.{Point}
use Rattle.fdb_keys.specs.Ranges.{Range, in_range, in_set}
use Rattle.fdb_txn.specs.rules.Admission.{has_points}
use Rattle.fdb_owners.specs.Parts.{AreRising, ArePartsOf, owned_from}
use Rattle.fdb_owners.specs.Pieces.{IsPieces, history_at}
use Rattle.fdb_owners.proofs.PartsLemmas.{parts-alike, parts-none}
use Rattle.fdb_owners.proofs.SpreadLemmas.{spread-next, sole-parts}
use Rattle.fdb_owners.proofs.spreading.spread.Goals as goal

pub loop-range-init : goal.loop-range-init
loop-range-init c =
    let none : c.new-parts.result.items ≡ [] = c.new-parts.ensures.items in
    let all : iter_rest c.into_iter-range-iterator.result ≡ c.args.set.now = search rules in
    record {
      rising = subst AreRising (sym none) tt;
      so_far = λ n last are. (
        λ i x. false,
        subst (ArePartsOf n (λ i x. false)) (sym none) (parts-none n),
        λ i x. ap
            (λ (left : List Range). in_set left x
            && owned_from (history_at c.args.pieces.now x) i c.args.span.since c.args.span.through) all,
      );
    }

pub loop-range-preserved : goal.loop-range-preserved
loop-range-preserved c =
    let owned : ℕ → Point → Bool = λ i x.
    owned_from (history_at c.args.pieces.now x) i c.args.span.since c.args.span.through in
    let known = c.requires.known in
    let before = c.loop-range.invariant.so_far known.0 known.1 known.2 in
    record {
      rising = (c.in_ok-add_range.ensures known.0 known.1 before.0 known.2 before.1).rising;
      so_far = λ n last are.
          let sooner = c.loop-range.invariant.so_far n last are in (
            λ i x. sooner.0 i x || (in_range c.in-Some-range.range.now x && owned i x),
            c.in_ok-add_range.ensures n last sooner.0 are sooner.1,
            λ i x. spread-next (sooner.0 i x) (owned i x) c.in-Some-range.range.now _ _ x _ (search rules) (sooner.2 i x),
          );
    }

pub returns : goal.returns
returns c n last known =
    let owned : ℕ → Point → Bool = λ i x.
    owned_from (history_at c.args.pieces.now x) i c.args.span.since c.args.span.through in
    let before = c.loop-range.invariant.so_far n last known in
    let none : iter_rest c.loop-range.range-iterator ≡ [] =
    nil_from_length (iter_rest c.loop-range.range-iterator) (search (rules, c.in-None.ensures.steps.0)) in
    subst (ArePartsOf n (λ i x. in_set c.args.set.now x && owned i x)) (sym c.from_vec.ensures)
    (parts-alike n before.0 _ c.loop-range.parts.items before.1
    (λ i x. sym (or-false (before.0 i x))
    ∙ ap (λ (left : List Range). before.0 i x || in_set left x && owned i x) (sym none)
    ∙ before.2 i x))

pub returns-in-Some : goal.returns-in-Some
returns-in-Some c n last known =
    let resolver = c.in-Some.resolver in
    let some : has_points c.args.set.now ≡ true = search rules in
    let within : resolver < n =
    subst
    (λ (found : Option ℕ). IfSome found (λ sole. (resolvers last : ℕ)
    → IsPieces resolvers last c.args.pieces.now → sole < resolvers))
    c.in-Some.is c.in_ok-resolver.ensures.within n last known in
    let alone : (i : ℕ) (x : Point) → in_set c.args.set.now x ≡ true
    → owned_from (history_at c.args.pieces.now x) i c.args.span.since c.args.span.through ≡ (resolver == i) =
    λ i x inside. search rules in
    subst
    (ArePartsOf n (λ i x. in_set c.args.set.now x
    && owned_from (history_at c.args.pieces.now x) i c.args.span.since c.args.span.through))
    (sym c.in_ok-parts.ensures)
    (sole-parts n resolver c.args.set.now
    (λ i x. owned_from (history_at c.args.pieces.now x) i c.args.span.since c.args.span.through) within some alone)
