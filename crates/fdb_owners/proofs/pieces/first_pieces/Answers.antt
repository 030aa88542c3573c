use Rattle.std.proofs.Common.{◌≡◌, ◌∙◌, sym, ap, subst, rules, arith, suc, ◌+◌, ◌++◌, ◌∷◌, [], true, take, length}
use Rattle.std.specs.List.{AllByRecursion}
use Rattle.std.proofs.lemmas.List.{take_more, take_all, length-take-le}
use Rattle.fdb_keys.specs.Points.{Point}
use Rattle.fdb_keys.specs.Texts.{is_bound}
use Rattle.fdb_keys.proofs.Exports.{all-append, is_bound-key}
use Rattle.fdb_interval.proofs.Exports.{rising_from_sorted, put}
use Rattle.fdb_owners.specs.declared.history.History.{History}
use Rattle.fdb_owners.specs.Histories.{owner_in, IsHistory}
use Rattle.fdb_interval.specs.Breakpoints.{value_from}
use Rattle.fdb_owners.proofs.SweepingLemmas.{IsPiece}
use Rattle.fdb_owners.proofs.FirstLemmas.{alone, first_breaks, first_breaks-put, first-value, first-pieces}
use Rattle.fdb_owners.proofs.pieces.first_pieces.Goals as goal

pub loop-place-preserved : goal.loop-place-preserved
loop-place-preserved c =
    let splits = c.args.splits.now in
    let place = c.loop-place.place in
    let split = c.index-splits-place.result in
    let more : take (place + 1) splits ≡ take place splits ++ split ∷ [] =
    take_more splits place split (omega arith)
    ∙ ap (λ (x : Point). take place splits ++ x ∷ []) (sym c.index-splits-place.is) in
    let key_is : c.in_ok-at.field-0 ≡ split = search rules in
    let count : length (take place splits) ≡ place = length-take-le place splits (omega arith) in
    let number_is : c.new-history.result ≡ alone (place + 1) = search rules in (
      c.in_ok-insert.ensures.entries
          ∙ (λ i. put (key_is i) (number_is i) (c.loop-place.invariant.0 i))
          ∙ first_breaks-put [] splits (take place splits) split place (place + 1) c.requires.rising more
          (omega (arith, count)),
      subst (AllByRecursion (λ (x : Point). is_bound x ≡ true)) (sym more)
          (all-append (λ (x : Point). is_bound x ≡ true) (take place splits) (split ∷ []) c.loop-place.invariant.1
          (is_bound-key split c.at.ensures.legal, tt)),
      rising_from_sorted _ c.insert.ensures.ordered,
    )

pub returns-clause-owners : goal.returns-clause-owners
returns-clause-owners c x v =
    let splits = c.args.splits.now in
    let all : c.loop-place.breaks.entries ≡ first_breaks 0 splits =
    c.loop-place.invariant.0 ∙ ap (first_breaks 0) (take_all c.loop-place.place splits (omega arith)) in
    (λ i. owner_in (value_from (c.new.ensures i) (all i) x) v)
    ∙ ap (λ (history : History). owner_in history v) (first-value 0 [] splits x c.requires.rising)
    ∙ omega arith

pub returns-clause-pieces : goal.returns-clause-pieces
returns-clause-pieces c last =
    let splits = c.args.splits.now in
    let every : take c.loop-place.place splits ≡ splits = take_all c.loop-place.place splits (omega arith) in
    record {
      lowest =
          subst (IsHistory (suc (length splits)) last) (sym c.new.ensures)
          (record { first = omega arith; changes = tt; falling = tt });
      breaks =
          subst (AllByRecursion (IsPiece (suc (length splits)) last))
          (sym (c.loop-place.invariant.0 ∙ ap (first_breaks 0) every))
          (first-pieces (suc (length splits)) last 0 splits (omega arith)
          (subst (AllByRecursion (λ (x : Point). is_bound x ≡ true)) every c.loop-place.invariant.1));
    }

pub returns-clause-rising : goal.returns-clause-rising
returns-clause-rising c = c.loop-place.invariant.2
