use Rattle.std.proofs.Common.{◌≡◌, ◌∙◌, ap, ap₂, ◌||◌, Bool, List, map, rules}
use Rattle.std.proofs.lemmas.List.Folds.{fold-map}
use Rattle.fdb_keys.specs.Insertion.{with_range, with_ranges}
use Rattle.fdb_keys.specs.Ranges.{Range, in_set}
use Rattle.fdb_mutations.specs.Mutations.{named_range}
use Rattle.fdb_txn.proofs.CloneLemmas.{same_set}
use Rattle.fdb_txn.proofs.writes.with_named.Goals as goal

pub returns-clause-answers : goal.returns-clause-answers
returns-clause-answers c =
    let copy : c.in_ok-set.set ≡ c.args.writes.now = same_set c.args.writes.now c.in_ok-set.set
    c.in_ok-set.ensures.cases in
    let named : c.in_ok-ranges.ranges.items ≡ map named_range c.args.mutations.now = search rules in
    c.in_ok-add_all.ensures.list
    ∙ ap₂ with_ranges named copy
    ∙ fold-map (λ (set : List Range) (range : Range). with_range range set) named_range c.args.writes.now
    c.args.mutations.now

pub returns-clause-points : goal.returns-clause-points
returns-clause-points c x =
    let copy : c.in_ok-set.set ≡ c.args.writes.now = same_set c.args.writes.now c.in_ok-set.set
    c.in_ok-set.ensures.cases in
    c.in_ok-add_all.ensures.answers x
    ∙ ap₂ (λ (a b : Bool). a || b) (c.in_ok-ranges.ensures.points x) (ap (λ (l : List Range). in_set l x) copy)
