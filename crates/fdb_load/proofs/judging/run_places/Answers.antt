use Rattle.std.proofs.Common.{◌≡◌, ◌++◌, List, subst, rules}
use Rattle.std.specs.List.Sorted.{IsPermutation}
use Rattle.fdb_load.specs.declared.run.Place.{Place}
use Rattle.fdb_load.specs.Runs.{spot_places, receipt_places}
use Rattle.fdb_load.proofs.judging.run_places.Goals as goal

pub returns-clause-places : goal.returns-clause-places
returns-clause-places c =
    let others = c.in_ok-others.others.items in
    let all : c.append.new.self.items
    ≡ (spot_places c.args.first ++ receipt_places c.args.played.now.placed.items) ++ others = search rules in (
      others,
      c.in_ok-others.ensures.committed,
      subst (λ (l : List Place). IsPermutation l c.sort_unstable.new.self.items) all
          c.sort_unstable.ensures.permutation,
    )
