use Rattle.std.proofs.Common.{sym, subst, ℕ, List}
use Rattle.fdb_keys.specs.Points.{Point}
use Rattle.fdb_sections.specs.Gathering.{Gathering, IsGathered}
use Rattle.fdb_sections.proofs.GatheringLemmas.{none-gathered}
use Rattle.fdb_sections.proofs.roles.shard.gathering.Gathering.new.Goals as goal

pub invariant_of-result : goal.invariant_of-result
invariant_of-result g c =
    let config = g.B.DatabaseName.config in
    let it : Gathering = record {
      version = c.new.result.version;
      front = c.new.result.front.now;
      range = c.args.range.now;
      limit = c.args.limit;
      is_reverse = c.args.reverse;
      rest = c.in_ok-all_of.field-0;
    } in
    subst (λ (pairs : List (Point × List ℕ)). IsGathered config it pairs) (sym c.new-2.ensures.items)
    (none-gathered config it c.in_ok-all_of.ensures)
