use Rattle.std.proofs.Common.{◌≡◌, ◌∷◌, rules}
use Rattle.std.specs.Slice.Iter.{iter_rest}
use Rattle.std.proofs.lemmas.Bool.{both_ways}
use Rattle.fdb_interval.specs.Versions.{version_at}
use Rattle.fdb_resolver.proofs.RuleLemmas.{newer-rest}
use Rattle.fdb_resolver.proofs.judging.are_any_newer.Goals as goal

pub loop-range-preserved : goal.loop-range-preserved
loop-range-preserved c =
    let rest : iter_rest c.loop-range.range-iterator ≡ c.in-Some.range.now ∷ iter_rest c.next.new.self = search rules in
    newer-rest (version_at c.args.versions.now) c.in-Some.range.now (iter_rest c.next.new.self) c.args.reads.now
    c.args.version
    (rw rest at c.loop-range.invariant) (λ found. both_ways _ c.if-newer_than.false (c.newer_than.ensures.1 found))
