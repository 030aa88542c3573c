use Rattle.std.proofs.Common.{◌≡◌, sym, true, rules}
use Rattle.std.proofs.lemmas.Bool.{cond-false}
use Rattle.fdb_keys.specs.Ranges.{in_range, is_empty_range}
use Rattle.fdb_keys.proofs.Exports.{in_range-empty}
use Rattle.fdb_interval.specs.Versions.{version_at}
use Rattle.fdb_interval.proofs.VersionsLemmas.{marked-none}
use Rattle.fdb_interval.proofs.last_commit.LastCommit.mark.Goals as goal
use Rattle.fdb_interval.proofs.last_commit.LastCommit.mark.Goals.{then-is_empty-via-then-is_empty}
use Rattle.fdb_interval.proofs.last_commit.LastCommit.mark.Goals.{then-is_empty-via-else-is_empty+then-version-eq0}

pub returns-then-is_empty-clause-answers : goal.returns-then-is_empty-clause-answers
returns-then-is_empty-clause-answers c = λ x.
    let held = version_at c.args.self.now x in
    elim c.then-is_empty.branch [
      | then-is_empty-via-then-is_empty w ↦
          let empty : is_empty_range c.args.range.now ≡ true = search rules in
          sym (cond-false _ _ _ (in_range-empty c.args.range.now x empty))
      | then-is_empty-via-else-is_empty+then-version-eq0 w ↦
          let none : c.args.version ≡ 0 = search rules in
          marked-none c.args.version held (in_range c.args.range.now x) none (c.requires x)
    ]
