use Rattle.std.proofs.Common.{◌≡◌, ◌∙◌, sym, ap, rules, ◌++◌, ℕ, List, length, Some}
use Rattle.fdb_keys.specs.Points.{Point}
use Rattle.fdb_roles.specs.Wanted.{left_of}
use Rattle.fdb_roles.proofs.Exports.{first-left}
use Rattle.fdb_sections.specs.LentShards.{pairs_at}
use Rattle.fdb_sections.specs.ShardViews.{run_of}
use Rattle.fdb_sections.proofs.roles.shard.reader.Reader.add_pairs_of.Goals as goal

pub returns-in_ok-append-clause-answers : goal.returns-in_ok-append-clause-answers
returns-in_ok-append-clause-answers g c =
    let pairs = c.args.pairs.now.items in
    let reader = c.args.self.now in
    let count : c.len.result ≡ length pairs = search rules in
    let left : left_of c.args.wanted (length pairs) ≡ Some c.in-Some.limit =
    ap (left_of c.args.wanted) (sym count) ∙ sym c.left_of.ensures ∙ c.in-Some.is in
    c.in_ok-append.ensures.items
    ∙ ap (λ (more : List (Point × List ℕ)). pairs ++ more) c.in_ok-pairs_of.ensures
    ∙ first-left c.args.wanted pairs
    (pairs_at (run_of g.B.DatabaseName.config reader.version reader.front.now) c.args.range.now c.args.reverse
    c.args.at.now) c.in-Some.limit left
