use Rattle.std.proofs.Common.{◌≡◌, ◌∙◌, sym, ap, rules, ◌++◌, ℕ, List, length, Some}
use Rattle.fdb_keys.specs.Points.{Point}
use Rattle.fdb_core.specs.refinement.shard.Reads.{pairs_held}
use Rattle.fdb_roles.specs.Wanted.{left_of}
use Rattle.fdb_roles.proofs.Exports.{first-left}
use Rattle.fdb_core.proofs.roles.shard_reads.ShardReads.add_pairs_of.Goals as goal

pub returns-in_ok-append : goal.returns-in_ok-append
returns-in_ok-append c = λ i there.
    let old = c.args.pairs.now.items in
    let count : c.len.result ≡ length old = search rules in
    let left : left_of c.args.wanted (length old) ≡ Some c.in-Some.limit =
    ap (left_of c.args.wanted) (sym count) ∙ sym c.left_of.ensures ∙ c.in-Some.is in
    c.in_ok-append.ensures.items
    ∙ ap (λ (more : List (Point × List ℕ)). old ++ more) (c.in_ok-pairs_of.ensures i there)
    ∙ first-left c.args.wanted old (pairs_held c.args.self.now i c.args.range.now c.args.reverse) c.in-Some.limit left
