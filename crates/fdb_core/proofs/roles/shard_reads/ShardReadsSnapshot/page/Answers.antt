use Rattle.std.proofs.Common.{◌∙◌, ap, ℕ}
use Rattle.std.specs.Prelude.{⊤}
use Rattle.fdb_mutations.specs.Pairs.{first_of, pairs_in}
use Rattle.fdb_core.specs.refinement.shard.Reads.{range_fault, run_map}
use Rattle.fdb_roles.proofs.Exports.{given-fault, page-first}
use Rattle.fdb_core.proofs.roles.shard_reads.ShardReadsSnapshot.page.Goals as goal

pub returns : goal.returns
returns c =
    let reads = c.args.self.now in
    let range = c.args.range.now in
    let served = given-fault (range_fault reads range) c.in_ok-check_range.field-0 (λ _. ⊤)
    c.in_ok-check_range.ensures.answers in
    let all = pairs_in (run_map reads) range c.args.reverse in
    let cut = c.page_of-pairs.ensures all
    (c.in_ok-found.ensures ∙ ap (λ (count : ℕ). first_of count all) c.one_more.ensures) in
    rw served.0 (page-first (run_map reads) range c.args.limit c.args.reverse _ cut.0 cut.1)
