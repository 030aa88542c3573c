use Rattle.std.proofs.Common.{◌≡◌, ◌∙◌, sym, false}
use Rattle.std.specs.FinMap.{empty}
use Rattle.fdb_mutations.specs.Pairs.{pairs_in}
use Rattle.fdb_storage.specs.Shards.{HasCopied, part_fault}
use Rattle.fdb_client.proofs.Exports.{pairs_eq_decides}
use Rattle.fdb_roles.proofs.Exports.{answers-fault}
use Rattle.fdb_core.proofs.checking.HoldingLemmas.{has-map}
use Rattle.fdb_core.proofs.check.shards.has_map.Goals as goal

pub returns : goal.returns
returns c =
    let shard = c.args.role.now.state in
    let map = c.args.map.now in
    let held = c.copy_into.new.map in
    let range = c.range-range.result.now in
    let its : HasCopied shard range c.version.result c.new-held.result held =
    (answers-fault (part_fault shard range c.version.result) c.in_ok-copy_into.field-0
    (λ _. HasCopied shard range c.version.result c.new-held.result held) c.in_ok-copy_into.ensures.answers).1 in
    let copied : HasCopied shard shard.range shard.version empty held =
    rw (c.range-range.ensures, c.version.ensures, c.new-held.ensures) at its in
    let mine : c.in_ok-pairs.pairs ≡ pairs_in held shard.range false =
    rw c.range-range.ensures at c.in_ok-pairs.ensures in
    let theirs : c.in_ok-range.field-0 ≡ pairs_in map shard.range false =
    rw c.range-range.ensures at c.in_ok-range.ensures in
    let decides = pairs_eq_decides c.in_ok-pairs.pairs c.in_ok-range.field-0 in
    let has = has-map shard held map copied in (
      λ equal. has.0 (sym mine ∙ decides.0 (sym c.eq-2.ensures ∙ equal) ∙ theirs),
      λ holds. c.eq-2.ensures ∙ decides.1 (mine ∙ has.1 holds ∙ sym theirs),
    )
