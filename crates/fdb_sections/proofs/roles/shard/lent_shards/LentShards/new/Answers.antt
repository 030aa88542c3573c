use Rattle.std.proofs.Common.{◌≡◌, ◌∙◌, ap, ap₂, sym, None}
use Rattle.std.specs.Prelude.{⊤}
use Rattle.fdb_keys.specs.Points.{Point}
use Rattle.fdb_roles.proofs.Exports.{given-fault}
use Rattle.fdb_sections.specs.LentShards.{lent_shards, lending_fault, row_fault}
use Rattle.fdb_sections.proofs.LentShardLemmas.{lent-hold}
use Rattle.fdb_sections.proofs.roles.shard.lent_shards.LentShards.new.Goals as goal

pub invariant_of-result : goal.invariant_of-result
invariant_of-result g c =
    let shards = lent_shards c.args.shards.now in
    let version = c.args.reader.version in
    let range = c.args.range.now in
    let gave = given-fault (row_fault c.version.result c.end.result.now c.row_begin.result.now shards)
    c.in_ok-check_row.field-0 (λ _. ⊤) c.in_ok-check_row.ensures in
    let none : lending_fault version range shards ≡ None =
    ap₂ (λ (until from : Point). row_fault version until from shards) (sym c.end.ensures.value)
    (sym c.row_begin.ensures)
    ∙ ap (λ v. row_fault v c.end.result.now c.row_begin.result.now shards) (sym c.version.ensures)
    ∙ gave.0 in
    lent-hold version range shards none
