use Rattle.std.proofs.Common.{◌≡◌, ◌∙◌, rules, Err}
use Rattle.fdb_roles.proofs.Exports.{hands-on}
use Rattle.fdb_storage.specs.Shards as shards
use Rattle.fdb_sections.specs.ShardViews.{range_fault}
use Rattle.fdb_sections.proofs.ShardViewLemmas.{fault-is, gives-first}
use Rattle.fdb_sections.proofs.roles.shard.view.ShardView.first_pairs.Goals as goal

pub returns-in_err-found : goal.returns-in_err-found
returns-in_err-found g c =
    let same : c.from_residual.result ≡ Err c.in_err-found.field-0.0 = search rules in
    rw same (hands-on c.in_err-found.field-0.0
    (shards.range_fault c.at.inside.shard c.args.range.now c.self.inside.version)
    (range_fault c.args.self.now c.args.range.now) _ _
    (fault-is _ _ c.args.self.now c.args.range.now c.at.view_is c.self.view_is) c.in_err-found.ensures)

pub returns : goal.returns
returns g c =
    let given = gives-first g.B.DatabaseName.config _ _ c.args.self.now c.at.view_is c.self.view_is c.at.invariant.1
    c.self.invariant c.args.range.now c.args.limit c.args.reverse c.in_ok-found.found c.in_ok-found.ensures in
    rw given.0 (c.into_vec.ensures ∙ given.1)
