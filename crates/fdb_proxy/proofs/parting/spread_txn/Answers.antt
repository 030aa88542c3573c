use Rattle.std.proofs.Common.{◌∙◌, ap, ◌&&◌, ◌==◌, List, ℕ, rules}
use Rattle.fdb_keys.specs.Ranges.{Range, in_set}
use Rattle.fdb_txn.specs.rules.Admission.{has_points}
use Rattle.fdb_owners.specs.Ownership.{owner_at, owned_between}
use Rattle.fdb_owners.proofs.Exports.{parts-owned, parts-held}
use Rattle.fdb_proxy.proofs.SpreadLemmas.{spread-by_book}
use Rattle.fdb_proxy.proofs.parting.spread_txn.Goals as goal

pub returns-clause-owned : goal.returns-clause-owned
returns-clause-owned c = record {
  reads = c.in_ok-reads.ensures.owned;
  writes = parts-owned _ _ _ (c.in_ok-writes.ensures c.args.version c.requires.learnt);
}

pub returns-clause-spread : goal.returns-clause-spread
returns-clause-spread c moves number agrees =
    spread-by_book c.args.owners.now moves c.args.version c.args.horizon number c.args.txn.now _ agrees
    c.requires.kept c.read_version-read_version.ensures
    (c.has_points.ensures ∙ ap has_points c.reads-3.ensures)
    (λ i x. c.in_ok-reads.ensures.held i x
    ∙ ap (λ (set : List Range). in_set set x && owned_between c.args.owners.now i x c.max-from.result c.args.version)
    c.reads.ensures
    ∙ ap (λ (from : ℕ). in_set c.args.txn.now.reads x && owned_between c.args.owners.now i x from c.args.version)
    (search rules))
    (λ i x. parts-held _ _ _ (c.in_ok-writes.ensures c.args.version c.requires.learnt) i x
    ∙ ap (λ (set : List Range). in_set set x && (owner_at c.args.owners.now x c.args.version == i))
    c.writes.ensures.value)
