use Rattle.std.proofs.Common.{◌≡◌, ◌∙◌, sym, ap, subst, rules, Err, Some, None}
use Rattle.fdb_keys.specs.Clipping.{clipped_range}
use Rattle.fdb_keys.specs.declared.refusal.Refusal.TheVariants.{NoMemory}
use Rattle.fdb_mutations.specs.Pairs.{first_of}
use Rattle.fdb_storage.specs.Shards.{IsPage, HasValuesOf}
use Rattle.fdb_storage.specs.Shards as storage
use Rattle.fdb_core.specs.refinement.shard.Reads.{ShardReads, AreReadable, run_map}
use Rattle.fdb_core.proofs.refinement.shard.Reads.{page-served, has-values, pairs-of-part, none-held}
use Rattle.fdb_roles.proofs.Exports.{first-none}
use Rattle.fdb_core.proofs.roles.shard_reads.ShardReads.pairs_of.Goals as goal

pub returns-in_err-page-in-Some : goal.returns-in_err-page-in-Some
returns-in_err-page-in-Some c = λ i there.
    let reads = c.args.self.now in
    let role = c.args.role.now in
    let why = c.in_err-page-in-Some.field-0.0 in
    let clipped : clipped_range c.args.range.now role.state.range ≡ Some c.in-Some.part =
    ap (clipped_range c.args.range.now) (sym c.range.ensures) ∙ sym c.in_ok-part.ensures.answers ∙ c.in-Some.is in
    let served : storage.range_fault role.state c.in-Some.part c.self.inside.version ≡ None =
    ap (λ (it : ShardReads). storage.range_fault role.state c.in-Some.part it.version) c.self.view_is
    ∙ page-served reads (subst AreReadable c.self.view_is c.self.invariant.1) c.args.range.now c.requires.legal
    c.requires.served i role there c.in-Some.part clipped in
    let same : c.from_residual-in_err-page-in-Some.result ≡ Err why = search rules in
    let lacks : why ≡ NoMemory = rw served at c.in_err-page-in-Some.ensures in
    rw same lacks

pub returns-in_ok-page-in-Some : goal.returns-in_ok-page-in-Some
returns-in_ok-page-in-Some c = λ i there.
    let reads = c.args.self.now in
    let role = c.args.role.now in
    let part = c.in-Some.part in
    let readable = subst AreReadable c.self.view_is c.self.invariant.1 in
    let clipped : clipped_range c.args.range.now role.state.range ≡ Some part =
    ap (clipped_range c.args.range.now) (sym c.range.ensures) ∙ sym c.in_ok-part.ensures.answers ∙ c.in-Some.is in
    let served : storage.range_fault role.state part c.self.inside.version ≡ None =
    ap (λ (it : ShardReads). storage.range_fault role.state part it.version) c.self.view_is
    ∙ page-served reads readable c.args.range.now c.requires.legal c.requires.served i role there part clipped in
    let page : IsPage role.state part c.self.inside.version c.args.limit c.args.reverse c.in_ok-page-in-Some.page =
    rw served at c.in_ok-page-in-Some.ensures in
    let has : HasValuesOf role.state c.self.inside.version part (run_map reads) =
    subst (λ (it : ShardReads). HasValuesOf role.state it.version part (run_map reads)) (sym c.self.view_is)
    (has-values reads readable c.args.range.now c.requires.legal c.requires.served i role there part clipped) in
    c.into_vec.ensures
    ∙ (page (run_map reads) has).0
    ∙ ap (first_of c.args.limit)
    (pairs-of-part reads readable c.args.range.now c.requires.legal c.requires.served i role there part clipped
    c.args.reverse)

pub returns-in-None : goal.returns-in-None
returns-in-None c = λ i there.
    let clipped : clipped_range c.args.range.now c.args.role.now.state.range ≡ None =
    ap (clipped_range c.args.range.now) (sym c.range.ensures) ∙ sym c.in_ok-part.ensures.answers ∙ c.in-None.is in
    c.new.ensures.items
    ∙ sym (ap (first_of c.args.limit)
    (none-held c.args.self.now (subst AreReadable c.self.view_is c.self.invariant.1) c.args.range.now
    c.requires.legal c.requires.served i c.args.role.now there clipped c.args.reverse)
    ∙ first-none c.args.limit)
