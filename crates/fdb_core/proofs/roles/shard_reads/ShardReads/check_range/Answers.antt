use Rattle.std.proofs.Common.{◌≡◌, ◌∙◌, sym, refl, Bool, true, false, Some, None, if◌then◌else◌}
use Rattle.std.specs.List.{list_any}
use Rattle.fdb_keys.specs.Ranges.{Range}
use Rattle.fdb_keys.specs.Texts.{is_bound}
use Rattle.fdb_keys.specs.declared.refusal.Refusal.TheVariants.{Failed, FutureVersion, TransactionTooOld}
use Rattle.fdb_core.specs.refinement.shard.Reads.{ShardReads, AreReadable, range_fault}
use Rattle.fdb_core.proofs.refinement.shard.Reads.{is_ahead_of, is_behind_floor, is_failed_in, range_fault-is}
use Rattle.fdb_core.proofs.roles.shard_reads.ShardReads.check_range.Goals as goal

-- why the range is refused, by the three tests of the shards as they are seen
tested : (seen reads : ShardReads) (range : Range) (failed forgotten ahead : Bool) → seen ≡ reads → AreReadable seen
    → is_bound range.end ≡ true → failed ≡ list_any (is_failed_in range) seen.shards
    → forgotten ≡ list_any (is_behind_floor seen.version range) seen.shards
    → ahead ≡ list_any (is_ahead_of seen.version range) seen.shards
    → range_fault reads range
    ≡ (if failed then Some Failed
    else (if forgotten then Some TransactionTooOld else (if ahead then Some FutureVersion else None)))
tested seen reads range failed forgotten ahead view readable legal is_failed is_forgotten is_ahead =
    rw (← view, is_failed, is_forgotten, is_ahead) (range_fault-is seen readable range legal)

pub returns-then-is_failed-clause-answers : goal.returns-then-is_failed-clause-answers
returns-then-is_failed-clause-answers c =
    rw (tested _ c.args.self.now c.args.range.now true _ _ c.self.view_is c.self.invariant.1 c.know_end.ensures
    (sym c.if-is_failed.true ∙ c.is_failed.ensures) refl refl) refl

pub returns-then-is_forgotten-clause-answers : goal.returns-then-is_forgotten-clause-answers
returns-then-is_forgotten-clause-answers c =
    rw (tested _ c.args.self.now c.args.range.now false true _ c.self.view_is c.self.invariant.1
    c.know_end.ensures (sym c.if-is_failed.false ∙ c.is_failed.ensures)
    (sym c.if-is_forgotten.true ∙ c.is_forgotten.ensures) refl) refl

pub returns-then-is_ahead-clause-answers : goal.returns-then-is_ahead-clause-answers
returns-then-is_ahead-clause-answers c =
    rw (tested _ c.args.self.now c.args.range.now false false true c.self.view_is c.self.invariant.1
    c.know_end.ensures (sym c.if-is_failed.false ∙ c.is_failed.ensures)
    (sym c.if-is_forgotten.false ∙ c.is_forgotten.ensures) (sym c.if-is_ahead.true ∙ c.is_ahead.ensures)) refl

pub returns-clause-answers : goal.returns-clause-answers
returns-clause-answers c =
    rw (tested _ c.args.self.now c.args.range.now false false false c.self.view_is c.self.invariant.1
    c.know_end.ensures (sym c.if-is_failed.false ∙ c.is_failed.ensures)
    (sym c.if-is_forgotten.false ∙ c.is_forgotten.ensures) (sym c.if-is_ahead.false ∙ c.is_ahead.ensures)) tt
