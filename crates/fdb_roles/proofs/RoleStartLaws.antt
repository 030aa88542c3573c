-- Roles before their first entry, and what leaves them at the entries that they took.
use Rattle.std.proofs.Common.{◌≡◌, ◌∙◌, sym, refl, ℕ, ◌≤◌, le_refl, arith, Bool, true, false, [], Some, None}
use Rattle.std.specs.Prelude.{◌&&◌, ◌||◌, not, nat_lt, nat_le, if◌then◌else◌}
use Rattle.std.proofs.lemmas.Bool.{cond-false, leb-true, ltb-false, or_parts}
use Rattle.fdb_keys.specs.declared.refusal.Refusal.TheVariants.{Failed, BadConfig}
use Rattle.fdb_txn.specs.Limits.{window}
use Rattle.fdb_sequencer.proofs.Exports.{pending_exist}
use Rattle.fdb_log.specs.Logs.{Log, keeps, tag_fault}
use Rattle.fdb_roles.specs.RoleStarts.{ResolverStarts, SequencerStarts, LogStarts, ShardStarts, LogPops}
use Rattle.fdb_roles.specs.RoleStarts.{SequencerReports, SequencerMoves, SequencerWindows, ShardForgets}
use Rattle.fdb_roles.proofs.LogLemmas.{new-log, new-shard, log-pops, shard-forgot}
use Rattle.fdb_roles.proofs.ResolverLemmas.{new-resolver}
use Rattle.fdb_roles.proofs.StartLemmas.{none-unlearnt}

pub resolver_starts : ResolverStarts
resolver_starts = new-resolver

pub sequencer_starts : SequencerStarts
sequencer_starts proxies resolvers = record {
  accepted = refl;
  last = refl;
  committed = le_refl 0;
  targets = tt;
  unlearnt = λ proxy. ([], none-unlearnt proxies proxy);
  horizon = refl;
  window = omega arith;
}

pub log_starts : LogStarts
log_starts = new-log

pub shard_starts : ShardStarts
shard_starts = new-shard

pub sequencer_reports : SequencerReports
sequencer_reports book old version at none = record {
  accepted = at.accepted;
  last = at.last;
  committed =
      let low = at.committed in
      let reached = may-report (nat_lt old.last version) refl none in
      omega (arith, low, at.last, reached);
  targets = at.targets;
  unlearnt = at.unlearnt;
  horizon = at.horizon;
  window = at.window;
}
  where
    may-report : (late : Bool) → nat_lt old.last version ≡ late → (if late then Some BadConfig else None) ≡ None
        → version ≤ old.last
    may-report true is same = cc
    may-report false is same = ltb-false old.last version is

pub sequencer_moves : SequencerMoves
sequencer_moves book old move at none = record {
  accepted = at.accepted;
  last = at.last;
  committed = at.committed;
  targets = pending_exist old move none at.targets;
  unlearnt = at.unlearnt;
  horizon = at.horizon;
  window = at.window;
}

pub sequencer_windows : SequencerWindows
sequencer_windows book old versions at none = record {
  accepted = at.accepted;
  last = at.last;
  committed = at.committed;
  targets = at.targets;
  unlearnt = at.unlearnt;
  horizon = at.horizon;
  window = at-least-one (nat_le 1 versions) (nat_le versions window) refl none;
}
  where
    at-least-one : (least most : Bool) → nat_le 1 versions ≡ least
        → (if least && most then None else Some BadConfig) ≡ None → 1 ≤ versions
    at-least-one true most is same = leb-true 1 versions is
    at-least-one false most is same = cc

-- a log that may speak of a version has reached it
reached : (log : Log) (tag version : ℕ) → log.is_failed ≡ false → tag_fault log tag version ≡ None
    → version ≤ log.last
reached log tag version works none =
    by_test (not (keeps log tag) || nat_lt log.last version) refl
    (sym (cond-false log.is_failed (Some Failed) _ works) ∙ none)
  where
    by_test : (unknown : Bool) → (not (keeps log tag) || nat_lt log.last version) ≡ unknown
        → (if unknown then Some BadConfig else None) ≡ None → version ≤ log.last
    by_test true is same = cc
    by_test false is same = ltb-false log.last version (or_parts (not (keeps log tag)) (nat_lt log.last version) is).1

pub log_pops : LogPops
log_pops config book l tag through old new at none popped =
    log-pops config book l tag through old new at (reached old tag through at.works none) popped

pub shard_forgets : ShardForgets
shard_forgets = shard-forgot
