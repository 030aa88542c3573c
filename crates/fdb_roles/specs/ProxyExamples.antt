-- Which commit proxies have which entries, and which haven't, each of these for one thing.
use Rattle.std.specs.Prelude.{ℕ, true, false, List, [], ◌∷◌, None, codes}
use Rattle.fdb_txn.specs.book.Transactions.{Transaction}
use Rattle.fdb_owners.specs.Ownership.{Ownership, one_owner}
use Rattle.fdb_proxy.specs.declared.outcome.Outcome.{Outcome}
use Rattle.fdb_proxy.specs.declared.outcome.Outcome.TheVariants.{Commit, Conflict}
use Rattle.fdb_proxy.specs.declared.stage.Stage.TheVariants as stage
use Rattle.fdb_proxy.specs.CommitProxies.{CommitProxy}
use Rattle.fdb_proxy.specs.Logging.{answers_by}
use Rattle.fdb_client.specs.Programs.{commit_request_of}
use Rattle.fdb_roles.specs.SmallBooks.{plain, reads_and_sets, two_in_one_entry, set_and_cleared}
use Rattle.fdb_roles.specs.ProxyStages.{IsCommitProxyAt}

-- the commit proxy of one resolver and one log, without a batch, whose last ticket was of this version
abbrev pub idle_at : ℕ → CommitProxy
idle_at last = record {
  index = 0;
  logs = 1;
  shard_splits = [];
  owners = one_owner 0;
  last = last;
  waiting = [];
  batch = [];
  stage = stage.Idle;
  is_failed = false;
}

-- the two transactions of the entry
abbrev pub both : List Transaction
both = commit_request_of (reads_and_sets 0 None) ∷ commit_request_of (reads_and_sets 1 None) ∷ []

-- the same, which decided the entry's batch so
abbrev pub decided_at : ℕ → List Outcome → CommitProxy
decided_at last outcomes = record (idle_at last) {
  batch = both;
  stage = stage.Logging (record {
    position = record { index = 0; version = 100; prev = 0; horizon = 0 };
    answers = answers_by both outcomes;
    acknowledged = false ∷ [];
  });
}

-- A proxy without a batch has no entry where it had no ticket, and has the entry where its last ticket was the entry's;
-- not the other way round, not where it failed, not where it learnt a move that no entry has, and not where it forgot
-- owners that no entry's horizon let it forget. One that decided the
-- entry's batch by the rule has the entry, but not one that committed both, or that has one more entry.
abbrev pub OtherProxiesAreElsewhere : Type 0
OtherProxiesAreElsewhere =
    IsCommitProxyAt plain [] (idle_at 0)
    × IsCommitProxyAt plain two_in_one_entry (idle_at 100)
    × (IsCommitProxyAt plain [] (idle_at 100) → ⊥)
    × (IsCommitProxyAt plain two_in_one_entry (idle_at 0) → ⊥)
    × (IsCommitProxyAt plain [] (record (idle_at 0) { is_failed = true }) → ⊥)
    × (IsCommitProxyAt plain [] (record (idle_at 0) { owners = moved }) → ⊥)
    × (IsCommitProxyAt plain [] (record (idle_at 0) { owners = record (one_owner 0) { floor = 1 } }) → ⊥)
    × IsCommitProxyAt plain two_in_one_entry (decided_at 100 (Commit 100 0 ∷ Conflict ∷ []))
    × (IsCommitProxyAt plain two_in_one_entry (decided_at 100 (Commit 100 0 ∷ Commit 100 1 ∷ [])) → ⊥)
    × (IsCommitProxyAt plain set_and_cleared (decided_at 200 (Commit 100 0 ∷ Conflict ∷ [])) → ⊥)
  where
    moved : Ownership
    moved = record (idle_at 0).owners {
      breaks = (codes "a", record { first = 1; changes = [] }) ∷ (codes "c", record { first = 0; changes = [] })
          ∷ [];
    }
