-- What a seal leaves in which memory ran out.
use Rattle.std.proofs.Common.{◌≡◌, ◌∙◌, refl, sym, ap, inl, inr, ⊎_elim, ℕ, Bool, true, false, List, Option, Some}
use Rattle.std.proofs.Common.{map, slice_get, slice_set, Vec, Global}
use Rattle.std.specs.Vec.{with_item}
use Rattle.fdb_keys.specs.Ranges.{Range}
use Rattle.fdb_txn.specs.declared.entry.Entry.{Entry}
use Rattle.fdb_log.specs.declared.message.LogMsg.{LogMsg}
use Rattle.fdb_resolver.specs.declared.part.Part.{Part}
use Rattle.fdb_sequencer.specs.declared.ticket.Ticket.{Ticket}
use Rattle.fdb_proxy.specs.CommitProxies.{CommitProxy as Core, HasFailed, sealing, is_idle as has_no_batch}
use Rattle.fdb_core.specs.declared.cluster.Cluster.{Cluster}
use Rattle.fdb_core.specs.declared.roles.commit_proxy.CommitProxyRole.{CommitProxyRole}
use Rattle.fdb_machine.specs.declared.step.AnyStep.TheVariants as step
use Rattle.fdb_core.specs.refinement.Cluster.{machine_of, Refines, CommitProxiesRefine}
use Rattle.fdb_core.specs.refinement.Restoring.{Tied, failures_of, proxy_failed}
use Rattle.fdb_core.specs.refinement.Steps.{LeftOrFailed}
use Rattle.fdb_core.specs.refinement.commit_proxy.Ties.{IsLeftUnsealed, known_to, seen_as}
use Rattle.fdb_roles.proofs.Exports.{map-set}
use Rattle.fdb_core.proofs.refinement.client.Submitting.{nobody-more}
use Rattle.fdb_core.proofs.refinement.commit_proxy.Failing.{proxy-flags, proxy-tied, proxy-was}
use Rattle.fdb_core.proofs.refinement.commit_proxy.Ties.{commit_proxies-put, seen-unsealed}
use Rattle.fdb_core.proofs.refinement.RestoringLemmas.{flags-same, keeps-roles, restored, restores-failed}

-- Room may have been made for one more entry and what stands beside it.
module _ (k : Cluster) (book : Vec Entry Global) (entry_proxies : Vec ℕ Global) (decided : Vec Bool Global)
    (parts : Vec (List Part) Global) (messages : Vec (Option (List LogMsg)) Global)
    (book_is : book.items ≡ k.book.items) (proxies_are : entry_proxies.items ≡ k.entry_proxies.items)
    (decided_are : decided.items ≡ k.decided.items) (parts_are : parts.items ≡ k.parts.items)
    (messages_are : messages.items ≡ k.messages.items) (conflicts : Vec (List (List Range)) Global)
    (conflicts_are : conflicts.items ≡ k.conflicts.items) where
  -- with these commit proxies
  abbrev pub roomy : Cluster → Vec CommitProxyRole Global → Cluster
  roomy k0 roles = record k0 {
    book = book;
    entry_proxies = entry_proxies;
    decided = decided;
    parts = parts;
    messages = messages;
    conflicts = conflicts;
    commit_proxies = roles;
  }

  refines-roomy : (tied : Tied k) (roles : Vec CommitProxyRole Global)
      → CommitProxiesRefine k.config k.book.items (known_to k.sequencer) roles.items
      → Refines (roomy (restored k tied) roles)
  refines-roomy tied roles its = let before = tied.refines in record {
    legal = before.legal;
    room = rw book_is before.room;
    sequencer = rw book_is before.sequencer;
    book = rw (book_is, proxies_are, decided_are, messages_are) before.book;
    parts = rw (book_is, parts_are) before.parts;
    resolvers = rw book_is before.resolvers;
    logs = rw book_is before.logs;
    shard_map = before.shard_map;
    commit_proxies = rw book_is its;
    grv_proxies = before.grv_proxies;
    opened = before.opened;
    conflicts = rw (book_is, decided_are, conflicts_are) before.conflicts;
  }

  machine : (roles : Vec CommitProxyRole Global) → map seen_as roles.items ≡ map seen_as k.commit_proxies.items
      → machine_of (roomy k roles) ≡ machine_of k
  machine roles seen = λ i. record (machine_of k) {
    book = book_is i;
    entry_proxies = proxies_are i;
    decided = decided_are i;
    commit_proxies = seen i;
  }

  -- where no proxy changed, all is as it was
  pub room-left : (tied : Tied k) (proxy advance : ℕ)
      → LeftOrFailed k (step.Seal proxy advance) (roomy k k.commit_proxies)
  room-left tied proxy advance = record {
    machine = machine k.commit_proxies refl;
    failed = inl refl;
    tied = keeps-roles k tied (roomy k k.commit_proxies) refl refl refl refl
        (refines-roomy tied tied.roles.commit_proxies tied.refines.commit_proxies);
  }

  -- else the proxy is as it was, or has failed
  pub seal-left : (tied : Tied k) (proxy advance : ℕ) (role later : CommitProxyRole) (ticket : Ticket)
      → slice_get k.commit_proxies.items proxy ≡ Some role → proxy_failed role ≡ false
      → has_no_batch role.state.proxy.stage ≡ true → IsLeftUnsealed ticket role later
      → LeftOrFailed k (step.Seal proxy advance) (roomy k (with_item k.commit_proxies proxy later))
  seal-left tied proxy advance role later ticket at works idle left = ⊎_elim by-state by-failure left.state
    where
      new : Cluster
      new = roomy k (with_item k.commit_proxies proxy later)

      seen : seen_as later ≡ seen_as role
      seen = seen-unsealed role later ticket idle left

      same-seen : machine_of new ≡ machine_of k
      same-seen = machine (with_item k.commit_proxies proxy later)
          (flags-same seen_as k.commit_proxies.items proxy role later at seen)

      was : slice_get tied.roles.commit_proxies.items proxy ≡ Some role
      was = proxy-was k tied proxy role at works

      by-state : later.state.proxy ≡ role.state.proxy → LeftOrFailed k (step.Seal proxy advance) new
      by-state same =
          let waits : later.waiting ≡ role.waiting = ap (λ (it : CommitProxyRole). it.waiting) left.rest in
          let its = (nobody-more k.config k.book.items (known_to k.sequencer proxy) role
          (tied.refines.commit_proxies.each proxy role was) later
          (left.rest ∙ (λ i. record role { state = later.state; waiting = sym waits i })) same waits).1 in
          record {
            machine = same-seen;
            failed = inl (proxy-flags k new proxy role later at refl refl refl refl
                (ap (λ (state : Core). state.is_failed) same));
            tied = proxy-tied k tied proxy later new refl refl refl refl
                (refines-roomy tied (with_item tied.roles.commit_proxies proxy later)
                (commit_proxies-put k.config k.book.items (known_to k.sequencer) tied.roles.commit_proxies.items proxy
                later tied.refines.commit_proxies its));
          }

      by-failure : HasFailed (sealing role.state.proxy) ticket later.state.proxy
          → LeftOrFailed k (step.Seal proxy advance) new
      by-failure failed =
          let fails : proxy_failed later ≡ true = ap (λ (state : Core). state.is_failed) failed.rest in
          record {
            machine = same-seen;
            failed = inr (ap (λ (flags : List Bool). record (failures_of k) { commit_proxies = flags })
                (map-set proxy_failed k.commit_proxies.items proxy later
                ∙ ap (slice_set (map proxy_failed k.commit_proxies.items) proxy) fails));
            tied = record {
              roles = tied.roles;
              commit_proxies = restores-failed _ _ k.commit_proxies.items tied.roles.commit_proxies.items
                  tied.commit_proxies proxy role later at works fails seen;
              resolvers = tied.resolvers;
              logs = tied.logs;
              shards = tied.shards;
              refines = refines-roomy tied tied.roles.commit_proxies tied.refines.commit_proxies;
            };
          }
