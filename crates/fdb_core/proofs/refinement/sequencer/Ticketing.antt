-- The sequencer's ticket is what the machine says of the next entry.
use Rattle.std.proofs.Common.{◌≡◌, ◌∙◌, refl, subst, arith, ℕ, ◌<◌, ◌≤◌, Bool, true, false, ◌++◌, inl, inr, Option}
use Rattle.std.proofs.Common.{Some, None, Ok, Err, length, if◌then◌else◌}
use Rattle.std.specs.Prelude.{◌⊎◌, ◌||◌, nat_lt, nat_le, slice_get}
use Rattle.std.proofs.lemmas.Bool.{le-leb, le-ltb, lt-leb, ltb-false}
use Rattle.std.proofs.lemmas.Option.{slice_get_within}
use Rattle.fdb_keys.specs.declared.refusal.Refusal.{Refusal}
use Rattle.fdb_keys.specs.declared.refusal.Refusal.TheVariants.{BookFull, Exhausted, NoMemory}
use Rattle.fdb_keys.specs.Answers.{Answers}
use Rattle.fdb_sequencer.specs.declared.ticket.Ticket.{Ticket}
use Rattle.fdb_txn.specs.Limits.{ticket_limit, version_limit}
use Rattle.fdb_sequencer.specs.Moves.{dated}
use Rattle.fdb_sequencer.specs.Sequencer.{next_version, planned, plan_fault, unlearnt_by}
use Rattle.fdb_core.specs.declared.cluster.Cluster.{Cluster}
use Rattle.fdb_core.specs.declared.roles.commit_proxy.CommitProxyRole.{CommitProxyRole}
use Rattle.fdb_core.specs.refinement.Cluster.{machine_of, Refines}
use Rattle.fdb_core.specs.refinement.commit_proxy.Ties.{seen_as}
use Rattle.fdb_roles.proofs.Exports.{map-at}
use Rattle.fdb_core.proofs.refinement.commit_proxy.Sealing.{ticket_for}
use Rattle.fdb_txn.specs.book.Book.{last_version, next_horizon}
use Rattle.fdb_machine.specs.machine.CommitProxySteps.{seals, is_idle}

module _ (k : Cluster) (refines : Refines k) (proxy advance : ℕ) (role : CommitProxyRole)
    (there : slice_get k.commit_proxies.items proxy ≡ Some role) where
  -- the version of the next entry
  abbrev pub next : ℕ
  next = next_version (last_version k.book.items) advance

  -- the proxy is one of those of the configuration
  is_there : proxy < k.config.proxies
  is_there = omega (arith, slice_get_within k.commit_proxies.items proxy role there, refines.commit_proxies.count)

  -- the only reason to give it no ticket is that there are no versions left
  fault-is : plan_fault k.sequencer proxy advance ≡ (if nat_lt version_limit next then Some Exhausted else None)
  fault-is =
      let ok = refines.sequencer in
      let proxies : nat_le k.sequencer.proxies proxy ≡ false = lt-leb k.sequencer.proxies proxy
      (omega (arith, is_there, ok.proxies)) in
      let tickets : nat_le ticket_limit k.sequencer.accepted ≡ false = lt-leb ticket_limit k.sequencer.accepted
      (omega (arith, ok.accepted, refines.room, refines.legal.book)) in
      rw (proxies, tickets, ok.last) (by_test (nat_lt version_limit next))
    where
      by_test : (test : Bool)
          → (if test || false then Some Exhausted else None) ≡ (if test then Some Exhausted else None)
      by_test true = refl
      by_test false = refl

  -- where it gets none, memory ran out, or the machine's next entry has none either
  pub plan-refused : (why : Refusal) (P : Ticket → Type 0)
      → Answers (Err why) (plan_fault k.sequencer proxy advance) P
      → (why ≡ NoMemory) ⊎ ((why ≡ Exhausted) × (nat_lt version_limit next ≡ true))
  plan-refused why P answers =
      by_test (nat_lt version_limit next) refl
      (subst (λ (fault : Option Refusal). Answers (Err why) fault P) fault-is answers)
    where
      by_test : (test : Bool) → nat_lt version_limit next ≡ test
          → Answers (Err why) (if test then Some Exhausted else None) P
          → (why ≡ NoMemory) ⊎ ((why ≡ Exhausted) × (nat_lt version_limit next ≡ true))
      by_test true is answers = inr (answers, is)
      by_test false is answers = inl answers

  -- the ticket that it gets is of the machine's next entry
  pub plan-given : (ticket : Ticket)
      → Answers (Ok ticket) (plan_fault k.sequencer proxy advance) (λ given. given ≡ planned k.sequencer proxy advance)
      → (next ≤ version_limit) × (ticket ≡ ticket_for k proxy advance)
  plan-given ticket answers =
      by_test (nat_lt version_limit next) refl
      (subst (λ (fault : Option Refusal). Answers (Ok ticket) fault
      (λ given. given ≡ planned k.sequencer proxy advance)) fault-is answers)
    where
      by_test : (test : Bool) → nat_lt version_limit next ≡ test
          → Answers (Ok ticket) (if test then Some Exhausted else None)
          (λ given. given ≡ planned k.sequencer proxy advance)
          → (next ≤ version_limit) × (ticket ≡ ticket_for k proxy advance)
      by_test true is answers = absurd answers
      by_test false is answers = (
        ltb-false version_limit next is,
        answers ∙ (λ i. record {
          proxy = proxy;
          index = refines.sequencer.accepted i;
          version = next_version (refines.sequencer.last i) advance;
          prev = refines.sequencer.last i;
          horizon = next_horizon (refines.sequencer.horizon i) k.sequencer.window
              (next_version (refines.sequencer.last i) advance);
          moves = unlearnt_by k.sequencer proxy ++ dated (next_version (refines.sequencer.last i) advance)
              k.sequencer.pending;
          pending = k.sequencer.pending;
        }),
      )

-- a proxy without a batch in flight doesn't seal where there are no versions left
pub seals-exhausted : (k : Cluster) (proxy advance : ℕ) (role : CommitProxyRole)
    → slice_get k.commit_proxies.items proxy ≡ Some role → is_idle (seen_as role).stage ≡ true
    → nat_lt version_limit (next_version (last_version k.book.items) advance) ≡ true
    → seals (machine_of k) proxy advance ≡ Err Exhausted
unfolding seals
seals-exhausted k proxy advance role there idle late =
    rw (map-at seen_as k.commit_proxies.items proxy role there, idle, late) refl

-- nor where the book has no place left
pub seals-full : (k : Cluster) (proxy advance : ℕ) (role : CommitProxyRole)
    → slice_get k.commit_proxies.items proxy ≡ Some role → is_idle (seen_as role).stage ≡ true
    → next_version (last_version k.book.items) advance ≤ version_limit → k.config.book ≤ length k.book.items
    → seals (machine_of k) proxy advance ≡ Err BookFull
unfolding seals
seals-full k proxy advance role there idle few full =
    rw (
      map-at seen_as k.commit_proxies.items proxy role there,
      idle,
      le-ltb version_limit (next_version (last_version k.book.items) advance) few,
      le-leb k.config.book (length k.book.items) full,
    ) refl
