-- A commit proxy of a world seals a batch by the sequencer's ticket.
use Rattle.std.proofs.Common.{◌≡◌, ◌≢◌, ◌∙◌, refl, sym, ap, subst, ℕ, suc, ◌<◌, ◌≤◌, List, [], ◌∷◌, ◌++◌, length, take}
use Rattle.std.proofs.Common.{map, false, Some, Err, slice_get, slice_set, le_refl}
use Rattle.std.proofs.Common.{arith}
use Rattle.std.specs.List.{AllByRecursion}
use Rattle.std.proofs.lemmas.List.{length-append, length-map}
use Rattle.std.proofs.lemmas.Option.{slice_get_within}
use Rattle.fdb_keys.specs.declared.refusal.Refusal.TheVariants.{Unknown, WrongState}
use Rattle.fdb_txn.specs.Limits.{place_limit}
use Rattle.fdb_txn.specs.declared.entry.Entry.{Entry}
use Rattle.fdb_txn.specs.declared.entry.Move.{Move}
use Rattle.fdb_txn.specs.book.Book.{Seen, seen_before, last_version, last_horizon, next_horizon}
use Rattle.fdb_txn.specs.book.History.{AreEntries}
use Rattle.fdb_txn.specs.book.Transactions.{Transaction, NamesWrites}
use Rattle.fdb_client.proofs.Exports.{commit_request_of-names}
use Rattle.fdb_client.specs.Programs.{commit_request_of}
use Rattle.fdb_resolver.specs.declared.part.Part.{Part}
use Rattle.fdb_sequencer.specs.declared.ticket.Ticket.{Ticket}
use Rattle.fdb_sequencer.specs.Moves.{dated}
use Rattle.fdb_sequencer.specs.Sequencer.{Sequencer, accepting, next_version, unlearnt_by}
use Rattle.fdb_proxy.specs.CommitProxies.{position_of}
use Rattle.fdb_proxy.specs.Parting.{AreParts}
use Rattle.fdb_proxy.specs.Verdicts.{moves_through}
use Rattle.fdb_core.specs.declared.cluster.Cluster.{Cluster}
use Rattle.fdb_core.specs.declared.roles.commit_proxy.CommitProxyRole.{CommitProxyRole}
use Rattle.fdb_core.specs.declared.roles.resolver.ResolverRole.{ResolverRole}
use Rattle.fdb_machine.specs.machine.CommitProxySteps.{seals, is_idle, with_batch}
use Rattle.fdb_core.specs.refinement.Cluster.{machine_of, CommitProxiesRefine, Refines, SequencerRefines}
use Rattle.fdb_core.specs.refinement.commit_proxy.Ties.{CommitProxyRefines, Known, known_to, IsNextTicket, Seals}
use Rattle.fdb_roles.specs.ProxyStages.{ArePartsOf, position_in}
use Rattle.fdb_core.specs.refinement.commit_proxy.Ties.{ReadsWithin, seen_as}
use Rattle.fdb_roles.specs.Entries.{entry_of}
use Rattle.fdb_core.specs.refinement.resolver.Resolving.{taken_by}
use Rattle.fdb_roles.proofs.Exports.{all-map, all-take, last-push, seen-before-last, map-at, handed-own, handed-other}
use Rattle.fdb_roles.proofs.Exports.{handed-count, horizon-within, moves_in-push, last_horizon-push}
use Rattle.fdb_core.proofs.refinement.commit_proxy.Receiving.{past-end}
use Rattle.fdb_core.proofs.refinement.commit_proxy.Ties.{commit_proxies-set}
use Rattle.fdb_core.proofs.refinement.commit_proxy.Pushes.{commit_proxy-push}
use Rattle.fdb_machine.proofs.Exports.{sealed_entry, sealed_proxy}

-- what the sequencer gives for the next entry
abbrev pub ticket_for : Cluster → ℕ → ℕ → Ticket
ticket_for k proxy advance =
    let version = next_version (last_version k.book.items) advance in
    record {
      proxy = proxy;
      index = length k.book.items;
      version = version;
      prev = last_version k.book.items;
      horizon = next_horizon (last_horizon k.book.items) k.sequencer.window version;
      moves = unlearnt_by k.sequencer proxy ++ dated version k.sequencer.pending;
      pending = k.sequencer.pending;
    }

-- no proxy with the number seals, nor does one with a batch in flight
pub seals-unknown : (k : Cluster) (proxy advance : ℕ) → length k.commit_proxies.items ≤ proxy
    → seals (machine_of k) proxy advance ≡ Err Unknown
unfolding seals
seals-unknown k proxy advance past =
    rw (past-end (map seen_as k.commit_proxies.items) proxy
    (omega (arith, past, length-map k.commit_proxies.items seen_as))) refl

pub seals-busy : (k : Cluster) (proxy advance : ℕ) (role : CommitProxyRole)
    → slice_get k.commit_proxies.items proxy ≡ Some role → is_idle (seen_as role).stage ≡ false
    → seals (machine_of k) proxy advance ≡ Err WrongState
unfolding seals
seals-busy k proxy advance role there busy =
    rw (map-at seen_as k.commit_proxies.items proxy role there, busy) refl

module _ (k : Cluster) (refines : Refines k) (proxy advance : ℕ) (role : CommitProxyRole)
    (there : slice_get k.commit_proxies.items proxy ≡ Some role) (ticket : Ticket)
    (given : ticket ≡ ticket_for k proxy advance) where
  ok : CommitProxyRefines k.config k.book.items (known_to k.sequencer proxy) role
  ok = refines.commit_proxies.each proxy role there

  pub above : last_version k.book.items < ticket.version
  above =
      let is : ticket.version ≡ next_version (last_version k.book.items) advance =
      ap (λ (t : Ticket). t.version) given in omega (arith, is)

  horizon-is : ticket.horizon ≡ next_horizon (last_horizon k.book.items) k.sequencer.window ticket.version
  horizon-is = subst (λ (t : Ticket). t.horizon
      ≡ next_horizon (last_horizon k.book.items) k.sequencer.window t.version) (sym given) refl

  -- its horizon hasn't fallen
  pub rises : last_horizon k.book.items ≤ ticket.horizon
  rises = omega (arith, horizon-is)

  below-version : ticket.horizon < ticket.version
  below-version = omega (
    arith,
    above,
    horizon-is,
    refines.sequencer.window,
    horizon-within (suc (length k.config.resolver_splits)) 0 0 k.book.items (le_refl 0) refines.book.entries,
  )

  pending-is : ticket.pending ≡ k.sequencer.pending
  pending-is = ap (λ (t : Ticket). t.pending) given

  pub next-ticket : IsNextTicket k.config k.book.items (known_to k.sequencer proxy) ticket
  next-ticket = record {
    index = ap (λ (t : Ticket). t.index) given;
    prev = ap (λ (t : Ticket). t.prev) given;
    later = above;
    moves = subst (λ (t : Ticket). t.moves ≡ unlearnt_by k.sequencer
        proxy ++ dated t.version t.pending) (sym given) refl;
    targets = subst (AllByRecursion (λ (move : Move). move.to < suc (length k.config.resolver_splits)))
        (sym pending-is)
        (subst (λ (n : ℕ). AllByRecursion (λ (move : Move). move.to < n) k.sequencer.pending)
        refines.sequencer.resolvers refines.sequencer.targets);
    horizon = rises;
    below = below-version;
  }

  -- what waits read below the ticket's version
  pub reads-below : AllByRecursion (λ (t : Transaction). t.read < ticket.version) role.state.proxy.waiting
  reads-below =
      let committed = refines.sequencer.committed in
      let later = above in
      subst (AllByRecursion (λ (t : Transaction). t.read < ticket.version)) (sym ok.waiting)
      (all-map (ReadsWithin k.sequencer.committed) (λ (t : Transaction). t.read < ticket.version) commit_request_of
      (λ transcript reads. below transcript.read_version k.sequencer.committed (last_version k.book.items)
      ticket.version reads committed later) role.waiting ok.reads)
    where
      below : (a b c d : ℕ) → a ≤ b → b ≤ c → c < d → a < d
      below a b c d ab bc cd = omega (arith, ab, bc, cd)

  module _ (batch : List Transaction) (parts : List Part) (later : CommitProxyRole)
      (seals : Seals k.config k.book.items (known_to k.sequencer proxy) ticket role batch parts later) where
    abbrev pub entry : Entry
    entry = entry_of ticket batch

    -- the entry is the machine's, and so is the proxy
    pub entry-is : entry ≡ sealed_entry (machine_of k) advance (seen_as role)
    entry-is = λ i. record {
      version = (given i).version;
      prev = (given i).prev;
      horizon = (given i).horizon;
      moves = (given i).pending;
      batch = seals.batch_is i;
    }

    pub proxy-is : seen_as later ≡ sealed_proxy (machine_of k) (seen_as role)
    proxy-is =
        let number : ticket.index ≡ length k.book.items = ap (λ (t : Ticket). t.index) given in
        let count = refines.resolvers.count in
        let resolvers : suc (length k.config.resolver_splits) ≡ length (taken_by k.resolvers.items) =
        omega (arith, count, length-map k.resolvers.items (λ (of : ResolverRole). of.taken)) in
        seals.machine ∙ (λ i. with_batch (seen_as role) (number i) (resolvers i))

    -- it may stand next in the book
    pub follows : AreEntries (suc (length k.config.resolver_splits)) (last_version k.book.items) (entry ∷ [])
    follows =
        let later_than = above in (
          later_than,
          (ap (λ (t : Ticket). t.prev) given, below-version),
          next-ticket.targets,
          subst (AllByRecursion (λ (t : Transaction). (t.read < ticket.version) × NamesWrites t)) (sym seals.batch_is)
              (all-map (ReadsWithin k.sequencer.committed)
              (λ (t : Transaction). (t.read < ticket.version) × NamesWrites t) commit_request_of
              (λ transcript reads. (
                below transcript.read_version k.sequencer.committed (last_version k.book.items)
                    ticket.version reads refines.sequencer.committed later_than,
                commit_request_of-names transcript,
              ))
              (take place_limit role.waiting)
              (all-take (ReadsWithin k.sequencer.committed) place_limit role.waiting ok.reads)),
          tt,
        )
      where
        below : (a b c d : ℕ) → a ≤ b → b ≤ c → c < d → a < d
        below a b c d ab bc cd = omega (arith, ab, bc, cd)

    -- its parts are those of the entry
    pub parts-are : ArePartsOf k.config.resolver_splits (k.book.items ++ entry ∷ []) (length k.book.items) entry parts
    parts-are =
        let number : ticket.index ≡ length k.book.items = ap (λ (t : Ticket). t.index) given in
        let seen = seen-before-last k.book.items entry in
        subst (λ (n : ℕ). AreParts k.config.resolver_splits
        (moves_through (seen_before (k.book.items ++ entry ∷ []) (length k.book.items)) entry)
        (position_in n entry) batch parts) number
        (subst (λ (s : Seen). AreParts k.config.resolver_splits (moves_through s entry)
        (position_of ticket) batch parts) (sym seen) seals.parts_are)

    -- what the sequencer has for the proxies once it accepted the ticket
    abbrev pub issued : Sequencer
    issued = accepting k.sequencer ticket

    number : ticket.proxy ≡ proxy
    number = ap (λ (t : Ticket). t.proxy) given

    counted : (n : ℕ) (other : CommitProxyRole) → slice_get k.commit_proxies.items n ≡ Some other
        → n < length k.sequencer.unlearnt
    counted n other at =
        let within = slice_get_within k.commit_proxies.items n other at in
        omega (arith, within, refines.commit_proxies.count, refines.sequencer.count)

    known-own : record (known_to k.sequencer proxy) { unlearnt = [] } ≡ known_to issued proxy
    known-own =
        let has = handed-own k.sequencer ticket (subst (λ (n : ℕ). n < length k.sequencer.unlearnt) (sym number)
        (counted proxy role there)) in
        let none : unlearnt_by issued proxy ≡ [] =
        ap (λ (n : ℕ). unlearnt_by issued n) (sym number) ∙ has in
        λ i. record { committed = k.sequencer.committed; unlearnt = sym none i }

    known-other : (n : ℕ) (other : CommitProxyRole) → n ≢ proxy → slice_get k.commit_proxies.items n ≡ Some other
        → record (known_to k.sequencer n)
        { unlearnt = unlearnt_by k.sequencer n ++ dated entry.version entry.moves } ≡ known_to issued n
    known-other n other differs at =
        let has = handed-other k.sequencer ticket n (λ same. differs (same ∙ number)) (counted n other at) in
        let more = has ∙ ap (λ (moves : List Move). unlearnt_by k.sequencer n ++ dated ticket.version moves)
        (sym pending-is) in
        λ i. record { committed = k.sequencer.committed; unlearnt = sym more i }

    -- all proxies are tied to the book with one more entry
    pub tied : CommitProxiesRefine k.config (k.book.items ++ entry ∷ []) (known_to issued)
        (slice_set k.commit_proxies.items proxy later)
    tied = commit_proxies-set k.config k.book.items (k.book.items ++ entry ∷ []) (known_to k.sequencer)
        (known_to issued) k.commit_proxies.items proxy later refines.commit_proxies
        (subst (λ (known : Known). CommitProxyRefines k.config (k.book.items ++ entry ∷ []) known later) known-own
        seals.refines)
        (λ n other differs at its.
        subst (λ (known : Known). CommitProxyRefines k.config (k.book.items ++ entry ∷ []) known other)
        (known-other n other differs at)
        (commit_proxy-push k.config k.book.items entry (known_to k.sequencer n) other its))

    -- and so is the sequencer
    pub sequencer-tied : SequencerRefines k.config (k.book.items ++ entry ∷ []) issued
    sequencer-tied =
        let was = refines.sequencer in
        let last = last-push k.book.items entry in
        let later_than = above in
        record {
          proxies = was.proxies;
          accepted = omega (arith, was.accepted, length-append k.book.items (entry ∷ []));
          last = sym last;
          committed = rw last (omega (arith, later_than, was.committed));
          resolvers = was.resolvers;
          count = handed-count k.sequencer ticket ∙ was.count;
          targets = tt;
          made = omega (
            arith,
            was.made,
            moves_in-push k.book.items entry,
            ap (λ (moves : List Move). length moves) pending-is,
          );
          horizon = sym (last_horizon-push k.book.items entry);
          window = was.window;
        }
