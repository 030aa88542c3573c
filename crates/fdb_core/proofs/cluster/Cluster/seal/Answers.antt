use Rattle.std.proofs.Common.{◌≡◌, ◌∙◌, refl, sym, ap, ⊎_elim, subst, ℕ, Bool, false, Option, ◌<◌, ◌≤◌, true, length}
use Rattle.std.proofs.Common.{map, List, []}
use Rattle.std.proofs.Common.{◌∷◌, ◌++◌, take, Some, None, Err, slice_get, slice_set, arith, rules}
use Rattle.std.specs.Vec.{with_item}
use Rattle.std.proofs.lemmas.List.{length-append}
use Rattle.std.proofs.lemmas.Option.{same_Some, slice_get_within}
use Rattle.fdb_txn.specs.Limits.{place_limit, version_limit}
use Rattle.fdb_txn.specs.declared.entry.Entry.{Entry}
use Rattle.fdb_txn.specs.book.Book.{last_version}
use Rattle.fdb_txn.specs.book.Transactions.{Transaction}
use Rattle.fdb_sequencer.specs.declared.ticket.Ticket.{Ticket}
use Rattle.fdb_sequencer.specs.Sequencer.{Sequencer, accept_fault, next_version, plan_fault, planned}
use Rattle.fdb_sequencer.proofs.Exports.{planned_are_accepted}
use Rattle.fdb_log.specs.declared.message.LogMsg.{LogMsg}
use Rattle.fdb_resolver.specs.declared.part.Part.{Part}
use Rattle.fdb_keys.specs.declared.refusal.Refusal.TheVariants.{NoMemory}
use Rattle.fdb_core.specs.declared.cluster.Cluster.{Cluster}
use Rattle.fdb_core.specs.declared.roles.commit_proxy.CommitProxyRole.{CommitProxyRole}
use Rattle.fdb_machine.specs.declared.step.Answered.TheVariants as answered
use Rattle.fdb_machine.specs.declared.step.AnyStep.TheVariants as step
use Rattle.fdb_machine.specs.machine.CommitProxySteps.{is_idle}
use Rattle.fdb_machine.specs.machine.Machine.{is_set}
use Rattle.fdb_core.specs.refinement.Restoring.{failures_of, proxy_failed}
use Rattle.fdb_core.specs.refinement.Cluster.{machine_of}
use Rattle.fdb_core.specs.refinement.commit_proxy.Sealing.{IsTicketToSeal}
use Rattle.fdb_core.specs.refinement.commit_proxy.Ties.{CommitProxyRefines, IsNextTicket, Seals, known_to, seen_as}
use Rattle.fdb_roles.specs.Entries.{entry_of}
use Rattle.fdb_machine.proofs.Exports.{unless, unless-lacked, seals-transition, length-sealed}
use Rattle.fdb_roles.proofs.Exports.{gives, map-at, map-set, read-there}
use Rattle.fdb_core.proofs.refinement.BookPushes.{book-push, conflicts-push, resolvers-push, parts-push, logs-push}
use Rattle.fdb_core.proofs.refinement.commit_proxy.StateSealing.{learns, ticket-for}
use Rattle.fdb_core.proofs.refinement.commit_proxy.Sealing.{ticket_for, next-ticket, reads-below, entry-is, proxy-is}
use Rattle.fdb_core.proofs.refinement.commit_proxy.Sealing.{follows, rises}
use Rattle.fdb_core.proofs.refinement.commit_proxy.Failing.{proxy-flags, proxy-tied, proxy-was}
use Rattle.fdb_core.proofs.refinement.commit_proxy.Sealing.{parts-are, tied, sequencer-tied}
use Rattle.fdb_core.proofs.refinement.commit_proxy.Unsealed.{room-left, seal-left}
use Rattle.fdb_core.proofs.refinement.commit_proxy.Ties.{idle-seen}
use Rattle.fdb_core.proofs.refinement.RestoringLemmas.{flag-at, restored}
use Rattle.fdb_core.proofs.refinement.StepLemmas.{accepted-restored, kept, lacked, left}
use Rattle.fdb_core.proofs.refinement.sequencer.Ticketing.{plan-given}
use Rattle.fdb_core.proofs.cluster.Cluster.seal.Goals as goal
use Rattle.fdb_core.proofs.cluster.Cluster.seal.Goals.{After-index_mut-commit_proxy}

-- the ticket is that of the next batch of the commit proxy
module _ (c : After-index_mut-commit_proxy) where
  its : IsTicketToSeal c.args.self.now c.args.proxy c.args.advance c.in_ok-ticket.ticket
  its = c.in_ok-ticket.ensures

  there : slice_get c.args.self.now.commit_proxies.items c.args.proxy ≡ Some c.index_mut-commit_proxy.result.now
  there = read-there c.args.self.now.commit_proxies.items c.args.proxy c.index_mut-commit_proxy.result.now
      (slice_get_within c.args.self.now.commit_proxies.items c.args.proxy its.role its.there)
      c.index_mut-commit_proxy.ensures.value

  same : its.role ≡ c.index_mut-commit_proxy.result.now
  same = same_Some its.role c.index_mut-commit_proxy.result.now (sym its.there ∙ there)

  working : proxy_failed c.index_mut-commit_proxy.result.now ≡ false
  working = ap proxy_failed (sym same) ∙ its.works

  was : slice_get c.requires.roles.commit_proxies.items c.args.proxy ≡ Some c.index_mut-commit_proxy.result.now
  was = proxy-was c.args.self.now c.requires c.args.proxy c.index_mut-commit_proxy.result.now there working

  unused : is_set (failures_of c.args.self.now).commit_proxies c.args.proxy ≡ false
  unused = flag-at proxy_failed c.args.self.now.commit_proxies.items c.args.proxy c.index_mut-commit_proxy.result.now
      there ∙ working

  idle : is_idle (seen_as c.index_mut-commit_proxy.result.now).stage ≡ true
  idle = ap (λ (role : CommitProxyRole). is_idle (seen_as role).stage) (sym same) ∙ its.idle

  -- it is of the machine's next entry
  given : (next_version (last_version c.args.self.now.book.items) c.args.advance ≤ version_limit)
      × (c.in_ok-ticket.ticket ≡ ticket_for c.args.self.now c.args.proxy c.args.advance)
  given = plan-given (restored c.args.self.now c.requires) c.requires.refines c.args.proxy c.args.advance
      c.index_mut-commit_proxy.result.now was
      c.in_ok-ticket.ticket (gives (plan_fault c.args.self.now.sequencer c.args.proxy c.args.advance)
      c.in_ok-ticket.ticket (λ (ticket : Ticket). ticket ≡ planned c.args.self.now.sequencer c.args.proxy
      c.args.advance) its.given its.ticket_is)

  tie : CommitProxyRefines c.args.self.now.config c.args.self.now.book.items
      (known_to c.args.self.now.sequencer c.args.proxy) c.index_mut-commit_proxy.result.now
  tie = c.requires.refines.commit_proxies.each c.args.proxy c.index_mut-commit_proxy.result.now was

  next : IsNextTicket c.args.self.now.config c.args.self.now.book.items
      (known_to c.args.self.now.sequencer c.args.proxy) c.in_ok-ticket.ticket
  next = next-ticket (restored c.args.self.now c.requires) c.requires.refines c.args.proxy c.args.advance
      c.index_mut-commit_proxy.result.now was c.in_ok-ticket.ticket given.1

-- the proxy doesn't seal
pub returns-in_err-ticket : goal.returns-in_err-ticket
returns-in_err-ticket c =
    let k = c.args.self.now in
    let seal = step.Seal c.args.proxy c.args.advance in
    let why = c.in_err-ticket.field-0.0 in
    let same : c.from_residual.result ≡ Err why = search rules in
    ⊎_elim (λ lacks. left k seal c.from_residual.result k why same (unless-lacked why _ lacks) (kept k c.requires))
    (λ refuses_it. left k seal c.from_residual.result k why same (unless _ _ refuses_it) (kept k c.requires))
    c.in_err-ticket.ensures

-- or there is no room
pub returns-in_err-make_room : goal.returns-in_err-make_room
returns-in_err-make_room c =
    let k = c.args.self.now in
    let room = c.in_err-make_room.ensures in
    let same : c.from_residual-in_err-make_room.result ≡ Err NoMemory = search rules in
    lacked k (step.Seal c.args.proxy c.args.advance) c.from_residual-in_err-make_room.result _ NoMemory same refl
    (room-left k c.make_room.new.book c.make_room.new.entry_proxies c.make_room.new.decided c.make_room.new.pooled
    c.make_room.new.messages room.book room.entry_proxies room.decided room.parts room.messages
    c.make_room.new.conflicts room.conflicts c.requires c.args.proxy c.args.advance)

pub index_mut-commit_proxy-requires : goal.index_mut-commit_proxy-requires
index_mut-commit_proxy-requires c =
    let its = c.in_ok-ticket.ensures in
    let within = slice_get_within c.args.self.now.commit_proxies.items c.args.proxy its.role its.there in
    search rules

-- the sequencer accepts the ticket that it planned
pub issue-requires : goal.issue-requires
issue-requires c =
    let s = c.args.self.now.sequencer in
    let its = c.in_ok-ticket.ensures in
    subst (λ (ticket : Ticket). accept_fault s ticket ≡ None) (sym its.ticket_is)
    (planned_are_accepted s c.args.proxy c.args.advance its.given)

pub seal-requires : goal.seal-requires
seal-requires c =
    let k = c.args.self.now in
    let before = (goal.at.seal-requires c).After-index_mut-commit_proxy in
    let role = c.index_mut-commit_proxy.result.now in
    ticket-for k.config k.book.items (known_to k.sequencer c.args.proxy) role (tie before) (idle before)
    c.in_ok-ticket.ticket (next before) c.requires.refines.book.entries c.requires.refines.book.horizons
    (reads-below (restored k c.requires) c.requires.refines c.args.proxy c.args.advance role (was before)
    c.in_ok-ticket.ticket (given before).1)

-- memory ran out, and the proxy's state may have failed
pub returns-in_err-batch : goal.returns-in_err-batch
returns-in_err-batch c =
    let k = c.args.self.now in
    let role = c.index_mut-commit_proxy.result.now in
    let ticket = c.in_ok-ticket.ticket in
    let before = (goal.at.returns-in_err-batch c).After-index_mut-commit_proxy in
    let room = c.in_ok-make_room.ensures in
    let known = known_to k.sequencer c.args.proxy in
    lacked k (step.Seal c.args.proxy c.args.advance) c.from_residual-in_err-batch.result _ c.in_err-batch.field-0.0
    (search rules)
    (c.in_err-batch.ensures.answers k.config k.book.items known (tie before) (idle before) (next before)
    c.requires.refines.book.entries c.requires.refines.book.horizons)
    (seal-left k c.make_room.new.book c.make_room.new.entry_proxies c.make_room.new.decided
    c.make_room.new.pooled c.make_room.new.messages room.book room.entry_proxies room.decided room.parts room.messages
    c.make_room.new.conflicts room.conflicts c.requires c.args.proxy c.args.advance role c.seal.new.self ticket
    (there before) (working before)
    (idle-seen k.config k.book.items known role (tie before) ∙ idle before)
    (c.in_err-batch.ensures.left
    (learns k.config k.book.items known role (tie before) (idle before) ticket (next before)
    c.requires.refines.book.entries c.requires.refines.book.horizons)))

-- the batch is sealed
pub returns : goal.returns
returns c =
    let now = c.args.self.now in
    let k = restored now c.requires in
    let old = c.requires.refines in
    let before = (goal.at.returns c).After-index_mut-commit_proxy in
    let role = c.index_mut-commit_proxy.result.now in
    let at = was before in
    let ticket = c.in_ok-ticket.ticket in
    let batch = c.in_ok-batch.batch in
    let parts = c.in_ok-batch.parts in
    let later = c.seal.new.self in
    let for_it = (given before).1 in
    let is : Seals k.config k.book.items (known_to k.sequencer c.args.proxy) ticket role batch parts later =
    c.in_ok-batch.ensures.answers k.config k.book.items (known_to k.sequencer c.args.proxy) (tie before) (idle before)
    (next before) old.book.entries old.book.horizons in
    let entry : Entry = entry_of ticket batch in
    let fits : length k.book.items < k.config.book = c.in_ok-ticket.ensures.room in
    -- what is pushed comes behind what there was before room was made
    let room_made = c.in_ok-make_room.ensures in
    let added = c.add_undecided.ensures in
    let book : c.push_reserved.new.self.items ≡ k.book.items ++ entry ∷ [] =
    c.push_reserved.ensures.items ∙ ap (λ (entries : List Entry). entries ++ entry ∷ []) room_made.book in
    let proxies : c.add_undecided.new.entry_proxies.items ≡ k.entry_proxies.items ++ c.args.proxy ∷ [] =
    added.entry_proxies ∙ ap (λ (all : List ℕ). all ++ c.args.proxy ∷ []) room_made.entry_proxies in
    let flags : c.add_undecided.new.decided.items ≡ k.decided.items ++ false ∷ [] =
    added.decided ∙ ap (λ (all : List Bool). all ++ false ∷ []) room_made.decided in
    let pool : c.add_undecided.new.messages.items ≡ k.messages.items ++ None ∷ [] =
    added.messages ∙ ap (λ (all : List (Option (List LogMsg))). all ++ None ∷ []) room_made.messages in
    let parted : c.add_undecided.new.pooled.items ≡ k.parts.items ++ parts ∷ [] =
    added.parts ∙ ap (λ (all : List (List Part)). all ++ parts ∷ []) room_made.parts in
    let sets : c.push_reserved-2.new.self.items ≡ k.conflicts.items ++ [] ∷ [] =
    c.push_reserved-2.ensures.items
    ∙ (λ i. room_made.conflicts i ++ c.new.ensures i ∷ []) in
    let places : length c.as_slice.result.now ≡ length (take place_limit role.waiting) =
    ap (λ (batch : List Transaction). length batch) c.as_slice.ensures.places
    ∙ length-sealed role.waiting batch is.batch_is in
    let works = is.refines.state.works in
    let new : Cluster = record now {
      book = c.push_reserved.new.self;
      entry_proxies = c.add_undecided.new.entry_proxies;
      decided = c.add_undecided.new.decided;
      parts = c.add_undecided.new.pooled;
      messages = c.add_undecided.new.messages;
      conflicts = c.push_reserved-2.new.self;
      commit_proxies = with_item now.commit_proxies c.args.proxy later;
      sequencer = c.issue.new.sequencer;
    } in
    accepted-restored now new (step.Seal c.args.proxy c.args.advance) c.requires
    (proxy-tied now c.requires c.args.proxy later new refl refl refl refl
    (record {
      legal = old.legal;
      room = rw book (omega (arith, length-append k.book.items (entry ∷ []), fits));
      sequencer = rw (c.issue.ensures, book)
          (sequencer-tied k old c.args.proxy c.args.advance role at ticket for_it batch parts later is);
      book = rw (book, proxies, flags, pool)
          (book-push k.book.items entry k.config k.entry_proxies.items k.decided.items k.messages.items c.args.proxy
          old.book (follows k old c.args.proxy c.args.advance role at ticket for_it batch parts later is)
          (rises k old c.args.proxy c.args.advance role at ticket for_it));
      parts = rw (book, parted)
          (parts-push k.book.items entry k.config.resolver_splits k.parts.items parts old.parts
          (parts-are k old c.args.proxy c.args.advance role at ticket for_it batch parts later is));
      resolvers = rw book (resolvers-push k.book.items entry k.config.resolver_splits k.resolvers.items old.resolvers);
      logs = rw book (logs-push k.book.items entry k.config k.logs.items k.shards.items old.logs);
      shard_map = old.shard_map;
      commit_proxies = rw (c.issue.ensures, book)
          (tied k old c.args.proxy c.args.advance role at ticket for_it batch parts later is);
      grv_proxies = old.grv_proxies;
      opened = rw c.issue.ensures old.opened;
      conflicts = rw (book, flags, sets)
          (conflicts-push k.book.items entry k.config.resolver_splits k.decided.items k.conflicts.items
          old.book.each_flagged old.conflicts);
    }))
    (unused before)
    (seals-transition (machine_of k) c.args.proxy c.args.advance (seen_as role)
    (map-at seen_as k.commit_proxies.items c.args.proxy role at) (idle before) (given before).0 fits)
    (λ i. answered.Issued (for_it i).index (for_it i).version (for_it i).prev (places i))
    (λ i. record (machine_of k) {
      book = (book ∙ ap (λ (e : Entry). k.book.items ++ e ∷ [])
          (entry-is k old c.args.proxy c.args.advance role at ticket for_it batch parts later is)) i;
      entry_proxies = proxies i;
      decided = flags i;
      pending = ap (λ (s : Sequencer). s.pending) c.issue.ensures i;
      window = ap (λ (s : Sequencer). s.window) c.issue.ensures i;
      commit_proxies = (map-set seen_as k.commit_proxies.items c.args.proxy later
          ∙ ap (slice_set (map seen_as k.commit_proxies.items) c.args.proxy)
          (proxy-is k old c.args.proxy c.args.advance role at ticket for_it batch parts later is)) i;
      committed = ap (λ (s : Sequencer). s.committed) c.issue.ensures i;
    })
    (proxy-flags now new c.args.proxy role later (there before) refl refl refl refl (works ∙ sym (working before)))
