-- A log takes its message of an entry.
use Rattle.std.proofs.Common.{◌≡◌, ◌∙◌, refl, sym, ap, subst, ℕ, suc, ◌+◌, ◌^◌, get_or, ◌<◌, Bool, true, false, List}
use Rattle.std.proofs.Common.{length, Option, Some, None, Ok, Err, arith}
use Rattle.std.specs.Prelude.{if◌then◌else◌}
use Rattle.std.specs.List.{slice_get, slice_set}
use Rattle.std.specs.Vec.{with_item}
use Rattle.std.proofs.lemmas.List.{length-set, map-set}
use Rattle.std.proofs.lemmas.List.FromFn.{length-map-range_with_len}
use Rattle.std.proofs.lemmas.Option.{slice_get-map, slice_get_read, slice_get_within}
use Rattle.fdb_keys.specs.declared.refusal.Refusal.{Refusal}
use Rattle.fdb_keys.specs.declared.refusal.Refusal.TheVariants.{Unknown}
use Rattle.fdb_txn.specs.declared.entry.Entry.{Entry}
use Rattle.fdb_txn.specs.book.Book.{seen_before}
use Rattle.fdb_log.specs.declared.message.LogMsg.{LogMsg}
use Rattle.fdb_log.specs.Logs.{Log, keeps, popped_through, push_fault, HasTaken}
use Rattle.fdb_log.specs.Messages.{log_of}
use Rattle.fdb_storage.specs.LogMessages.{log_message}
use Rattle.fdb_core.specs.declared.cluster.Cluster.{Cluster}
use Rattle.fdb_core.specs.declared.roles.log.LogRole.{LogRole}
use Rattle.fdb_machine.specs.declared.step.Answered.TheVariants as answered
use Rattle.fdb_machine.specs.machine.Machine.{Machine, is_set}
use Rattle.fdb_machine.specs.machine.RoleSteps.{pushes}
use Rattle.fdb_core.proofs.refinement.StepLemmas.{NamesWhatIsThere, in-turn}
use Rattle.fdb_core.specs.refinement.Cluster.{machine_of, messages_on, Refines}
use Rattle.fdb_core.specs.refinement.log.Ties.{LogRefines, LogsRefine, logs_taken}
use Rattle.fdb_roles.proofs.Exports.{within-item, set-here, each-set, kept-tag, log-next, made-at, entries-rising}
use Rattle.fdb_roles.proofs.Exports.{versions-ordered}
use Rattle.fdb_machine.proofs.Exports.{pushes-transition}
use Rattle.fdb_core.proofs.refinement.log.Ties.{push_fault-turn, turn_fault, in_turn-now}
use Rattle.fdb_core.proofs.refinement.log.Ties.{push-refused, push-undecided, set-same, tags-taken, prev-is}
use Rattle.fdb_core.proofs.refinement.RolesLemmas.{roles_of, roles-refine}

module _ (k : Cluster) (before : Refines k) (i l : ℕ) (entry : Entry) (role : LogRole)
    (there : slice_get k.book.items i ≡ Some entry) (at : slice_get k.logs.items l ≡ Some role) where
  -- the machine knows how many entries it took
  pub taken-at : slice_get (logs_taken k.logs.items) l ≡ Some role.taken
  taken-at = slice_get-map (λ (it : LogRole). it.taken) k.logs.items l ∙ rw at refl

  pub its : LogRefines k.config k.book.items l role
  its = before.logs.each_log l role at

  -- nothing is made of an entry that isn't decided
  pub undecided : slice_get k.messages.items i ≡ Some None → pushes (machine_of k) i l ≡ Err Unknown
  undecided none = push-undecided (machine_of k) i l role.taken entry there taken-at
      (by_test (is_set k.decided.items i) (sym none ∙ before.book.made i entry there))
    where
      by_test : (made : Bool)
          → Some None ≡ Some (if made then Some (messages_on k.config i (seen_before k.book.items i) entry) else None)
          → made ≡ false
      by_test true is = cc
      by_test false is = refl

  module _ (messages : List LogMsg) (pooled : slice_get k.messages.items i ≡ Some (Some messages)) where
    made-and-is : (is_set k.decided.items i ≡ true) × (messages
        ≡ messages_on k.config i (seen_before k.book.items i) entry)
    made-and-is = by_test (is_set k.decided.items i) (sym pooled ∙ before.book.made i entry there)
      where
        by_test : (made : Bool)
            → Some (Some messages)
            ≡ Some (if made then Some (messages_on k.config i (seen_before k.book.items i) entry) else None)
            → (made ≡ true) × (messages ≡ messages_on k.config i (seen_before k.book.items i) entry)
        by_test true is = (refl, cc)
        by_test false is = cc

    -- there is one for each log
    pub one-each : length messages ≡ length k.logs.items
    one-each = ap length made-and-is.1
        ∙ length-map-range_with_len (λ (log : ℕ). log_message k.config.resolver_splits k.config.shard_splits
        k.config.logs log i (seen_before k.book.items i) entry) 0 k.config.logs
        ∙ sym before.logs.log_count

    module _ (message : LogMsg) (found : slice_get messages l ≡ Some message) where
      pub message-is : message ≡ log_message k.config.resolver_splits k.config.shard_splits k.config.logs l i
          (seen_before k.book.items i) entry
      message-is = made-at (λ (log : ℕ). log_message k.config.resolver_splits k.config.shard_splits k.config.logs log i
          (seen_before k.book.items i) entry) k.config.logs l message
          (ap (λ (all : List LogMsg). slice_get all l) (sym made-and-is.1) ∙ found)

      -- its version is above the one before
      pub message-rises : message.prev < message.version
      message-rises =
          let prev : message.prev ≡ entry.prev = ap (λ (it : LogMsg). it.prev) message-is in
          let version : message.version ≡ entry.version = ap (λ (it : LogMsg). it.version) message-is in
          let before-it = prev-is (suc (length k.config.resolver_splits)) k.book.items i entry before.book.entries
          there in
          let rises = entries-rising (suc (length k.config.resolver_splits)) k.book.items before.book.entries i entry
          there in
          omega (arith, prev, version, before-it, rises)

      pub fault-is : push_fault role.state message ≡ turn_fault role.taken i entry
      fault-is = push_fault-turn k.config k.book.items l role i entry message before.book.entries its there
          (ap (λ (it : LogMsg). it.log) message-is) (ap (λ (it : LogMsg). it.prev) message-is)

      -- where the log refuses, so does the machine
      pub refused : (why : Refusal) → push_fault role.state message ≡ Some why → pushes (machine_of k) i l ≡ Err why
      refused why fault = push-refused (machine_of k) i l role.taken entry there taken-at why made-and-is.0
          (sym fault-is ∙ fault)

      module _ (faultless : push_fault role.state message ≡ None) where
        due : role.taken ≡ i
        due = in_turn-now role.taken i entry (sym fault-is ∙ faultless)

        pub room : role.taken + 1 < 2 ^ 32
        room =
            let within = slice_get_within k.book.items i entry there in
            omega (arith, within, due, before.room, before.legal.book)

        pub accepted : pushes (machine_of k) i l ≡ Ok (record {
          answer = answered.Done;
          next = record (machine_of k) { logs = slice_set (logs_taken k.logs.items) l (role.taken + 1) };
        })
        accepted = rw due (pushes-transition (machine_of k) i l entry there
            (taken-at ∙ ap (λ (n : ℕ). Some n) due) made-and-is.0)

        module _ (state : Log) (taken : HasTaken role.state message state) where
          abbrev new : LogRole
          new = record { state = state; taken = role.taken + 1 }

          -- what a tag was popped through its shard applied, and so the log took it before
          unpopped : (tag : ℕ) → keeps role.state tag ≡ true → popped_through role.state tag < entry.version
          unpopped tag keeps_it =
              let own = kept-tag role.state tag keeps_it in
              let inside : tag < length k.shards.items = subst (λ (n : ℕ). tag < n)
              (its.tags ∙ sym before.logs.shard_count) own.0 in
              let shard = within-item k.shards.items tag inside in
              let number : log_of (length k.logs.items) tag ≡ l =
              ap (λ (n : ℕ). log_of n tag) (before.logs.log_count ∙ sym its.logs) ∙ own.1 ∙ its.number in
              let tie = before.logs.each_tag tag shard.0 shard.1 role
              (ap (slice_get k.logs.items) number ∙ at) in
              let is = before.logs.each_shard tag shard.0 shard.1 in
              let reached = versions-ordered k.book.items
              (entries-rising (suc (length k.config.resolver_splits)) k.book.items before.book.entries)
              shard.0.applied role.taken tie.0 in
              let rises = entries-rising (suc (length k.config.resolver_splits)) k.book.items before.book.entries
              role.taken entry (ap (slice_get k.book.items) due ∙ there) in
              let low = is.popped in
              omega (arith, tie.1, low, is.version, reached, rises)

          refined : LogRefines k.config k.book.items l new
          refined = log-next k.config k.book.items l role.state role.taken entry message state its
              (ap (slice_get k.book.items) due ∙ there) unpopped
              (message-is ∙ ap (λ (n : ℕ). log_message k.config.resolver_splits k.config.shard_splits k.config.logs l n
              (seen_before k.book.items n) entry) (sym due)) taken

          pub counted : logs_taken (slice_set k.logs.items l new)
              ≡ slice_set (logs_taken k.logs.items) l (role.taken + 1)
          counted = map-set (λ (it : LogRole). it.taken) k.logs.items l new

          pub tied : Refines (record k { logs = with_item k.logs l new })
          tied = roles-refine k before (record (roles_of k) { logs = with_item k.logs l new }) before.commit_proxies
              before.resolvers (record {
                log_count = length-set k.logs.items l new ∙ before.logs.log_count;
                shard_count = before.logs.shard_count;
                each_log = each-set (LogRefines k.config k.book.items) k.logs.items l new before.logs.each_log
                    (λ _. refined);
                each_shard = before.logs.each_shard;
                each_tag = tags-taken k.logs.items l role new k.shards.items at (omega arith) taken.popped
                    before.logs.each_tag;
              })

  -- a log that stays leaves the world as it is
  module _ (state : Log) (same : state ≡ role.state) where
    abbrev put : LogRole
    put = record { state = state; taken = role.taken }

    put-same : slice_set k.logs.items l put ≡ k.logs.items
    put-same = ap (λ (it : Log). slice_set k.logs.items l (record { state = it; taken = role.taken })) same
        ∙ set-same k.logs.items l role at

    pub log-same : (machine_of (record k { logs = with_item k.logs l put }) ≡ machine_of k)
        × Refines (record k { logs = with_item k.logs l put })
    log-same = (
      ap (λ (logs : List LogRole). record (machine_of k) { logs = logs_taken logs }) put-same,
      roles-refine k before (record (roles_of k) { logs = with_item k.logs l put }) before.commit_proxies
          before.resolvers
          (subst (λ (logs : List LogRole). LogsRefine k.config k.book.items logs k.shards.items) (sym put-same)
          before.logs),
    )

-- an entry whose messages are in the pool is decided
pub is-decided : (k : Cluster) → Refines k → (i : ℕ) (entry : Entry) → slice_get k.book.items i ≡ Some entry
    → (messages : List LogMsg) → slice_get k.messages.items i ≡ Some (Some messages)
    → is_set k.decided.items i ≡ true
is-decided k before i entry there messages pooled =
    by_test (is_set k.decided.items i) (sym pooled ∙ before.book.made i entry there)
  where
    by_test : (made : Bool)
        → Some (Some messages)
        ≡ Some (if made then Some (messages_on k.config i (seen_before k.book.items i) entry) else None)
        → made ≡ true
    by_test true is = refl
    by_test false is = cc

-- an entry that is decided and a log that is there
pub pushes-there : (m : Machine) (i l : ℕ) (entry : Entry) (taken : ℕ) → slice_get m.book i ≡ Some entry
    → slice_get m.logs l ≡ Some taken → is_set m.decided i ≡ true → NamesWhatIsThere (pushes m i l)
unfolding pushes
pushes-there m i l entry taken there at made = record { refused = rw (there, at, made) (in-turn taken i entry _) }

-- The entry, the log and the message that a push looks up.
pub record Pushing (k : Cluster) (i l : ℕ) (role : LogRole) (message : LogMsg) : Type 0 where
  pub entry : Entry
  pub there : slice_get k.book.items i ≡ Some entry
  pub at : slice_get k.logs.items l ≡ Some role
  pub messages : List LogMsg
  pub pooled : slice_get k.messages.items i ≡ Some (Some messages)
  pub message_there : slice_get messages l ≡ Some message

module _ (k : Cluster) (before : Refines k) (i l : ℕ) (inside : i < length k.messages.items)
    (read : Option (List LogMsg)) (role : LogRole)
    (is : read ≡ get_or k.messages.items i read) (role-at : slice_get k.logs.items l ≡ Some role) where
  pub entry-there : (entry : Entry) × (slice_get k.book.items i ≡ Some entry)
  entry-there = within-item k.book.items i (subst (λ (n : ℕ). i < n) before.book.each_pooled inside)

  -- what was read is in the pool
  pub pooled-read : slice_get k.messages.items i ≡ Some read
  pooled-read = slice_get_read k.messages.items (length k.messages.items) i read refl inside is

  module _ (messages : List LogMsg) (some : read ≡ Some messages) where
    pub pooled-messages : slice_get k.messages.items i ≡ Some (Some messages)
    pooled-messages = pooled-read ∙ ap (λ (it : Option (List LogMsg)). Some it) some

    pub enough : l < length messages
    enough = subst (λ (n : ℕ). l < n)
        (sym (one-each k before i l entry-there.0 role entry-there.1 role-at messages pooled-messages))
        (slice_get_within k.logs.items l role role-at)

    pub pushing : (message : LogMsg) → message ≡ get_or messages l message → Pushing k i l role message
    pushing message message_is = record {
      entry = entry-there.0;
      there = entry-there.1;
      at = role-at;
      messages = messages;
      pooled = pooled-messages;
      message_there = slice_get_read messages (length messages) l message refl enough message_is;
    }

-- a log that took its message works
pub log-works : (k : Cluster) (l : ℕ) (role later : LogRole) → slice_get k.logs.items l ≡ Some role
    → Refines (record k { logs = with_item k.logs l later }) → later.state.is_failed ≡ false
log-works k l role later at refines =
    (refines.logs.each_log l later (set-here k.logs.items l later (slice_get_within k.logs.items l role at))).works
