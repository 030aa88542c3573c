-- A shard applies what its log has, forgets old versions, and has its log drop what it applied.
use Rattle.std.proofs.Common.{◌≡◌, ◌∙◌, refl, sym, ap, subst, ℕ, suc, ◌+◌, ◌^◌, ◌%◌, ◌<◌, ◌≤◌, min, max, le_refl, Bool}
use Rattle.std.proofs.Common.{true, false, length, List, map, take, Option, Some, None, Ok, Err, arith}
use Rattle.std.specs.Prelude.{◌==◌, nat_lt, if◌then◌else◌}
use Rattle.std.specs.List.{slice_get, slice_set}
use Rattle.std.specs.Option.{option_or}
use Rattle.std.specs.Vec.{with_item}
use Rattle.std.proofs.lemmas.Bool.{and_from, cond-false, eq-eqb, le-ltb, lt-ltb}
use Rattle.std.proofs.lemmas.List.{length-map, length-set, map-set}
use Rattle.std.proofs.lemmas.Option.{same_Some, slice_get-map, slice_get_within}
use Rattle.fdb_keys.specs.declared.refusal.Refusal.{Refusal}
use Rattle.fdb_keys.specs.declared.refusal.Refusal.TheVariants.{Failed, FutureVersion}
use Rattle.fdb_txn.specs.book.Book.{last_version}
use Rattle.fdb_log.specs.declared.peek.Peek.{Peek}
use Rattle.fdb_log.specs.Logs.{Log, keeps, popped_through, peek_fault, peek_of, tag_fault, HasPopped}
use Rattle.fdb_log.specs.Messages.{log_of}
use Rattle.fdb_storage.specs.Shards.{Shard, apply_fault, forget_fault, HasApplied, HasForgotten}
use Rattle.fdb_core.specs.declared.cluster.Cluster.{Cluster}
use Rattle.fdb_core.specs.declared.roles.log.LogRole.{LogRole}
use Rattle.fdb_core.specs.declared.roles.shard.ShardRole.{ShardRole}
use Rattle.fdb_machine.specs.declared.step.Answered.TheVariants as answered
use Rattle.fdb_machine.specs.machine.Machine.{Machine}
use Rattle.fdb_machine.specs.machine.Roles.{ShardProgress}
use Rattle.fdb_machine.specs.machine.RoleSteps.{pulls, forgets, pops, version_of_shard}
use Rattle.fdb_core.specs.refinement.Cluster.{machine_of, Refines}
use Rattle.fdb_core.specs.refinement.log.Ties.{LogRefines, LogsRefine, ShardRefines, TagRefines, logs_taken}
use Rattle.fdb_core.specs.refinement.log.Ties.{progress_of}
use Rattle.fdb_roles.proofs.Exports.{each-set, shard-forgot, entries-rising, versions-ordered}
use Rattle.fdb_core.proofs.refinement.log.Ties.{set-same, log-popped, shard-pulled, count, count-is, tags-applied}
use Rattle.fdb_core.proofs.refinement.log.Ties.{tags-popped, shard-at, shard-refines, given-stamped}
use Rattle.fdb_core.proofs.refinement.RolesLemmas.{roles_of, roles-refine}

-- what the machine does, once the shard and its log are found
module _ (m : Machine) (s : ℕ) (progress : ShardProgress) (at : slice_get m.shards s ≡ Some progress) where
  forgets-late : (version : ℕ) → nat_lt (version_of_shard m.book progress) version ≡ true
      → forgets m s version ≡ Err FutureVersion
  unfolding forgets
  forgets-late version late = rw (at, late) refl

  forgets-transition : (version : ℕ) → nat_lt (version_of_shard m.book progress) version ≡ false
      → forgets m s version ≡ Ok (record {
        answer = answered.Version (max progress.floor version);
        next = record m { shards = slice_set m.shards s (record progress { floor = max progress.floor version }) };
      })
  unfolding forgets
  forgets-transition version reached = rw (at, reached) refl

  pops-transition : pops m s ≡ Ok (record {
    answer = answered.Version (version_of_shard m.book progress);
    next = record m
        { shards = slice_set m.shards s (record progress { popped = version_of_shard m.book progress }) };
  })
  unfolding pops
  pops-transition = rw at refl

  pulls-transition : (limit has applied : ℕ) → slice_get m.logs (log_of (length m.logs) s) ≡ Some has
      → max progress.applied (min has (progress.applied + limit)) ≡ applied
      → pulls m s limit ≡ Ok (record {
        answer = answered.Version (last_version (take applied m.book));
        next = record m { shards = slice_set m.shards s (record progress { applied = applied }) };
      })
  unfolding pulls
  pulls-transition limit has applied found is = rw (at, found, is) refl

module _ (k : Cluster) (before : Refines k) (s : ℕ) (role : ShardRole)
    (at : slice_get k.shards.items s ≡ Some role) where
  pub progress-at : slice_get (map progress_of k.shards.items) s ≡ Some (progress_of role)
  progress-at = slice_get-map progress_of k.shards.items s ∙ rw at refl

  pub its : ShardRefines k.config k.book.items s role
  its = before.logs.each_shard s role at

  -- the world with another value of the shard
  module _ (new : ShardRole) (refined : ShardRefines k.config k.book.items s new)
      (within : (log : LogRole) → slice_get k.logs.items (log_of (length k.logs.items) s) ≡ Some log
      → new.applied ≤ log.taken)
      (popped : new.popped ≡ role.popped) where
    pub shard-put : Refines (record k { shards = with_item k.shards s new })
    shard-put = roles-refine k before (record (roles_of k) { shards = with_item k.shards s new }) before.commit_proxies
        before.resolvers (record {
          log_count = before.logs.log_count;
          shard_count = length-set k.shards.items s new ∙ before.logs.shard_count;
          each_log = before.logs.each_log;
          each_shard = each-set (ShardRefines k.config k.book.items) k.shards.items s new before.logs.each_shard
              (λ _. refined);
          each_tag = tags-applied k.logs.items k.shards.items s role new at within popped before.logs.each_tag;
        })

  pub counted : (new : ShardRole)
      → map progress_of (slice_set k.shards.items s new)
      ≡ slice_set (map progress_of k.shards.items) s (progress_of new)
  counted new = map-set progress_of k.shards.items s new

  -- a shard that stays leaves the world as it is
  pub shard-same : (state : Shard) → state ≡ role.state →
      let later = record k { shards = with_item k.shards s (record role { state = state }) } in
      (machine_of later ≡ machine_of k) × Refines later
  shard-same state same = (
    ap (λ (shards : List ShardRole). record (machine_of k) { shards = map progress_of shards }) as-before,
    roles-refine k before (record (roles_of k) { shards = with_item k.shards s (record role { state = state }) })
        before.commit_proxies before.resolvers
        (subst (LogsRefine k.config k.book.items k.logs.items) (sym as-before) before.logs),
  )
    where
      as-before : slice_set k.shards.items s (record role { state = state }) ≡ k.shards.items
      as-before = ap (λ (it : Shard). slice_set k.shards.items s (record role { state = it })) same
          ∙ set-same k.shards.items s role at

  -- the shard refuses to forget a version that it hasn't reached
  pub forget_fault-is : (version : ℕ) → forget_fault role.state version
      ≡ (if nat_lt (version_of_shard k.book.items (progress_of role)) version then Some FutureVersion else None)
  forget_fault-is version =
      cond-false role.state.is_failed (Some Failed) _ its.works
      ∙ ap (λ (greatest : ℕ). if nat_lt greatest version then Some FutureVersion else None) its.version

  pub forget-refused : (version : ℕ) (why : Refusal) → forget_fault role.state version ≡ Some why
      → forgets (machine_of k) s version ≡ Err why
  forget-refused version why fault =
      by_test (nat_lt (version_of_shard k.book.items (progress_of role)) version) refl
      (sym (forget_fault-is version) ∙ fault)
    where
      by_test : (late : Bool) → nat_lt (version_of_shard k.book.items (progress_of role)) version ≡ late
          → (if late then Some FutureVersion else None) ≡ Some why → forgets (machine_of k) s version ≡ Err why
      by_test true is same =
          let why_is : FutureVersion ≡ why = cc in
          forgets-late (machine_of k) s (progress_of role) progress-at version is ∙ ap (λ (it : Refusal). Err it) why_is
      by_test false is same = cc

  module _ (version : ℕ) (faultless : forget_fault role.state version ≡ None) where
    reached : nat_lt (version_of_shard k.book.items (progress_of role)) version ≡ false
    reached = by_test (nat_lt (version_of_shard k.book.items (progress_of role)) version)
        (sym (forget_fault-is version) ∙ faultless)
      where
        by_test : (late : Bool) → (if late then Some FutureVersion else None) ≡ None → late ≡ false
        by_test true is = cc
        by_test false is = refl

    pub forget-accepted : forgets (machine_of k) s version ≡ Ok (record {
      answer = answered.Version (max role.state.floor version);
      next = record (machine_of k) {
        shards = slice_set (map progress_of k.shards.items) s
            (record (progress_of role) { floor = max role.state.floor version });
      };
    })
    forget-accepted = forgets-transition (machine_of k) s (progress_of role) progress-at version reached

    pub forgot : (state : Shard) → HasForgotten role.state version state
        → ShardRefines k.config k.book.items s (record role { state = state })
    forgot state forgotten =
        let low = its.popped in
        shard-refines k.config k.book.items s role.applied role.popped state
        (shard-forgot k.config (take role.applied k.book.items) s version role.state state
        (shard-at k.config k.book.items s role its) faultless forgotten) its.within
        (omega (arith, low, forgotten.version))

  -- its log keeps its tag
  module _ (log : LogRole) (log_at : slice_get k.logs.items (log_of (length k.logs.items) s) ≡ Some log) where
    pub taken-at : slice_get (logs_taken k.logs.items) (log_of (length (logs_taken k.logs.items)) s) ≡ Some log.taken
    taken-at =
        ap (λ (n : ℕ). slice_get (logs_taken k.logs.items) (log_of n s))
        (length-map k.logs.items (λ (it : LogRole). it.taken))
        ∙ slice_get-map (λ (it : LogRole). it.taken) k.logs.items (log_of (length k.logs.items) s) ∙ rw log_at refl

    pub log-is : LogRefines k.config k.book.items (log_of (length k.logs.items) s) log
    log-is = before.logs.each_log (log_of (length k.logs.items) s) log log_at

    pub tie : TagRefines k.logs.items s role
    tie = before.logs.each_tag s role at

    pub keeps-it : keeps log.state s ≡ true
    keeps-it = and_from (nat_lt s log.state.tags) (log_of log.state.logs s == log.state.log)
        (lt-ltb s log.state.tags (subst (λ (n : ℕ). s < n) (before.logs.shard_count ∙ sym log-is.tags)
        (slice_get_within k.shards.items s role at)))
        (eq-eqb (log_of log.state.logs s) log.state.log
        (ap (λ (n : ℕ). log_of n s) (log-is.logs ∙ sym before.logs.log_count) ∙ sym log-is.number))

    pub unpopped : popped_through log.state s ≤ role.state.version
    unpopped = subst (λ (n : ℕ). n ≤ role.state.version) (sym (tie log log_at).1) its.popped

    -- the log took what the shard applied
    pub behind : role.state.version ≤ log.state.last
    behind =
        let reached = versions-ordered k.book.items (entries-rising (suc (length k.config.resolver_splits))
        k.book.items before.book.entries) role.applied log.taken (tie log log_at).0 in
        omega (arith, its.version, log-is.last, reached)

    pub tag_fault-none : tag_fault log.state s role.state.version ≡ None
    tag_fault-none =
        cond-false log.state.is_failed (Some Failed) _ log-is.works
        ∙ rw (keeps-it, le-ltb log.state.last role.state.version behind) refl

    pub peek_fault-none : peek_fault log.state s role.state.version ≡ None
    peek_fault-none =
        cond-false log.state.is_failed (Some Failed) _ log-is.works
        ∙ rw (
          keeps-it,
          le-ltb log.state.last role.state.version behind,
          le-ltb role.state.version (popped_through log.state s) unpopped,
        ) refl

    pub apply_fault-none : (limit : ℕ)
        → apply_fault role.state (peek_of log.state s role.state.version limit) ≡ None
    apply_fault-none limit =
        rw (eq-eqb s role.state.tag (sym its.tag), its.works, le-ltb role.state.version role.state.version (le_refl _))
        (ap (λ (fault : Option Refusal). option_or fault None) (given-stamped k.config k.book.items
        before.book.entries s (log_of (length k.logs.items) s) limit role log log-is its keeps-it (tie log log_at).0
        unpopped))

    -- how many messages are applied
    abbrev pub given : ℕ → ℕ
    given limit = count k.config k.book.items before.book.entries s (log_of (length k.logs.items) s) limit role log
        log-is its keeps-it (tie log log_at).0 unpopped

    pub applied-is : (limit : ℕ) → max role.applied (min log.taken (role.applied + limit)) ≡ role.applied + given limit
    applied-is limit = let ordered = (tie log log_at).0 in omega (arith, ordered)

    pub pull-accepted : (limit : ℕ) → pulls (machine_of k) s limit ≡ Ok (record {
      answer = answered.Version (last_version (take (role.applied + given limit) k.book.items));
      next = record (machine_of k) {
        shards = slice_set (map progress_of k.shards.items) s
            (record (progress_of role) { applied = role.applied + given limit });
      };
    })
    pull-accepted limit = pulls-transition (machine_of k) s (progress_of role) progress-at limit log.taken
        (role.applied + given limit) taken-at (applied-is limit)

    pub pulled : (limit : ℕ) (state : Shard)
        → HasApplied role.state (peek_of log.state s role.state.version limit) state
        → ShardRefines k.config k.book.items s (record role { state = state; applied = role.applied + given limit })
    pulled limit state applied = shard-pulled k.config k.book.items before.book.entries s
        (log_of (length k.logs.items) s) limit role log log-is its keeps-it (tie log log_at).0 unpopped state applied

    pub given-count : (limit : ℕ) → length (peek_of log.state s role.state.version limit).messages ≡ given limit
    given-count limit = count-is k.config k.book.items before.book.entries s
        (log_of (length k.logs.items) s) limit role log log-is its keeps-it (tie log log_at).0 unpopped

    pub given-within : (limit : ℕ) → role.applied + given limit ≤ log.taken
    given-within limit = let ordered = (tie log log_at).0 in omega (arith, ordered)

    -- the log drops what the shard applied
    pub popped : (state : Log) → HasPopped log.state s role.state.version state
        → Refines (record k {
          logs = with_item k.logs (log_of (length k.logs.items) s) (record log { state = state });
          shards = with_item k.shards s (record role { popped = role.state.version });
        })
    popped state drops = roles-refine k before
        (record (roles_of k) {
          logs = with_item k.logs (log_of (length k.logs.items) s) log-new;
          shards = with_item k.shards s shard-new;
        })
        before.commit_proxies before.resolvers (record {
          log_count = length-set k.logs.items (log_of (length k.logs.items) s) log-new ∙ before.logs.log_count;
          shard_count = length-set k.shards.items s shard-new ∙ before.logs.shard_count;
          each_log = each-set (LogRefines k.config k.book.items) k.logs.items (log_of (length k.logs.items) s) log-new
              before.logs.each_log
              (λ _. log-popped k.config k.book.items (log_of (length k.logs.items) s) log s role.state.version state
              log-is drops);
          each_shard = each-set (ShardRefines k.config k.book.items) k.shards.items s shard-new before.logs.each_shard
              (λ _. shard-is);
          each_tag = tags-popped k.logs.items k.shards.items s role shard-new log log-new at log_at refl refl
              (drops.popped ∙ greater) drops.others_popped before.logs.each_tag;
        })
      where
        log-new : LogRole
        log-new = record log { state = state }

        shard-new : ShardRole
        shard-new = record role { popped = role.state.version }

        greater : max (popped_through log.state s) role.state.version ≡ role.state.version
        greater = omega (arith, unpopped)

        shard-is : ShardRefines k.config k.book.items s shard-new
        shard-is = record {
          tag = its.tag;
          range = its.range;
          works = its.works;
          within = its.within;
          version = its.version;
          serving = its.serving;
          popped = le_refl role.state.version;
          serves = its.serves;
        }

    pub pop-accepted : pops (machine_of k) s ≡ Ok (record {
      answer = answered.Version role.state.version;
      next = record (machine_of k) {
        shards = slice_set (map progress_of k.shards.items) s
            (record (progress_of role) { popped = role.state.version });
      };
    })
    pop-accepted = pops-transition (machine_of k) s (progress_of role) progress-at
        ∙ rw (sym its.version) refl

-- the same of a log that was found by what the shard's number leaves over the number of logs
module _ (k : Cluster) (before : Refines k) (s n version : ℕ) (role : ShardRole) (log : LogRole)
    (at : slice_get k.shards.items s ≡ Some role) (count_is : n ≡ length k.logs.items)
    (log_at : slice_get k.logs.items (s % n) ≡ Some log) (version_is : version ≡ role.state.version) where
  pub log-there : slice_get k.logs.items (log_of (length k.logs.items) s) ≡ Some log
  log-there = ap (λ (m : ℕ). slice_get k.logs.items (s % m)) (sym count_is) ∙ log_at

  pub pop-faultless : tag_fault log.state s version ≡ None
  pop-faultless = ap (tag_fault log.state s) version_is ∙ tag_fault-none k before s role at log log-there

  pub pop-goes_on : pops (machine_of k) s ≡ Ok (record {
    answer = answered.Version version;
    next = record (machine_of k) {
      shards = slice_set (map progress_of k.shards.items) s (record (progress_of role) { popped = version });
    };
  })
  pop-goes_on = rw version_is (pop-accepted k before s role at log log-there)

  pub pop-tied : (state : Log) → HasPopped log.state s version state
      → Refines (record k {
        logs = with_item k.logs (s % n) (record log { state = state });
        shards = with_item k.shards s (record role { popped = version });
      })
  pop-tied state drops =
      rw (count_is, version_is) (popped k before s role at log log-there state
      (subst (λ (v : ℕ). HasPopped log.state s v state) version_is drops))

  -- the machine knows nothing of what a log dropped
  pub pop-taken : (state : Log)
      → logs_taken (slice_set k.logs.items (s % n) (record log { state = state })) ≡ logs_taken k.logs.items
  pop-taken state =
      map-set (λ (it : LogRole). it.taken) k.logs.items (s % n) (record log { state = state })
      ∙ set-same (logs_taken k.logs.items) (s % n) log.taken
      (slice_get-map (λ (it : LogRole). it.taken) k.logs.items (s % n) ∙ rw log_at refl)

-- What a shard pulls, by the version that it named to its log.
module _ (k : Cluster) (before : Refines k) (s limit version : ℕ) (role : ShardRole) (log : LogRole)
    (at : slice_get k.shards.items s ≡ Some role)
    (log_at : slice_get k.logs.items (log_of (length k.logs.items) s) ≡ Some log)
    (version_is : version ≡ role.state.version) where
  pub peek-faultless : peek_fault log.state s version ≡ None
  peek-faultless = ap (peek_fault log.state s) version_is ∙ peek_fault-none k before s role at log log_at

  module _ (peek : Peek) (peek_is : peek ≡ peek_of log.state s version limit) where
    its-peek : peek ≡ peek_of log.state s role.state.version limit
    its-peek = peek_is ∙ ap (λ (v : ℕ). peek_of log.state s v limit) version_is

    pub apply-faultless : apply_fault role.state peek ≡ None
    apply-faultless = ap (apply_fault role.state) its-peek ∙ apply_fault-none k before s role at log log_at limit

    pub pull-count : length peek.messages ≡ given k before s role at log log_at limit
    pull-count = ap (λ (it : Peek). length it.messages) its-peek ∙ given-count k before s role at log log_at limit

    pub pull-room : role.applied + length peek.messages < 2 ^ 32
    pull-room =
        let within = given-within k before s role at log log_at limit in
        let taken = (log-is k before s role at log log_at).within in
        omega (arith, pull-count, within, taken, before.room, before.legal.book)

    module _
        (state : Shard) (applied : HasApplied role.state peek state) (n : ℕ) (n_is : n ≡ length peek.messages) where
      abbrev put : ShardRole
      put = record role { state = state; applied = role.applied + n }

      its-applied : HasApplied role.state (peek_of log.state s role.state.version limit) state
      its-applied = subst (λ (it : Peek). HasApplied role.state it state) its-peek applied

      n_given : n ≡ given k before s role at log log_at limit
      n_given = n_is ∙ pull-count

      refined : ShardRefines k.config k.book.items s put
      refined = rw n_given (pulled k before s role at log log_at limit state its-applied)

      pub pull-goes_on : pulls (machine_of k) s limit ≡ Ok (record {
        answer = answered.Version state.version;
        next = record (machine_of k) {
          shards = slice_set (map progress_of k.shards.items) s
              (record (progress_of role) { applied = role.applied + n });
        };
      })
      pull-goes_on =
          let version : state.version
          ≡ last_version (take (role.applied + given k before s role at log log_at limit) k.book.items) =
          refined.version ∙ ap (λ (m : ℕ). last_version (take (role.applied + m) k.book.items)) n_given in
          rw (version, n_given) (pull-accepted k before s role at log log_at limit)

      pub pull-counted : map progress_of (slice_set k.shards.items s put)
          ≡ slice_set (map progress_of k.shards.items) s (record (progress_of role) { applied = role.applied + n })
      pull-counted = counted k before s role at put
          ∙ ap (λ (floor : ℕ). slice_set (map progress_of k.shards.items) s
          (record { applied = role.applied + n; floor = floor; popped = role.popped })) applied.floor

      pub pull-tied : Refines (record k { shards = with_item k.shards s put })
      pull-tied = shard-put k before s role at put refined
          (λ other found. subst (λ (it : LogRole). role.applied + n ≤ it.taken)
          (same_Some log other (sym log_at ∙ found))
          (subst (λ (m : ℕ). role.applied + m ≤ log.taken) (sym n_given)
          (given-within k before s role at log log_at limit))) refl
