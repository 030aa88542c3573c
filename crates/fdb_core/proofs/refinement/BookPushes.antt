-- One more entry in the book, and what stays tied.
use Rattle.std.proofs.Common.{◌≡◌, ◌∙◌, sym, ap, ap₂, subst, ⊎_elim, ℕ, suc, ◌<◌, le_of_lt, Bool, false, List, [], ◌≤◌}
use Rattle.std.proofs.Common.{◌∷◌, ◌++◌, length, Option, Some, None, unwrap_or, if◌then◌else◌, arith}
use Rattle.std.specs.List.{slice_get}
use Rattle.std.specs.FinMap.{get}
use Rattle.std.proofs.lemmas.Option.{same_Some, slice_get_within}
use Rattle.std.proofs.lemmas.Bool.{cases_lt, true≢false}
use Rattle.std.proofs.lemmas.List.{length-append, take-append-le}
use Rattle.fdb_keys.specs.Points.{Point}
use Rattle.fdb_keys.specs.Ranges.{Range}
use Rattle.fdb_txn.specs.declared.entry.Entry.{Entry}
use Rattle.fdb_txn.specs.book.Book.{Seen, seen_of, last_version, seen_before, last_horizon}
use Rattle.fdb_txn.specs.book.History.{AreEntries}
use Rattle.fdb_txn.proofs.Exports.{entries_go_on, horizons_part}
use Rattle.fdb_log.specs.declared.message.LogMsg.{LogMsg}
use Rattle.fdb_log.specs.Logs.{popped_through}
use Rattle.fdb_log.specs.Messages.{above}
use Rattle.fdb_txn.specs.rules.Messages.{messages_for}
use Rattle.fdb_txn.specs.rules.SerialMap.{serial_map_at}
use Rattle.fdb_txn.specs.rules.Splits.{piece}
use Rattle.fdb_resolver.specs.declared.part.Part.{Part}
use Rattle.fdb_proxy.specs.declared.config.Config.{Config}
use Rattle.fdb_core.specs.declared.roles.log.LogRole.{LogRole}
use Rattle.fdb_core.specs.declared.roles.resolver.ResolverRole.{ResolverRole}
use Rattle.fdb_core.specs.declared.roles.shard.ShardRole.{ShardRole}
use Rattle.fdb_machine.specs.machine.Machine.{is_set}
use Rattle.fdb_core.specs.refinement.Cluster.{BookRefines, ConflictsRefine, messages_on}
use Rattle.fdb_roles.specs.ProxyStages.{AreConflictsOn, AreFindsOn, ArePartsOf, position_in}
use Rattle.fdb_core.specs.refinement.log.Ties.{LogRefines, ShardRefines, LogsRefine}
use Rattle.fdb_core.specs.refinement.resolver.Resolving.{ResolverRefines, ResolversRefine, PartsRefine}
use Rattle.fdb_roles.specs.AtBook.{IsResolverAt}
use Rattle.fdb_roles.proofs.Exports.{front-at, last-at, seen-front}

module _ (book : List Entry) (entry : Entry) where
  -- the parts of one more entry
  pub parts-push : (splits : List Point) (parts : List (List Part)) (given : List Part)
      → PartsRefine splits book parts → ArePartsOf splits (book ++ entry ∷ []) (length book) entry given
      → PartsRefine splits (book ++ entry ∷ []) (parts ++ given ∷ [])
  parts-push splits parts given ok are = record {
    count = omega (arith, length-append parts (given ∷ []), length-append book (entry ∷ []), ok.count);
    each = λ i other of there its. ⊎_elim
        (λ early.
        let old : slice_get book i ≡ Some other = sym (front-at book (entry ∷ []) i early) ∙ there in
        let was : slice_get parts i ≡ Some of =
        sym (front-at parts (given ∷ []) i (omega (arith, early, ok.count))) ∙ its in
        at-front i other of early (ok.each i other of old was))
        (λ late.
        let inside = slice_get_within (book ++ entry ∷ []) i other there in
        let last : i ≡ length book = omega (arith, late, inside, length-append book (entry ∷ [])) in
        let pool_end : i ≡ length parts = omega (arith, last, ok.count) in
        at-end i other of last
        (same_Some entry other (sym (ap (slice_get (book ++ entry ∷ [])) last ∙ last-at book entry) ∙ there))
        (same_Some given of (sym (ap (slice_get (parts ++ given ∷ [])) pool_end ∙ last-at parts given) ∙ its)))
        (cases_lt i (length book));
  }
    where
      at-front : (i : ℕ) (other : Entry) (of : List Part) → i < length book → ArePartsOf splits book i other of
          → ArePartsOf splits (book ++ entry ∷ []) i other of
      at-front i other of early its = subst
          (λ (before : Seen). Rattle.fdb_proxy.specs.Parting.AreParts splits
          (Rattle.fdb_proxy.specs.Verdicts.moves_through before other)
          (position_in i other) other.batch of)
          (sym (seen-front book (entry ∷ []) i (le_of_lt early))) its

      at-end : (i : ℕ) (other : Entry) (of : List Part) → i ≡ length book → entry ≡ other → given ≡ of
          → ArePartsOf splits (book ++ entry ∷ []) i other of
      at-end i other of last same given_is =
          subst (λ (n : ℕ). ArePartsOf splits (book ++ entry ∷ []) n other of) (sym last)
          (subst (λ (e : Entry). ArePartsOf splits (book ++ entry ∷ []) (length book) e of) same
          (subst (ArePartsOf splits (book ++ entry ∷ []) (length book) entry) given_is are))

  pub resolvers-push : (splits : List Point) (resolvers : List ResolverRole) → ResolversRefine splits book resolvers
      → ResolversRefine splits (book ++ entry ∷ []) resolvers
  resolvers-push splits resolvers ok = record {
    count = ok.count;
    each = λ i role there. resolver-push i role (ok.each i role there);
  }
    where
      resolver-push : (i : ℕ) (role : ResolverRole) → ResolverRefines splits book i role
          → ResolverRefines splits (book ++ entry ∷ []) i role
      resolver-push i role its = record {
        within = omega (arith, length-append book (entry ∷ []), its.within);
        state = subst (λ (front : List Entry). IsResolverAt splits front i role.state)
            (sym (take-append-le role.taken book (entry ∷ []) its.within)) its.state;
        count = its.count;
        sent = record {
          resolver = its.sent.resolver;
          rule = λ j verdicts other sent there.
              let early : j < length book = omega
              (arith, slice_get_within role.sent.items j verdicts sent, its.count, its.within) in
              its.sent.rule j verdicts other sent (sym (front-at book (entry ∷ []) j early) ∙ there)
              ∙ ap (λ (before : Seen).
              Rattle.fdb_proxy.specs.Verdicts.verdicts_on splits i before other)
              (sym (seen-front book (entry ∷ []) j (le_of_lt early)));
          found = λ j verdicts other sent there.
              let early : j < length book = omega
              (arith, slice_get_within role.sent.items j verdicts sent, its.count, its.within) in
              subst (λ (before : Seen). AreFindsOn splits i before other verdicts.conflicts)
              (sym (seen-front book (entry ∷ []) j (le_of_lt early)))
              (its.sent.found j verdicts other sent (sym (front-at book (entry ∷ []) j early) ∙ there));
        };
      }

  pub logs-push : (config : Config) (logs : List LogRole) (shards : List ShardRole) → LogsRefine config book logs shards
      → LogsRefine config (book ++ entry ∷ []) logs shards
  logs-push config logs shards ok = record {
    log_count = ok.log_count;
    shard_count = ok.shard_count;
    each_log = λ i role there. log-push config i role (ok.each_log i role there);
    each_shard = λ i role there. shard-push config i role (ok.each_shard i role there);
    each_tag = ok.each_tag;
  }
    where
      log-push : (config : Config) (i : ℕ) (role : LogRole) → LogRefines config book i role
          → LogRefines config (book ++ entry ∷ []) i role
      log-push config i role its =
          let front = sym (take-append-le role.taken book (entry ∷ []) its.within) in
          record {
            number = its.number;
            logs = its.logs;
            tags = its.tags;
            works = its.works;
            within = omega (arith, length-append book (entry ∷ []), its.within);
            last = its.last ∙ ap last_version front;
            kept = λ tag keeps_it. its.kept tag keeps_it
                ∙ ap (λ (all : List Entry). above (popped_through role.state tag)
                (messages_for config.resolver_splits (piece config.shard_splits tag) all)) front;
          }

      shard-push : (config : Config) (i : ℕ) (role : ShardRole) → ShardRefines config book i role
          → ShardRefines config (book ++ entry ∷ []) i role
      shard-push config i role its =
          let front = sym (take-append-le role.applied book (entry ∷ []) its.within) in
          record {
            tag = its.tag;
            range = its.range;
            works = its.works;
            within = omega (arith, length-append book (entry ∷ []), its.within);
            version = its.version ∙ ap last_version front;
            serving = its.serving;
            popped = its.popped;
            serves = λ v x from until inside. its.serves v x from until inside
                ∙ ap (λ (all : List Entry). get (serial_map_at config.resolver_splits v (seen_of all).places) x) front;
          }

  pub book-push : (config : Config) (entry_proxies : List ℕ) (decided : List Bool)
      (messages : List (Option (List LogMsg))) (proxy : ℕ)
      → BookRefines config book entry_proxies decided messages
      → AreEntries (suc (length config.resolver_splits)) (last_version book) (entry ∷ [])
      → last_horizon book ≤ entry.horizon
      → BookRefines config (book ++ entry ∷ []) (entry_proxies ++ proxy ∷ []) (decided ++ false ∷ [])
      (messages ++ None ∷ [])
  book-push config entry_proxies decided messages proxy ok next rises = record {
    entries = entries_go_on (suc (length config.resolver_splits)) 0 book entry ok.entries next;
    each_has_proxy = omega
        (arith, length-append entry_proxies (proxy ∷ []), length-append book (entry ∷ []), ok.each_has_proxy);
    each_flagged = omega (arith, length-append decided (false ∷ []), length-append book (entry ∷ []), ok.each_flagged);
    each_pooled = omega (arith, length-append messages (None ∷ []), length-append book (entry ∷ []), ok.each_pooled);
    made = λ i other there. ⊎_elim
        (λ early.
        let old : slice_get book i ≡ Some other = sym (front-at book (entry ∷ []) i early) ∙ there in
        front-at messages (None ∷ []) i (omega (arith, early, ok.each_pooled))
        ∙ ok.made i other old
        ∙ ap₂ (λ (flag : Bool) (front : List Entry).
        Some (if flag then Some (messages_on config i (seen_of front) other) else None))
        (sym (flag-front i (omega (arith, early, ok.each_flagged))))
        (sym (take-append-le i book (entry ∷ []) (le_of_lt early))))
        (λ late.
        let inside = slice_get_within (book ++ entry ∷ []) i other there in
        let last : i ≡ length book = omega (arith, late, inside, length-append book (entry ∷ [])) in
        let pool_end : i ≡ length messages = omega (arith, last, ok.each_pooled) in
        let flags_end : i ≡ length decided = omega (arith, last, ok.each_flagged) in
        ap (slice_get (messages ++ None ∷ [])) pool_end ∙ last-at messages None
        ∙ ap (λ (flag : Bool). Some (if flag then Some (messages_on config i (seen_before (book ++ entry ∷ []) i) other)
        else None)) (sym (ap (is_set (decided ++ false ∷ [])) flags_end
        ∙ ap (λ (flag : Option Bool). unwrap_or flag false) (last-at decided false))))
        (cases_lt i (length book));
    horizons = (horizons_part 0 book (entry ∷ [])).1 (ok.horizons, (rises, tt));
  }
    where
      flag-front : (i : ℕ) → i < length decided → is_set (decided ++ false ∷ []) i ≡ is_set decided i
      flag-front i early = ap (λ (flag : Option Bool). unwrap_or flag false) (front-at decided (false ∷ []) i early)

  -- it isn't decided, so it has no conflict sets yet
  pub conflicts-push : (splits : List Point) (decided : List Bool) (conflicts : List (List (List Range)))
      → length decided ≡ length book → ConflictsRefine splits book decided conflicts
      → ConflictsRefine splits (book ++ entry ∷ []) (decided ++ false ∷ []) (conflicts ++ [] ∷ [])
  conflicts-push splits decided conflicts flagged ok = record {
    each_kept = omega (arith, length-append conflicts ([] ∷ []), length-append book (entry ∷ []), ok.each_kept);
    by_rule = λ i other of there done its. ⊎_elim
        (λ early.
        let flag = flag-front i (omega (arith, early, flagged)) in
        subst (λ (before : Seen). AreConflictsOn splits before other of)
        (sym (seen-front book (entry ∷ []) i (le_of_lt early)))
        (ok.by_rule i other of (sym (front-at book (entry ∷ []) i early) ∙ there) (sym flag ∙ done)
        (kept-front i of early its)))
        (λ late.
        let inside = slice_get_within (book ++ entry ∷ []) i other there in
        let last : i ≡ length decided =
        omega (arith, late, inside, length-append book (entry ∷ []), flagged) in
        absurd (true≢false (sym done ∙ flag-last i last)))
        (cases_lt i (length book));
    undecided = λ i of waits its. ⊎_elim
        (λ early. ok.undecided i of (sym (flag-front i (omega (arith, early, flagged))) ∙ waits)
        (kept-front i of early its))
        (λ late.
        let inside = slice_get_within (conflicts ++ [] ∷ []) i of its in
        let last : i ≡ length conflicts =
        omega (arith, late, inside, length-append conflicts ([] ∷ []), ok.each_kept) in
        sym (same_Some [] of (sym (ap (slice_get (conflicts ++ [] ∷ [])) last ∙ last-at conflicts []) ∙ its)))
        (cases_lt i (length book));
  }
    where
      flag-front : (i : ℕ) → i < length decided → is_set (decided ++ false ∷ []) i ≡ is_set decided i
      flag-front i early = ap (λ (flag : Option Bool). unwrap_or flag false) (front-at decided (false ∷ []) i early)

      flag-last : (i : ℕ) → i ≡ length decided → is_set (decided ++ false ∷ []) i ≡ false
      flag-last i last = ap (is_set (decided ++ false ∷ [])) last
          ∙ ap (λ (flag : Option Bool). unwrap_or flag false) (last-at decided false)

      kept-front : (i : ℕ) (of : List (List Range)) → i < length book
          → slice_get (conflicts ++ [] ∷ []) i ≡ Some of → slice_get conflicts i ≡ Some of
      kept-front i of early its = sym (front-at conflicts ([] ∷ []) i (omega (arith, early, ok.each_kept))) ∙ its
