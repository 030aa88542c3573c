-- A commit proxy of a world decides its batch.
use Rattle.std.proofs.Common.{◌≡◌, ◌∙◌, refl, sym, ap, subst, ⊎_elim, ℕ, suc, ◌<◌, Bool, true, false, List, [], length}
use Rattle.std.proofs.Common.{map, replicate, Option, Some, None, unwrap_or, Result, Ok, Err, slice_get, slice_set}
use Rattle.std.proofs.Common.{if◌then◌else◌, arith}
use Rattle.std.specs.Vec.{with_item}
use Rattle.std.proofs.lemmas.Bool.{cases_eq, cases_Bool, true≢false}
use Rattle.std.proofs.lemmas.List.{length-set, length-map}
use Rattle.std.proofs.lemmas.Option.{same_Some, slice_get_within}
use Rattle.fdb_keys.specs.Answers.{Answers}
use Rattle.fdb_keys.specs.declared.refusal.Refusal.{Refusal}
use Rattle.fdb_keys.specs.declared.refusal.Refusal.TheVariants.{NotYet, WrongState}
use Rattle.fdb_keys.specs.Points.{Point}
use Rattle.fdb_keys.specs.Ranges.{Range, in_set}
use Rattle.fdb_txn.specs.declared.entry.Entry.{Entry}
use Rattle.fdb_txn.specs.book.Book.{seen_before}
use Rattle.fdb_txn.specs.book.History.{AreEntries}
use Rattle.fdb_txn.specs.book.Places.{place_of}
use Rattle.fdb_log.specs.declared.message.LogMsg.{LogMsg}
use Rattle.fdb_storage.specs.LogMessages.{log_messages}
use Rattle.fdb_proxy.specs.declared.config.Config.{Config}
use Rattle.fdb_proxy.specs.declared.decision.Decision.{Decision}
use Rattle.fdb_proxy.specs.CommitProxies.{waiting_for}
use Rattle.fdb_proxy.specs.Conflicts.{set_at}
use Rattle.fdb_proxy.specs.Verdicts.{is_needed, outcomes_on, conflict_at}
use Rattle.fdb_core.specs.declared.cluster.Cluster.{Cluster}
use Rattle.fdb_core.specs.declared.roles.commit_proxy.CommitProxyRole.{CommitProxyRole}
use Rattle.fdb_core.specs.declared.roles.log.LogRole.{LogRole}
use Rattle.fdb_machine.specs.declared.step.Answered.TheVariants as answered
use Rattle.fdb_machine.specs.machine.CommitProxySteps.{decides, is_idle, is_resolving}
use Rattle.fdb_machine.specs.machine.Machine.{is_set, first_missing}
use Rattle.fdb_machine.specs.machine.Roles.{Stage, Idle, Resolving, Logging, Reported}
use Rattle.fdb_core.specs.refinement.Cluster.{machine_of, messages_on, ConflictsRefine, Refines}
use Rattle.fdb_core.specs.refinement.commit_proxy.Ties.{CommitProxyRefines, Known, known_to, Decides, seen_as}
use Rattle.fdb_core.specs.refinement.log.Ties.{logs_taken}
use Rattle.fdb_machine.specs.machine.Steps.{ran_out}
use Rattle.fdb_machine.proofs.Exports.{Unless, unless, unless-fault}
use Rattle.fdb_roles.specs.ProxyStages.{AreConflictsOn}
use Rattle.fdb_roles.proofs.Exports.{answers-fault, set-here, set-other, map-at, map-set}
use Rattle.fdb_core.proofs.refinement.commit_proxy.Ties.{commit_proxies-put, busy-entry}

-- the messages of an entry more, which is decided
made-set : (config : Config) (book : List Entry) (decided : List Bool) (messages : List (Option (List LogMsg))) (i : ℕ)
    (entry : Entry) (new : List LogMsg)
    → slice_get book i ≡ Some entry → new ≡ messages_on config i (seen_before book i) entry
    → i < length messages → i < length decided
    → ((j : ℕ) (other : Entry) → slice_get book j ≡ Some other → slice_get messages j
    ≡ Some (if is_set decided j then Some (messages_on config j (seen_before book j) other) else None))
    → (j : ℕ) (other : Entry) → slice_get book j ≡ Some other → slice_get (slice_set messages i (Some new)) j
    ≡ Some (if is_set (slice_set decided i true) j then Some (messages_on config j (seen_before book j) other) else
    None)
made-set config book decided messages i entry new there is within flagged before j other at = ⊎_elim
    (λ same.
    let it : entry ≡ other = same_Some entry other (sym there ∙ ap (slice_get book) (sym same) ∙ at) in
    let set_now : is_set (slice_set decided i true) j ≡ true = ap (is_set (slice_set decided i true)) same
    ∙ ap (λ (flag : Option Bool). unwrap_or flag false) (set-here decided i true flagged) in
    ap (slice_get (slice_set messages i (Some new))) same ∙ set-here messages i (Some new) within
    ∙ ap (λ (all : List LogMsg). Some (Some all)) (is ∙ ap (λ (n : ℕ). messages_on config n (seen_before book n) entry)
    (sym same) ∙ ap (messages_on config j (seen_before book j)) it)
    ∙ ap (λ (flag : Bool). Some (if flag then Some (messages_on config j (seen_before book j) other) else None))
    (sym set_now))
    (λ differs. set-other messages i j (Some new) differs
    ∙ before j other at
    ∙ ap (λ (flag : Option Bool). Some (if unwrap_or flag false
    then Some (messages_on config j (seen_before book j) other) else None)) (sym (set-other decided i j true differs)))
    (cases_eq j i)

-- the conflict sets of an entry more, which is decided
conflicts-set : (splits : List Point) (book : List Entry) (decided : List Bool) (conflicts : List (List (List Range)))
    (i : ℕ) (entry : Entry) (new : List (List Range))
    → slice_get book i ≡ Some entry → AreConflictsOn splits (seen_before book i) entry new → i < length decided
    → ConflictsRefine splits book decided conflicts
    → ConflictsRefine splits book (slice_set decided i true) (slice_set conflicts i new)
conflicts-set splits book decided conflicts i entry new there is flagged ok = record {
  each_kept = length-set conflicts i new ∙ ok.each_kept;
  by_rule = λ j other of at done its. ⊎_elim
      (λ same p x.
      let entry_is : entry ≡ other = same_Some entry other (sym there ∙ ap (slice_get book) (sym same) ∙ at) in
      ap (λ (sets : List (List Range)). in_set (set_at p sets) x) (sym (put j of same its)) ∙ is p x
      ∙ (λ k. conflict_at splits (place_of (seen_before book (sym same k)) p (Some (entry_is k))) x))
      (λ differs. ok.by_rule j other of at (sym (flag-other j differs) ∙ done)
      (sym (set-other conflicts i j new differs) ∙ its))
      (cases_eq j i);
  undecided = λ j of waits its. ⊎_elim
      (λ same. absurd (true≢false (sym (flag-here j same) ∙ waits)))
      (λ differs. ok.undecided j of (sym (flag-other j differs) ∙ waits)
      (sym (set-other conflicts i j new differs) ∙ its))
      (cases_eq j i);
}
  where
    flag-other : (j : ℕ) → ¬ (j ≡ i) → is_set (slice_set decided i true) j ≡ is_set decided j
    flag-other j differs = ap (λ (flag : Option Bool). unwrap_or flag false) (set-other decided i j true differs)

    flag-here : (j : ℕ) → j ≡ i → is_set (slice_set decided i true) j ≡ true
    flag-here j same = ap (is_set (slice_set decided i true)) same
        ∙ ap (λ (flag : Option Bool). unwrap_or flag false) (set-here decided i true flagged)

    put : (j : ℕ) (of : List (List Range)) → j ≡ i → slice_get (slice_set conflicts i new) j ≡ Some of → new ≡ of
    put j of same its =
        let kept = ok.each_kept in
        let inside = slice_get_within book i entry there in
        same_Some new of (sym (ap (slice_get (slice_set conflicts i new)) same
        ∙ set-here conflicts i new (omega (arith, kept, inside))) ∙ its)

-- who resolves isn't idle
busy : (stage : Stage) → is_resolving stage ≡ true → is_idle stage ≡ false
busy Idle resolving = cc
busy Resolving resolving = refl
busy Logging resolving = refl
busy Reported resolving = refl

-- waits for the one that is missing, or for none
waits-fault : (missing : Option ℕ) (why : Refusal) → waiting_for missing ≡ Some why
    → (n : ℕ) × (missing ≡ Some n) × (why ≡ NotYet n)
waits-fault None why is = cc
waits-fault (Some n) why is = (n, refl, cc)

none-waits : (missing : Option ℕ) → waiting_for missing ≡ None → missing ≡ None
none-waits None is = refl
none-waits (Some n) is = cc

-- what deciding gives: what is decided, and the messages for the logs
abbrev pub Given : Type 0
Given = Decision × List LogMsg

-- The proxy that is told to decide.
module _ (k : Cluster) (refines : Refines k) (proxy : ℕ) (role : CommitProxyRole)
    (there : slice_get k.commit_proxies.items proxy ≡ Some role) where
  pub its-tie : CommitProxyRefines k.config k.book.items (known_to k.sequencer proxy) role
  its-tie = refines.commit_proxies.each proxy role there

  seen-there : slice_get (map seen_as k.commit_proxies.items) proxy ≡ Some (seen_as role)
  seen-there = map-at seen_as k.commit_proxies.items proxy role there

  -- it waits for no verdicts
  pub decides-wrong : is_resolving (seen_as role).stage ≡ false → decides (machine_of k) proxy ≡ Err WrongState
  unfolding decides
  decides-wrong wrong = rw (seen-there, wrong) refl

  module _ (waits_now : is_resolving (seen_as role).stage ≡ true) where
    pub found : (entry : Entry) × (slice_get k.book.items role.entry ≡ Some entry)
    found =
        let its = busy-entry k.config k.book.items (known_to k.sequencer proxy) role its-tie
        (busy (seen_as role).stage waits_now) in (its.0, its.1)

    abbrev pub entry : Entry
    entry = found.0

    abbrev pub entry-there : slice_get k.book.items role.entry ≡ Some entry
    entry-there = found.1

    abbrev pub missing : Option ℕ
    missing = first_missing (λ resolver. is_needed k.config.resolver_splits resolver
        (seen_before k.book.items role.entry) entry) 0 (seen_as role).verdicts_received

    -- it waits for one that is asked
    pub decides-waits : (n : ℕ) → missing ≡ Some n → decides (machine_of k) proxy ≡ Err (NotYet n)
    unfolding decides
    decides-waits n waits = rw (seen-there, waits_now, entry-there, waits) refl

    -- it decides
    decides-transition : missing ≡ None → decides (machine_of k) proxy ≡ Ok (record {
      answer = answered.Decided (outcomes_on k.config.resolver_splits (seen_before k.book.items role.entry) entry);
      next = record (machine_of k) {
        decided = slice_set k.decided.items role.entry true;
        commit_proxies = slice_set (map seen_as k.commit_proxies.items) proxy (record (seen_as role) {
          stage = Logging;
          verdicts_received = [];
          acknowledgements_received = replicate (length (logs_taken k.logs.items)) false;
        });
      };
    })
    unfolding decides
    decides-transition none = rw (seen-there, waits_now, entry-there, none) refl

    -- the batch is decided by the rule, and the messages are its own
    abbrev pub IsDecidedAs : CommitProxyRole → Given → Type 0
    IsDecidedAs later given =
        Decides k.config k.book.items (known_to k.sequencer proxy) entry role given.0 later
        × (given.1 ≡ messages_on k.config role.entry (seen_before k.book.items role.entry) entry)

    -- why it is refused
    pub decides-refused : (why : Refusal) (later : CommitProxyRole)
        → Answers {T = Given} (Err why) (waiting_for missing) (IsDecidedAs later)
        → (P : Type 0) → ((n : ℕ) → why ≡ NotYet n → decides (machine_of k) proxy ≡ Err (NotYet n) → P)
        → Unless (ran_out (Err why)) P
    decides-refused why later answers P follows =
        unless-fault (waiting_for missing) why (IsDecidedAs later) P answers
        (λ faulty. let waits = waits-fault missing why faulty in
        follows waits.0 waits.2 (decides-waits waits.0 waits.1))

    -- what stands once it decided, and its messages are in the pool
    pub decided : (decision : Decision) (messages : List LogMsg) (later : CommitProxyRole)
        → Answers (Ok (decision, messages)) (waiting_for missing) (IsDecidedAs later) →
        let next = record k {
          decided = with_item k.decided role.entry true;
          commit_proxies = with_item k.commit_proxies proxy later;
          messages = with_item k.messages role.entry (Some messages);
          conflicts = with_item k.conflicts role.entry decision.conflicts;
        } in
        (decides (machine_of k) proxy
        ≡ Ok (record { answer = answered.Decided decision.outcomes; next = machine_of next }))
        × Refines next
    decided decision messages later answers =
        let given = answers-fault (waiting_for missing) (decision, messages) (IsDecidedAs later) answers in
        let is = given.1.0 in
        let sent = given.1.1 in
        let book = refines.book in
        let inside = slice_get_within k.book.items role.entry entry entry-there in
        let within : role.entry < length k.messages.items = omega (arith, book.each_pooled, inside) in
        let flagged : role.entry < length k.decided.items = omega (arith, book.each_flagged, inside) in
        let logs : k.config.logs ≡ length (logs_taken k.logs.items) =
        sym (length-map k.logs.items (λ (of : LogRole). of.taken) ∙ refines.logs.log_count) in (
          decides-transition (none-waits missing given.0)
              ∙ (λ i. Ok (record {
                answer = answered.Decided (sym is.outcomes_are i);
                next = record (machine_of k) {
                  decided = slice_set k.decided.items role.entry true;
                  commit_proxies = (ap (λ (n : ℕ). slice_set (map seen_as k.commit_proxies.items) proxy
                      (record (seen_as role) {
                        stage = Logging;
                        verdicts_received = [];
                        acknowledgements_received = replicate n false;
                      })) (sym logs)
                      ∙ ap (slice_set (map seen_as k.commit_proxies.items) proxy) (sym is.machine)
                      ∙ sym (map-set seen_as k.commit_proxies.items proxy later)) i;
                };
              })),
          record {
            legal = refines.legal;
            room = refines.room;
            sequencer = refines.sequencer;
            book = record {
              entries = book.entries;
              each_has_proxy = book.each_has_proxy;
              each_flagged = length-set k.decided.items role.entry true ∙ book.each_flagged;
              each_pooled = length-set k.messages.items role.entry (Some messages) ∙ book.each_pooled;
              made = made-set k.config k.book.items k.decided.items k.messages.items role.entry entry messages
                  entry-there sent within flagged book.made;
              horizons = refines.book.horizons;
            };
            parts = refines.parts;
            resolvers = refines.resolvers;
            logs = refines.logs;
            shard_map = refines.shard_map;
            commit_proxies = commit_proxies-put k.config k.book.items (known_to k.sequencer) k.commit_proxies.items
                proxy later refines.commit_proxies is.refines;
            grv_proxies = refines.grv_proxies;
            opened = refines.opened;
            conflicts = conflicts-set k.config.resolver_splits k.book.items k.decided.items k.conflicts.items
                role.entry entry decision.conflicts entry-there is.conflicts_are flagged refines.conflicts;
          },
        )

-- By what the calls of the proxy say.
module _ (k : Cluster) (refines : Refines k) (proxy : ℕ) (role later : CommitProxyRole)
    (there : slice_get k.commit_proxies.items proxy ≡ Some role) where
  abbrev waiting : Type 0
  waiting = is_resolving (seen_as role).stage ≡ true

  -- what deciding answers
  abbrev pub SaysWrong : Result Given Refusal → Type 0
  SaysWrong result =
      (config : Config) (book : List Entry) (known : Known) → CommitProxyRefines config book known role
      → is_resolving (seen_as role).stage ≡ false → result ≡ Err WrongState

  abbrev pub SaysDecided : Result Given Refusal → Type 0
  SaysDecided result =
      (config : Config) (book : List Entry) (known : Known) (entry : Entry)
      → CommitProxyRefines config book known role → is_resolving (seen_as role).stage ≡ true
      → slice_get book role.entry ≡ Some entry → AreEntries (suc (length config.resolver_splits)) 0 book
      → Answers result (waiting_for (first_missing
      (λ resolver. is_needed config.resolver_splits resolver (seen_before book role.entry) entry) 0
      (seen_as role).verdicts_received))
      (λ given. Decides config book known entry role given.0 later
      × (given.1 ≡ log_messages config.resolver_splits config.shard_splits config.logs role.entry
      (seen_before book role.entry) entry))

  at-world : (result : Result Given Refusal) → SaysDecided result → (now : waiting)
      → Answers result (waiting_for (missing k refines proxy role there now))
      (IsDecidedAs k refines proxy role there now later)
  at-world result says now =
      says k.config k.book.items (known_to k.sequencer proxy) (entry k refines proxy role there now)
      (its-tie k refines proxy role there) now (entry-there k refines proxy role there now) refines.book.entries

  -- refused
  pub is-refused : (why : Refusal) → SaysWrong (Err why) → SaysDecided (Err why)
      → Unless (ran_out (Err why)) (decides (machine_of k) proxy ≡ Err why)
  is-refused why wrong says = ⊎_elim
      (λ (now : waiting).
      decides-refused k refines proxy role there now why later (at-world (Err why) says now)
      (decides (machine_of k) proxy ≡ Err why)
      (λ n is refused. refused ∙ ap (λ (w : Refusal). Err w) (sym is)))
      (λ (never : is_resolving (seen_as role).stage ≡ false).
      let is : why ≡ WrongState = same-why why WrongState
      (wrong k.config k.book.items (known_to k.sequencer proxy) (its-tie k refines proxy role there) never) in
      unless (ran_out (Err why)) (decides (machine_of k) proxy ≡ Err why)
      (decides-wrong k refines proxy role there never ∙ ap (λ (w : Refusal). Err w) (sym is)))
      (cases_Bool (is_resolving (seen_as role).stage))
    where
      same-why : (a b : Refusal) → ◌≡◌ {A = Result Given Refusal} (Err a) (Err b) → a ≡ b
      same-why a b is = cc

  -- who decided waited for verdicts
  waited : (given : Given) → SaysWrong (Ok given) → waiting
  waited given wrong = ⊎_elim
      (λ (now : waiting). now)
      (λ (never : is_resolving (seen_as role).stage ≡ false).
      absurd (given-refused (wrong k.config k.book.items (known_to k.sequencer proxy)
      (its-tie k refines proxy role there) never))) (cases_Bool (is_resolving (seen_as role).stage))
    where
      given-refused : ◌≡◌ {A = Result Given Refusal} (Ok given) (Err WrongState) → ⊥
      given-refused is = cc

  -- where it decided: what it decided is its entry, by number
  module _ (decision : Decision) (messages : List LogMsg) (wrong : SaysWrong (Ok (decision, messages)))
      (says : SaysDecided (Ok (decision, messages))) (i : ℕ) (number : i ≡ role.entry) where
    now : waiting
    now = waited (decision, messages) wrong

    pub in-pool : (i < length k.messages.items) × (i < length k.decided.items) × (i < length k.conflicts.items)
    in-pool =
        let inside = slice_get_within k.book.items role.entry (entry k refines proxy role there now)
        (entry-there k refines proxy role there now) in
        let pooled = refines.book.each_pooled in
        let flagged = refines.book.each_flagged in
        let kept = refines.conflicts.each_kept in (
          omega (arith, inside, pooled, number),
          omega (arith, inside, flagged, number),
          omega (arith, inside, kept, number),
        )

    pub is-decided :
        let next = record k {
          decided = with_item k.decided i true;
          commit_proxies = with_item k.commit_proxies proxy later;
          messages = with_item k.messages i (Some messages);
          conflicts = with_item k.conflicts i decision.conflicts;
        } in
        (decides (machine_of k) proxy
        ≡ Ok (record { answer = answered.Decided decision.outcomes; next = machine_of next }))
        × Refines next
    is-decided =
        subst (λ (n : ℕ).
        (decides (machine_of k) proxy ≡ Ok (record {
          answer = answered.Decided decision.outcomes;
          next = machine_of (record k {
            decided = with_item k.decided n true;
            commit_proxies = with_item k.commit_proxies proxy later;
            messages = with_item k.messages n (Some messages);
            conflicts = with_item k.conflicts n decision.conflicts;
          });
        }))
        × Refines (record k {
          decided = with_item k.decided n true;
          commit_proxies = with_item k.commit_proxies proxy later;
          messages = with_item k.messages n (Some messages);
          conflicts = with_item k.conflicts n decision.conflicts;
        })) (sym number)
        (decided k refines proxy role there now decision messages later
        (at-world (Ok (decision, messages)) says now))
