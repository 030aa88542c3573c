-- What a resolver or a log says of an entry reaches the entry's commit proxy, or none.
use Rattle.std.proofs.Common.{◌≡◌, ◌∙◌, refl, sym, ap, subst, ℕ, zero, suc, ◌<◌, ◌≤◌, Bool, true, false, List, [], ◌∷◌}
use Rattle.std.proofs.Common.{length, map, get_or, Some, None, Result, Ok, Err, slice_get, slice_set, if◌then◌else◌}
use Rattle.std.proofs.Common.{arith}
use Rattle.std.specs.Vec.{with_item}
use Rattle.std.proofs.lemmas.Bool.{lt-leb, le-leb}
use Rattle.std.proofs.lemmas.List.{length-map}
use Rattle.std.proofs.lemmas.Option.{same_Some, slice_get_read, slice_get_within}
use Rattle.fdb_keys.specs.Answers.{AnswersExactly}
use Rattle.fdb_keys.specs.declared.refusal.Refusal.{Refusal}
use Rattle.fdb_keys.specs.declared.refusal.Refusal.TheVariants.{Stale, Unknown}
use Rattle.fdb_txn.specs.declared.entry.Entry.{Entry}
use Rattle.fdb_txn.specs.book.Book.{seen_before}
use Rattle.fdb_txn.specs.book.Places.{place_of}
use Rattle.fdb_proxy.specs.Verdicts.{verdicts_on, found_at}
use Rattle.fdb_resolver.specs.declared.verdict.Verdicts.{Verdicts}
use Rattle.fdb_core.specs.declared.cluster.Cluster.{Cluster}
use Rattle.fdb_core.specs.declared.roles.commit_proxy.CommitProxyRole.{CommitProxyRole}
use Rattle.fdb_core.specs.declared.roles.log.LogRole.{LogRole}
use Rattle.fdb_core.specs.declared.roles.resolver.ResolverRole.{ResolverRole}
use Rattle.fdb_machine.specs.declared.step.Answered.TheVariants as answered
use Rattle.fdb_machine.specs.machine.CommitProxySteps.{taken_by_sender, receives, awaits, with_received}
use Rattle.fdb_machine.specs.machine.Machine.{Machine}
use Rattle.fdb_machine.specs.machine.Roles.{CommitProxy, Sender, FromResolver, FromLog}
use Rattle.fdb_core.specs.refinement.Cluster.{machine_of, Refines}
use Rattle.fdb_roles.specs.ProxyStages.{IsSaid}
use Rattle.fdb_core.specs.refinement.commit_proxy.Ties.{CommitProxyRefines, known_to, seen_as}
use Rattle.fdb_core.specs.refinement.log.Ties.{logs_taken}
use Rattle.fdb_core.specs.refinement.commit_proxy.Receiving.{IsReceiver, IsUnknown}
use Rattle.fdb_core.specs.refinement.resolver.Resolving.{ResolverRefines, taken_by}
use Rattle.fdb_roles.proofs.Exports.{within-item, given-fault, refused-fault, map-at, map-set}
use Rattle.fdb_core.proofs.refinement.commit_proxy.Ties.{commit_proxies-put}
use Rattle.fdb_core.proofs.refinement.StepLemmas.{NamesWhatIsThere}
use Rattle.fdb_core.proofs.refinement.RolesLemmas.{roles_of, roles-refine}
use Rattle.fdb_machine.specs.machine.Failures.{unless_failed}

-- nothing stands past the end of a list
pub past-end : {A : Type 0} (xs : List A) (i : ℕ) → length xs ≤ i → slice_get xs i ≡ None
past-end [] i past = refl
past-end (x ∷ xs) zero past = absurd (omega (arith, past))
past-end (x ∷ xs) (suc i) past = past-end xs i (omega (arith, past))

-- what is made of a list's item that is there is made of one that is there
made-of : {A B : Type 0} (f : A → B) (xs : List A) (i : ℕ) (y : B) → slice_get (map f xs) i ≡ Some y
    → (x : A) × (slice_get xs i ≡ Some x) × (y ≡ f x)
made-of f [] i y there = cc
made-of f (x ∷ xs) zero y there = let same : f x ≡ y = cc in (x, refl, sym same)
made-of f (x ∷ xs) (suc i) y there = made-of f xs i y there

module _ (m : Machine) (entry : ℕ) (sender : Sender) where
  -- there is no such sender
  pub nobody : taken_by_sender m sender ≡ None → IsUnknown m entry sender Unknown
  unfolding receives
  nobody none = record { why_is = refl; refused = refused }
    where
      refused : receives m entry sender ≡ Err Unknown
      refused = rw none refl

  -- it didn't take the entry
  pub not-taken : (taken : ℕ) → taken_by_sender m sender ≡ Some taken → taken ≤ entry
      → IsUnknown m entry sender Unknown
  unfolding receives
  not-taken taken took late = record { why_is = refl; refused = refused }
    where
      refused : receives m entry sender ≡ Err Unknown
      refused = rw (took, le-leb taken entry late) refl

  -- there is no such entry
  pub no-entry : (taken : ℕ) → taken_by_sender m sender ≡ Some taken → entry < taken
      → length m.entry_proxies ≤ entry → IsUnknown m entry sender Unknown
  unfolding receives
  no-entry taken took early past = record { why_is = refl; refused = refused }
    where
      refused : receives m entry sender ≡ Err Unknown
      refused = rw (took, lt-leb taken entry early, past-end m.entry_proxies entry past) refl

  -- or no such proxy
  pub no-proxy : (taken proxy : ℕ) → taken_by_sender m sender ≡ Some taken → entry < taken
      → slice_get m.entry_proxies entry ≡ Some proxy → length m.commit_proxies ≤ proxy
      → IsUnknown m entry sender Unknown
  unfolding receives
  no-proxy taken proxy took early its past = record { why_is = refl; refused = refused }
    where
      refused : receives m entry sender ≡ Err Unknown
      refused = rw (took, lt-leb taken entry early, its, past-end m.commit_proxies proxy past) refl

  -- the proxy that is there doesn't wait for it, or does
  module _ (proxy : ℕ) (found : IsReceiver m entry sender proxy) (commit_proxy : CommitProxy)
      (there : slice_get m.commit_proxies proxy ≡ Some commit_proxy) where
    pub receives-stale : awaits commit_proxy entry sender ≡ false → receives m entry sender ≡ Err Stale
    unfolding receives
    receives-stale waits =
        rw (found.took, lt-leb found.taken entry found.within, found.its, there, waits) refl

    pub receives-transition : awaits commit_proxy entry sender ≡ true
        → receives m entry sender ≡ Ok (record {
          answer = answered.Done;
          next = record m { commit_proxies = slice_set m.commit_proxies proxy (with_received commit_proxy sender) };
        })
    unfolding receives
    receives-transition waits =
        rw (found.took, lt-leb found.taken entry found.within, found.its, there, waits) refl

-- why a proxy that doesn't wait for it refuses
stale-why : (waits : Bool) (why : Refusal) → (if waits then None else Some Stale) ≡ Some why
    → (waits ≡ false) × (why ≡ Stale)
stale-why true why is = cc
stale-why false why is = (refl, cc)

waits-then : (waits : Bool) → (if waits then None else Some Stale) ≡ None → waits ≡ true
waits-then true is = refl
waits-then false is = cc

-- a list in which an item is put where it stands already
set-there : {A : Type 0} (xs : List A) (i : ℕ) (x : A) → slice_get xs i ≡ Some x → slice_set xs i x ≡ xs
set-there [] i x there = cc
set-there (y ∷ ys) zero x there = let same : y ≡ x = cc in ap (λ z. z ∷ ys) (sym same)
set-there (y ∷ ys) (suc i) x there = ap (λ rest. y ∷ rest) (set-there ys i x there)

-- A world of which one commit proxy changes, and stays tied.
pub proxy-set : (k : Cluster) → Refines k → (proxy : ℕ) (later : CommitProxyRole)
    → CommitProxyRefines k.config k.book.items (known_to k.sequencer proxy) later
    → (machine_of (record k { commit_proxies = with_item k.commit_proxies proxy later })
    ≡ record (machine_of k) { commit_proxies = slice_set (map seen_as k.commit_proxies.items) proxy (seen_as later) })
    × Refines (record k { commit_proxies = with_item k.commit_proxies proxy later })
proxy-set k refines proxy later tied = (
  (λ i. record (machine_of k) { commit_proxies = map-set seen_as k.commit_proxies.items proxy later i }),
  roles-refine k refines (record (roles_of k) { commit_proxies = with_item k.commit_proxies proxy later })
      (commit_proxies-put k.config k.book.items (known_to k.sequencer) k.commit_proxies.items proxy later
      refines.commit_proxies tied) refines.resolvers refines.logs,
)

-- And one of which a commit proxy stays as it is.
pub proxy-same : (k : Cluster) → Refines k → (proxy : ℕ) (role later : CommitProxyRole)
    → slice_get k.commit_proxies.items proxy ≡ Some role → later ≡ role
    → (machine_of (record k { commit_proxies = with_item k.commit_proxies proxy later }) ≡ machine_of k)
    × Refines (record k { commit_proxies = with_item k.commit_proxies proxy later })
proxy-same k refines proxy role later there same =
    let set = proxy-set k refines proxy later
    (subst (CommitProxyRefines k.config k.book.items (known_to k.sequencer proxy)) (sym same)
    (refines.commit_proxies.each proxy role there)) in (
      set.0 ∙ (λ i. record (machine_of k) {
        commit_proxies = (ap (λ (r : CommitProxyRole). slice_set
            (map seen_as k.commit_proxies.items) proxy (seen_as r)) same
            ∙ set-there (map seen_as k.commit_proxies.items) proxy (seen_as role)
            (map-at seen_as k.commit_proxies.items proxy role there)) i;
      }),
      set.1,
    )

-- what is read by the number of the proxy that was found is the proxy
pub receiver-there : (k : Cluster) (entry : ℕ) (sender : Sender) (proxy : ℕ) (role : CommitProxyRole)
    → IsReceiver (machine_of k) entry sender proxy → role ≡ get_or k.commit_proxies.items proxy role
    → slice_get k.commit_proxies.items proxy ≡ Some role
receiver-there k entry sender proxy role found read =
    let count = length-map k.commit_proxies.items seen_as in
    let within = found.there in
    slice_get_read k.commit_proxies.items (length k.commit_proxies.items) proxy role refl
    (omega (arith, within, count)) read

-- What came to the proxy that was found.
module _ (k : Cluster) (refines : Refines k) (entry : ℕ) (sender : Sender) (proxy : ℕ)
    (found : IsReceiver (machine_of k) entry sender proxy) (role later : CommitProxyRole)
    (there : slice_get k.commit_proxies.items proxy ≡ Some role) where
  abbrev waits : Bool
  waits = awaits (seen_as role) entry sender

  -- it was taken by the proxy, which stays tied
  abbrev Took : Type 0
  Took = (seen_as later ≡ with_received (seen_as role) sender)
      × CommitProxyRefines k.config k.book.items (known_to k.sequencer proxy) later

  seen-there : slice_get (map seen_as k.commit_proxies.items) proxy ≡ Some (seen_as role)
  seen-there = map-at seen_as k.commit_proxies.items proxy role there

  -- it was refused
  pub comes-stale : (T : Type 0) (why : Refusal)
      → AnswersExactly {T = T} (Err why) (if waits then None else Some Stale) (λ _. Took)
      → receives (machine_of k) entry sender ≡ Err why
  comes-stale T why answers =
      let stale = stale-why waits why
      (refused-fault {T = T} (if waits then None else Some Stale) why (λ _. Took) answers) in
      receives-stale (machine_of k) entry sender proxy found (seen_as role) seen-there stale.0
      ∙ ap (λ (refusal : Refusal). Err refusal) (sym stale.1)

  pub comes-awaited : (T : Type 0) (given : T)
      → AnswersExactly (Ok given) (if waits then None else Some Stale) (λ _. Took)
      → (receives (machine_of k) entry sender ≡ Ok (record {
        answer = answered.Done;
        next = machine_of (record k { commit_proxies = with_item k.commit_proxies proxy later });
      })) × Refines (record k { commit_proxies = with_item k.commit_proxies proxy later })
  comes-awaited T given answers =
      let took = given-fault (if waits then None else Some Stale) given (λ _. Took) answers in
      let set = proxy-set k refines proxy later took.1.1 in (
        receives-transition (machine_of k) entry sender proxy found (seen_as role) seen-there
            (waits-then waits took.0)
            ∙ ap (λ (p : CommitProxy). Ok (record {
              answer = answered.Done;
              next = record (machine_of k)
                  { commit_proxies = slice_set (map seen_as k.commit_proxies.items) proxy p };
            })) (sym took.1.0)
            ∙ ap (λ (next : Machine). Ok (record { answer = answered.Done; next = next })) (sym set.0),
        set.1,
      )

-- what is told by who took the entry comes to a proxy that is there
pub receives-there : (m : Machine) (entry : ℕ) (sender : Sender) (proxy : ℕ) (commit_proxy : CommitProxy)
    → IsReceiver m entry sender proxy → slice_get m.commit_proxies proxy ≡ Some commit_proxy
    → NamesWhatIsThere (receives m entry sender)
receives-there m entry sender proxy commit_proxy found there =
    by_test (awaits commit_proxy entry sender) refl
  where
    by_test : (waits : Bool) → awaits commit_proxy entry sender ≡ waits → NamesWhatIsThere (receives m entry sender)
    by_test true is = record {
      refused = ap (unless_failed true) (receives-transition m entry sender proxy found commit_proxy there is);
    }
    by_test false is = record {
      refused = ap (unless_failed true) (receives-stale m entry sender proxy found commit_proxy there is);
    }

-- a log that took something is one of as many as the configuration says
pub log-exists : (k : Cluster) → Refines k → (entry log proxy : ℕ)
    → IsReceiver (machine_of k) entry (FromLog log) proxy → log < k.config.logs
log-exists k refines entry log proxy found =
    let inside = slice_get_within (logs_taken k.logs.items) log found.taken found.took in
    let count = length-map k.logs.items (λ (role : LogRole). role.taken) in
    let all = refines.logs.log_count in
    omega (arith, inside, count, all)

-- what a resolver that took the entry sent of it is the rule's
module _ (k : Cluster) (refines : Refines k) (entry resolver proxy : ℕ)
    (found : IsReceiver (machine_of k) entry (FromResolver resolver) proxy) (role : ResolverRole)
    (there : slice_get k.resolvers.items resolver ≡ Some role) where
  ok : ResolverRefines k.config.resolver_splits k.book.items resolver role
  ok = refines.resolvers.each resolver role there

  took-it : entry < role.taken
  took-it =
      let same : found.taken ≡ role.taken = same_Some found.taken role.taken
      (sym found.took ∙ map-at (λ (r : ResolverRole). r.taken) k.resolvers.items resolver role there) in
      let early = found.within in omega (arith, early, same)

  pub was-sent : entry < length role.sent.items
  was-sent = let count = ok.count in let took = took-it in omega (arith, count, took)

  pub is-said : (verdicts : Verdicts) → slice_get role.sent.items entry ≡ Some verdicts
      → (verdicts.resolver ≡ resolver) × (verdicts.index ≡ entry)
      × ((e : Entry) × IsSaid k.config.resolver_splits k.book.items verdicts e)
  is-said verdicts sent =
      let named = ok.sent.resolver entry verdicts sent in
      let took = took-it in
      let within = ok.within in
      let e = within-item k.book.items entry (omega (arith, took, within)) in
      let inside = slice_get_within k.resolvers.items resolver role there in
      let count = refines.resolvers.count in
      let number : verdicts.resolver ≡ resolver = named.0 in (
        named.0,
        named.1,
        (
          e.0,
          record {
            there = ap (slice_get k.book.items) named.1 ∙ e.1;
            exists = omega (arith, inside, count, number);
            answers = ok.sent.rule entry verdicts e.0 sent e.1
                ∙ (λ i. verdicts_on k.config.resolver_splits (sym named.0 i)
                (seen_before k.book.items (sym named.1 i)) e.0);
            found = λ p x. ok.sent.found entry verdicts e.0 sent e.1 p x
                ∙ (λ i. found_at k.config.resolver_splits (sym named.0 i)
                (place_of (seen_before k.book.items (sym named.1 i)) p (Some e.0)) x);
          },
        ),
      )

-- what is read by the number of a resolver that took something is the resolver
pub resolver-there : (k : Cluster) (entry resolver proxy : ℕ) (role : ResolverRole)
    → IsReceiver (machine_of k) entry (FromResolver resolver) proxy
    → role ≡ get_or k.resolvers.items resolver role → slice_get k.resolvers.items resolver ≡ Some role
resolver-there k entry resolver proxy role found read =
    let inside = slice_get_within (taken_by k.resolvers.items) resolver found.taken found.took in
    let count = length-map k.resolvers.items (λ (r : ResolverRole). r.taken) in
    slice_get_read k.resolvers.items (length k.resolvers.items) resolver role refl (omega (arith, inside, count)) read

-- What a resolver sent came to the proxy that was found.
module _ (k : Cluster) (refines : Refines k) (entry resolver proxy : ℕ)
    (found : IsReceiver (machine_of k) entry (FromResolver resolver) proxy) (role later : CommitProxyRole)
    (there : slice_get k.commit_proxies.items proxy ≡ Some role) (sender : ResolverRole)
    (at : slice_get k.resolvers.items resolver ≡ Some sender) (verdicts : Verdicts)
    (sent : slice_get sender.sent.items entry ≡ Some verdicts) where
  -- the proxy's answer to verdicts of an entry
  abbrev AnswersOf : (T : Type 0) → Result T Refusal → ℕ → ℕ → Type 0
  AnswersOf T result number of =
      AnswersExactly result (if awaits (seen_as role) number (FromResolver of) then None else Some Stale)
      (λ _. (seen_as later ≡ with_received (seen_as role) (FromResolver of))
      × CommitProxyRefines k.config k.book.items (known_to k.sequencer proxy) later)

  -- by the entry's number and the resolver's
  answers-of : (T : Type 0) (result : Result T Refusal)
      → ((e : Entry) → CommitProxyRefines k.config k.book.items (known_to k.sequencer proxy) role
      → IsSaid k.config.resolver_splits k.book.items verdicts e
      → AnswersOf T result verdicts.index verdicts.resolver)
      → AnswersOf T result entry resolver
  answers-of T result answers =
      let said = is-said k refines entry resolver proxy found sender at verdicts sent in
      subst (AnswersOf T result entry) said.0
      (subst (λ (n : ℕ). AnswersOf T result n verdicts.resolver) said.1
      (answers said.2.0 (refines.commit_proxies.each proxy role there) said.2.1))

  pub verdicts-stale : (T : Type 0) (why : Refusal)
      → ((e : Entry) → CommitProxyRefines k.config k.book.items (known_to k.sequencer proxy) role
      → IsSaid k.config.resolver_splits k.book.items verdicts e
      → AnswersOf T (Err why) verdicts.index verdicts.resolver)
      → receives (machine_of k) entry (FromResolver resolver) ≡ Err why
  verdicts-stale T why answers =
      comes-stale k refines entry (FromResolver resolver) proxy found role later there T why
      (answers-of T (Err why) answers)

  pub verdicts-awaited : (T : Type 0) (given : T)
      → ((e : Entry) → CommitProxyRefines k.config k.book.items (known_to k.sequencer proxy) role
      → IsSaid k.config.resolver_splits k.book.items verdicts e
      → AnswersOf T (Ok given) verdicts.index verdicts.resolver)
      → (receives (machine_of k) entry (FromResolver resolver) ≡ Ok (record {
        answer = answered.Done;
        next = machine_of (record k { commit_proxies = with_item k.commit_proxies proxy later });
      })) × Refines (record k { commit_proxies = with_item k.commit_proxies proxy later })
  verdicts-awaited T given answers =
      comes-awaited k refines entry (FromResolver resolver) proxy found role later there T given
      (answers-of T (Ok given) answers)
