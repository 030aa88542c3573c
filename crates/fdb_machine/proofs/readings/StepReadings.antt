-- Every accepted step tells, with its answer, what it does to the machine.
use Rattle.std.proofs.Common.{◌≡◌, ◌≢◌, ◌∙◌, ◌≤◌, le_refl, refl, sym, ap, ap₂, subst, ⊎_elim, ℕ, max, false, List, []}
use Rattle.std.proofs.Common.{◌∷◌, ◌++◌, take, drop, map, length, fold, Some}
use Rattle.std.specs.List.{slice_get, slice_set}
use Rattle.std.proofs.lemmas.Option.{same_Some}
use Rattle.fdb_txn.specs.Limits.{place_limit}
use Rattle.fdb_txn.specs.declared.entry.Entry.{Entry}
use Rattle.fdb_txn.specs.declared.spot.Spot.TheVariants as spot
use Rattle.fdb_txn.specs.book.Book.{seen_of, seen_before, last_version, last_horizon, next_horizon}
use Rattle.fdb_txn.specs.rules.SerialMap.{serial_map_at}
use Rattle.fdb_sequencer.specs.Sequencer.{next_version}
use Rattle.fdb_proxy.specs.Verdicts.{outcomes_on}
use Rattle.fdb_client.specs.declared.program.Transcript.{Transcript}
use Rattle.fdb_client.specs.TxnState.{with_op}
use Rattle.fdb_client.specs.Programs.{program, copy, reply_on, commit_request_of}
use Rattle.fdb_roles.specs.declared.placed.Placed.{Placed}
use Rattle.fdb_machine.specs.headline.Readings.{Readings, SealedBatch, begins, waits_at, seals_entry, of_session}
use Rattle.fdb_machine.specs.headline.Readings.{others_than, with_one_more, with_at, all_acknowledged_by}
use Rattle.fdb_machine.specs.invariant.Places.{AllStand}
use Rattle.fdb_machine.specs.machine.ClientSteps.{add_operation}
use Rattle.fdb_machine.specs.machine.CommitProxySteps.{is_idle, replies_from}
use Rattle.fdb_machine.specs.headline.Traces.{alone}
use Rattle.fdb_machine.specs.machine.Machine.{Machine}
use Rattle.fdb_machine.specs.machine.Sessions.{Session, Sessions, Idle as Free, Asking, Open, Waiting, with_state}
use Rattle.fdb_machine.specs.machine.Sessions.{open_of, open_at, serve, tell_all}
use Rattle.fdb_machine.specs.machine.Roles.{CommitProxy, Reported, Idle}
use Rattle.fdb_machine.proofs.invariant.SessionPlaces.{asks_once, asker-not-open, in_flight_once, flying-not-open}
use Rattle.fdb_machine.proofs.invariant.SoundLemmas.{sessions-stand}
use Rattle.fdb_machine.proofs.common.SumLemmas.{none_or_some}
use Rattle.fdb_machine.proofs.machine.Sealing.{last-at, sealed_entry, sealed_proxy, sealed_machine}
use Rattle.fdb_machine.proofs.machine.SessionLemmas.{able, told-none, told-some, times_of}
use Rattle.fdb_machine.proofs.machine.Steps.{HoldsOfSteps}
use Rattle.fdb_machine.proofs.readings.Agreement.{AtProxy, TellsMachine, TellsOn, progress-tells, quiet-tells}
use Rattle.fdb_machine.proofs.readings.Agreement.{operation-tells, changed-there, changed-elsewhere, one-changes}
use Rattle.fdb_machine.proofs.readings.Agreement.{book-grows, AnsweredOnce, flies, once-goes_on, once-answered}
use Rattle.fdb_machine.proofs.readings.Agreement.{once-sealed}
use Rattle.fdb_machine.proofs.readings.AnswerReadings.{acknowledged-placed}
use Rattle.fdb_machine.proofs.readings.GrantLemmas.{NumbersBegun, AreReady, ready-others, numbers-begins, opened-begins}
use Rattle.fdb_machine.proofs.readings.GrantLemmas.{numbers-put, numbers-told}
use Rattle.fdb_machine.proofs.readings.SessionLists.{OpenTold, found-told, others-told, more-told}

-- where the proxies stay, and what is told of the sessions and of reports is what changes of the machine
with-clients : (r : Readings) (m : Machine) (told_opened : List Transcript) (sessions : Sessions)
    (told_acknowledged acknowledged : List Placed) (told_reported committed : ℕ) → TellsMachine r m
    → OpenTold told_opened sessions → NumbersBegun r.begun sessions → told_acknowledged ≡ acknowledged
    → told_reported ≡ committed
    → TellsMachine
    (record r { opened = told_opened; acknowledged = told_acknowledged; reported = told_reported })
    (record m { sessions = sessions; acknowledged = acknowledged; committed = committed })
with-clients r m told_opened sessions told_acknowledged acknowledged told_reported committed tells opened numbers placed
    reported =
    record {
      book_told = tells.book_told;
      opened_told = opened;
      acknowledged_told = placed;
      reported_told = reported;
      moves_told = tells.moves_told;
      window_told = tells.window_told;
      begun_told = numbers;
      proxies_told = tells.proxies_told;
      once_told = tells.once_told;
    }

-- where a commit proxy changes, and what is told of it
with-proxy : (r : Readings) (m : Machine) (waiting : ℕ → List Transcript) (answered : List ℕ) (proxy : ℕ)
    (new : CommitProxy)
    → TellsMachine r m → ((other : ℕ) → other ≢ proxy → r.waiting other ≡ waiting other)
    → AtProxy m.book (waiting proxy) (r.sealed proxy) new
    → AnsweredOnce m.book answered (slice_set m.commit_proxies proxy new)
    → TellsMachine (record r { waiting = waiting; answered = answered })
    (record m { commit_proxies = slice_set m.commit_proxies proxy new })
with-proxy r m waiting answered proxy new tells others has once = record {
  book_told = tells.book_told;
  opened_told = tells.opened_told;
  acknowledged_told = tells.acknowledged_told;
  reported_told = tells.reported_told;
  moves_told = tells.moves_told;
  window_told = tells.window_told;
  begun_told = tells.begun_told;
  proxies_told = one-changes m.book r.waiting waiting r.sealed r.sealed m.commit_proxies proxy new tells.proxies_told
      (λ other differs. (others other differs, refl)) has;
  once_told = once;
}

-- the same where nothing is told of it
proxy-goes_on : (r : Readings) (m : Machine) (proxy : ℕ) (old new : CommitProxy)
    → slice_get m.commit_proxies proxy ≡ Some old → TellsMachine r m
    → AtProxy m.book (r.waiting proxy) (r.sealed proxy) new → ((entry : ℕ) → flies entry new ≤ flies entry old)
    → TellsMachine r (record m { commit_proxies = slice_set m.commit_proxies proxy new })
proxy-goes_on r m proxy old new at tells has less =
    with-proxy r m r.waiting r.answered proxy new tells (λ other differs. refl) has
    (once-goes_on m.book r.answered m.commit_proxies proxy old new at tells.once_told less)

-- those who ask are granted, one after another
granted-told : (version : ℕ) (askers : List ℕ) (r : Readings) (m : Machine) → TellsMachine r m
    → AreReady m.sessions askers
    → TellsMachine (fold begins r (map (λ (session : ℕ). (session, version)) askers))
    (record m { sessions = fold (serve version) m.sessions askers })
granted-told version [] r m tells ready = tells
granted-told version (asker ∷ askers) r m tells ready =
    granted-told version askers (begins r (asker, version)) (record m { sessions = serve version m.sessions asker })
    (record {
      book_told = tells.book_told;
      opened_told = opened-begins version r m.sessions asker askers tells.begun_told ready tells.opened_told;
      acknowledged_told = tells.acknowledged_told;
      reported_told = tells.reported_told;
      moves_told = tells.moves_told;
      window_told = tells.window_told;
      begun_told = numbers-begins version r m.sessions asker askers tells.begun_told ready;
      proxies_told = tells.proxies_told;
      once_told = tells.once_told;
    })
    (ready-others version m.sessions asker askers ready)

-- those of a batch in flight have no open transaction, before they are told and after
told-open : (m : Machine) (proxy : ℕ) (commit_proxy : CommitProxy) (opened : List Transcript)
    → slice_get m.commit_proxies proxy ≡ Some commit_proxy → AllStand m → OpenTold opened m.sessions
    → OpenTold opened (tell_all commit_proxy.in_flight m.sessions)
told-open m proxy commit_proxy opened at all told session = ⊎_elim
    (λ none. told session ∙ ap (λ (found : Session). alone (open_of found.state))
    (sym (told-none session commit_proxy.in_flight m.sessions none)))
    (λ some. told session
    ∙ ap alone (flying-not-open m session (all.0 session) proxy commit_proxy at some)
    ∙ ap (λ (found : Session). alone (open_of found.state))
    (sym (told-some session commit_proxy.in_flight m.sessions some)))
    (none_or_some (times_of session commit_proxy.in_flight))

-- a transaction that waits at a proxy
submitted-told : (r : Readings) (m : Machine) (session proxy : ℕ) (commit_proxy : CommitProxy)
    (transcript : Transcript)
    → TellsMachine r m → slice_get m.commit_proxies proxy ≡ Some commit_proxy
    → open_at m.sessions session ≡ Some transcript
    → TellsMachine (waits_at r session proxy) (record m {
      sessions = with_state m.sessions session Waiting;
      commit_proxies = slice_set m.commit_proxies proxy
          (record commit_proxy { waiting = commit_proxy.waiting ++ transcript ∷ [] });
    })
submitted-told r m session proxy commit_proxy transcript tells at opened =
    let was = tells.proxies_told proxy commit_proxy at in
    let found = found-told r.opened m.sessions tells.opened_told session transcript opened in
    let waits = with_at proxy (r.waiting proxy ++ of_session session r.opened) r.waiting in
    let there_waits : waits proxy ≡ commit_proxy.waiting ++ transcript ∷ [] =
    changed-there proxy (r.waiting proxy ++ of_session session r.opened) r.waiting
    ∙ ap₂ (λ (first found : List Transcript). first ++ found) was.waiting_told found in
    with-clients (record r { waiting = waits }) (record m {
      commit_proxies = slice_set m.commit_proxies proxy
          (record commit_proxy { waiting = commit_proxy.waiting ++ transcript ∷ [] });
    })
    (others_than session r.opened) (with_state m.sessions session Waiting) _ _ _ _
    (with-proxy r m waits r.answered proxy (record commit_proxy { waiting = commit_proxy.waiting ++ transcript ∷ [] })
    tells
    (λ other differs. sym (changed-elsewhere proxy _ r.waiting other differs))
    (record { waiting_told = there_waits; batch_told = was.batch_told })
    (once-goes_on m.book r.answered m.commit_proxies proxy commit_proxy _ at tells.once_told
    (λ entry. le_refl (flies entry commit_proxy))))
    (others-told r.opened m.sessions tells.opened_told session Waiting refl)
    (numbers-put r.begun m.sessions session Waiting tells.begun_told)
    tells.acknowledged_told tells.reported_told

-- a proxy that seals
sealed-told : (r : Readings) (m : Machine) (proxy advance : ℕ) (commit_proxy : CommitProxy)
    → TellsMachine r m → slice_get m.commit_proxies proxy ≡ Some commit_proxy → commit_proxy.stage ≡ Idle
    → TellsMachine
    (seals_entry r proxy (length m.book) (next_version (last_version m.book) advance) (last_version m.book))
    (sealed_machine m proxy advance commit_proxy)
sealed-told r m proxy advance commit_proxy tells at idle = record {
  book_told = λ i. tells.book_told i ++ entry_told i ∷ [];
  opened_told = tells.opened_told;
  acknowledged_told = tells.acknowledged_told;
  reported_told = tells.reported_told;
  moves_told = refl;
  window_told = tells.window_told;
  begun_told = tells.begun_told;
  proxies_told = one-changes (m.book ++ entry ∷ []) r.waiting after.waiting r.sealed after.sealed m.commit_proxies proxy
      (sealed_proxy m commit_proxy)
      (λ other old there. book-grows m.book (entry ∷ []) (r.waiting other) (r.sealed other) old
      (tells.proxies_told other old there))
      (λ other differs. (
        sym (changed-elsewhere proxy _ r.waiting other differs),
        sym (changed-elsewhere proxy _ r.sealed other differs),
      ))
      (record {
        waiting_told = changed-there proxy _ r.waiting ∙ ap (drop place_limit) was.waiting_told;
        batch_told = λ busy. (
          entry,
          last-at m.book entry,
          changed-there proxy _ r.sealed
              ∙ (λ i. record { entry = length m.book; version = entry.version; transcripts = batch_told i }),
        );
      });
  once_told = once-sealed m.book r.answered m.commit_proxies proxy commit_proxy (sealed_proxy m commit_proxy) at
      tells.once_told entry (ap is_idle idle) refl refl;
}
  where
    entry : Entry
    entry = sealed_entry m advance commit_proxy

    after : Readings
    after = seals_entry r proxy (length m.book) (next_version (last_version m.book) advance) (last_version m.book)

    was : AtProxy m.book (r.waiting proxy) (r.sealed proxy) commit_proxy
    was = tells.proxies_told proxy commit_proxy at

    batch_told : take place_limit (r.waiting proxy) ≡ take place_limit commit_proxy.waiting
    batch_told = ap (take place_limit) was.waiting_told

    entry_told : Path Entry (record {
      version = entry.version;
      prev = entry.prev;
      horizon = next_horizon (last_horizon r.book) r.window entry.version;
      moves = r.pending;
      batch = map commit_request_of (take place_limit (r.waiting proxy));
    }) entry
    entry_told = λ i. record {
      version = entry.version;
      prev = entry.prev;
      horizon = next_horizon (last_horizon (tells.book_told i)) (tells.window_told i) entry.version;
      moves = tells.moves_told i;
      batch = map commit_request_of (batch_told i);
    }

-- a proxy with a batch in flight: its entry is the one that is found in the book
pub batch-at : (r : Readings) (m : Machine) (proxy : ℕ) (commit_proxy : CommitProxy) (entry : Entry) → TellsMachine r m
    → slice_get m.commit_proxies proxy ≡ Some commit_proxy → is_idle commit_proxy.stage ≡ false
    → slice_get m.book commit_proxy.entry ≡ Some entry
    → r.sealed proxy ≡ record
    { entry = commit_proxy.entry; version = entry.version; transcripts = commit_proxy.in_flight }
batch-at r m proxy commit_proxy entry tells at busy there =
    let batch = (tells.proxies_told proxy commit_proxy at).batch_told busy in
    let same : batch.0 ≡ entry = same_Some batch.0 entry (sym batch.1 ∙ there) in
    batch.2 ∙ (λ i. record
    { entry = commit_proxy.entry; version = (same i).version; transcripts = commit_proxy.in_flight })

pub tells_steps : HoldsOfSteps TellsOn
tells_steps = record {
  roles = λ m one_step answer resolvers logs shards quiet grew went r sound tells.
      quiet-tells r m one_step answer quiet tells;
  asked = λ m session proxy there at free r sound tells.
      with-clients r m (others_than session r.opened) (with_state m.sessions session Asking) _ _ _ _ tells
      (others-told r.opened m.sessions tells.opened_told session Asking refl)
      (numbers-put r.begun m.sessions session Asking tells.begun_told)
      tells.acknowledged_told tells.reported_told;
  granted = λ m proxy there at left r sound tells.
      let all = sessions-stand m sound in
      granted-told m.committed there r m tells
      (λ session. (
        asks_once m session (all.0 session) proxy there at,
        λ some. (
          asker-not-open m session (all.0 session) proxy there at some,
          able session m.sessions there left some,
        ),
      ));
  operated = λ m one_step session transcript operation does opened allowed r sound tells.
      let on = copy (serial_map_at m.config.resolver_splits transcript.read_version (seen_of m.book).places)
      (program transcript.ops) in
      let after = add_operation m session transcript operation (reply_on on operation) in
      subst (λ (told : Readings). TellsMachine told after) (operation-tells r one_step session operation on does)
      (with-clients r m (with_one_more session operation (reply_on on operation) r.opened) after.sessions _ _ _ _ tells
      (more-told r.opened m.sessions tells.opened_told session transcript operation (reply_on on operation) opened)
      (numbers-put r.begun m.sessions session (Open (with_op transcript operation (reply_on on operation)))
      tells.begun_told)
      tells.acknowledged_told tells.reported_told);
  read_only = λ m session proxy transcript opened empty r sound tells.
      let found = found-told r.opened m.sessions tells.opened_told session transcript opened in
      with-clients r m (others_than session r.opened) (with_state m.sessions session Free) _ _ _ _ tells
      (others-told r.opened m.sessions tells.opened_told session Free refl)
      (numbers-put r.begun m.sessions session Free tells.begun_told)
      (λ k. tells.acknowledged_told k ++ map (told_at transcript.read_version) (found k)) tells.reported_told;
  submitted = λ m session proxy commit_proxy transcript at opened writes r sound tells.
      submitted-told r m session proxy commit_proxy transcript tells at opened;
  sealed = λ m proxy advance commit_proxy at idle few room r sound tells.
      sealed-told r m proxy advance commit_proxy tells at idle;
  went_on =
      λ m one_step answer proxy commit_proxy stage decided verdicts acknowledgements quiet came at busy goes_on
      unreported went r sound tells.
      let was = tells.proxies_told proxy commit_proxy at in
      quiet-tells r (record m {
        commit_proxies = slice_set m.commit_proxies proxy (record commit_proxy {
          stage = stage;
          verdicts_received = verdicts;
          acknowledgements_received = acknowledgements;
        });
      }) one_step answer quiet
      (proxy-goes_on r m proxy commit_proxy _ at tells
      (record { waiting_told = was.waiting_told; batch_told = λ _. was.batch_told busy })
      (λ entry. rw (goes_on, busy) (le_refl _)));
  reported_version = λ m proxy commit_proxy entry at logging there whole r sound tells.
      let was = tells.proxies_told proxy commit_proxy at in
      let batch = batch-at r m proxy commit_proxy entry tells at (ap is_idle logging) there in
      progress-tells (record r { reported = max r.reported (r.sealed proxy).version }) _
      (record m {
        committed = max m.committed entry.version;
        commit_proxies = slice_set m.commit_proxies proxy (record commit_proxy { stage = Reported });
      })
      (with-clients r
      (record m { commit_proxies = slice_set m.commit_proxies proxy (record commit_proxy { stage = Reported }) })
      _ _ _ _ _ _
      (proxy-goes_on r m proxy commit_proxy _ at tells
      (record { waiting_told = was.waiting_told; batch_told = λ _. was.batch_told (ap is_idle logging) })
      (λ one. rw (ap is_idle logging) (le_refl _)))
      tells.opened_told tells.begun_told tells.acknowledged_told (λ k. max (tells.reported_told k) (batch k).version));
  moved = λ m range to exists r sound tells. record {
    book_told = tells.book_told;
    opened_told = tells.opened_told;
    acknowledged_told = tells.acknowledged_told;
    reported_told = tells.reported_told;
    moves_told = λ k. tells.moves_told k ++ record { range = range; to = to } ∷ [];
    window_told = tells.window_told;
    begun_told = tells.begun_told;
    proxies_told = tells.proxies_told;
    once_told = tells.once_told;
  };
  windowed = λ m width within r sound tells. record {
    book_told = tells.book_told;
    opened_told = tells.opened_told;
    acknowledged_told = tells.acknowledged_told;
    reported_told = tells.reported_told;
    moves_told = tells.moves_told;
    window_told = refl;
    begun_told = tells.begun_told;
    proxies_told = tells.proxies_told;
    once_told = tells.once_told;
  };
  told = λ m proxy commit_proxy entry at reported there r sound tells.
      let all = sessions-stand m sound in
      let was = tells.proxies_told proxy commit_proxy at in
      let batch = batch-at r m proxy commit_proxy entry tells at (ap is_idle reported) there in
      let outcomes = outcomes_on m.config.resolver_splits (seen_before m.book commit_proxy.entry) entry in
      let done : CommitProxy =
      record commit_proxy { in_flight = []; stage = Idle; acknowledgements_received = [] } in
      with-clients (record r { answered = r.answered ++ (r.sealed proxy).entry ∷ [] })
      (record m { commit_proxies = slice_set m.commit_proxies proxy done }) _ _ _ _ _ _
      (with-proxy r m r.waiting (r.answered ++ (r.sealed proxy).entry ∷ []) proxy done tells
      (λ other differs. refl)
      (record { waiting_told = was.waiting_told; batch_told = λ busy. cc })
      (subst (λ (answered : ℕ). AnsweredOnce m.book (r.answered ++ answered ∷ [])
      (slice_set m.commit_proxies proxy done)) (sym (ap (λ (b : SealedBatch). b.entry) batch))
      (once-answered m.book r.answered m.commit_proxies proxy commit_proxy done at tells.once_told
      (ap is_idle reported) refl)))
      (told-open m proxy commit_proxy r.opened at all tells.opened_told)
      (numbers-told r.begun m.sessions commit_proxy.in_flight tells.begun_told)
      (ap₂ (λ (first more : List Placed). first ++ more) tells.acknowledged_told
      (ap (λ (b : SealedBatch). all_acknowledged_by b (replies_from commit_proxy.in_flight outcomes)) batch
      ∙ acknowledged-placed commit_proxy.entry entry.version commit_proxy.in_flight outcomes
      (λ session. in_flight_once m session (all.0 session) proxy commit_proxy at)))
      tells.reported_told;
}
  where
    told_at : ℕ → Transcript → Placed
    told_at version transcript = record { spot = spot.ReadOnly version; transcript = transcript }
