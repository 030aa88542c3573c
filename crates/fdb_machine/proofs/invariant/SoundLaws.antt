-- Every step leaves a sound machine sound.
use Rattle.std.proofs.Common.{◌≡◌, refl, sym, ◌∙◌, ap, subst, arith, ◌<◌, ◌≤◌, le_refl, le_trans, ℕ, suc, max, Bool}
use Rattle.std.proofs.Common.{true, false, List, [], ◌∷◌, take, map, length, Some, Result}
use Rattle.std.specs.List.{AllByRecursion, slice_get, slice_set}
use Rattle.fdb_keys.specs.declared.refusal.Refusal.{Refusal}
use Rattle.fdb_keys.proofs.Exports.{all-append, all-weaken}
use Rattle.fdb_txn.specs.Limits.{place_limit, window}
use Rattle.fdb_txn.specs.declared.entry.Entry.{Entry}
use Rattle.fdb_txn.specs.declared.entry.Move.{Move}
use Rattle.fdb_txn.specs.declared.txn_id.TxnId.{TxnId}
use Rattle.fdb_txn.specs.book.Book.{last_version, last_horizon}
use Rattle.fdb_txn.proofs.Exports.{entries_go_on, horizons_part}
use Rattle.fdb_proxy.specs.declared.config.Config.{Config}
use Rattle.fdb_client.specs.declared.program.Transcript.{Transcript}
use Rattle.fdb_client.specs.TxnState.{with_op}
use Rattle.fdb_client.specs.Programs.{commit_request_of}
use Rattle.fdb_roles.specs.declared.placed.Placed.{Placed}
use Rattle.fdb_roles.proofs.Exports.{horizon-within}
use Rattle.fdb_roles.proofs.Exports.{all-at, all-both, all-set, all-push, all-drop, all-take, all-replicate, last-push}
use Rattle.fdb_machine.specs.machine.Roles.{CommitProxy, Reported, ShardProgress}
use Rattle.fdb_machine.specs.headline.Traces.{machine_of_trace}
use Rattle.fdb_machine.specs.machine.CommitProxySteps.{is_idle, is_reported}
use Rattle.fdb_machine.specs.machine.Machine.{Machine}
use Rattle.fdb_machine.specs.machine.Sessions.{Sessions, EachOpen, Idle, Asking, Open, Waiting, open_at}
use Rattle.fdb_machine.specs.machine.Worlds.{start, idle_proxy}
use Rattle.fdb_machine.specs.invariant.Once.{IsOnce}
use Rattle.fdb_machine.specs.invariant.Invariant.{IsReplied, IsSerializedIn, IsReported, CommitProxyIsSound, Invariant}
use Rattle.fdb_machine.proofs.invariant.OnceLaws.{once_steps, once-start}
use Rattle.fdb_machine.proofs.invariant.SerializedLemmas.{Stands, spot-stays, batch_serialized, read_only_serialized}
use Rattle.fdb_machine.proofs.invariant.SoundLemmas.{told-push, sealed-batch, version-within, found-front, told-entry}
use Rattle.fdb_machine.proofs.invariant.SoundLemmas.{commit_proxy-kept}
use Rattle.fdb_machine.proofs.machine.Sealing.{last-at, sealed_entry, sealed_proxy, sealed_machine}
use Rattle.fdb_machine.proofs.machine.SessionLemmas.{open-has, open-put, open-served, open-told, open-new, open-weaken}
use Rattle.fdb_machine.proofs.machine.Steps.{KeptBySteps, kept-by_trace}
use Rattle.fdb_machine.specs.declared.step.Answered.{Answered}
use Rattle.fdb_machine.specs.machine.AnyStep.{Step}

module _ (m : Machine) (sound : Invariant m) where
  -- where the book, what is pending and the committed version stay, a machine is sound by its transactions
  same_book : {decided : List Bool} {resolvers logs : List ℕ} {shards : List ShardProgress}
      {grv_proxies : List (List ℕ)} {sessions : Sessions} {commit_proxies : List CommitProxy}
      {acknowledged : List Placed}
      → EachOpen (IsReplied m) sessions → AllByRecursion (CommitProxyIsSound m) commit_proxies
      → AllByRecursion (IsSerializedIn m) acknowledged → AllByRecursion (IsReported m) acknowledged
      → let after = record m {
        decided = decided;
        resolvers = resolvers;
        logs = logs;
        shards = shards;
        grv_proxies = grv_proxies;
        sessions = sessions;
        commit_proxies = commit_proxies;
        acknowledged = acknowledged;
      } in
      ((id : TxnId) → IsOnce id after) → Invariant after
  same_book opened commit_proxies acknowledged reported once = record {
    entries = sound.entries;
    pending = sound.pending;
    committed = sound.committed;
    opened = opened;
    commit_proxies = commit_proxies;
    acknowledged = acknowledged;
    reported = reported;
    once = once;
    horizons = sound.horizons;
    window = sound.window;
  }

  -- what is found in its lists is sound
  opened-at : (session : ℕ) (transcript : Transcript) → open_at m.sessions session ≡ Some transcript
      → IsReplied m transcript
  opened-at session transcript = open-has (IsReplied m) m.sessions session transcript sound.opened

  commit_proxy-at : (proxy : ℕ) (commit_proxy : CommitProxy) → slice_get m.commit_proxies proxy ≡ Some commit_proxy
      → CommitProxyIsSound m commit_proxy
  commit_proxy-at proxy commit_proxy = all-at (CommitProxyIsSound m) m.commit_proxies proxy commit_proxy
      sound.commit_proxies

  -- with one commit proxy in the place of another
  with-commit_proxy : (proxy : ℕ) (commit_proxy : CommitProxy) → CommitProxyIsSound m commit_proxy
      → AllByRecursion (CommitProxyIsSound m) (slice_set m.commit_proxies proxy commit_proxy)
  with-commit_proxy proxy commit_proxy = all-set (CommitProxyIsSound m) m.commit_proxies proxy commit_proxy
      sound.commit_proxies

-- the entry of a batch in flight
in_flight-at : (m : Machine) (commit_proxy : CommitProxy) (entry : Entry) → CommitProxyIsSound m commit_proxy
    → is_idle commit_proxy.stage ≡ false
    → slice_get m.book commit_proxy.entry ≡ Some entry
    → (entry.batch ≡ map commit_request_of commit_proxy.in_flight)
    × (is_reported commit_proxy.stage ≡ true → entry.version ≤ m.committed)
in_flight-at m commit_proxy entry sound busy there =
    let flies = sound.2 busy in
    let same : flies.0 ≡ entry = cc (there, flies.1) in (
      ap (λ (e : Entry). e.batch) (sym same)
          ∙ flies.2,
      λ reported. subst (λ (e : Entry). e.version ≤ m.committed) same (flies.3 reported),
    )

-- the batch of a new entry is that of those who waited first at an idle proxy
sound-sealed : (m : Machine) (proxy advance : ℕ) (commit_proxy : CommitProxy) → Invariant m
    → slice_get m.commit_proxies proxy ≡ Some commit_proxy
    → ((id : TxnId) → IsOnce id (sealed_machine m proxy advance commit_proxy))
    → Invariant (sealed_machine m proxy advance commit_proxy)
sound-sealed m proxy advance commit_proxy sound at once = record {
  entries = entries_go_on (suc (length m.config.resolver_splits)) 0 m.book entry sound.entries (
    above,
    (refl, below),
    sound.pending,
    sealed-batch m entry.version (take place_limit commit_proxy.waiting) (omega (arith, above, sound.committed))
        (all-take (IsReplied m) place_limit commit_proxy.waiting (commit_proxy-at m sound proxy commit_proxy at).0),
    tt,
  );
  pending = tt;
  committed = let last = last-push m.book entry in omega (arith, above, sound.committed, last);
  opened = open-weaken (IsReplied m) (IsReplied after) told m.sessions sound.opened;
  commit_proxies = all-set (CommitProxyIsSound after) m.commit_proxies proxy (sealed_proxy m commit_proxy)
      (all-weaken (CommitProxyIsSound m) (CommitProxyIsSound after) kept m.commit_proxies sound.commit_proxies) (
        all-drop (IsReplied after) place_limit commit_proxy.waiting now.0,
        all-take (IsReplied after) place_limit commit_proxy.waiting now.0,
        λ _. (entry, last-at m.book entry, refl, λ reported. cc),
      );
  acknowledged = all-both (IsSerializedIn m) (IsReported m) (IsSerializedIn after)
      (λ placed stands reported. spot-stays m entry placed.transcript placed.spot above
      (le_trans reported.0 sound.committed) stands) m.acknowledged sound.acknowledged sound.reported;
  reported = sound.reported;
  once = once;
  horizons = (horizons_part 0 m.book (entry ∷ [])).1 (sound.horizons, (rises, tt));
  window = sound.window;
}
  where
    entry : Entry
    entry = sealed_entry m advance commit_proxy

    after : Machine
    after = sealed_machine m proxy advance commit_proxy

    above : last_version m.book < entry.version
    above = omega arith

    rises : last_horizon m.book ≤ entry.horizon
    rises = omega arith

    below : entry.horizon < entry.version
    below = omega (
      arith,
      above,
      sound.window,
      horizon-within (suc (length m.config.resolver_splits)) 0 0 m.book (le_refl 0) sound.entries,
    )

    told : (transcript : Transcript) → IsReplied m transcript → IsReplied after transcript
    told transcript = told-entry m entry transcript (omega (arith, above, sound.committed))

    kept : (other : CommitProxy) → CommitProxyIsSound m other → CommitProxyIsSound after other
    kept = commit_proxy-kept m after (le_refl m.committed) told
        (λ i other there. found-front m.book (entry ∷ []) i other there)

    now : CommitProxyIsSound after commit_proxy
    now = kept commit_proxy (commit_proxy-at m sound proxy commit_proxy at)

-- a proxy that is done logging reports its batch
sound-reported : (m : Machine) (proxy : ℕ) (commit_proxy : CommitProxy) (entry : Entry) → Invariant m
    → slice_get m.commit_proxies proxy ≡ Some commit_proxy → is_idle commit_proxy.stage ≡ false
    → slice_get m.book commit_proxy.entry ≡ Some entry
    → let after = record m {
      committed = max m.committed entry.version;
      commit_proxies = slice_set m.commit_proxies proxy (record commit_proxy { stage = Reported });
    } in
    ((id : TxnId) → IsOnce id after) → Invariant after
sound-reported m proxy commit_proxy entry sound at busy there once = record {
  entries = sound.entries;
  pending = sound.pending;
  committed = omega (
    arith,
    sound.committed,
    version-within (suc (length m.config.resolver_splits)) 0 m.book commit_proxy.entry entry
        sound.entries there,
  );
  opened = open-weaken (IsReplied m) (IsReplied raised) told m.sessions sound.opened;
  commit_proxies = all-set (CommitProxyIsSound raised) m.commit_proxies proxy (record commit_proxy { stage = Reported })
      (all-weaken (CommitProxyIsSound m) (CommitProxyIsSound raised) kept m.commit_proxies sound.commit_proxies)
      (now.0, now.1, λ _. (entry, there, (in_flight-at m commit_proxy entry was busy there).0, λ _. omega arith));
  acknowledged = sound.acknowledged;
  reported = all-weaken (IsReported m) (IsReported raised) (λ placed is. (le_trans is.0 up, is.1)) m.acknowledged
      sound.reported;
  once = once;
  horizons = sound.horizons;
  window = sound.window;
}
  where
    raised : Machine
    raised = record m { committed = max m.committed entry.version }

    up : m.committed ≤ max m.committed entry.version
    up = omega arith

    told : (transcript : Transcript) → IsReplied m transcript → IsReplied raised transcript
    told transcript was = (le_trans was.0 up, was.1)

    kept : (other : CommitProxy) → CommitProxyIsSound m other → CommitProxyIsSound raised other
    kept = commit_proxy-kept m raised up told (λ i entry at. at)

    was : CommitProxyIsSound m commit_proxy
    was = commit_proxy-at m sound proxy commit_proxy at

    now : CommitProxyIsSound raised commit_proxy
    now = kept commit_proxy was

-- every step keeps a machine sound
pub sound_steps : KeptBySteps Invariant
sound_steps = record {
  roles = λ m one_step answer resolvers logs shards quiet grew went sound.
      same_book m sound sound.opened sound.commit_proxies sound.acknowledged sound.reported
      (λ id. (once_steps id).roles m one_step answer resolvers logs shards quiet grew went (sound.once id));
  asked = λ m session proxy there at free sound.
      same_book m sound (open-put (IsReplied m) m.sessions session Asking sound.opened tt) sound.commit_proxies
      sound.acknowledged sound.reported
      (λ id. (once_steps id).asked m session proxy there at free (sound.once id));
  granted = λ m proxy there at left sound.
      same_book m sound
      (open-served (IsReplied m) m.committed (λ id. (le_refl m.committed, refl)) there m.sessions sound.opened)
      sound.commit_proxies sound.acknowledged sound.reported
      (λ id. (once_steps id).granted m proxy there at left (sound.once id));
  operated = λ m one_step session transcript operation does opened allowed sound.
      same_book m sound
      (open-put (IsReplied m) m.sessions session (Open (with_op transcript operation _)) sound.opened
      (told-push m transcript operation _ refl (opened-at m sound session transcript opened)))
      sound.commit_proxies sound.acknowledged sound.reported
      (λ id. (once_steps id).operated m one_step session transcript operation does opened allowed (sound.once id));
  read_only = λ m session proxy transcript opened empty sound.
      let told = opened-at m sound session transcript opened in
      same_book m sound (open-put (IsReplied m) m.sessions session Idle sound.opened tt) sound.commit_proxies
      (all-push (IsSerializedIn m) m.acknowledged _ sound.acknowledged
      (read_only_serialized m transcript told empty))
      (all-push (IsReported m) m.acknowledged _ sound.reported (told.0, le_refl transcript.read_version))
      (λ id. (once_steps id).read_only m session proxy transcript opened empty (sound.once id));
  submitted = λ m session proxy commit_proxy transcript at opened writes sound.
      let was = commit_proxy-at m sound proxy commit_proxy at in
      let waiting = all-push (IsReplied m) commit_proxy.waiting transcript was.0
      (opened-at m sound session transcript opened) in
      same_book m sound (open-put (IsReplied m) m.sessions session Waiting sound.opened tt)
      (with-commit_proxy m sound proxy _ (waiting, was.1, was.2))
      sound.acknowledged sound.reported
      (λ id. (once_steps id).submitted m session proxy commit_proxy transcript at opened writes (sound.once id));
  sealed = λ m proxy advance commit_proxy at idle few room sound. sound-sealed m proxy advance commit_proxy sound at
      (λ id. (once_steps id).sealed m proxy advance commit_proxy at idle few room (sound.once id));
  went_on = λ m one_step answer proxy commit_proxy stage decided verdicts acknowledgements quiet came at busy goes_on
      unreported went sound.
      let was = commit_proxy-at m sound proxy commit_proxy at in
      let flies = was.2 busy in
      same_book m sound sound.opened
      (with-commit_proxy m sound proxy _ (was.0, was.1, λ _. (flies.0, flies.1, flies.2, λ reported. cc)))
      sound.acknowledged sound.reported
      (λ id. (once_steps id).went_on m one_step answer proxy commit_proxy stage decided verdicts acknowledgements quiet
      came at busy goes_on unreported went (sound.once id));
  reported_version = λ m proxy commit_proxy entry at logging there whole sound. sound-reported m proxy commit_proxy
      entry sound at (ap is_idle logging) there
      (λ id. (once_steps id).reported_version m proxy commit_proxy entry at logging there whole (sound.once id));
  moved = λ m range to exists sound. record {
    entries = sound.entries;
    pending = all-push (λ (move : Move). move.to < suc (length m.config.resolver_splits)) m.pending
        (record { range = range; to = to }) sound.pending exists;
    committed = sound.committed;
    opened = sound.opened;
    commit_proxies = sound.commit_proxies;
    acknowledged = sound.acknowledged;
    reported = sound.reported;
    once = λ id. (once_steps id).moved m range to exists (sound.once id);
    horizons = sound.horizons;
    window = sound.window;
  };
  windowed = λ m width within sound. record {
    entries = sound.entries;
    pending = sound.pending;
    committed = sound.committed;
    opened = sound.opened;
    commit_proxies = sound.commit_proxies;
    acknowledged = sound.acknowledged;
    reported = sound.reported;
    once = λ id. (once_steps id).windowed m width within (sound.once id);
    horizons = sound.horizons;
    window = within;
  };
  told = λ m proxy commit_proxy entry at reported there sound.
      let was = commit_proxy-at m sound proxy commit_proxy at in
      let flies = in_flight-at m commit_proxy entry was (ap is_idle reported) there in
      let stand = batch_serialized m commit_proxy entry sound.entries was.1 there flies.0
      (flies.1 (ap is_reported reported)) in
      same_book m sound (open-told (IsReplied m) commit_proxy.in_flight m.sessions sound.opened)
      (with-commit_proxy m sound proxy _ (was.0, tt, λ busy. cc))
      (all-append (IsSerializedIn m) m.acknowledged _ sound.acknowledged
      (all-weaken (Stands m) (IsSerializedIn m) (λ placed stands. stands.0) _ stand))
      (all-append (IsReported m) m.acknowledged _ sound.reported
      (all-weaken (Stands m) (IsReported m) (λ placed stands. stands.1) _ stand))
      (λ id. (once_steps id).told m proxy commit_proxy entry at reported there (sound.once id));
}

-- the machine before its first step is sound
pub sound-start : (config : Config) → Invariant (start config)
sound-start config = record {
  entries = tt;
  pending = tt;
  committed = omega arith;
  opened = open-new (IsReplied (start config));
  commit_proxies = all-replicate (CommitProxyIsSound (start config)) idle_proxy config.proxies (tt, tt, λ never. cc);
  acknowledged = tt;
  reported = tt;
  once = λ id. once-start id config;
  horizons = tt;
  window = (omega arith, le_refl window);
}

-- and so it is after any trace
pub sound-trace : (config : Config) (steps : List Step) (given : List (Result Answered Refusal))
    → Invariant (machine_of_trace config steps given)
sound-trace config steps given = kept-by_trace Invariant sound_steps (start config) steps given (sound-start config)
