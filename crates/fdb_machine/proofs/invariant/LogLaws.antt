-- Every log has taken each entry with an acknowledged place.
use Rattle.std.proofs.Common.{◌≡◌, sym, ap, subst, ⊎_elim, ℕ, Bool, true, List, [], ◌∷◌, Some}
use Rattle.std.specs.List.{AllByRecursion, slice_get}
use Rattle.std.proofs.lemmas.Bool.{both_ways}
use Rattle.fdb_keys.proofs.Exports.{all-append, all-weaken}
use Rattle.fdb_txn.specs.declared.spot.Spot.{Spot}
use Rattle.fdb_txn.specs.declared.spot.Spot.TheVariants as spot
use Rattle.fdb_proxy.specs.declared.config.Config.{Config}
use Rattle.fdb_proxy.specs.declared.outcome.Outcome.{Outcome}
use Rattle.fdb_proxy.specs.declared.outcome.Outcome.TheVariants as outcome
use Rattle.fdb_client.specs.declared.program.Transcript.{Transcript}
use Rattle.fdb_roles.specs.declared.placed.Placed.{Placed}
use Rattle.fdb_roles.proofs.Exports.{all-at, all-push, all-replicate, all-set}
use Rattle.fdb_machine.specs.headline.Promises.{IsTakenByAll, AcknowledgedAreLogged}
use Rattle.fdb_machine.specs.machine.CommitProxySteps.{is_logging, is_reported, placed_from}
use Rattle.fdb_machine.specs.machine.Machine.{Machine}
use Rattle.fdb_machine.specs.machine.Roles.{CommitProxy, Stage}
use Rattle.fdb_machine.specs.machine.Sessions.{Sessions}
use Rattle.fdb_machine.specs.machine.Worlds.{start, idle_proxy}
use Rattle.fdb_machine.proofs.headline.TraceLaws.{traces_tell}
use Rattle.fdb_machine.proofs.machine.LogLemmas.{AcknowledgementCame, Grew, FlagsTell, Took, flags-all, flags-grew}
use Rattle.fdb_machine.proofs.machine.LogLemmas.{flags-none, flags-set, took-grew}
use Rattle.fdb_machine.proofs.machine.Sealing.{sealed_proxy}
use Rattle.fdb_machine.proofs.machine.Steps.{KeptBySteps, kept-by_trace}

-- a proxy whose batch is decided has set the flags of logs that took its entry, and once it reported all took it
abbrev ProxyTold : List ℕ → CommitProxy → Type 0
ProxyTold logs commit_proxy =
    (is_logging commit_proxy.stage ≡ true
    → FlagsTell commit_proxy.entry commit_proxy.acknowledgements_received logs)
    × (is_reported commit_proxy.stage ≡ true → Took commit_proxy.entry logs)

abbrev PlacedTaken : List ℕ → Placed → Type 0
PlacedTaken logs placed = IsTakenByAll logs placed.spot

record AreLogged (m : Machine) : Type 0 where
  commit_proxies : AllByRecursion (ProxyTold m.logs) m.commit_proxies
  acknowledged : AllByRecursion (PlacedTaken m.logs) m.acknowledged

-- those of an entry that every log took are taken by all
taken-placed : (logs : List ℕ) (entry : ℕ) (transcripts : List Transcript) (outcomes : List Outcome) → Took entry logs
    → AllByRecursion (PlacedTaken logs) (placed_from entry transcripts outcomes)
taken-placed logs entry [] outcomes took = tt
taken-placed logs entry (transcript ∷ transcripts) [] took = tt
taken-placed logs entry (transcript ∷ transcripts) (outcome.Commit version place ∷ outcomes) took =
    (took, taken-placed logs entry transcripts outcomes took)
taken-placed logs entry (transcript ∷ transcripts) (outcome.Conflict ∷ outcomes) took =
    taken-placed logs entry transcripts outcomes took
taken-placed logs entry (transcript ∷ transcripts) (outcome.Old ∷ outcomes) took =
    taken-placed logs entry transcripts outcomes took

spot-grew : (olds news : List ℕ) → Grew olds news → (placed : Placed) → PlacedTaken olds placed
    → PlacedTaken news placed
spot-grew olds news grew placed = by_spot placed.spot
  where
    by_spot : (at : Spot) → IsTakenByAll olds at → IsTakenByAll news at
    by_spot (spot.Entry index place version) took = took-grew index olds news grew took
    by_spot (spot.ReadOnly version) took = took

-- what a step changes that leaves the logs, the proxies and who is acknowledged
same : {m : Machine} {sessions : Sessions} {grv_proxies : List (List ℕ)} → AreLogged m
    → AreLogged (record m { sessions = sessions; grv_proxies = grv_proxies })
same logged = record { commit_proxies = logged.commit_proxies; acknowledged = logged.acknowledged }

proxy-at : (m : Machine) → AreLogged m → (proxy : ℕ) (commit_proxy : CommitProxy)
    → slice_get m.commit_proxies proxy ≡ Some commit_proxy → ProxyTold m.logs commit_proxy
proxy-at m logged proxy commit_proxy at = all-at (ProxyTold m.logs) m.commit_proxies proxy commit_proxy
    logged.commit_proxies at

-- where a proxy logs its batch, or goes on to that, the flags are set of logs that took its entry
told-more : (logs : List ℕ) (commit_proxy : CommitProxy) (stage : Stage) (received : List Bool)
    → AcknowledgementCame logs commit_proxy stage received → ProxyTold logs commit_proxy → is_logging stage ≡ true
    → FlagsTell commit_proxy.entry received logs
told-more logs commit_proxy stage received came told logging = ⊎_elim
    (λ undecided. absurd (both_ways (is_logging stage) undecided logging))
    (⊎_elim
    (λ none. subst (λ (flags : List Bool). FlagsTell entry flags logs) (sym none) (flags-none entry logs))
    (λ one. subst (λ (flags : List Bool). FlagsTell entry flags logs) (sym one.5)
    (flags-set entry commit_proxy.acknowledgements_received logs one.1 one.2 one.3 one.4 (told.0 one.0))))
    came
  where
    entry : ℕ
    entry = commit_proxy.entry

logged_steps : KeptBySteps AreLogged
logged_steps = record {
  roles = λ m taken answer resolvers logs shards quiet grew went logged. record {
    commit_proxies = all-weaken (ProxyTold m.logs) (ProxyTold logs)
        (λ commit_proxy told. (
          (λ logging. flags-grew commit_proxy.entry commit_proxy.acknowledgements_received m.logs logs grew
              (told.0 logging)),
          (λ reported. took-grew commit_proxy.entry m.logs logs grew (told.1 reported)),
        )) m.commit_proxies logged.commit_proxies;
    acknowledged = all-weaken (PlacedTaken m.logs) (PlacedTaken logs) (λ placed. spot-grew m.logs logs grew placed)
        m.acknowledged logged.acknowledged;
  };
  asked = λ m session proxy there at free logged. same logged;
  granted = λ m proxy there at left logged. same logged;
  operated = λ m taken session transcript operation does opened allowed logged. same logged;
  read_only = λ m session proxy transcript opened empty logged. record {
    commit_proxies = logged.commit_proxies;
    acknowledged = all-push (PlacedTaken m.logs) m.acknowledged _ logged.acknowledged tt;
  };
  submitted = λ m session proxy commit_proxy transcript at opened writes logged. record {
    commit_proxies = all-set (ProxyTold m.logs) m.commit_proxies proxy _ logged.commit_proxies
        (proxy-at m logged proxy commit_proxy at);
    acknowledged = logged.acknowledged;
  };
  sealed = λ m proxy advance commit_proxy at idle few room logged. record {
    commit_proxies = all-set (ProxyTold m.logs) m.commit_proxies proxy (sealed_proxy m commit_proxy)
        logged.commit_proxies ((λ logging. cc), (λ reported. cc));
    acknowledged = logged.acknowledged;
  };
  went_on = λ m taken answer proxy commit_proxy stage decided verdicts acknowledgements quiet came at busy goes_on
      unreported went logged. record {
        commit_proxies = all-set (ProxyTold m.logs) m.commit_proxies proxy _ logged.commit_proxies (
          told-more m.logs commit_proxy stage acknowledgements came (proxy-at m logged proxy commit_proxy at),
          (λ reported. absurd (both_ways (is_reported stage) unreported reported)),
        );
        acknowledged = logged.acknowledged;
      };
  reported_version = λ m proxy commit_proxy entry at logging there whole logged.
      let flags = (proxy-at m logged proxy commit_proxy at).0 (ap is_logging logging) in
      record {
        commit_proxies = all-set (ProxyTold m.logs) m.commit_proxies proxy _ logged.commit_proxies (
          (λ still. cc),
          (λ reported. flags-all 0 commit_proxy.entry commit_proxy.acknowledgements_received m.logs whole flags),
        );
        acknowledged = logged.acknowledged;
      };
  moved = λ m range to exists logged. record
      { commit_proxies = logged.commit_proxies; acknowledged = logged.acknowledged };
  windowed = λ m width within logged. record
      { commit_proxies = logged.commit_proxies; acknowledged = logged.acknowledged };
  told = λ m proxy commit_proxy entry at reported there logged. record {
    commit_proxies = all-set (ProxyTold m.logs) m.commit_proxies proxy _ logged.commit_proxies
        ((λ logging. cc), (λ still. cc));
    acknowledged = all-append (PlacedTaken m.logs) m.acknowledged _ logged.acknowledged
        (taken-placed m.logs commit_proxy.entry commit_proxy.in_flight _
        ((proxy-at m logged proxy commit_proxy at).1 (ap is_reported reported)));
  };
}

logged-start : (config : Config) → AreLogged (start config)
logged-start config = record {
  commit_proxies = all-replicate (ProxyTold (start config).logs) idle_proxy config.proxies
      ((λ logging. cc), (λ reported. cc));
  acknowledged = tt;
}

pub acknowledged_are_logged : AcknowledgedAreLogged
acknowledged_are_logged config steps answers world stands =
    subst (λ (machine : Machine). AllByRecursion (λ (placed : Placed). IsTakenByAll machine.logs placed.spot)
    machine.acknowledged) (sym (traces_tell config steps answers world stands))
    (kept-by_trace AreLogged logged_steps (start config) steps answers (logged-start config)).acknowledged
