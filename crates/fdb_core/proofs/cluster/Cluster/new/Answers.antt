use Rattle.std.proofs.Common.{◌∙◌, refl, ap, suc, false, length, map, arith, rules, []}
use Rattle.fdb_sequencer.specs.Sequencer.{Sequencer}
use Rattle.fdb_core.specs.refinement.Cluster.{BookRefines, ConflictsRefine, sessions_of}
use Rattle.fdb_core.specs.refinement.commit_proxy.Ties.{ReadsWithin}
use Rattle.fdb_core.specs.refinement.resolver.Resolving.{PartsRefine}
use Rattle.fdb_core.specs.refinement.Restoring.{proxy_failed, resolver_failed, log_failed, shard_failed}
use Rattle.fdb_machine.proofs.Exports.{open-new}
use Rattle.fdb_core.proofs.refinement.RestoringLemmas.{all-tied}
use Rattle.fdb_core.proofs.refinement.StartLemmas.{sequencer-start, logs-start, taken-start, progress-start}
use Rattle.fdb_core.proofs.refinement.StartLemmas.{commit_proxies-start, seen-start, resolvers-start, taken_by-start}
use Rattle.fdb_core.proofs.refinement.StartLemmas.{all-same, asked-start, grv_proxies-start}
use Rattle.fdb_roles.proofs.Exports.{legal-from}
use Rattle.fdb_core.proofs.cluster.Cluster.new.Goals as goal

pub returns-clause-state : goal.returns-clause-state
returns-clause-state c =
    let config = c.args.config in
    let proxies = c.in_ok-commit_proxies.ensures in
    let logs = c.in_ok-logs.ensures in
    let judges = c.in_ok-sequencer.ensures in
    let each_log = logs-start config c.in_ok-logs.logs.items c.in_ok-logs.shards.items logs.0 logs.1 in
    λ i. record {
      machine = record {
        config = config;
        book = c.new.ensures.items i;
        entry_proxies = c.new-2.ensures.items i;
        decided = c.new-3.ensures.items i;
        pending = ap (λ (it : Sequencer). it.pending) judges.0 i;
        window = ap (λ (it : Sequencer). it.window) judges.0 i;
        commit_proxies = seen-start config c.in_ok-commit_proxies.commit_proxies.items proxies.0 proxies.1 i;
        resolvers = taken_by-start config.resolver_splits c.in_ok-sequencer.resolvers.items judges.1
            judges.2 i;
        logs = taken-start config c.in_ok-logs.logs.items c.in_ok-logs.shards.items logs.0 logs.1 i;
        shards = progress-start config c.in_ok-logs.logs.items c.in_ok-logs.shards.items logs.0 logs.1 i;
        grv_proxies = (ap (map sessions_of) proxies.2 ∙ asked-start config.proxies) i;
        sessions = c.new-7.ensures i;
        committed = ap (λ (it : Sequencer). it.committed) judges.0 i;
        acknowledged = c.new-8.ensures.items i;
      };
      failed = record {
        commit_proxies = all-same proxy_failed false config.proxies c.in_ok-commit_proxies.commit_proxies.items
            proxies.0 (λ n role at. (proxies.1 n role at).refines.state.works) i;
        resolvers = all-same resolver_failed false (suc (length config.resolver_splits))
            c.in_ok-sequencer.resolvers.items judges.1
            (λ n role at. ((judges.2 n role at).0 config.resolver_splits).state.works) i;
        logs = all-same log_failed false config.logs c.in_ok-logs.logs.items each_log.log_count
            (λ n role at. (each_log.each_log n role at).works) i;
        shards = all-same shard_failed false (suc (length config.shard_splits)) c.in_ok-logs.shards.items
            each_log.shard_count (λ n role at. (each_log.each_shard n role at).works) i;
      };
    }

pub returns-clause-tied : goal.returns-clause-tied
returns-clause-tied c =
    let config = c.args.config in
    let proxies = c.in_ok-commit_proxies.ensures in
    let logs = c.in_ok-logs.ensures in
    let judges = c.in_ok-sequencer.ensures in
    let book : BookRefines config [] [] [] [] = search rules in
    let parts : PartsRefine config.resolver_splits [] [] = search rules in
    let conflicts : ConflictsRefine config.resolver_splits [] [] [] = search rules in
    all-tied _ (record {
      legal = legal-from config c.requires.served;
      room = rw c.new.ensures.items (omega arith);
      sequencer = rw (c.new.ensures.items, judges.0)
          (sequencer-start config _ _ refl refl);
      book = rw (c.new.ensures.items, c.new-2.ensures.items, c.new-3.ensures.items, c.new-5.ensures.items) book;
      parts = rw (c.new.ensures.items, c.new-4.ensures.items) parts;
      resolvers = rw c.new.ensures.items
          (resolvers-start config.resolver_splits c.in_ok-sequencer.resolvers.items judges.1
          judges.2);
      logs = rw c.new.ensures.items
          (logs-start config c.in_ok-logs.logs.items c.in_ok-logs.shards.items logs.0 logs.1);
      shard_map = c.requires.shard_map;
      commit_proxies = rw (c.new.ensures.items, judges.0)
          (commit_proxies-start config c.in_ok-commit_proxies.commit_proxies.items proxies.0 proxies.1
          config.proxies (suc (length config.resolver_splits)));
      grv_proxies = grv_proxies-start config c.in_ok-commit_proxies.grv_proxies.items proxies.2;
      opened = rw c.new-7.ensures (open-new (ReadsWithin _));
      conflicts = rw (c.new.ensures.items, c.new-3.ensures.items, c.new-6.ensures.items) conflicts;
    })
