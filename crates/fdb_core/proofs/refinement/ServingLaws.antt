-- What the roles keep is what the book says of them.
use Rattle.std.proofs.Common.{◌≡◌, ◌∙◌, sym, ap, refl, subst, arith, ℕ, zero, suc, ◌<◌, ◌≤◌, ◌++◌, Bool, false, List}
use Rattle.std.proofs.Common.{[], ◌∷◌, map, length, slice_get, Some}
use Rattle.std.specs.FinMap.{get}
use Rattle.std.proofs.lemmas.List.{length-map}
use Rattle.std.proofs.lemmas.Option.{same_Some}
use Rattle.fdb_mutations.specs.Maps.{Map}
use Rattle.fdb_resolver.specs.Resolvers.{Resolver}
use Rattle.fdb_sequencer.specs.declared.dated.Dated.{Dated}
use Rattle.fdb_sequencer.specs.Sequencer.{unlearnt_by}
use Rattle.fdb_sequencer.proofs.Exports.{passed_is_stale}
use Rattle.fdb_log.specs.Messages.{log_of}
use Rattle.fdb_log.specs.Logs.{Log}
use Rattle.fdb_storage.specs.Shards.{Shard, value_at}
use Rattle.fdb_roles.specs.Entries.{dated_moves}
use Rattle.fdb_roles.specs.Serving.{ShardServes}
use Rattle.fdb_roles.proofs.Exports.{within-item, dated_moves-append, kept-tag, entries-rising, serial-front}
use Rattle.fdb_machine.specs.machine.Roles.{ShardProgress}
use Rattle.fdb_machine.specs.machine.Machine.{Machine}
use Rattle.fdb_machine.specs.headline.Serving.{EachKeeps, SequencerKeeps, ResolverKeeps, PartsKeep, MessagesKeep}
use Rattle.fdb_machine.specs.headline.Serving.{LogKeeps, ShardReaches, HaveFailed, RolesKeep}
use Rattle.fdb_core.specs.declared.cluster.Cluster.{Cluster}
use Rattle.fdb_core.specs.declared.roles.log.LogRole.{LogRole}
use Rattle.fdb_core.specs.declared.roles.shard.ShardRole.{ShardRole}
use Rattle.fdb_core.specs.refinement.log.Ties.{progress_of}
use Rattle.fdb_core.specs.refinement.Cluster.{machine_of, Refines}
use Rattle.fdb_core.specs.refinement.Restoring.{Tied}
use Rattle.fdb_core.specs.refinement.Systems.{system_of}
use Rattle.fdb_core.specs.declared.roles.resolver.ResolverRole.{ResolverRole}
use Rattle.fdb_core.proofs.refinement.RestoringLemmas.{restored, restores-at, restores-count, restores-like}

-- what is seen of a list is seen of one of its items
seen-at : {A B : Type 0} (f : A → B) (xs : List A) (i : ℕ) (y : B) → slice_get (map f xs) i ≡ Some y
    → (x : A) × (slice_get xs i ≡ Some x) × (f x ≡ y)
seen-at f [] i y there = cc
seen-at f (x ∷ xs) zero y there = let same : f x ≡ y = cc in (x, refl, same)
seen-at f (x ∷ xs) (suc i) y there = seen-at f xs i y there

-- what holds of each item as it is seen in two ways
each-seen : {A B C : Type 0} (f : A → B) (g : A → C) (P : ℕ → B → C → Type 0) (xs : List A)
    → ((i : ℕ) (x : A) → slice_get xs i ≡ Some x → P i (f x) (g x))
    → (i : ℕ) (b : B) (c : C) → slice_get (map f xs) i ≡ Some b → slice_get (map g xs) i ≡ Some c → P i b c
each-seen {A} {B} {C} f g P xs all i b c at also =
    let found = seen-at f xs i b at in
    let other = seen-at g xs i c also in
    let same : other.0 ≡ found.0 = same_Some other.0 found.0 (sym other.1 ∙ found.1) in
    subst (λ (y : B). P i y c) found.2
    (subst (λ (z : C). P i (f found.0) z) (ap g (sym same) ∙ other.2) (all i found.0 found.1))

-- each role of the world keeps what the book says of it, unless it has failed
pub roles_keep : (k : Cluster) → Tied k → RolesKeep (system_of k)
roles_keep k tied = (have_failed, sequencer, resolvers, parts, messages, logs, reaches, (count, serves))
  where
    m : Machine
    m = machine_of k

    before : Refines (restored k tied)
    before = tied.refines

    -- the lists of cores flag what the lists of roles do
    flags-of : {A B : Type 0} (state : A → B) (failed : B → Bool) (xs : List A)
        → map (λ (x : A). failed (state x)) xs ≡ map failed (map state xs)
    flags-of state failed [] = refl
    flags-of state failed (x ∷ xs) = ap (λ rest. failed (state x) ∷ rest) (flags-of state failed xs)

    have_failed : HaveFailed (system_of k)
    have_failed = record {
      resolvers = flags-of (λ (role : ResolverRole). role.state) (λ (state : Resolver). state.is_failed)
          k.resolvers.items;
      logs = flags-of (λ (role : LogRole). role.state) (λ (state : Log). state.is_failed) k.logs.items;
      shards = flags-of (λ (role : ShardRole). role.state) (λ (state : Shard). state.is_failed) k.shards.items;
    }

    sequencer : SequencerKeeps m k.sequencer
    sequencer =
        let ok = before.sequencer in (
          ok.accepted,
          ok.last,
          λ ticket below. passed_is_stale k.sequencer ticket (omega (arith, ok.accepted, below)),
          refl,
          ok.committed,
          refl,
          unlearnt,
          refl,
          ok.horizon,
        )
      where
        unlearnt : (proxy : ℕ) → proxy < k.config.proxies
            → (learnt : List Dated) × (learnt ++ unlearnt_by k.sequencer proxy ≡ dated_moves k.book.items)
        unlearnt proxy within =
            let found = within-item tied.roles.commit_proxies.items proxy
            (omega (arith, within, before.commit_proxies.count)) in
            let its = before.commit_proxies.each proxy found.0 found.1 in (
              dated_moves its.front,
              ap (λ (moves : List Dated). dated_moves its.front ++ moves) its.unlearnt
                  ∙ sym (dated_moves-append its.front its.behind) ∙ ap dated_moves its.whole,
            )

    resolvers : EachKeeps (ResolverKeeps m) m.resolvers (map (λ (role : ResolverRole). role.state) k.resolvers.items)
    resolvers = (
      length-map k.resolvers.items (λ (role : ResolverRole). role.state)
          ∙ sym (length-map k.resolvers.items (λ (role : ResolverRole). role.taken)),
      each-seen (λ (role : ResolverRole). role.taken) (λ (role : ResolverRole). role.state) (ResolverKeeps m)
          k.resolvers.items
          (λ i role there works.
          let state = (before.resolvers.each i role (restores-at _ _ k.resolvers.items tied.roles.resolvers.items
          tied.resolvers i role there works)).state in
          (state.index, state.last, state.state)),
    )

    parts : PartsKeep m k.parts.items
    parts = (before.parts.count, before.parts.each)

    messages : MessagesKeep m k.messages.items
    messages = (before.book.each_pooled, λ i entry there. before.book.made i entry there)

    logs : EachKeeps (LogKeeps m) m.logs (map (λ (role : LogRole). role.state) k.logs.items)
    logs = (
      length-map k.logs.items (λ (role : LogRole). role.state)
          ∙ sym (length-map k.logs.items (λ (role : LogRole). role.taken)),
      each-seen (λ (role : LogRole). role.taken) (λ (role : LogRole). role.state) (LogKeeps m) k.logs.items keeps-log,
    )
      where
        log-count : length k.logs.items ≡ length tied.roles.logs.items
        log-count = restores-count _ _ k.logs.items tied.roles.logs.items tied.logs

        shard-count : length k.shards.items ≡ length tied.roles.shards.items
        shard-count = restores-count _ _ k.shards.items tied.roles.shards.items tied.shards

        keeps-log : (i : ℕ) (role : LogRole) → slice_get k.logs.items i ≡ Some role → LogKeeps m i role.taken role.state
        keeps-log i role there works =
            let at = restores-at _ _ k.logs.items tied.roles.logs.items tied.logs i role there works in
            let its = before.logs.each_log i role at in
            record {
              number = its.number;
              logs = its.logs ∙ sym before.logs.log_count ∙ sym log-count
                  ∙ sym (length-map k.logs.items (λ (one : LogRole). one.taken));
              tags = its.tags ∙ sym before.logs.shard_count ∙ sym shard-count
                  ∙ sym (length-map k.shards.items progress_of);
              last = its.last;
              popped = λ tag progress keeps_it told.
                  let found = seen-at progress_of k.shards.items tag progress told in
                  let was = restores-like _ _ (λ x. (refl, refl, refl)) k.shards.items tied.roles.shards.items
                  tied.shards tag found.0 found.1 in
                  let own = kept-tag role.state tag keeps_it in
                  let number : log_of (length tied.roles.logs.items) tag ≡ i =
                  ap (λ (n : ℕ). log_of n tag) (before.logs.log_count ∙ sym its.logs) ∙ own.1 ∙ its.number in
                  (before.logs.each_tag tag was.0 was.1 role
                  (ap (slice_get tied.roles.logs.items) number ∙ at)).1
                  ∙ ap (λ (it : ShardProgress). it.popped) (sym was.2.0)
                  ∙ ap (λ (it : ShardProgress). it.popped) found.2;
              kept = its.kept;
            }

    reaches : EachKeeps (ShardReaches m) m.shards (map (λ (role : ShardRole). role.state) k.shards.items)
    reaches = (
      length-map k.shards.items (λ (role : ShardRole). role.state) ∙ sym (length-map k.shards.items progress_of),
      each-seen progress_of (λ (role : ShardRole). role.state) (ShardReaches m) k.shards.items
          (λ i role there works.
          let its = before.logs.each_shard i role (restores-at _ _ k.shards.items tied.roles.shards.items tied.shards i
          role there works) in
          record {
            tag = its.tag;
            range = its.range;
            floor = refl;
            version = its.version;
            popped = its.popped;
          }),
    )

    count : length (map (λ (role : ShardRole). role.state) k.shards.items) ≡ suc (length k.config.shard_splits)
    count = length-map k.shards.items (λ (role : ShardRole). role.state)
        ∙ restores-count _ _ k.shards.items tied.roles.shards.items tied.shards ∙ before.logs.shard_count

    serves : (i : ℕ) (shard : Shard) → slice_get (map (λ (role : ShardRole). role.state) k.shards.items) i ≡ Some shard
        → ShardServes m.config m.book i shard
    serves i shard there works v x from until inside =
        let found = seen-at (λ (role : ShardRole). role.state) k.shards.items i shard there in
        let role = found.0 in
        let working : role.state.is_failed ≡ false = ap (λ (it : Shard). it.is_failed) found.2 ∙ works in
        let its = before.logs.each_shard i role (restores-at _ _ k.shards.items tied.roles.shards.items tied.shards i
        role found.1 working) in
        let from_there : role.state.floor ≤ v = subst (λ (it : Shard). it.floor ≤ v) (sym found.2) from in
        let until_there : v ≤ role.state.version = subst (λ (it : Shard). v ≤ it.version) (sym found.2) until in
        ap (λ (it : Shard). value_at it v x) (sym found.2)
        ∙ its.serves v x from_there until_there inside
        ∙ ap (λ (map : Map). get map x)
        (sym (serial-front k.config.resolver_splits k.book.items
        (entries-rising (suc (length k.config.resolver_splits)) k.book.items before.book.entries) role.applied v
        (subst (λ (version : ℕ). v ≤ version) its.version until_there)))
