-- A resolver in which memory ran out, and one that has failed.
use Rattle.std.proofs.Common.{◌≡◌, ◌∙◌, sym, ap, refl, subst, inl, inr, ⊎_elim, ◌≤◌, ℕ, suc, Bool, false}
use Rattle.std.proofs.Common.{List, [], ◌∷◌, map, take, get_or, ◌<◌, arith, Some, length, slice_get, slice_set}
use Rattle.std.specs.Vec.{with_item}
use Rattle.std.proofs.lemmas.List.{length-set}
use Rattle.std.proofs.lemmas.Option.{slice_get_within}
use Rattle.fdb_keys.specs.Points.{Point}
use Rattle.fdb_txn.specs.declared.entry.Entry.{Entry}
use Rattle.fdb_resolver.specs.declared.part.Part.{Part}
use Rattle.fdb_resolver.specs.declared.verdict.Verdicts.{Verdicts}
use Rattle.fdb_interval.specs.Versions.{version_at}
use Rattle.fdb_resolver.specs.declared.part.Item.{Item}
use Rattle.fdb_resolver.specs.declared.verdict.Verdict.{Verdict}
use Rattle.fdb_resolver.specs.Rule.{AreVerdicts, versions_with}
use Rattle.fdb_resolver.specs.Resolvers.{Resolver, HasFailed, IsAnswer}
use Rattle.fdb_core.specs.declared.cluster.Cluster.{Cluster}
use Rattle.fdb_core.specs.declared.roles.resolver.ResolverRole.{ResolverRole}
use Rattle.fdb_machine.specs.declared.step.AnyStep.TheVariants as step
use Rattle.fdb_machine.specs.machine.Machine.{Machine}
use Rattle.fdb_machine.specs.machine.RoleSteps.{resolves}
use Rattle.fdb_core.specs.refinement.Cluster.{machine_of, Refines}
use Rattle.fdb_core.specs.refinement.Restoring.{Tied, failures_of, resolver_failed}
use Rattle.fdb_core.specs.refinement.Steps.{LeftOrFailed}
use Rattle.fdb_core.specs.refinement.resolver.Resolving.{ResolverRefines, HaveBeenSent}
use Rattle.fdb_roles.specs.AtBook.{IsResolverAt}
use Rattle.fdb_core.specs.refinement.resolver.Resolving.{IsLeftBy}
use Rattle.fdb_roles.proofs.Exports.{within-item, each-set, map-set, one-item, read-there, set-here}
use Rattle.fdb_core.proofs.refinement.RestoringLemmas.{restored, restores-at, restores-set, restores-failed, flags-same}
use Rattle.fdb_core.proofs.refinement.RolesLemmas.{roles-refine}
use Rattle.fdb_core.proofs.refinement.resolver.Resolving.{ToResolve}
use Rattle.fdb_core.proofs.refinement.StepLemmas.{NamesWhatIsThere, in-turn}

-- there is a verdict for each item of the part
pub as-many : (part : Part) (old : Resolver) (verdicts : Verdicts) → IsAnswer old part verdicts
    → length verdicts.answers ≡ length part.items
as-many part old verdicts is =
    count part.version part.horizon (version_at old.versions) part.items verdicts.answers is.answers
  where
    count : (version horizon : ℕ) (f : Point → ℕ) (items : List Item) (answers : List (ℕ × Verdict))
        → AreVerdicts version horizon f items answers → length answers ≡ length items
    count version horizon f [] [] all = refl
    count version horizon f [] (answer ∷ answers) all = absurd all
    count version horizon f (item ∷ items) [] all = absurd all
    count version horizon f (item ∷ items) (answer ∷ answers) all =
        ap suc (count version horizon (versions_with version item answer.1 f) items answers all.2)

-- one that took nothing and whose state is as it was is what it was
resolver-same : (splits : List Point) (book : List Entry) (i : ℕ) (role later : ResolverRole)
    → ResolverRefines splits book i role → IsLeftBy role later → later.state ≡ role.state
    → ResolverRefines splits book i later
resolver-same splits book i role later ok left same = record {
  within = subst (λ (n : ℕ). n ≤ length book) (sym left.taken) ok.within;
  state = subst (λ (state : Resolver). IsResolverAt splits (take later.taken book) i state) (sym same)
      (subst (λ (n : ℕ). IsResolverAt splits (take n book) i role.state) (sym left.taken) ok.state);
  count = ap (λ (sent : List Verdicts). length sent) left.sent ∙ ok.count ∙ sym left.taken;
  sent = subst (HaveBeenSent splits book i) (sym left.sent) ok.sent;
}

-- The resolver with the number lacked memory: it is as it was, or has failed.
pub resolver-left : (k : Cluster) (tied : Tied k) (entry r : ℕ) (role later : ResolverRole)
    → slice_get k.resolvers.items r ≡ Some role → resolver_failed role ≡ false → IsLeftBy role later
    → LeftOrFailed k (step.Resolve entry r) (record k { resolvers = with_item k.resolvers r later })
resolver-left k tied entry r role later at works left = ⊎_elim by-state by-failure left.state
  where
    new : Cluster
    new = record k { resolvers = with_item k.resolvers r later }

    machine : machine_of new ≡ machine_of k
    machine = ap (λ (taken : List ℕ). record (machine_of k) { resolvers = taken })
        (flags-same (λ (of : ResolverRole). of.taken) k.resolvers.items r role later at left.taken)

    was : slice_get tied.roles.resolvers.items r ≡ Some role
    was = restores-at _ _ k.resolvers.items tied.roles.resolvers.items tied.resolvers r role at works

    by-state : later.state ≡ role.state → LeftOrFailed k (step.Resolve entry r) new
    by-state same = record {
      machine = machine;
      failed = inl (ap (λ (flags : List Bool). record (failures_of k) { resolvers = flags })
          (flags-same resolver_failed k.resolvers.items r role later at
          (ap (λ (state : Resolver). state.is_failed) same)));
      tied = record {
        roles = record tied.roles { resolvers = with_item tied.roles.resolvers r later };
        commit_proxies = tied.commit_proxies;
        resolvers = restores-set _ _ k.resolvers.items tied.roles.resolvers.items tied.resolvers r later;
        logs = tied.logs;
        shards = tied.shards;
        refines = let before = tied.refines in
            roles-refine (restored k tied) before
            (record tied.roles { resolvers = with_item tied.roles.resolvers r later }) before.commit_proxies (record {
              count = length-set tied.roles.resolvers.items r later ∙ before.resolvers.count;
              each = each-set (ResolverRefines k.config.resolver_splits k.book.items) tied.roles.resolvers.items r later
                  before.resolvers.each
                  (λ _. resolver-same k.config.resolver_splits k.book.items r role later
                  (before.resolvers.each r role was) left same);
            }) before.logs;
      };
    }

    by-failure : HasFailed role.state later.state → LeftOrFailed k (step.Resolve entry r) new
    by-failure failed = record {
      machine = machine;
      failed = inr (ap (λ (flags : List Bool). record (failures_of k) { resolvers = flags })
          (map-set resolver_failed k.resolvers.items r later
          ∙ ap (slice_set (map resolver_failed k.resolvers.items) r) failed.fails));
      tied = record {
        roles = tied.roles;
        commit_proxies = tied.commit_proxies;
        resolvers = restores-failed _ _ k.resolvers.items tied.roles.resolvers.items tied.resolvers r role later at
            works
            failed.fails (left.taken, left.sent);
        logs = tied.logs;
        shards = tied.shards;
        refines = tied.refines;
      };
    }

-- an entry and a resolver that are there
pub resolves-there : (m : Machine) (i r : ℕ) (entry : Entry) (taken : ℕ) → slice_get m.book i ≡ Some entry
    → slice_get m.resolvers r ≡ Some taken → NamesWhatIsThere (resolves m i r)
unfolding resolves
resolves-there m i r entry taken there at = record { refused = rw (there, at) (in-turn taken i entry _) }

-- a resolver that took its part works
pub works-now : (k : Cluster) (r : ℕ) (role later : ResolverRole) → slice_get k.resolvers.items r ≡ Some role
    → Refines (record k { resolvers = with_item k.resolvers r later }) → later.state.is_failed ≡ false
works-now k r role later at refines =
    (refines.resolvers.each r later (set-here k.resolvers.items r later
    (slice_get_within k.resolvers.items r role at))).state.works

-- What is found where a resolver that works is to take its part: with the cluster as it is, and as it was before roles
-- failed.
pub record FoundHere (k : Cluster) (tied : Tied k) (i r : ℕ) (role : ResolverRole) (of : List Part) : Type 0 where
  pub here : slice_get k.resolvers.items r ≡ Some role
  pub works : resolver_failed role ≡ false
  pub found : ToResolve (restored k tied) i r role of

pub find-here : (k : Cluster) (tied : Tied k) (i r : ℕ) (tested read role : ResolverRole) (pool of : List Part)
    → i < length k.book.items → r < length k.resolvers.items
    → tested ≡ get_or k.resolvers.items r tested → read ≡ get_or k.resolvers.items r read
    → role ≡ get_or k.resolvers.items r role → pool ≡ get_or k.parts.items i pool → of ≡ pool
    → tested.state.is_failed ≡ false → read.taken ≡ i → FoundHere k tied i r role of
find-here k tied i r tested read role pool of within exists tests reads is parts copied works due =
    let at = read-there k.resolvers.items r role exists is in
    let entry = within-item k.book.items i within in
    let mine : tested ≡ role = one-item k.resolvers.items r tested role exists tests at in
    let same : read ≡ role = one-item k.resolvers.items r read role exists reads at in
    let working : role.state.is_failed ≡ false =
    ap (λ (it : ResolverRole). it.state.is_failed) (sym mine) ∙ works in
    let count = tied.refines.parts.count in
    record {
      here = at;
      works = working;
      found = record {
        entry = entry.0;
        there = entry.1;
        at = restores-at _ _ k.resolvers.items tied.roles.resolvers.items tied.resolvers r role at working;
        due = ap (λ (it : ResolverRole). it.taken) (sym same) ∙ due;
        its = read-there k.parts.items i pool (omega (arith, within, count)) parts
            ∙ ap (λ (all : List Part). Some all) (sym copied);
      };
    }
