-- Roles that have failed, beside what they were before.
use Rattle.std.proofs.Common.{◌≡◌, ◌∙◌, refl, sym, ap, ap₂, subst, ℕ, zero, suc, Bool, true, false, List, [], ◌∷◌, map}
use Rattle.std.proofs.Common.{length, Some, inl, inr, ⊎_elim}
use Rattle.std.specs.Global.{Vec}
use Rattle.std.specs.Prelude.{slice_get, slice_set}
use Rattle.fdb_core.specs.declared.cluster.Cluster.{Cluster}
use Rattle.fdb_core.specs.declared.roles.commit_proxy.CommitProxyRole.{CommitProxyRole}
use Rattle.fdb_core.specs.declared.roles.log.LogRole.{LogRole}
use Rattle.fdb_core.specs.declared.roles.resolver.ResolverRole.{ResolverRole}
use Rattle.fdb_core.specs.declared.roles.shard.ShardRole.{ShardRole}
use Rattle.fdb_machine.specs.machine.Machine.{is_set}
use Rattle.fdb_core.specs.refinement.Cluster.{machine_of, Refines}
use Rattle.fdb_core.specs.refinement.Restoring.{Restores, Tied, with_roles, proxy_failed, resolver_failed}
use Rattle.fdb_core.specs.refinement.Restoring.{log_failed, shard_failed, SameProxy, SameResolver, SameLog, SameShard}
use Rattle.fdb_core.specs.refinement.commit_proxy.Ties.{seen_as}
use Rattle.fdb_core.specs.refinement.log.Ties.{progress_of, logs_taken}
use Rattle.fdb_core.specs.refinement.resolver.Resolving.{taken_by}

module _ {A : Type 0} (failed : A → Bool) (Same : A → A → Type 0) where
  -- roles of which each works, or stays as it is, are what they were
  pub restores-all : (xs : List A) → Restores failed Same xs xs
  restores-all [] = tt
  restores-all (x ∷ xs) = (inl refl, restores-all xs)

  -- there are as many
  pub restores-count : (xs ys : List A) → Restores failed Same xs ys → length xs ≡ length ys
  restores-count [] [] all = refl
  restores-count [] (y ∷ ys) all = absurd all
  restores-count (x ∷ xs) [] all = absurd all
  restores-count (x ∷ xs) (y ∷ ys) all = ap suc (restores-count xs ys all.1)

  -- a role that works is what it was
  pub restores-at : (xs ys : List A) → Restores failed Same xs ys → (i : ℕ) (x : A) → slice_get xs i ≡ Some x
      → failed x ≡ false → slice_get ys i ≡ Some x
  restores-at [] [] all i x there works = there
  restores-at [] (y ∷ ys) all i x there works = absurd all
  restores-at (x ∷ xs) [] all i z there works = absurd all
  restores-at (x ∷ xs) (y ∷ ys) all zero z there works =
      let same : x ≡ z = cc in
      ⊎_elim (λ kept. ap (λ it. Some it) (sym kept ∙ same))
      (λ failing. let both : true ≡ false = sym failing.0 ∙ ap failed same ∙ works in cc) all.0
  restores-at (x ∷ xs) (y ∷ ys) all (suc i) z there works = restores-at xs ys all.1 i z there works

  -- and so is each role as far as the machine and the pool have it
  pub restores-like : ((x : A) → Same x x) → (xs ys : List A) → Restores failed Same xs ys → (i : ℕ) (x : A)
      → slice_get xs i ≡ Some x → (y : A) × (slice_get ys i ≡ Some y) × Same x y
  restores-like alike [] [] all i x there = cc
  restores-like alike [] (y ∷ ys) all i x there = absurd all
  restores-like alike (x ∷ xs) [] all i z there = absurd all
  restores-like alike (x ∷ xs) (y ∷ ys) all zero z there =
      let same : x ≡ z = cc in (
        y,
        refl,
        subst (λ (it : A). Same it y) same
            (⊎_elim (λ kept. subst (Same x) kept (alike x)) (λ failing. failing.1) all.0),
      )
  restores-like alike (x ∷ xs) (y ∷ ys) all (suc i) z there = restores-like alike xs ys all.1 i z there

  -- a role that is put there is put there before, too
  pub restores-set : (xs ys : List A) → Restores failed Same xs ys → (i : ℕ) (z : A)
      → Restores failed Same (slice_set xs i z) (slice_set ys i z)
  restores-set [] [] all zero z = tt
  restores-set [] [] all (suc i) z = tt
  restores-set [] (y ∷ ys) all i z = absurd all
  restores-set (x ∷ xs) [] all i z = absurd all
  restores-set (x ∷ xs) (y ∷ ys) all zero z = (inl refl, all.1)
  restores-set (x ∷ xs) (y ∷ ys) all (suc i) z = (all.0, restores-set xs ys all.1 i z)

  -- a role that fails is restored as what it was
  pub restores-failed : (xs ys : List A) → Restores failed Same xs ys → (i : ℕ) (x z : A) → slice_get xs i ≡ Some x
      → failed x ≡ false → failed z ≡ true → Same z x → Restores failed Same (slice_set xs i z) ys
  restores-failed [] [] all i x z there works fails same = cc
  restores-failed [] (y ∷ ys) all i x z there works fails same = absurd all
  restores-failed (w ∷ xs) [] all i x z there works fails same = absurd all
  restores-failed (w ∷ xs) (y ∷ ys) all zero x z there works fails same =
      let is : w ≡ x = cc in
      let kept : x ≡ y = ⊎_elim (λ kept. sym is ∙ kept)
      (λ failing. let both : true ≡ false = sym failing.0 ∙ ap failed is ∙ works in cc) all.0 in
      (inr (fails, subst (Same z) kept same), all.1)
  restores-failed (w ∷ xs) (y ∷ ys) all (suc i) x z there works fails same =
      (all.0, restores-failed xs ys all.1 i x z there works fails same)

  -- what the machine or the pool has of each role is had of what it was
  pub restores-seen : {B : Type 0} (seen : A → B) → ((x y : A) → Same x y → seen x ≡ seen y) → (xs ys : List A)
      → Restores failed Same xs ys → map seen xs ≡ map seen ys
  restores-seen seen alike [] [] all = refl
  restores-seen seen alike [] (y ∷ ys) all = absurd all
  restores-seen seen alike (x ∷ xs) [] all = absurd all
  restores-seen seen alike (x ∷ xs) (y ∷ ys) all =
      ap₂ (λ z zs. z ∷ zs) (⊎_elim (λ kept. ap seen kept) (λ failing. alike x y failing.1) all.0)
      (restores-seen seen alike xs ys all.1)

-- a flag that is set stands at a role that has it
pub flag-at : {A : Type 0} (failed : A → Bool) (xs : List A) (i : ℕ) (x : A) → slice_get xs i ≡ Some x
    → is_set (map failed xs) i ≡ failed x
flag-at failed [] i x there = cc
flag-at failed (y ∷ ys) zero x there = let same : y ≡ x = cc in ap failed same
flag-at failed (y ∷ ys) (suc i) x there = flag-at failed ys i x there

-- where a role is put in the place of one that is flagged alike, the flags stay
pub flags-same : {A B : Type 0} (f : A → B) (xs : List A) (i : ℕ) (x z : A) → slice_get xs i ≡ Some x → f z ≡ f x
    → map f (slice_set xs i z) ≡ map f xs
flags-same f [] zero x z there same = refl
flags-same f [] (suc i) x z there same = refl
flags-same f (y ∷ ys) zero x z there same =
    let is : y ≡ x = cc in ap (λ it. it ∷ map f ys) (same ∙ ap f (sym is))
flags-same f (y ∷ ys) (suc i) x z there same = ap (λ rest. f y ∷ rest) (flags-same f ys i x z there same)

module _ (k : Cluster) (tied : Tied k) where
  -- what the cluster was before its roles failed
  abbrev pub restored : Cluster
  restored = with_roles k tied.roles

  -- the machine sees no difference
  pub same-machine : machine_of restored ≡ machine_of k
  same-machine = λ j. record (machine_of k) {
    commit_proxies = sym proxies j;
    resolvers = sym resolvers j;
    logs = sym logs j;
    shards = sym shards j;
  }
    where
      proxies : map seen_as k.commit_proxies.items ≡ map seen_as tied.roles.commit_proxies.items
      proxies = restores-seen _ _ seen_as (λ x y same. same) k.commit_proxies.items tied.roles.commit_proxies.items
          tied.commit_proxies

      resolvers : taken_by k.resolvers.items ≡ taken_by tied.roles.resolvers.items
      resolvers = restores-seen _ _ (λ (role : ResolverRole). role.taken) (λ x y same. same.0) k.resolvers.items
          tied.roles.resolvers.items tied.resolvers

      logs : logs_taken k.logs.items ≡ logs_taken tied.roles.logs.items
      logs = restores-seen _ _ (λ (role : LogRole). role.taken) (λ x y same. same) k.logs.items tied.roles.logs.items
          tied.logs

      shards : map progress_of k.shards.items ≡ map progress_of tied.roles.shards.items
      shards = restores-seen _ _ progress_of (λ x y same. same.0) k.shards.items tied.roles.shards.items tied.shards

-- A cluster that has the same roles is tied, where it is so with the roles as they were before they failed.
pub keeps-roles : (k : Cluster) (tied : Tied k) (new : Cluster) → new.commit_proxies ≡ k.commit_proxies
    → new.resolvers ≡ k.resolvers → new.logs ≡ k.logs → new.shards ≡ k.shards
    → Refines (with_roles new tied.roles) → Tied new
keeps-roles k tied new proxies resolvers logs shards refines = record {
  roles = tied.roles;
  commit_proxies = subst (λ (list : Vec CommitProxyRole).
      Restores proxy_failed SameProxy list.items tied.roles.commit_proxies.items) (sym proxies) tied.commit_proxies;
  resolvers = subst (λ (list : Vec ResolverRole).
      Restores resolver_failed SameResolver list.items tied.roles.resolvers.items) (sym resolvers) tied.resolvers;
  logs = subst (λ (list : Vec LogRole). Restores log_failed SameLog list.items tied.roles.logs.items) (sym logs)
      tied.logs;
  shards = subst (λ (list : Vec ShardRole). Restores shard_failed SameShard list.items tied.roles.shards.items)
      (sym shards) tied.shards;
  refines = refines;
}

-- A cluster of which each role works is tied as it is.
pub all-tied : (k : Cluster) → Refines k → Tied k
all-tied k refines = record {
  roles = record {
    commit_proxies = k.commit_proxies;
    resolvers = k.resolvers;
    logs = k.logs;
    shards = k.shards;
  };
  commit_proxies = restores-all _ _ k.commit_proxies.items;
  resolvers = restores-all _ _ k.resolvers.items;
  logs = restores-all _ _ k.logs.items;
  shards = restores-all _ _ k.shards.items;
  refines = refines;
}
