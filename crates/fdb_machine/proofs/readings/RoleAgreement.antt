-- How far the roles are in the machine is what the trace tells.
use Rattle.std.proofs.Common.{◌≡◌, ◌≢◌, ◌∙◌, ◌≤◌, refl, sym, ap, subst, ⊎_elim, ℕ, zero, suc, Bool, true, false, List}
use Rattle.std.proofs.Common.{[], ◌∷◌, ◌++◌, length, take, replicate, Option, Some, None}
use Rattle.std.specs.Prelude.{unwrap_or, ◌==◌}
use Rattle.std.specs.List.{slice_get, slice_set}
use Rattle.std.proofs.lemmas.Bool.Decides.{eqb_tells}
use Rattle.fdb_txn.specs.declared.entry.Entry.{Entry}
use Rattle.fdb_txn.specs.book.Book.{last_version}
use Rattle.fdb_log.specs.Messages.{log_of}
use Rattle.fdb_machine.specs.headline.Readings.{Readings, Progress, with_at, with_came}
use Rattle.fdb_machine.specs.machine.CommitProxySteps.{is_idle}
use Rattle.fdb_machine.specs.machine.Machine.{Machine, is_set}
use Rattle.fdb_machine.specs.machine.Roles.{CommitProxy, Stage, Idle, Resolving, Logging, Reported, ShardProgress}
use Rattle.fdb_machine.proofs.readings.Agreement.{changed-there, changed-elsewhere}
use Rattle.fdb_machine.proofs.readings.SessionLists.{item-after-set}

-- a commit proxy waits for what it is told to wait for, and has of that what came
abbrev pub StageTold : Progress → (resolvers logs proxy : ℕ)
    → Stage → ℕ → (verdicts acknowledgements : List Bool) → Type 0
StageTold p resolvers logs proxy Idle entry verdicts acknowledgements =
    (p.resolving proxy ≡ None) × (p.logging proxy ≡ None)
StageTold p resolvers logs proxy Resolving entry verdicts acknowledgements =
    (p.resolving proxy ≡ Some entry) × (p.logging proxy ≡ None) × (length verdicts ≡ resolvers)
    × ((n : ℕ) → p.verdicts_came entry n ≡ is_set verdicts n) × ((n : ℕ) → p.acknowledgements_came entry n ≡ false)
StageTold p resolvers logs proxy Logging entry verdicts acknowledgements =
    (p.resolving proxy ≡ None) × (p.logging proxy ≡ Some entry) × (length acknowledgements ≡ logs)
    × ((n : ℕ) → p.acknowledgements_came entry n ≡ is_set acknowledgements n)
StageTold p resolvers logs proxy Reported entry verdicts acknowledgements =
    (p.resolving proxy ≡ None) × (p.logging proxy ≡ None)

-- the same of a proxy, whose batch is that of an entry of its own
abbrev pub ProxyTold : Progress → List ℕ → (resolvers logs proxy : ℕ) → CommitProxy → Type 0
ProxyTold p entry_proxies resolvers logs proxy commit_proxy =
    StageTold p resolvers logs proxy commit_proxy.stage commit_proxy.entry commit_proxy.verdicts_received
    commit_proxy.acknowledgements_received
    × (is_idle commit_proxy.stage ≡ false → slice_get entry_proxies commit_proxy.entry ≡ Some proxy)

abbrev pub ProxiesTold : Progress → List ℕ → (resolvers logs : ℕ) → List CommitProxy → Type 0
ProxiesTold p entry_proxies resolvers logs commit_proxies =
    (proxy : ℕ) (commit_proxy : CommitProxy) → slice_get commit_proxies proxy ≡ Some commit_proxy
    → ProxyTold p entry_proxies resolvers logs proxy commit_proxy

-- a proxy that isn't there waits for nothing
abbrev pub OthersWait : Progress → List CommitProxy → Type 0
OthersWait p commit_proxies = (proxy : ℕ) → slice_get commit_proxies proxy ≡ None
    → (p.resolving proxy ≡ None) × (p.logging proxy ≡ None)

-- a shard serves what it is told to serve, of entries that its log has
abbrev pub ShardTold : Progress → List Entry → List ℕ → ℕ → ShardProgress → Type 0
ShardTold p book logs shard progress =
    (p.reached shard ≡ last_version (take progress.applied book)) × (p.floor shard ≡ progress.floor)
    × (progress.applied ≤ length book)
    × ((has : ℕ) → slice_get logs (log_of (length logs) shard) ≡ Some has → progress.applied ≤ has)

abbrev pub ShardsTold : Progress → List Entry → List ℕ → List ShardProgress → Type 0
ShardsTold p book logs shards = (shard : ℕ) (progress : ShardProgress) → slice_get shards shard ≡ Some progress
    → ShardTold p book logs shard progress

pub record RolesTold (p : Progress) (book : List Entry) (entry_proxies : List ℕ) (decided : List Bool)
    (commit_proxies : List CommitProxy) (resolvers logs : List ℕ) (shards : List ShardProgress) : Type 0 where
  pub each_has_proxy : length entry_proxies ≡ length book
  pub each_has_flag : length decided ≡ length book
  pub resolved_told : (resolver : ℕ) → p.resolved resolver ≡ unwrap_or (slice_get resolvers resolver) 0
  pub logged_told : (log : ℕ) → p.logged log ≡ unwrap_or (slice_get logs log) 0
  pub logged_within : (log taken : ℕ) → slice_get logs log ≡ Some taken → taken ≤ length book
  pub decided_told : (entry : ℕ) → p.decided entry ≡ is_set decided entry
  pub proxies_told : ProxiesTold p entry_proxies (length resolvers) (length logs) commit_proxies
  pub others_wait : OthersWait p commit_proxies
  pub nothing_later : (entry n : ℕ) → length book ≤ entry
      → (p.verdicts_came entry n ≡ false) × (p.acknowledgements_came entry n ≡ false)
  pub shards_told : ShardsTold p book logs shards

abbrev pub TellsRoles : Readings → Machine → Type 0
TellsRoles r m =
    RolesTold r.progress m.book m.entry_proxies m.decided m.commit_proxies m.resolvers m.logs m.shards

-- ---- lists by number

-- by number with a default, after an item is set
pub set-told : {A : Type 0} (f : ℕ → A) (d : A) (xs : List A) (i : ℕ) (old x : A) → slice_get xs i ≡ Some old
    → ((j : ℕ) → f j ≡ unwrap_or (slice_get xs j) d) → (j : ℕ)
    → with_at i x f j ≡ unwrap_or (slice_get (slice_set xs i x) j) d
set-told {A = A} f d xs i old x at told j = ⊎_elim
    (λ (here : (j == i ≡ true) × (j ≡ i)).
    subst (λ (k : ℕ). with_at i x f k ≡ unwrap_or (slice_get (slice_set xs i x) k) d) (sym here.1)
    (changed-there i x f ∙ sym (ap (λ (found : Option A). unwrap_or found d) (item-set xs i old x at))))
    (λ (elsewhere : (j == i ≡ false) × (j ≢ i)).
    changed-elsewhere i x f j elsewhere.1 ∙ told j
    ∙ sym (ap (λ (found : Option A). unwrap_or found d) (others-set xs i x j elsewhere.1)))
    (eqb_tells j i)
  where
    item-set : (xs : List A) (i : ℕ) (old x : A) → slice_get xs i ≡ Some old → slice_get (slice_set xs i x) i ≡ Some x
    item-set [] i old x at = cc
    item-set (y ∷ ys) zero old x at = refl
    item-set (y ∷ ys) (suc i) old x at = item-set ys i old x at

    others-set : (xs : List A) (i : ℕ) (x : A) (j : ℕ) → j ≢ i → slice_get (slice_set xs i x) j ≡ slice_get xs j
    others-set [] zero x j differs = refl
    others-set [] (suc i) x j differs = refl
    others-set (y ∷ ys) zero x zero differs = absurd (differs refl)
    others-set (y ∷ ys) zero x (suc j) differs = refl
    others-set (y ∷ ys) (suc i) x zero differs = refl
    others-set (y ∷ ys) (suc i) x (suc j) differs = others-set ys i x j (λ same. differs (ap suc same))

-- and after the default is pushed
pub push-default : {A : Type 0} (d : A) (xs : List A) (j : ℕ)
    → unwrap_or (slice_get (xs ++ d ∷ []) j) d ≡ unwrap_or (slice_get xs j) d
push-default d [] zero = refl
push-default d [] (suc j) = refl
push-default d (x ∷ xs) zero = refl
push-default d (x ∷ xs) (suc j) = push-default d xs j

-- where all items are the default, there is nothing else
pub replicate-default : {A : Type 0} (d : A) (n j : ℕ) → unwrap_or (slice_get (replicate n d) j) d ≡ d
replicate-default d zero j = refl
replicate-default d (suc n) zero = refl
replicate-default d (suc n) (suc j) = replicate-default d n j

-- what isn't there after an item is set wasn't there before
pub none-before : {A : Type 0} (xs : List A) (i : ℕ) (x : A) (j : ℕ) → slice_get (slice_set xs i x) j ≡ None
    → slice_get xs j ≡ None
none-before [] zero x j none = none
none-before [] (suc i) x j none = none
none-before (y ∷ ys) zero x zero none = cc
none-before (y ∷ ys) zero x (suc j) none = none
none-before (y ∷ ys) (suc i) x zero none = none
none-before (y ∷ ys) (suc i) x (suc j) none = none-before ys i x j none

-- an item that is there isn't none
pub there-not_none : {A : Type 0} (xs : List A) (i : ℕ) (x : A) (j : ℕ) → slice_get xs i ≡ Some x
    → slice_get xs j ≡ None → j ≢ i
there-not_none xs i x j at none same = let both : Some x ≡ None = sym at ∙ ap (slice_get xs) (sym same) ∙ none in cc

-- ---- what came

-- on the entry on which it came, and on another one
pub came-there : (entry number : ℕ) (came : ℕ → ℕ → Bool) (on n : ℕ) → on ≡ entry
    → with_came entry number came on n ≡ with_at number true (came on) n
came-there entry number came on n same =
    subst (λ (e : ℕ). with_came e number came on n ≡ with_at number true (came on) n) same
    (ap (λ (f : ℕ → Bool). f n) (changed-there on (with_at number true (came on)) came))

pub came-elsewhere : (entry number : ℕ) (came : ℕ → ℕ → Bool) (on n : ℕ) → on ≢ entry
    → with_came entry number came on n ≡ came on n
came-elsewhere entry number came on n differs =
    ap (λ (f : ℕ → Bool). f n) (changed-elsewhere entry (with_at number true (came entry)) came on differs)

-- ---- commit proxies

-- what is told of a proxy stays where nothing is told of its stage, nor of its entry
pub stage-stays : (p q : Progress) (resolvers logs proxy : ℕ) (stage : Stage) (entry : ℕ)
    (verdicts acknowledgements : List Bool)
    → p.resolving proxy ≡ q.resolving proxy → p.logging proxy ≡ q.logging proxy
    → (is_idle stage ≡ false → (n : ℕ) → (p.verdicts_came entry n ≡ q.verdicts_came entry n)
    × (p.acknowledgements_came entry n ≡ q.acknowledgements_came entry n))
    → StageTold p resolvers logs proxy stage entry verdicts acknowledgements
    → StageTold q resolvers logs proxy stage entry verdicts acknowledgements
stage-stays p q resolvers logs proxy Idle entry verdicts acknowledgements resolves logs_it came told =
    (sym resolves ∙ told.0, sym logs_it ∙ told.1)
stage-stays p q resolvers logs proxy Resolving entry verdicts acknowledgements resolves logs_it came told = (
  sym resolves ∙ told.0,
  sym logs_it ∙ told.1,
  told.2,
  (λ n. sym (came refl n).0 ∙ told.3 n),
  (λ n. sym (came refl n).1 ∙ told.4 n),
)
stage-stays p q resolvers logs proxy Logging entry verdicts acknowledgements resolves logs_it came told = (
  sym resolves ∙ told.0,
  sym logs_it ∙ told.1,
  told.2,
  (λ n. sym (came refl n).1 ∙ told.3 n),
)
stage-stays p q resolvers logs proxy Reported entry verdicts acknowledgements resolves logs_it came told =
    (sym resolves ∙ told.0, sym logs_it ∙ told.1)

-- where one proxy changes, and what is told of the others stays
pub one-told : (p q : Progress) (entry_proxies : List ℕ) (resolvers logs : ℕ) (commit_proxies : List CommitProxy)
    (proxy : ℕ) (new : CommitProxy)
    → ProxiesTold p entry_proxies resolvers logs commit_proxies
    → ((other : ℕ) (commit_proxy : CommitProxy) → other ≢ proxy
    → ProxyTold p entry_proxies resolvers logs other commit_proxy
    → ProxyTold q entry_proxies resolvers logs other commit_proxy)
    → ProxyTold q entry_proxies resolvers logs proxy new
    → ProxiesTold q entry_proxies resolvers logs (slice_set commit_proxies proxy new)
one-told p q entry_proxies resolvers logs commit_proxies proxy new told others has other commit_proxy there = ⊎_elim
    (λ (here : (other ≡ proxy) × (new ≡ commit_proxy)).
    subst (λ (n : ℕ). ProxyTold q entry_proxies resolvers logs n commit_proxy) (sym here.0)
    (subst (ProxyTold q entry_proxies resolvers logs proxy) here.1 has))
    (λ (elsewhere : (other ≢ proxy) × (slice_get commit_proxies other ≡ Some commit_proxy)).
    others other commit_proxy elsewhere.0 (told other commit_proxy elsewhere.1))
    (item-after-set commit_proxies proxy new other commit_proxy there)
