-- The read-version proxies, and what the machine does where sessions ask there and are granted.
use Rattle.std.proofs.Common.{◌≡◌, ◌∙◌, refl, ap, ap₂, ℕ, max, Bool, true, false, List, [], ◌∷◌, ◌++◌, map, fold, Some}
use Rattle.std.proofs.Common.{Ok, Err, slice_get, slice_set, arith, ⊎_elim, ◌≢◌}
use Rattle.std.specs.Prelude.{◌||◌, ◌==◌, ◌<◌, ◌≤◌, unwrap_or, Option, None}
use Rattle.std.specs.List.{AllByRecursion, list_any}
use Rattle.std.proofs.lemmas.List.{length-set}
use Rattle.fdb_keys.specs.declared.refusal.Refusal.TheVariants.{Exhausted}
use Rattle.fdb_proxy.specs.declared.config.Config.{Config}
use Rattle.fdb_proxy.specs.Askers.{Asker, granted}
use Rattle.fdb_machine.specs.declared.step.Answered.TheVariants as answered
use Rattle.fdb_machine.specs.machine.GrvProxySteps.{asks, grants, has_no_number}
use Rattle.fdb_machine.specs.machine.Machine.{Machine}
use Rattle.fdb_machine.specs.machine.Sessions.{Session, Sessions, Asking, new_session, session_of, with_state, is_busy}
use Rattle.fdb_machine.specs.machine.Sessions.{serve}
use Rattle.fdb_core.specs.refinement.Cluster.{GrvProxiesRefine, HasSeenNone, sessions_of}
use Rattle.std.specs.FinMap.{get}
use Rattle.std.specs.Option.{is_some}
use Rattle.std.proofs.lemmas.Bool.{eq-eqb}
use Rattle.std.proofs.lemmas.Bool.Decides.{eqb_tells}
use Rattle.fdb_machine.specs.headline.Sessions.{times_asking_at}
use Rattle.fdb_machine.specs.invariant.Invariant.{Invariant}
use Rattle.fdb_machine.specs.invariant.Places.{asks_as}
use Rattle.fdb_machine.specs.machine.Acting.{AreKnown}
use Rattle.fdb_roles.proofs.Exports.{each-set}
use Rattle.fdb_machine.proofs.Exports.{counted, sum-at, sessions-stand}

-- others ask at a proxy, who have seen none either
pub grv_proxies-set : (config : Config) (asked : List (List Asker)) (i : ℕ) (there : List Asker)
    → GrvProxiesRefine config asked → AllByRecursion HasSeenNone there
    → GrvProxiesRefine config (slice_set asked i there)
grv_proxies-set config asked i there ok none = record {
  count = length-set asked i there ∙ ok.count;
  each = each-set (λ (_ : ℕ) (askers : List Asker). AllByRecursion HasSeenNone askers) asked i there ok.each
      (λ within. none);
}

-- one more session asks
pub sessions-push : (there : List Asker) (session : ℕ)
    → sessions_of (there ++ (session, 0) ∷ []) ≡ sessions_of there ++ session ∷ []
sessions-push [] session = refl
sessions-push (asker ∷ there) session = ap (λ (others : List ℕ). asker.0 ∷ others) (sessions-push there session)

-- one of those who ask has used up its numbers where one of their sessions has
pub used_up-is : (sessions : Sessions) (there : List Asker)
    → list_any (λ (asker : Asker). has_no_number sessions asker.0) there
    ≡ list_any (has_no_number sessions) (sessions_of there)
used_up-is sessions [] = refl
used_up-is sessions (asker ∷ there) =
    ap (λ (test : Bool). has_no_number sessions asker.0 || test) (used_up-is sessions there)

-- who has seen none is granted the committed version
module _ (committed : ℕ) where
  at_committed : (asker : Asker) → HasSeenNone asker → granted committed asker ≡ (asker.0, committed)
  at_committed asker none =
      let is : max committed asker.1 ≡ committed = omega (arith, none) in
      ap (λ (version : ℕ). (asker.0, version)) is

  pub granted-is : (there : List Asker) → AllByRecursion HasSeenNone there
      → map (granted committed) there ≡ map (λ (session : ℕ). (session, committed)) (sessions_of there)
  granted-is [] none = refl
  granted-is (asker ∷ there) none =
      ap₂ (λ (first : Asker) (others : List Asker). first ∷ others) (at_committed asker none.0)
      (granted-is there none.1)

  -- and each session that asks is served at it
  pub served-is : (there : List Asker) (sessions : Sessions) → AllByRecursion HasSeenNone there
      → fold (λ (served : Sessions) (asker : Asker). serve asker.1 served asker.0) sessions
      (map (granted committed) there)
      ≡ fold (serve committed) sessions (sessions_of there)
  served-is [] sessions none = refl
  served-is (asker ∷ there) sessions none =
      ap (λ (one : Asker). fold (λ (served : Sessions) (asker : Asker). serve asker.1 served asker.0)
      (serve one.1 sessions one.0) (map (granted committed) there)) (at_committed asker none.0)
      ∙ served-is there (serve committed sessions asker.0) none.1

-- what the machine does, once it knows who asks there
module _ (m : Machine) (proxy : ℕ) (there : List ℕ) (at : slice_get m.grv_proxies proxy ≡ Some there) where
  pub asks-transition : (session : ℕ) → is_busy (session_of m.sessions session).state ≡ false
      → asks m session proxy ≡ Ok (record {
        answer = answered.Done;
        next = record m {
          sessions = with_state m.sessions session Asking;
          grv_proxies = slice_set m.grv_proxies proxy (there ++ session ∷ []);
        };
      })
  unfolding asks
  asks-transition session free = rw (at, free) refl

  pub grants-exhausted : list_any (has_no_number m.sessions) there ≡ true → grants m proxy ≡ Err Exhausted
  unfolding grants
  grants-exhausted used_up = rw (at, used_up) refl

  pub grants-transition : list_any (has_no_number m.sessions) there ≡ false → grants m proxy ≡ Ok (record {
    answer = answered.Granted (map (λ (session : ℕ). (session, m.committed)) there);
    next = record m {
      sessions = fold (serve m.committed) m.sessions there;
      grv_proxies = slice_set m.grv_proxies proxy [];
    };
  })
  unfolding grants
  grants-transition left = rw (at, left) refl

-- who asks has done so before: those who ask at a proxy of a sound machine are known to it
module _ (m : Machine) (sound : Invariant m) (proxy : ℕ) (all : List ℕ)
    (at : slice_get m.grv_proxies proxy ≡ Some all) where
  one-known : (session : ℕ) → 0 < times_asking_at session all → is_some (get m.sessions session) ≡ true
  one-known session asks = by (get m.sessions session) (omega (
    arith,
    asks,
    ((sessions-stand m sound).0 session).asks,
    sum-at (times_asking_at session) m.grv_proxies proxy all at,
  ))
    where
      by : (there : Option Session) → 0 < asks_as (unwrap_or there new_session).state → is_some there ≡ true
      by None some = absurd (omega (arith, some))
      by (Some known) some = refl

  some-known : (askers : List Asker)
      → ((session : ℕ) → times_asking_at session (sessions_of askers) ≤ times_asking_at session all)
      → AreKnown m.sessions askers
  some-known [] among = tt
  some-known (asker ∷ askers) among = (
    one-known asker.0 (let here = among asker.0 in
        let own = (counted (λ (other : ℕ). other == asker.0) asker.0 (sessions_of askers)).0
        (eq-eqb asker.0 asker.0 refl) in omega (arith, here, own)),
    some-known askers (λ session. let here = among session in
        let more = sum_by-here session asker askers in omega (arith, here, more)),
  )
    where
      sum_by-here : (session : ℕ) (asker : Asker) (askers : List Asker)
          → times_asking_at session (sessions_of askers) ≤ times_asking_at session (sessions_of (asker ∷ askers))
      sum_by-here session asker askers =
          let parts = counted (λ (other : ℕ). other == session) asker.0 (sessions_of askers) in
          ⊎_elim
          (λ (is : (asker.0 == session ≡ true) × (asker.0 ≡ session)). omega (arith, parts.0 is.0))
          (λ (is : (asker.0 == session ≡ false) × (asker.0 ≢ session)). omega (arith, parts.1 is.0))
          (eqb_tells asker.0 session)

  pub askers-known : (askers : List Asker) → sessions_of askers ≡ all → AreKnown m.sessions askers
  askers-known askers is =
      some-known askers (λ session. omega (arith, ap (λ (there : List ℕ). times_asking_at session there) is))

-- and so they are with what they are granted
pub granted-known : (sessions : Sessions) (committed : ℕ) (askers : List Asker) → AreKnown sessions askers
    → AreKnown sessions (map (granted committed) askers)
granted-known sessions committed [] known = tt
granted-known sessions committed (asker ∷ askers) known =
    (known.0, granted-known sessions committed askers known.1)
