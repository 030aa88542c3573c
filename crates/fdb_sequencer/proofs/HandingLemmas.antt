-- Each proxy gets each move once, by tickets that it may learn.
use Rattle.std.proofs.Common.{◌≡◌, ◌∙◌, refl, sym, ap, subst, map, arith, ⊎_elim, ℕ, zero, suc, ◌<◌, ◌≤◌, true, false}
use Rattle.std.proofs.Common.{◌==◌, List, [], ◌∷◌, ◌++◌, fold, length, slice_get, slice_set, unwrap_or, replicate, None}
use Rattle.std.proofs.Common.{if◌then◌else◌}
use Rattle.std.specs.Prelude.{flat_map}
use Rattle.std.specs.List.{AllByRecursion}
use Rattle.std.proofs.lemmas.Bool.{cases_Bool, eqb-true, eqb-false}
use Rattle.std.proofs.lemmas.List.{append-nil, append_assoc, length-map, length-set, length-replicate}
use Rattle.fdb_keys.proofs.Exports.{all-append}
use Rattle.fdb_txn.specs.declared.entry.Move.{Move}
use Rattle.fdb_sequencer.specs.declared.ticket.Ticket.{Ticket}
use Rattle.fdb_sequencer.specs.declared.dated.Dated.{Dated}
use Rattle.fdb_sequencer.specs.Moves.{dated}
use Rattle.fdb_sequencer.specs.Sequencer.{Sequencer, fresh, unlearnt_by, next_version, planned, accept_fault, accepting}
use Rattle.fdb_sequencer.specs.Sequencer.{move_fault, moving, windowing}
use Rattle.fdb_sequencer.specs.TicketLaws.{Act, Moves, Takes, Windows, after, AreTaken, tickets_in, moves_made}
use Rattle.fdb_sequencer.specs.TicketLaws.{taking_effect, told, last_of, last_horizon_of, AreRisingUpTo}
use Rattle.fdb_sequencer.specs.TicketLaws.{GoToResolvers, MayBeLearnt}
use Rattle.fdb_sequencer.specs.TicketLaws.{EachMoveTakesEffectOnce, EachProxyGetsEachMoveOnce, PlannedMayBeLearnt}
use Rattle.fdb_sequencer.proofs.TicketLemmas.{Exist, accepted_is_now, is_granted, next_version-above, pending_exist}
use Rattle.fdb_sequencer.proofs.HorizonLemmas.{HasWindow, fresh_has_window, stays_with_window, next_horizon-below}
use Rattle.fdb_sequencer.proofs.HorizonLemmas.{next_horizon-rises, last_horizon-within}

pub each_move_takes_effect_once : EachMoveTakesEffectOnce
each_move_takes_effect_once s [] taken = sym (append-nil s.pending)
each_move_takes_effect_once s (Moves move ∷ acts) taken =
    each_move_takes_effect_once (moving s move) acts taken.1 ∙ append_assoc s.pending (move ∷ []) (moves_made acts)
each_move_takes_effect_once s (Takes ticket ∷ acts) taken =
    let effects = flat_map (λ (one : Ticket). one.pending) (tickets_in acts) in
    let left = (fold after (accepting s ticket) acts).pending in
    append_assoc ticket.pending effects left
    ∙ (λ i. (accepted_is_now s ticket taken.0).pending i
    ++ each_move_takes_effect_once (accepting s ticket) acts taken.1 i)
each_move_takes_effect_once s (Windows window ∷ acts) taken =
    each_move_takes_effect_once (windowing s window) acts taken.1

-- each list with these after it
abbrev with_more : List Dated → List (List Dated) → List (List Dated)
with_more more lists = map (λ (moves : List Dated). moves ++ more) lists

abbrev at : List (List Dated) → ℕ → List Dated
at lists k = unwrap_or (slice_get lists k) []

-- nothing is left at the index whose list is handed out
handed-same : (lists : List (List Dated)) (k : ℕ) → at (slice_set lists k []) k ≡ []
handed-same [] k = refl
handed-same (moves ∷ lists) zero = refl
handed-same (moves ∷ lists) (suc k) = handed-same lists k

with_more-at : (lists : List (List Dated)) (more : List Dated) (k : ℕ) → k < length lists
    → at (with_more more lists) k ≡ at lists k ++ more
with_more-at [] more k within = absurd (omega (arith, within))
with_more-at (moves ∷ lists) more zero within = refl
with_more-at (moves ∷ lists) more (suc k) within = with_more-at lists more k (omega (arith, within))

-- and at another one the list stays
handed-other : (lists : List (List Dated)) (k other : ℕ) → (k ≡ other → ⊥) → at (slice_set lists k []) other
    ≡ at lists other
handed-other [] k other differ = refl
handed-other (moves ∷ lists) zero zero differ = absurd (differ refl)
handed-other (moves ∷ lists) zero (suc other) differ = refl
handed-other (moves ∷ lists) (suc k) zero differ = refl
handed-other (moves ∷ lists) (suc k) (suc other) differ = handed-other lists k other (λ same. differ (ap suc same))

-- who got the ticket has had all moves
got-all : (s : Sequencer) (ticket : Ticket) (proxy : ℕ) → ticket.proxy ≡ proxy
    → unlearnt_by (accepting s ticket) proxy ≡ []
got-all s ticket proxy same =
    let lists = with_more (dated ticket.version s.pending) s.unlearnt in
    ap (λ (k : ℕ). at (slice_set lists k []) proxy) same ∙ handed-same lists proxy

-- the others haven't had those that took effect with it
others-wait : (s : Sequencer) (ticket : Ticket) (proxy : ℕ) → (ticket.proxy ≡ proxy → ⊥) → proxy < length s.unlearnt
    → unlearnt_by (accepting s ticket) proxy ≡ unlearnt_by s proxy ++ dated ticket.version s.pending
others-wait s ticket proxy differ within =
    let more = dated ticket.version s.pending in
    handed-other (with_more more s.unlearnt) ticket.proxy proxy differ ∙ with_more-at s.unlearnt more proxy within

-- there are as many lists as before
as-many : (s : Sequencer) (ticket : Ticket) → length (accepting s ticket).unlearnt ≡ length s.unlearnt
as-many s ticket =
    let more = dated ticket.version s.pending in
    length-set (with_more more s.unlearnt) ticket.proxy []
    ∙ length-map s.unlearnt (λ (moves : List Dated). moves ++ more)

-- what an accepted ticket brings into effect is what was pending
same-effect : (s : Sequencer) (ticket : Ticket) → accept_fault s ticket ≡ None
    → dated ticket.version s.pending ≡ dated ticket.version ticket.pending
same-effect s ticket accepted = ap (dated ticket.version) (sym (accepted_is_now s ticket accepted).pending)

-- a ticket of the proxy tells all that it hadn't had
told-own : (s : Sequencer) (ticket : Ticket) (proxy : ℕ) (tickets : List Ticket) (left : List Dated)
    → accept_fault s ticket ≡ None → (ticket.proxy == proxy) ≡ true
    → told proxy tickets ++ left ≡ unlearnt_by (accepting s ticket) proxy ++ taking_effect tickets
    → told proxy (ticket ∷ tickets) ++ left ≡ unlearnt_by s proxy ++ taking_effect (ticket ∷ tickets)
told-own s ticket proxy tickets left accepted same rest =
    let is = eqb-true ticket.proxy proxy same in
    let effect = dated ticket.version ticket.pending in
    let later = taking_effect tickets in
    let moves : ticket.moves ≡ unlearnt_by s proxy ++ effect =
    (accepted_is_now s ticket accepted).moves ∙ (λ i. unlearnt_by s (is i) ++ same-effect s ticket accepted i) in
    let none : told proxy tickets ++ left ≡ later =
    rest ∙ ap (λ (some : List Dated). some ++ later) (got-all s ticket proxy is) in
    rw same (append_assoc ticket.moves (told proxy tickets) left ∙ (λ i. moves i ++ none i)
    ∙ append_assoc (unlearnt_by s proxy) effect later)

-- one of another proxy leaves it with more that it hasn't had
told-other : (s : Sequencer) (ticket : Ticket) (proxy : ℕ) (tickets : List Ticket) (left : List Dated)
    → accept_fault s ticket ≡ None → proxy < length s.unlearnt → (ticket.proxy == proxy) ≡ false
    → told proxy tickets ++ left ≡ unlearnt_by (accepting s ticket) proxy ++ taking_effect tickets
    → told proxy (ticket ∷ tickets) ++ left ≡ unlearnt_by s proxy ++ taking_effect (ticket ∷ tickets)
told-other s ticket proxy tickets left accepted within differ rest =
    let effect = dated ticket.version ticket.pending in
    let later = taking_effect tickets in
    let more : unlearnt_by (accepting s ticket) proxy ≡ unlearnt_by s proxy ++ effect =
    others-wait s ticket proxy (eqb-false ticket.proxy proxy differ) within
    ∙ ap (λ (some : List Dated). unlearnt_by s proxy ++ some) (same-effect s ticket accepted) in
    rw differ (rest ∙ (λ i. more i ++ later) ∙ append_assoc (unlearnt_by s proxy) effect later)

gets-each : (s : Sequencer) (acts : List Act) (proxy : ℕ) → proxy < length s.unlearnt → AreTaken s acts
    → told proxy (tickets_in acts) ++ unlearnt_by (fold after s acts) proxy
    ≡ unlearnt_by s proxy ++ taking_effect (tickets_in acts)
gets-each s [] proxy within taken = sym (append-nil (unlearnt_by s proxy))
gets-each s (Moves move ∷ acts) proxy within taken = gets-each (moving s move) acts proxy within taken.1
gets-each s (Takes ticket ∷ acts) proxy within taken =
    let many = as-many s ticket in
    let rest = gets-each (accepting s ticket) acts proxy (rw many within) taken.1 in
    let left = unlearnt_by (fold after (accepting s ticket) acts) proxy in
    ⊎_elim (λ same. told-own s ticket proxy (tickets_in acts) left taken.0 same rest)
    (λ differ. told-other s ticket proxy (tickets_in acts) left taken.0 within differ rest)
    (cases_Bool (ticket.proxy == proxy))
gets-each s (Windows window ∷ acts) proxy within taken = gets-each (windowing s window) acts proxy within taken.1

pub each_proxy_gets_each_move_once : EachProxyGetsEachMoveOnce
each_proxy_gets_each_move_once s acts proxy count within taken =
    gets-each s acts proxy (omega (arith, count, within)) taken

-- what holds of a version with its moves holds of them as a list, which is empty where it moves nothing
all-dated : (P : Dated → Type 0) (version : ℕ) (moves : List Move) → P (record { version = version; moves = moves })
    → AllByRecursion P (dated version moves)
all-dated P version [] holds = tt
all-dated P version (move ∷ moves) holds = (holds, tt)

-- moves of a later version rise after earlier ones
rising-more : (last version : ℕ) (older : List Dated) (moves : List Move) → last < version → AreRisingUpTo last older
    → AreRisingUpTo version (older ++ dated version moves)
rising-more last version [] [] later rising = tt
rising-more last version [] (move ∷ moves) later rising = (omega arith, tt, tt)
rising-more last version (of ∷ older) moves later rising = (
  omega (arith, later, rising.0),
  all-append (λ (other : Dated). of.version < other.version) older (dated version moves) rising.1
      (all-dated (λ (other : Dated). of.version < other.version) version moves (omega (arith, later, rising.0))),
  rising-more last version older moves later rising.2,
)

-- moves that a proxy whose last ticket was of this version may learn with one of the next version
record AreToLearn (resolvers last version : ℕ) (moves : List Dated) : Type 0 where
  above : AllByRecursion (λ (of : Dated). last < of.version) moves
  rising : AreRisingUpTo version moves
  targets : GoToResolvers resolvers moves

none-to-learn : (resolvers last version : ℕ) (moves : List Dated) → moves ≡ [] → AreToLearn resolvers last version moves
none-to-learn resolvers last version moves none =
    subst (AreToLearn resolvers last version) (sym none) (record { above = tt; rising = tt; targets = tt })

more-to-learn : (resolvers last version next : ℕ) (older : List Dated) (moves : List Move) → last ≤ version
    → version < next → AreToLearn resolvers last version older → Exist resolvers moves
    → AreToLearn resolvers last next (older ++ dated next moves)
more-to-learn resolvers last version next older moves within later learn exist =
    record {
      above =
          all-append (λ (of : Dated). last < of.version) older (dated next moves) learn.above
          (all-dated (λ (of : Dated). last < of.version) next moves (omega (arith, within, later)));
      rising = rising-more version next older moves later learn.rising;
      targets =
          all-append (λ (of : Dated). Exist resolvers of.moves) older (dated next moves) learn.targets
          (all-dated (λ (of : Dated). Exist resolvers of.moves) next moves exist);
    }

-- the proxy, whose last ticket was of this version, may learn what it hasn't had
record IsReady (proxy last : ℕ) (s : Sequencer) : Type 0 where
  within : proxy < length s.unlearnt
  through : last ≤ s.last
  learn : AreToLearn s.resolvers last s.last (unlearnt_by s proxy)
  pending : Exist s.resolvers s.pending

ready-moves : (s : Sequencer) (move : Move) (proxy last : ℕ) → IsReady proxy last s → move_fault s move ≡ None
    → IsReady proxy last (moving s move)
ready-moves s move proxy last ready made =
    record {
      within = ready.within;
      through = ready.through;
      learn = ready.learn;
      pending = pending_exist s move made ready.pending;
    }

ready-takes : (s : Sequencer) (ticket : Ticket) (proxy last : ℕ) → IsReady proxy last s → accept_fault s ticket ≡ None
    → IsReady proxy (if ticket.proxy == proxy then ticket.version else last) (accepting s ticket)
ready-takes s ticket proxy last ready accepted = ⊎_elim own other (cases_Bool (ticket.proxy == proxy))
  where
    within : proxy < length (accepting s ticket).unlearnt
    within = let many = as-many s ticket in rw many ready.within

    above : s.last < ticket.version
    above = (accepted_is_now s ticket accepted).above

    own : (ticket.proxy == proxy) ≡ true
        → IsReady proxy (if ticket.proxy == proxy then ticket.version else last) (accepting s ticket)
    own same =
        rw same (record {
          within = within;
          through = omega arith;
          learn =
              none-to-learn s.resolvers ticket.version ticket.version (unlearnt_by (accepting s ticket) proxy)
              (got-all s ticket proxy (eqb-true ticket.proxy proxy same));
          pending = tt;
        })

    other : (ticket.proxy == proxy) ≡ false
        → IsReady proxy (if ticket.proxy == proxy then ticket.version else last) (accepting s ticket)
    other differ =
        let wait = others-wait s ticket proxy (eqb-false ticket.proxy proxy differ) ready.within in
        let learn =
        more-to-learn s.resolvers last s.last ticket.version (unlearnt_by s proxy) s.pending ready.through above
        ready.learn ready.pending in
        rw differ (record {
          within = within;
          through = omega (arith, above, ready.through);
          learn = subst (AreToLearn s.resolvers last ticket.version) (sym wait) learn;
          pending = tt;
        })

ready-windows : (s : Sequencer) (window proxy last : ℕ) → IsReady proxy last s → IsReady proxy last (windowing s window)
ready-windows s window proxy last ready =
    record { within = ready.within; through = ready.through; learn = ready.learn; pending = ready.pending }

stays-ready : (s : Sequencer) (acts : List Act) (proxy last : ℕ) → IsReady proxy last s → AreTaken s acts
    → IsReady proxy (last_of proxy last (tickets_in acts)) (fold after s acts)
stays-ready s [] proxy last ready taken = ready
stays-ready s (Moves move ∷ acts) proxy last ready taken =
    stays-ready (moving s move) acts proxy last (ready-moves s move proxy last ready taken.0) taken.1
stays-ready s (Takes ticket ∷ acts) proxy last ready taken =
    stays-ready (accepting s ticket) acts proxy (if ticket.proxy == proxy then ticket.version else last)
    (ready-takes s ticket proxy last ready taken.0) taken.1
stays-ready s (Windows window ∷ acts) proxy last ready taken =
    stays-ready (windowing s window) acts proxy last (ready-windows s window proxy last ready) taken.1

-- there are as many proxies and resolvers as at first
same-roles : (s : Sequencer) (acts : List Act)
    → ((fold after s acts).proxies ≡ s.proxies) × ((fold after s acts).resolvers ≡ s.resolvers)
same-roles s [] = (refl, refl)
same-roles s (Moves move ∷ acts) = same-roles (moving s move) acts
same-roles s (Takes ticket ∷ acts) = same-roles (accepting s ticket) acts
same-roles s (Windows window ∷ acts) = same-roles (windowing s window) acts

-- at first each proxy has had all
none-at-first : (proxies proxy : ℕ) → at (replicate proxies []) proxy ≡ []
none-at-first zero proxy = refl
none-at-first (suc proxies) zero = refl
none-at-first (suc proxies) (suc proxy) = none-at-first proxies proxy

ready-at-first : (proxies resolvers last proxy : ℕ) → proxy < proxies → IsReady proxy 0 (fresh proxies resolvers last)
ready-at-first proxies resolvers last proxy within =
    let many = length-replicate {A = List Dated} proxies [] in
    record {
      within = rw many within;
      through = omega arith;
      learn =
          none-to-learn resolvers 0 last (unlearnt_by (fresh proxies resolvers last) proxy)
          (none-at-first proxies proxy);
      pending = tt;
    }

ready-is-planned : (s : Sequencer) (proxy advance last horizon : ℕ) → HasWindow s → horizon ≤ s.horizon
    → IsReady proxy last s → MayBeLearnt s.resolvers last horizon (planned s proxy advance)
ready-is-planned s proxy advance last horizon has rises ready =
    let above = (next_version-above s.last advance).0 in
    let learn =
    more-to-learn s.resolvers last s.last (next_version s.last advance) (unlearnt_by s proxy) s.pending ready.through
    above ready.learn ready.pending in
    record {
      later = omega (arith, above, ready.through);
      above = learn.above;
      rising = learn.rising;
      targets = learn.targets;
      horizon = omega (arith, rises, next_horizon-rises s.horizon s.window (next_version s.last advance));
      below =
          next_horizon-below s.horizon s.window (next_version s.last advance) (omega (arith, has.within, above))
          has.some;
    }

pub planned_may_be_learnt : PlannedMayBeLearnt
planned_may_be_learnt proxies resolvers last acts taken proxy advance granted =
    let s = fold after (fresh proxies resolvers last) acts in
    let same = same-roles (fresh proxies resolvers last) acts in
    let is = (is_granted s proxy advance granted).is_proxy in
    let within : proxy < proxies = omega (arith, is, same.0) in
    let ready = stays-ready (fresh proxies resolvers last) acts proxy 0
    (ready-at-first proxies resolvers last proxy within) taken in
    let last_version = last_of proxy 0 (tickets_in acts) in
    let last_horizon = last_horizon_of proxy 0 (tickets_in acts) in
    let has = stays_with_window (fresh proxies resolvers last) acts (fresh_has_window proxies resolvers last) taken in
    let rises = last_horizon-within (fresh proxies resolvers last) acts proxy 0 (omega arith) taken in
    subst (λ (count : ℕ). MayBeLearnt count last_version last_horizon (planned s proxy advance)) same.1
    (ready-is-planned s proxy advance last_version last_horizon has rises ready)
