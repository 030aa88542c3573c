-- Horizons never fall, and lie below the versions of their tickets.
use Rattle.std.proofs.Common.{◌≡◌, refl, subst, sym, arith, ◌-◌, ⊎_elim, ℕ, ◌<◌, ◌≤◌, true, false}
use Rattle.std.proofs.Common.{List, [], ◌∷◌, fold, None}
use Rattle.std.proofs.Common.{◌==◌, if◌then◌else◌}
use Rattle.std.proofs.lemmas.Bool.{cases_Bool, eq-eqb, or_left}
use Rattle.std.proofs.lemmas.Grind.{common_steps}
use Rattle.fdb_txn.specs.book.Book.{next_horizon}
use Rattle.fdb_sequencer.specs.declared.ticket.Ticket.{Ticket}
use Rattle.fdb_sequencer.specs.Sequencer.{Sequencer, fresh, accept_fault, accepting, moving, set_window_fault}
use Rattle.fdb_sequencer.specs.Sequencer.{windowing}
use Rattle.fdb_sequencer.specs.TicketLaws.{Act, Moves, Takes, Windows, after, AreTaken, tickets_in, last_horizon_of}
use Rattle.fdb_sequencer.specs.TicketLaws.{HorizonNeverFalls, HorizonIsTheGreatestBegin, IsGreatest, begins_in}
use Rattle.fdb_sequencer.proofs.ReportLemmas.{named}
use Rattle.fdb_sequencer.proofs.TicketLemmas.{accepted_is_now}

-- a horizon is no less than the last one
pub next_horizon-rises : (last window version : ℕ) → last ≤ next_horizon last window version
next_horizon-rises last window version = omega arith

-- where the last one is below the version, so is the next
pub next_horizon-below : (last window version : ℕ) → last < version → 1 ≤ window
    → next_horizon last window version < version
next_horizon-below last window version above some = omega (arith, above, some)

-- an accepted ticket's horizon is no less than the last one
pub accepted-rises : (s : Sequencer) (ticket : Ticket) → accept_fault s ticket ≡ None → s.horizon ≤ ticket.horizon
accepted-rises s ticket accepted =
    omega (arith, (accepted_is_now s ticket accepted).horizon, next_horizon-rises s.horizon s.window ticket.version)

pub horizon_never_falls : HorizonNeverFalls
horizon_never_falls s [] taken = omega arith
horizon_never_falls s (Moves move ∷ acts) taken = horizon_never_falls (moving s move) acts taken.1
horizon_never_falls s (Takes ticket ∷ acts) taken =
    omega (arith, accepted-rises s ticket taken.0, horizon_never_falls (accepting s ticket) acts taken.1)
horizon_never_falls s (Windows window ∷ acts) taken = horizon_never_falls (windowing s window) acts taken.1

pub horizon_is_the_greatest_begin : HorizonIsTheGreatestBegin
horizon_is_the_greatest_begin s [] taken =
    ((omega arith, tt), or_left (s.horizon == s.horizon) _ (eq-eqb s.horizon _ refl))
horizon_is_the_greatest_begin s (Moves move ∷ acts) taken = horizon_is_the_greatest_begin (moving s move) acts taken.1
horizon_is_the_greatest_begin s (Takes ticket ∷ acts) taken =
    let is = (accepted_is_now s ticket taken.0).horizon in
    let rest : IsGreatest (fold after (accepting s ticket) acts).horizon
    (next_horizon s.horizon s.window ticket.version ∷ begins_in s.window acts) =
    subst (λ (horizon : ℕ). IsGreatest (fold after (accepting s ticket) acts).horizon
    (horizon ∷ begins_in s.window acts)) is (horizon_is_the_greatest_begin (accepting s ticket) acts taken.1) in (
      (omega (arith, rest.0.0), (omega (arith, rest.0.0), rest.0.1)),
      named s.horizon (ticket.version - s.window) _ _ rest.1,
    )
horizon_is_the_greatest_begin s (Windows window ∷ acts) taken =
    horizon_is_the_greatest_begin (windowing s window) acts taken.1

-- so none of a proxy's tickets has a greater one than the last ticket of all
pub last_horizon-within : (s : Sequencer) (acts : List Act) (proxy last : ℕ) → last ≤ s.horizon → AreTaken s acts
    → last_horizon_of proxy last (tickets_in acts) ≤ (fold after s acts).horizon
last_horizon-within s [] proxy last within taken = within
last_horizon-within s (Moves move ∷ acts) proxy last within taken =
    last_horizon-within (moving s move) acts proxy last within taken.1
last_horizon-within s (Takes ticket ∷ acts) proxy last within taken =
    last_horizon-within (accepting s ticket) acts proxy (if ticket.proxy == proxy then ticket.horizon else last)
    (⊎_elim own other (cases_Bool (ticket.proxy == proxy))) taken.1
  where
    rises : s.horizon ≤ ticket.horizon
    rises = accepted-rises s ticket taken.0

    own : (ticket.proxy == proxy) ≡ true → (if ticket.proxy == proxy then ticket.horizon else last) ≤ ticket.horizon
    own same = rw same (omega arith)

    other : (ticket.proxy == proxy) ≡ false → (if ticket.proxy == proxy then ticket.horizon else last) ≤ ticket.horizon
    other differ = rw differ (omega (arith, within, rises))
last_horizon-within s (Windows window ∷ acts) proxy last within taken =
    last_horizon-within (windowing s window) acts proxy last within taken.1

-- the window is some versions wide, and the last horizon isn't above the last version
pub record HasWindow (s : Sequencer) : Type 0 where
  pub some : 1 ≤ s.window
  pub within : s.horizon ≤ s.last

-- so the horizon of an accepted ticket lies below its version
pub accepted-below : (s : Sequencer) (ticket : Ticket) → HasWindow s → accept_fault s ticket ≡ None
    → ticket.horizon < ticket.version
accepted-below s ticket has accepted =
    let now = accepted_is_now s ticket accepted in
    let above : s.horizon < ticket.version = omega (arith, has.within, now.above) in
    let below = next_horizon-below s.horizon s.window ticket.version above has.some in
    subst (λ (horizon : ℕ). horizon < ticket.version) (sym now.horizon) below

pub takes_has_window : (s : Sequencer) (ticket : Ticket) → HasWindow s → accept_fault s ticket ≡ None
    → HasWindow (accepting s ticket)
takes_has_window s ticket has accepted =
    record { some = has.some; within = omega (arith, accepted-below s ticket has accepted) }

-- a window that is set is some versions wide
pub set_has_window : (s : Sequencer) (window : ℕ) → HasWindow s → set_window_fault window ≡ None
    → HasWindow (windowing s window)
set_has_window s window has set = record { some = grind (arith, common_steps); within = has.within }

pub stays_with_window : (s : Sequencer) (acts : List Act) → HasWindow s → AreTaken s acts
    → HasWindow (fold after s acts)
stays_with_window s [] has taken = has
stays_with_window s (Moves move ∷ acts) has taken =
    stays_with_window (moving s move) acts (record { some = has.some; within = has.within }) taken.1
stays_with_window s (Takes ticket ∷ acts) has taken =
    stays_with_window (accepting s ticket) acts (takes_has_window s ticket has taken.0) taken.1
stays_with_window s (Windows window ∷ acts) has taken =
    stays_with_window (windowing s window) acts (set_has_window s window has taken.0) taken.1

pub fresh_has_window : (proxies resolvers last : ℕ) → HasWindow (fresh proxies resolvers last)
fresh_has_window proxies resolvers last = record { some = omega arith; within = omega arith }
