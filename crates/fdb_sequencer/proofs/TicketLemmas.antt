-- What is accepted was planned, and is accepted once.
use Rattle.std.proofs.Common.{◌≡◌, ◌∙◌, refl, ap, arith, ⊎_elim, ℕ, zero, suc, ◌+◌, ◌-◌, ◌<◌, ◌≤◌, true, List, []}
use Rattle.std.proofs.Common.{◌∷◌, fold, Some, None}
use Rattle.std.specs.List.{AllByRecursion}
use Rattle.std.proofs.lemmas.Bool.{and_parts, and_from, cases_Bool, ltb-true, leb-true, eqb-true, lt-ltb, le-leb}
use Rattle.std.proofs.lemmas.Bool.{eq-eqb}
use Rattle.std.proofs.lemmas.Grind.{common_steps}
use Rattle.fdb_keys.specs.declared.refusal.Refusal.TheVariants.{Stale}
use Rattle.fdb_keys.proofs.Exports.{all-append, items_eq_decides}
use Rattle.fdb_txn.specs.declared.entry.Move.{Move}
use Rattle.fdb_txn.specs.Equality.{move_eq}
use Rattle.fdb_txn.proofs.Exports.{move_eq_decides}
use Rattle.fdb_txn.specs.book.Book.{next_horizon}
use Rattle.fdb_sequencer.specs.declared.ticket.Ticket.{Ticket}
use Rattle.fdb_sequencer.specs.Equality.{dated_eq}
use Rattle.fdb_sequencer.proofs.EqualityLemmas.{dated_eq_decides}
use Rattle.fdb_txn.specs.Limits.{ticket_limit, version_limit, greatest_advance}
use Rattle.fdb_sequencer.specs.Moves.{moves_at}
use Rattle.fdb_sequencer.specs.Sequencer.{Sequencer, moves_in, next_version, planned, plan_fault, is_planned}
use Rattle.fdb_sequencer.specs.Sequencer.{accept_fault, accepting, move_fault, moving, windowing}
use Rattle.fdb_sequencer.specs.TicketLaws.{Act, Moves, Takes, Windows, after, PlannedAreAccepted, AcceptedArePlanned}
use Rattle.fdb_sequencer.specs.TicketLaws.{AcceptedOnce, IndicesCountUp}

-- what the test of a ticket says
pub record IsNow (s : Sequencer) (ticket : Ticket) : Type 0 where
  pub proxy : ticket.proxy < s.proxies
  pub index : ticket.index ≡ s.accepted
  pub counted : ticket.index < ticket_limit
  pub prev : ticket.prev ≡ s.last
  pub above : s.last < ticket.version
  pub near : ticket.version ≤ s.last + greatest_advance
  pub within : ticket.version ≤ version_limit
  pub horizon : ticket.horizon ≡ next_horizon s.horizon s.window ticket.version
  pub moves : ticket.moves ≡ moves_at (moves_in s) ticket.proxy ticket.version
  pub pending : ticket.pending ≡ s.pending

is_now : (s : Sequencer) (ticket : Ticket) → is_planned s ticket ≡ true → IsNow s ticket
is_now s ticket test =
    let all = and_parts _ _ test in
    let lists = and_parts _ _ all.1 in
    let to_horizon = and_parts _ _ all.0 in
    let to_next = and_parts _ _ to_horizon.0 in
    let next = and_parts _ _ to_next.1 in
    let ends = and_parts _ _ next.0 in
    let to_prev = and_parts _ _ to_next.0 in
    let to_counted = and_parts _ _ to_prev.0 in
    let to_index = and_parts _ _ to_counted.0 in
    let moves = moves_at (moves_in s) ticket.proxy ticket.version in
    record {
      proxy = ltb-true _ _ to_index.0;
      index = eqb-true _ _ to_index.1;
      counted = ltb-true _ _ to_counted.1;
      prev = eqb-true _ _ to_prev.1;
      above = ltb-true _ _ ends.0;
      near = leb-true _ _ ends.1;
      within = leb-true _ _ next.1;
      horizon = eqb-true _ _ to_horizon.1;
      moves = (items_eq_decides dated_eq dated_eq_decides ticket.moves moves).0 lists.0;
      pending = (items_eq_decides move_eq move_eq_decides ticket.pending s.pending).0 lists.1;
    }

-- an advance within the limit brings the version that far
next_version-at : (last version : ℕ) → last < version → version ≤ last + greatest_advance
    → version ≡ next_version last (version - last)
next_version-at last version above near = omega arith

-- the next version is above the last one, within the greatest advance
pub next_version-above : (last advance : ℕ)
    → (last < next_version last advance) × (next_version last advance ≤ last + greatest_advance)
next_version-above last advance = (omega arith, omega arith)

accepted_by_test : (s : Sequencer) (ticket : Ticket) → accept_fault s ticket ≡ None → is_planned s ticket ≡ true
accepted_by_test s ticket accepted =
    ⊎_elim (λ e. e) (λ e. absurd (let refused : Some Stale ≡ None = rw e at accepted in cc))
    (cases_Bool (is_planned s ticket))

-- what is accepted passes the test
pub accepted_is_now : (s : Sequencer) (ticket : Ticket) → accept_fault s ticket ≡ None → IsNow s ticket
accepted_is_now s ticket accepted = is_now s ticket (accepted_by_test s ticket accepted)

-- who is granted a ticket is a proxy, and neither versions nor tickets are used up
pub record IsGranted (s : Sequencer) (proxy advance : ℕ) : Type 0 where
  pub is_proxy : proxy < s.proxies
  pub version : next_version s.last advance ≤ version_limit
  pub accepted : s.accepted < ticket_limit

pub is_granted : (s : Sequencer) (proxy advance : ℕ) → plan_fault s proxy advance ≡ None → IsGranted s proxy advance
is_granted s proxy advance granted =
    record {
      is_proxy = grind (arith, common_steps);
      version = grind (arith, common_steps);
      accepted = grind (arith, common_steps);
    }

pub planned_are_accepted : PlannedAreAccepted
planned_are_accepted s proxy advance granted =
    let is = is_granted s proxy advance granted in
    let above = next_version-above s.last advance in
    let version = next_version s.last advance in
    let moves = moves_at (moves_in s) proxy version in
    let same : is_planned s (planned s proxy advance) ≡ true =
    and_from _ _
    (and_from _ _
    (and_from _ _
    (and_from _ _ (and_from _ _ (and_from _ _ (lt-ltb _ _ is.is_proxy) (eq-eqb _ _ refl)) (lt-ltb _ _ is.accepted))
    (eq-eqb _ _ refl)) (and_from _ _ (and_from _ _ (lt-ltb _ _ above.0) (le-leb _ _ above.1)) (le-leb _ _ is.version)))
    (eq-eqb _ _ refl))
    (and_from _ _ ((items_eq_decides dated_eq dated_eq_decides moves moves).1 refl)
    ((items_eq_decides move_eq move_eq_decides s.pending s.pending).1 refl)) in
    rw same refl

pub accepted_are_planned : AcceptedArePlanned
accepted_are_planned s ticket accepted =
    let now = accepted_is_now s ticket accepted in
    let version = next_version-at s.last ticket.version now.above now.near in
    let moves = now.moves ∙ ap (moves_at (moves_in s) ticket.proxy) version in
    let horizon = now.horizon ∙ ap (next_horizon s.horizon s.window) version in (
      ticket.version - s.last,
      (
        omega arith,
        grind (arith, common_steps),
        λ i. record {
          proxy = ticket.proxy;
          index = now.index i;
          version = version i;
          prev = now.prev i;
          horizon = horizon i;
          moves = moves i;
          pending = now.pending i;
        },
      ),
    )

accepted-grows : (s : Sequencer) (acts : List Act) → s.accepted ≤ (fold after s acts).accepted
accepted-grows s [] = omega arith
accepted-grows s (Moves move ∷ acts) = accepted-grows (moving s move) acts
accepted-grows s (Takes ticket ∷ acts) = omega (arith, accepted-grows (accepting s ticket) acts)
accepted-grows s (Windows window ∷ acts) = accepted-grows (windowing s window) acts

-- a ticket whose index was given is stale
pub passed_is_stale : (s : Sequencer) (ticket : Ticket) → ticket.index < s.accepted → accept_fault s ticket ≡ Some Stale
passed_is_stale s ticket passed = grind (arith, common_steps)

pub accepted_once : AcceptedOnce
accepted_once s ticket other between accepted lower =
    let index : ticket.index ≡ s.accepted = (accepted_is_now s ticket accepted).index in
    let grown = accepted-grows (accepting s ticket) between in
    passed_is_stale (fold after (accepting s ticket) between) other (omega arith)

pub indices_count_up : IndicesCountUp
indices_count_up s [] taken k found is = cc
indices_count_up s (Moves move ∷ acts) taken k found is = indices_count_up (moving s move) acts taken.1 k found is
indices_count_up s (Takes ticket ∷ acts) taken zero found is =
    let index : ticket.index ≡ s.accepted = (accepted_is_now s ticket taken.0).index in
    let same : ticket ≡ found = cc in
    let indices : ticket.index ≡ found.index = ap (λ (one : Ticket). one.index) same in
    omega arith
indices_count_up s (Takes ticket ∷ acts) taken (suc k) found is =
    let rest = indices_count_up (accepting s ticket) acts taken.1 k found is in
    omega arith
indices_count_up s (Windows window ∷ acts) taken k found is =
    indices_count_up (windowing s window) acts taken.1 k found is

-- the moves go to resolvers of which there are so many
abbrev pub Exist : ℕ → List Move → Type 0
Exist resolvers moves = AllByRecursion (λ (move : Move). move.to < resolvers) moves

-- a move that is made goes to a resolver that exists
pub moved_exists : (s : Sequencer) (move : Move) → move_fault s move ≡ None → move.to < s.resolvers
moved_exists s move made = grind (arith, common_steps)

-- so the pending ones do after it
pub pending_exist : (s : Sequencer) (move : Move) → move_fault s move ≡ None → Exist s.resolvers s.pending
    → Exist s.resolvers (moving s move).pending
pending_exist s move made exist =
    all-append (λ (one : Move). one.to < s.resolvers) s.pending (move ∷ []) exist (moved_exists s move made, tt)
