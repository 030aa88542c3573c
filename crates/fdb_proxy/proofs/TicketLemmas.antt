-- A ticket's moves are learnt version by version.
use Rattle.std.proofs.Common.{◌≡◌, ◌∙◌, refl, sym, ap, subst, ℕ, zero, suc, ◌+◌, ◌<◌, ◌≤◌, Bool, true, false, not, List}
use Rattle.std.proofs.Common.{[], ◌∷◌, take, drop, get_or, slice_get, Option, Some, None, Ok, nat_le, if◌then◌else◌}
use Rattle.std.proofs.Common.{arith}
use Rattle.std.specs.List.{AllByRecursion, list_any}
use Rattle.std.proofs.lemmas.Bool.{lt-leb, leb-false, or_parts}
use Rattle.std.proofs.lemmas.List.{take_more}
use Rattle.std.proofs.lemmas.List.Sums.{fold-append}
use Rattle.std.proofs.lemmas.Option.{slice_get_within, get_or_from_slice_get}
use Rattle.fdb_keys.specs.Answers.{Answers, AnswersExactly}
use Rattle.fdb_keys.specs.declared.refusal.Refusal.{Refusal}
use Rattle.fdb_keys.specs.declared.refusal.Refusal.TheVariants.{Stale, Failed, WrongState}
use Rattle.fdb_sequencer.specs.declared.dated.Dated.{Dated}
use Rattle.fdb_sequencer.specs.declared.ticket.Ticket.{Ticket}
use Rattle.fdb_sequencer.specs.TicketLaws.{AreRisingUpTo}
use Rattle.fdb_txn.specs.declared.entry.Move.{Move}
use Rattle.fdb_txn.specs.book.Book.{DatedMove, add_moves}
use Rattle.fdb_owners.specs.Ownership.{Ownership, learn_fault, HasLearnt}
use Rattle.fdb_owners.specs.OwnersLaws.{AgreesWith}
use Rattle.fdb_owners.proofs.Exports.{learning_goes_on}
use Rattle.fdb_proxy.specs.CommitProxies.{CommitProxy, is_sealed, is_stale, moves_with, learn_fault as ticket_fault}

-- each of the moves is of a version above this one
abbrev pub AreAbove : ℕ → List Dated → Type 0
AreAbove version dated = AllByRecursion (λ (of : Dated). version < of.version) dated

-- the moves at an index are of a version up to the greatest one, and the later ones are of greater versions
pub rising-at : (version : ℕ) (dated : List Dated) (i : ℕ) (of : Dated) → AreRisingUpTo version dated
    → slice_get dated i ≡ Some of → (of.version ≤ version) × AreAbove of.version (drop (suc i) dated)
rising-at version [] i of rising there = cc
rising-at version (first ∷ dated) zero of rising there =
    let same : first ≡ of = cc in
    subst (λ (one : Dated). (one.version ≤ version) × AreAbove one.version dated) same (rising.0, rising.1)
rising-at version (first ∷ dated) (suc i) of rising there = rising-at version dated i of rising.2 there

-- so are those at an index of a list of which all are
pub above-at : (version : ℕ) (dated : List Dated) (i : ℕ) (of : Dated) → AreAbove version (drop i dated)
    → slice_get dated i ≡ Some of → version < of.version
above-at version [] i of above there = cc
above-at version (first ∷ dated) zero of above there =
    let same : first ≡ of = cc in subst (λ (one : Dated). version < one.version) same above.0
above-at version (first ∷ dated) (suc i) of above there = above-at version dated i of above there

-- moves of a later version may be learnt
pub may-learn : (owners : Ownership) (version : ℕ) → owners.last < version → learn_fault owners version ≡ None
may-learn owners version above =
    ap (λ (b : Bool). if b then Some Stale else None) (lt-leb version owners.last above)

-- the moves at an index come after those before it
moves-next : (dated : List Dated) (i : ℕ) (of : Dated) (older : List DatedMove) → slice_get dated i ≡ Some of
    → moves_with (take (i + 1) dated) older ≡ add_moves of.version of.moves (moves_with (take i dated) older)
moves-next dated i of older there =
    ap (λ (some : List Dated). moves_with some older) (take_more dated i of (slice_get_within dated i of there))
    ∙ fold-append (λ (moves : List DatedMove) (one : Dated). add_moves one.version one.moves moves) older (take i dated)
    (get_or dated i of ∷ [])
    ∙ ap (λ (one : Dated). add_moves one.version one.moves (moves_with (take i dated) older))
    (get_or_from_slice_get dated i of of there)

-- owners that agreed with the moves before those at an index agree with them too, once these were learnt
pub agrees-next : (dated : List Dated) (i : ℕ) (of : Dated) (learnt : List Move) (first old new : Ownership)
    → slice_get dated i ≡ Some of → learnt ≡ of.moves → HasLearnt old of.version learnt new
    → ((moves : List DatedMove) → AgreesWith first moves → AgreesWith old (moves_with (take i dated) moves))
    → (moves : List DatedMove) → AgreesWith first moves → AgreesWith new (moves_with (take (i + 1) dated) moves)
agrees-next dated i of learnt first old new there same has before moves agrees =
    subst (AgreesWith new) (sym (moves-next dated i of moves there))
    (learning_goes_on old new (moves_with (take i dated) moves) of.version of.moves (before moves agrees)
    (subst (λ (ms : List Move). HasLearnt old of.version ms new) same has))

-- a call that gave something left what it says
pub given-leaves : {T : Type 0} (fault : Option Refusal) (given : T) (P : T → Type 0)
    → Answers (Ok given) fault P → P given
given-leaves None given P answers = answers
given-leaves (Some why) given P answers = absurd answers

-- one that takes no memory and gave something had no fault
pub given-none : {T : Type 0} (fault : Option Refusal) (given : T) (P : T → Type 0)
    → AnswersExactly (Ok given) fault P → fault ≡ None
given-none None given P answers = refl
given-none (Some why) given P answers = absurd answers

fresh-fault : (failed unsealed stale : Bool)
    → (if failed then Some Failed else (if unsealed then Some WrongState else (if stale then Some Stale else None)))
    ≡ None
    → stale ≡ false
fresh-fault true unsealed stale none = cc
fresh-fault false true stale none = cc
fresh-fault false false true none = cc
fresh-fault false false false none = refl

none-below : (last lower : ℕ) (dated : List Dated) → lower ≤ last
    → list_any (λ (of : Dated). nat_le of.version last) dated ≡ false → AreAbove lower dated
none-below last lower [] from none = tt
none-below last lower (of ∷ dated) from none =
    let above = or_parts (nat_le of.version last) (list_any (λ (one : Dated). nat_le one.version last) dated) none in
    (omega (arith, from, leb-false of.version last above.0), none-below last lower dated from above.1)

-- a ticket that may be learnt has moves above what the owners learnt
pub moves-above : (p : CommitProxy) (ticket : Ticket) → ticket_fault p ticket ≡ None → p.owners.last ≤ p.last
    → AreAbove p.owners.last ticket.moves
moves-above p ticket none learnt =
    none-below p.last p.owners.last ticket.moves learnt
    (or_parts (nat_le ticket.version p.last) (list_any (λ (of : Dated). nat_le of.version p.last) ticket.moves)
    (fresh-fault p.is_failed (not (is_sealed p.stage)) (is_stale p.last ticket) none)).1
