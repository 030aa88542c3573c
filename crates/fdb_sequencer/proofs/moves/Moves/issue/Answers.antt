use Rattle.std.proofs.Common.{◌∙◌, ◌<◌, ◌≤◌, sym, subst, ap, ℕ, [], List, Option, IfSome, length, vec_len}
use Rattle.std.proofs.Common.{vec_capacity, unwrap_or}
use Rattle.std.specs.List.{AllByRecursion}
use Rattle.fdb_txn.specs.declared.entry.Move.{Move}
use Rattle.fdb_sequencer.specs.Moves.{Moves, in_effect}
use Rattle.fdb_sequencer.specs.MoveFields.{moves_of}
use Rattle.fdb_sequencer.proofs.MoveLemmas.{issued_at, nothing_in_effect}
use Rattle.fdb_sequencer.proofs.moves.Moves.issue.Goals as goal

pub returns-in-Some : goal.returns-in-Some
returns-in-Some c =
    let issued = c.self.inside.issued in
    let had = c.self.inside.had.items in
    let pending_of : Option (List Move) → List Move = λ some. unwrap_or some [] in
    let is = sym c.take.ensures.value ∙ c.in-Some.is in
    let within = subst (λ (len : ℕ). AllByRecursion (λ (count : ℕ). count ≤ len) had) issued.ok.0 c.self.invariant.had
    in
    let room =
    subst (λ (some : Option (List Move)).
    IfSome some (λ moves. (0 < length moves) × (vec_len issued < vec_capacity issued))) is c.self.invariant.room in
    let some = subst (λ (moves : List Move). 0 < length moves) (sym (ap pending_of is)) room.0 in
    let unlearnt =
    issued_at issued.items c.push_reserved.new.self.items c.in-Some.moves (pending_of c.self.inside.pending) had
    c.args.version within c.push_reserved.ensures.items (sym (ap pending_of is)) some in
    let none = ap pending_of c.take.ensures.after in
    (λ i. record { pending = none i; unlearnt = unlearnt i })
    ∙ ap (λ (m : Moves). in_effect m c.args.version) c.self.view_is

pub returns-in_default : goal.returns-in_default
returns-in_default c =
    let pending_of : Option (List Move) → List Move = λ some. unwrap_or some [] in
    let is = ap pending_of (sym c.take.ensures.value ∙ c.in_default.is) in
    let none = ap pending_of c.take.ensures.after in
    (λ i. record { pending = (none ∙ sym is) i; unlearnt = (moves_of c.self.inside).unlearnt })
    ∙ nothing_in_effect (moves_of c.self.inside) c.args.version is
    ∙ ap (λ (m : Moves). in_effect m c.args.version) c.self.view_is
