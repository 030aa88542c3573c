-- Owners that are learnt call by call are those of the book.
use Rattle.std.proofs.Common.{◌≡◌, ◌∙◌, sym, ap, refl, ℕ, ◌<◌, ◌≤◌, Bool, true, false, List, ⊎_elim, arith}
use Rattle.std.proofs.lemmas.Bool.{cases_lt}
use Rattle.fdb_keys.specs.Points.{Point}
use Rattle.fdb_txn.specs.book.Book.{add_moves}
use Rattle.fdb_txn.specs.rules.Owners.{first_owner, owner}
use Rattle.fdb_txn.proofs.Exports.{owned_at_some_version}
use Rattle.fdb_owners.specs.Ownership.{target_after}
use Rattle.fdb_owners.specs.OwnersLaws.{NewGoesOn, LearningGoesOn, ExpiringGoesOn, OwnedByTheBook}
use Rattle.fdb_owners.proofs.OwnerLemmas.{owner-since, owner-before}
use Rattle.fdb_owners.proofs.BetweenLemmas.{owned_where_at_some_version}

-- tests that follow from one another are the same
same_test : (a b : Bool) → (a ≡ true → b ≡ true) → (b ≡ true → a ≡ true) → a ≡ b
same_test true b to back = sym (to refl)
same_test false true to back = back refl
same_test false false to back = refl

pub new_goes_on : NewGoesOn
new_goes_on splits owners new x v from = new.first x v ∙ ap (λ (s : List Point). first_owner s x) (sym new.splits_are)

pub learning_goes_on : LearningGoesOn
learning_goes_on old new moves version learnt agrees has x v from =
    let known : old.floor ≤ v = let floor = has.floor in omega (arith, from, floor) in
    ⊎_elim
    (λ (below : v < version).
    has.before x v known below ∙ agrees x v known ∙ sym (owner-before old.splits version learnt moves x v below)
    ∙ ap (λ (s : List Point). owner s (add_moves version learnt moves) x v) (sym has.splits))
    (λ (reached : version ≤ v).
    has.since x v known reached ∙ ap (λ (i : ℕ). target_after learnt x i) (agrees x v known)
    ∙ sym (owner-since old.splits version learnt moves x v reached)
    ∙ ap (λ (s : List Point). owner s (add_moves version learnt moves) x v) (sym has.splits))
    (cases_lt v version)

pub expiring_goes_on : ExpiringGoesOn
expiring_goes_on old new moves version agrees has x v from =
    let known : old.floor ≤ v = let floor = has.floor in omega (arith, from, floor) in
    has.kept x v from ∙ agrees x v known ∙ ap (λ (s : List Point). owner s moves x v) (sym has.splits)

pub owned_by_the_book : OwnedByTheBook
owned_by_the_book owners moves i x low high agrees from =
    let here = owned_where_at_some_version owners i x low high in
    let there = owned_at_some_version owners.splits i moves x low high in
    same_test _ _
    (λ held. let some = here.0 held in
    there.1 (some.0, some.1, some.2, sym (agrees x some.0 (omega (arith, from, some.1))) ∙ some.3))
    (λ held. let some = there.0 held in
    here.1 (some.0, some.1, some.2, agrees x some.0 (omega (arith, from, some.1)) ∙ some.3))
