-- The test of histories is that they are the same.
use Rattle.std.proofs.Common.{◌≡◌, ◌∙◌, ap, refl, Bool, true, ◌&&◌, ◌==◌, List, [], ◌∷◌}
use Rattle.std.proofs.lemmas.Bool.{both_ways, and_parts, eqb-true, eq-eqb}
use Rattle.fdb_owners.specs.declared.history.Change.{Change}
use Rattle.fdb_owners.specs.declared.history.History.{History}
use Rattle.fdb_owners.specs.Histories.{same_changes, same_history}

same_changes-itself : (changes : List Change) → same_changes changes changes ≡ true
same_changes-itself [] = refl
same_changes-itself (change ∷ older) =
    ap (λ (t : Bool). t && (change.owner == change.owner) && same_changes older older)
    (eq-eqb change.version change.version refl)
    ∙ ap (λ (t : Bool). t && same_changes older older) (eq-eqb change.owner change.owner refl)
    ∙ same_changes-itself older

pub same_history-itself : (history : History) → same_history history history ≡ true
same_history-itself history =
    ap (λ (t : Bool). t && same_changes history.changes history.changes) (eq-eqb history.first history.first refl)
    ∙ same_changes-itself history.changes

same_changes-true : (changes others : List Change) → same_changes changes others ≡ true → changes ≡ others
same_changes-true [] [] same = refl
same_changes-true [] (other ∷ others) same = absurd (both_ways _ refl same)
same_changes-true (change ∷ older) [] same = absurd (both_ways _ refl same)
same_changes-true (change ∷ older) (other ∷ others) same =
    let parts : (((change.version == other.version) && (change.owner == other.owner)) ≡ true)
    × (same_changes older others ≡ true) = and_parts _ _ same in
    let first : ((change.version == other.version) ≡ true) × ((change.owner == other.owner) ≡ true) =
    and_parts _ _ parts.0 in
    let versions : change.version ≡ other.version = eqb-true _ _ first.0 in
    let owners : change.owner ≡ other.owner = eqb-true _ _ first.1 in
    let olders : older ≡ others = same_changes-true older others parts.1 in
    λ i. record { version = versions i; owner = owners i } ∷ olders i

pub same_history-true : (history other : History) → same_history history other ≡ true → history ≡ other
same_history-true history other same =
    let parts : ((history.first == other.first) ≡ true) × (same_changes history.changes other.changes ≡ true) =
    and_parts _ _ same in
    let firsts : history.first ≡ other.first = eqb-true _ _ parts.0 in
    let changes : history.changes ≡ other.changes = same_changes-true _ _ parts.1 in
    λ i. record { first = firsts i; changes = changes i }
