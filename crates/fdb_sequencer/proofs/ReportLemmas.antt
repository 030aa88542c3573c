-- The committed version is the greatest one that was reported.
use Rattle.std.proofs.Common.{◌≡◌, ◌⊎◌, ⊎_elim, inl, inr, refl, ℕ, max, Bool, true, ◌||◌, ◌==◌, [], ◌∷◌, arith}
use Rattle.std.proofs.lemmas.Bool.{or_cases, or_left, or_right, eq-eqb, eqb-true, cases_lt}
use Rattle.fdb_sequencer.specs.Sequencer.{accepting, moving, windowing, reporting}
use Rattle.fdb_sequencer.specs.TicketLaws.{Moves, Takes, Windows, Acts, Reports, CommittedIsTheGreatestReported}

-- the greater of two numbers is one of them
one_of : (a b end : ℕ) → max a b ≡ end → (a ≡ end) ⊎ (b ≡ end)
one_of a b end is =
    ⊎_elim (λ below. inr (omega (arith, below, is))) (λ within. inl (omega (arith, within, is))) (cases_lt a b)

-- where one of the numbers is the greater of two, one of them and the two is
pub named : (a b end : ℕ) (rest : Bool) → ((max a b == end) || rest) ≡ true
    → ((a == end) || ((b == end) || rest)) ≡ true
named a b end rest some =
    ⊎_elim (λ is. ⊎_elim (λ first. or_left (a == end) _ (eq-eqb a end first))
    (λ second. or_right (a == end) _ (or_left (b == end) rest (eq-eqb b end second)))
    (one_of a b end (eqb-true (max a b) end is)))
    (λ later. or_right (a == end) _ (or_right (b == end) rest later)) (or_cases (max a b == end) rest some)

pub greatest_reported : CommittedIsTheGreatestReported
greatest_reported s [] =
    ((omega (arith), tt), or_left (s.committed == s.committed) _ (eq-eqb s.committed _ refl))
greatest_reported s (Acts (Moves move) ∷ calls) = greatest_reported (moving s move) calls
greatest_reported s (Acts (Takes ticket) ∷ calls) = greatest_reported (accepting s ticket) calls
greatest_reported s (Acts (Windows window) ∷ calls) = greatest_reported (windowing s window) calls
greatest_reported s (Reports version ∷ calls) =
    let rest = greatest_reported (reporting s version) calls in
    ((omega (arith, rest.0.0), (omega (arith, rest.0.0), rest.0.1)), named s.committed version _ _ rest.1)
