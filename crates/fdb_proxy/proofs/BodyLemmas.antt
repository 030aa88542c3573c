-- The lists of the logs, to which one mutation more is given.
use Rattle.std.proofs.Common.{◌≡◌, ◌∙◌, sym, ap, ℕ, ◌+◌, ◌<◌, ◌≤◌, ◌%◌, Bool, true, false, ◌||◌, List, [], ◌∷◌, ◌++◌}
use Rattle.std.proofs.Common.{length}
use Rattle.std.proofs.Common.{⊎_elim, arith}
use Rattle.std.specs.Prelude.{◌==◌, slice_set, filter}
use Rattle.std.specs.List.{list_any}
use Rattle.std.proofs.lemmas.Bool.{cases_Bool, cond-true, cond-false, eqb-true, eqb-false, ne_eqb, or_left, cases_lt}
use Rattle.std.proofs.lemmas.List.{append-nil}
use Rattle.fdb_log.specs.declared.message.Tagged.{Tagged}
use Rattle.fdb_log.specs.Places.{list_at}
use Rattle.fdb_log.proofs.Exports.{set-same, set-other}
use Rattle.fdb_storage.specs.LogMessages.{is_for_log}
use Rattle.fdb_proxy.specs.Bodies.{AreGiven}

-- the one mutation is for the log
filter-kept : (logs log : ℕ) (sent : Tagged) → is_for_log logs log sent ≡ true
    → filter (is_for_log logs log) (sent ∷ []) ≡ sent ∷ []
filter-kept logs log sent is = cond-true (is_for_log logs log sent) (sent ∷ []) [] is

-- or it isn't
filter-left : (logs log : ℕ) (sent : Tagged) (list : List Tagged) → is_for_log logs log sent ≡ false
    → list ++ filter (is_for_log logs log) (sent ∷ []) ≡ list
filter-left logs log sent list isnt =
    ap (λ (more : List Tagged). list ++ more) (cond-false (is_for_log logs log sent) (sent ∷ []) [] isnt)
    ∙ append-nil list

-- it was given to the first logs
pub record AreGivenBelow (logs log : ℕ) (sent : Tagged) (old now : List (List Tagged)) : Type 0 where
  pub given : (other : ℕ) → other < log
      → list_at now other ≡ list_at old other ++ filter (is_for_log logs other) (sent ∷ [])
  pub left : (other : ℕ) → log ≤ other → list_at now other ≡ list_at old other

module _ (logs log : ℕ) (sent : Tagged) (old now : List (List Tagged)) (are : AreGivenBelow logs log sent old now) where
  -- the next log keeps none of its tags
  pub given-left : is_for_log logs log sent ≡ false → AreGivenBelow logs (log + 1) sent old now
  given-left isnt =
      record {
        given = λ other below.
            ⊎_elim
            (λ less. are.given other less)
            (λ later.
            let same : other ≡ log = omega arith in
            are.left other later
            ∙ sym (filter-left logs other sent (list_at old other)
            (ap (λ (it : ℕ). is_for_log logs it sent) same ∙ isnt)))
            (cases_lt other log);
        left = λ other from. are.left other (omega arith);
      }

  -- or it keeps one
  pub given-more : (body : List Tagged) → is_for_log logs log sent ≡ true → log < length now
      → body ≡ list_at now log → AreGivenBelow logs (log + 1) sent old (slice_set now log (body ++ sent ∷ []))
  given-more body is within reads =
      record {
        given = λ other below.
            ⊎_elim
            (λ less.
            set-other now log other (body ++ sent ∷ []) (ne_eqb other log (λ same. absurd (omega arith)))
            ∙ are.given other less)
            (λ later.
            let same : other ≡ log = omega arith in
            ap (list_at (slice_set now log (body ++ sent ∷ []))) same
            ∙ set-same now log (body ++ sent ∷ []) within
            ∙ ap (λ (front : List Tagged). front ++ sent ∷ []) (reads ∙ are.left log (omega arith))
            ∙ ap (λ (more : List Tagged). list_at old log ++ more) (sym (filter-kept logs log sent is))
            ∙ ap (λ (it : ℕ). list_at old it ++ filter (is_for_log logs it) (sent ∷ [])) (sym same))
            (cases_lt other log);
        left = λ other from.
            set-other now log other (body ++ sent ∷ []) (ne_eqb other log (λ same. absurd (omega arith)))
            ∙ are.left other (omega arith);
      }

-- one with one tag is for the log of the tag
pub given-one : (logs tag : ℕ) (sent : Tagged) (old new : List (List Tagged))
    → sent.tags ≡ tag ∷ [] → tag % logs < length old
    → new ≡ slice_set old (tag % logs) (list_at old (tag % logs) ++ sent ∷ []) → AreGiven logs sent old new
given-one logs tag sent old new one within is log below =
    let test : is_for_log logs log sent ≡ (((tag % logs) == log) || false) =
    ap (λ (tags : List ℕ). list_any (λ (it : ℕ). (it % logs) == log) tags) one in
    ap (λ (lists : List (List Tagged)). list_at lists log) is
    ∙ ⊎_elim
    (λ here.
    let same : tag % logs ≡ log = eqb-true (tag % logs) log here in
    ap (list_at (slice_set old (tag % logs) (list_at old (tag % logs) ++ sent ∷ []))) (sym same)
    ∙ set-same old (tag % logs) (list_at old (tag % logs) ++ sent ∷ []) within
    ∙ ap (λ (it : ℕ). list_at old it ++ sent ∷ []) same
    ∙ ap (λ (more : List Tagged). list_at old log ++ more)
    (sym (filter-kept logs log sent (test ∙ or_left ((tag % logs) == log) false here))))
    (λ apart.
    set-other old (tag % logs) log (list_at old (tag % logs) ++ sent ∷ [])
    (ne_eqb log (tag % logs) (λ same. eqb-false (tag % logs) log apart (sym same)))
    ∙ sym (filter-left logs log sent (list_at old log) (test ∙ ap (λ (b : Bool). b || false) apart)))
    (cases_Bool ((tag % logs) == log))
