use Rattle.std.proofs.Common.{◌≡◌, ◌∙◌, ap, ℕ, List, [], ◌∷◌, take, fold, Option, None}
use Rattle.std.specs.Cmp.Lexicographic.{slice_cmp}
use Rattle.std.specs.FinMap.{empty, get-empty}
use Rattle.std.specs.Ordering.{nat_cmp}
use Rattle.fdb_keys.specs.Points.{point_lt}
use Rattle.fdb_mutations.specs.Mutations.{value_after}
use Rattle.fdb_txn.specs.rules.Messages.{mutations_in}
use Rattle.fdb_txn.proofs.Exports.{get-effects}
use Rattle.fdb_proxy.specs.declared.outcome.Outcome.{Outcome}
use Rattle.fdb_proxy.specs.declared.outcome.Outcome.TheVariants as outcome
use Rattle.fdb_roles.specs.Bodies.{body_by}
use Rattle.fdb_check.specs.RunExamples.{two, both, left_at}
use Rattle.fdb_check.proofs.laws.worked_runs.Goals as goal

-- what stands at a key is what the mutations leave of nothing
left : (key : ℕ) (outcomes : List Outcome) (count : ℕ)
    → left_at key outcomes count
    ≡ fold (value_after (key ∷ [])) None (mutations_in (body_by 0 (take count two) (take count outcomes)))
left key outcomes count =
    get-effects empty (mutations_in (body_by 0 (take count two) (take count outcomes))) (key ∷ [])
    ∙ ap (λ (value : Option (List ℕ)).
    fold (value_after (key ∷ [])) value (mutations_in (body_by 0 (take count two) (take count outcomes))))
    (get-empty {X = List ℕ} (slice_cmp nat_cmp) (key ∷ []))

pub returns : goal.returns
unfolding point_lt
returns c = (
  left 1 both 1,
  left 2 both 1,
  left 1 both 2,
  left 2 both 2,
  left 3 both 2,
  left 1 (outcome.Conflict ∷ outcome.Commit 200 1 ∷ []) 2,
  left 2 (outcome.Conflict ∷ outcome.Commit 200 1 ∷ []) 2,
  left 2 (outcome.Commit 200 0 ∷ outcome.Old ∷ []) 2,
)
