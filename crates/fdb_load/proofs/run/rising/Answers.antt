use Rattle.std.proofs.Common.{◌≡◌, ◌∙◌, sym, subst, Bool, true, false, ⊎_elim, rules}
use Rattle.std.specs.List.{IsAllAdjacentAnswer}
use Rattle.std.proofs.lemmas.Bool.{cases_Bool, false≢true}
use Rattle.std.proofs.lemmas.Fn.{always_returns_same}
use Rattle.fdb_load.specs.declared.run.Place.{Place}
use Rattle.fdb_load.specs.Runs.{is_before}
use Rattle.fdb_load.proofs.run.rising.Goals as goal

pub returns : goal.returns
returns c =
    let places = c.args.places.now in
    let each = c.is_sorted_by.ensures.cases is_before (always_returns_same _ _ _ (λ a r q k. search rules)) in
    let told = λ (b : Bool) (is : c.is_sorted_by.result ≡ b).
    subst (λ (r : Bool). IsAllAdjacentAnswer (λ place next b. b ≡ is_before place next) places r) is each in
    let any : Place = record { index = 0; place = 0 } in (
      λ rises. told true rises,
      λ rising. ⊎_elim
          (λ rises. rises)
          (λ falls.
          let pair = told false falls in
          absurd (false≢true (pair.2 any ∙ sym (rising pair.0 any pair.1))))
          (cases_Bool c.is_sorted_by.result),
    )
