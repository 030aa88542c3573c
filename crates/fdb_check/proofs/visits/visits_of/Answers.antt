use Rattle.std.proofs.Common.{◌≡◌, ◌∙◌, ◌<◌, ◌+◌, ◌++◌, ◌∷◌, [], ap, ap₂, sym, subst, refl, add-one, ℕ, length, List}
use Rattle.std.proofs.Common.{take, Some, slice_get, rules, arith}
use Rattle.std.specs.List.{All}
use Rattle.std.proofs.lemmas.List.Elements.{All-push}
use Rattle.std.proofs.lemmas.Option.{slice_get_read}
use Rattle.fdb_check.specs.declared.visits.Visit.{Visit}
use Rattle.fdb_check.specs.Running.{visits_from}
use Rattle.fdb_check.proofs.VisitLemmas.{visit, visits-next}
use Rattle.fdb_check.proofs.visits.visits_of.Goals as goal

pub loop-index-preserved : goal.loop-index-preserved
loop-index-preserved c =
    let placed = c.args.placed.now in
    let book = c.args.book.now in
    let i = c.loop-index.index in
    let before = c.loop-index.visits.items in
    let one = c.visit_of.result in
    let within : i < length placed = search rules in
    let there : slice_get placed i ≡ Some c.index-placed-index.result = slice_get_read placed (length placed) i
    c.index-placed-index.result refl within c.index-placed-index.is in
    let none : i ≡ 0 + i = omega arith in
    let pushed : c.push.new.self.items ≡ before ++ one ∷ [] = c.in-Ok.ensures.items in
    let inside : one.index < length placed = subst (λ (k : ℕ). k < length placed) (sym c.visit_of.ensures.index)
    within in (
      subst (All (λ (of : Visit). of.index < length placed)) (sym pushed)
          (All-push (λ (of : Visit). of.index < length placed) before one c.loop-index.invariant.0 inside),
      λ resolvers entries.
          pushed
          ∙ ap₂ (λ (visits : List Visit) (of : Visit). visits ++ of ∷ [])
          (c.loop-index.invariant.1 resolvers entries) (c.visit_of.ensures.moment resolvers entries)
          ∙ ap (λ (n : ℕ). visits_from book 0 (take i placed) ++ visit book n c.index-placed-index.result ∷ []) none
          ∙ sym (ap (λ (n : ℕ). visits_from book 0 (take n placed)) (add-one i) ∙ visits-next book 0 i placed
          c.index-placed-index.result there),
    )
