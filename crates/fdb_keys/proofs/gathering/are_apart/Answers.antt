use Rattle.std.proofs.Common.{◌≡◌, ◌∙◌, sym, subst, Bool, true, false, ⊎_elim, rules}
use Rattle.std.specs.List.{IsAllAdjacentAnswer}
use Rattle.std.proofs.lemmas.Bool.{cases_Bool}
use Rattle.std.proofs.lemmas.Fn.{always_returns_same}
use Rattle.fdb_keys.proofs.GatheringLemmas.{ends_before, apart-neighbours, apart-reached}
use Rattle.fdb_keys.proofs.gathering.are_apart.Goals as goal

pub returns : goal.returns
returns c =
    let ranges = c.args.ranges.now in
    let each = c.is_sorted_by.ensures.cases ends_before (always_returns_same _ _ _ (λ a r q k. search rules)) in
    let told = λ (b : Bool) (is : c.is_sorted_by.result ≡ b).
    subst (λ (r : Bool). IsAllAdjacentAnswer (λ range next b. b ≡ ends_before range next) ranges r) is each in
    ⊎_elim
    (λ apart. apart ∙ sym (apart-neighbours ranges c.requires (told true apart)))
    (λ reached.
    let pair = told false reached in
    reached ∙ sym (apart-reached ranges pair.0 pair.1 pair.2))
    (cases_Bool c.is_sorted_by.result)
