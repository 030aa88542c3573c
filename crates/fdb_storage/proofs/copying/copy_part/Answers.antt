use Rattle.std.proofs.Common.{◌≡◌, ◌∙◌, ap, ap₂, ℕ, List, Option, false}
use Rattle.fdb_keys.specs.Points.{Point}
use Rattle.fdb_storage.specs.CutMaps.{set_by, has_key}
use Rattle.fdb_storage.specs.KeyPages.{pairs_of}
use Rattle.fdb_storage.proofs.CopiedLemmas.{set-inside, set-outside}
use Rattle.fdb_storage.proofs.ChangesLemmas.{answers-then}
use Rattle.fdb_storage.proofs.copying.copy_part.Goals as goal
use Rattle.fdb_storage.proofs.copying.copy_part.Goals.{After-drop-page}

pairs-are : (c : After-drop-page)
    → c.as_slice.result.now ≡ pairs_of c.args.keys.now.entries c.args.version c.args.part.now false
pairs-are c = c.as_slice.ensures ∙ c.in_ok-page.ensures.page.0

pub returns-clause-answers : goal.returns-clause-answers
returns-clause-answers c =
    let here = (goal.at.returns-clause-answers c).After-drop-page in
    answers-then c.set_all.result _ _
    (λ set x inside none.
    set x
    ∙ ap₂ (λ (pairs : List (Point × List ℕ)) (before : Option (List ℕ)). set_by pairs x before) (pairs-are here) none
    ∙ set-inside c.args.version c.args.part.now c.args.keys.now.entries x c.page_of.ensures.sorted inside)
    c.set_all.ensures.answers

pub returns-clause-outside : goal.returns-clause-outside
returns-clause-outside c x outside =
    let here = (goal.at.returns-clause-outside c).After-drop-page in
    c.set_all.ensures.others x (ap (has_key x) (pairs-are here)
    ∙ set-outside c.args.version c.args.part.now c.args.keys.now.entries x outside)
