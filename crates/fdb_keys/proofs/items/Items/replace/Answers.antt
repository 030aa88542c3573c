use Rattle.std.proofs.Common.{◌≡◌, ◌∙◌, sym, ap, ◌++◌, ◌∷◌, [], List, Some, map-id, take, drop}
use Rattle.std.specs.Iterator.{Drains}
use Rattle.std.specs.Iterator.Adapters.{once_item, once_steps}
use Rattle.std.proofs.lemmas.Iterator.{items_from_drains}
use Rattle.std.proofs.lemmas.Iterator.Adapters.{YieldsList-from_once}
use Rattle.fdb_keys.proofs.items.Items.replace.Goals as goal

-- an iterator of one item gives that item
only_item : {T : Type 0} (s : _) (xs : List T) (item : T) → once_item s ≡ Some item → Drains once_steps s xs
    → xs ≡ item ∷ []
only_item s xs item has given =
    sym (map-id xs)
    ∙ items_from_drains xs (given.1.0, given.1.1, λ _. (given.0, given.1.2)) (YieldsList-from_once (Some item) has)

pub returns-clause-ok : goal.returns-clause-ok
returns-clause-ok g c =
    let spliced = c.in_ok-_replaced.ensures.items in
    let before = c.self.inside.list.items in
    spliced.4
    ∙ ap (λ (put : List _). take c.args.start before ++ (put ++ drop c.args.end before))
    (only_item spliced.0 spliced.1 c.args.item spliced.2.0 spliced.3)
    ∙ ap (λ (list : List _). take c.args.start list ++ c.args.item ∷ drop c.args.end list)
    (c.self.view_is ∙ c.hold.ensures)
