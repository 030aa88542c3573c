use Rattle.std.proofs.Common.{◌≡◌, ◌∙◌, sym, ap, subst, ℕ, ◌<◌, true, List, [], ◌∷◌, ◌++◌, length}
use Rattle.std.specs.List.{AllByRecursion}
use Rattle.fdb_log.specs.Places.{Holding, list_at, with_one}
use Rattle.fdb_log.specs.TagSets.{is_among}
use Rattle.fdb_log.specs.Waiting.{Waiting, ComesBefore}
use Rattle.fdb_log.proofs.WaitingLemmas.{inserted-last}
use Rattle.fdb_log.proofs.held.Held.add_one.Goals as goal

pub add_place-requires : goal.add_place-requires
add_place-requires c =
    subst (λ (lists : List (List (ℕ × ℕ))). (tag : ℕ) → is_among c.args.tags tag ≡ true → tag < length lists)
    (sym (ap (λ (held : Holding). held.places) c.self.view_is)) c.requires.within

pub returns-clause-waiting : goal.returns-clause-waiting
returns-clause-waiting c =
    let view : c.self.inside.tags.entries ≡ c.args.self.now.waiting =
    ap (λ (held : Holding). held.waiting) c.self.view_is in
    c.in_ok-insert.ensures.entries
    ∙ inserted-last c.args.place c.args.tags c.self.inside.tags.entries
    (subst (λ (list : List Waiting). AllByRecursion (λ (one : Waiting). ComesBefore one.0 c.args.place) list)
    (sym view) c.requires.last)
    ∙ ap (λ (list : List Waiting). list ++ (c.args.place, c.args.tags) ∷ []) view

pub returns-clause-placed : goal.returns-clause-placed
returns-clause-placed c =
    c.in_ok-add_place.ensures.placed ∙ ap (λ (held : Holding). length held.places) c.self.view_is

pub returns-clause-places : goal.returns-clause-places
returns-clause-places c =
    subst (λ (lists : List (List (ℕ × ℕ))). (tag : ℕ)
    → list_at c.add_place.new.places.items tag ≡ with_one c.args.place c.args.tags lists tag)
    (ap (λ (held : Holding). held.places) c.self.view_is) c.in_ok-add_place.ensures.added
