use Rattle.std.proofs.Common.{◌∙◌, sym, subst, ℕ, ◌<◌, List, length, rules}
use Rattle.std.specs.Prelude.{slice_set}
use Rattle.fdb_log.proofs.AddedLemmas.{AreLeft, left-all, left-none, left-next, left-there}
use Rattle.fdb_log.proofs.ToldLemmas.{read-at}
use Rattle.fdb_log.proofs.held.add_place.Goals as goal
use Rattle.fdb_log.proofs.held.add_place.Goals.{In-Some}

pub loop-tag-init : goal.loop-tag-init
loop-tag-init c =
    subst (λ (left : List ℕ). AreLeft c.args.place c.args.tags.now left c.args.places.now.items c.args.places.now.items)
    (sym c.copy-left.ensures) (left-all c.args.place c.args.tags.now c.args.places.now.items c.requires)

-- the next tag has a list
there : (c : In-Some) → c.in-Some.tag < length c.loop-tag.places.items
there c =
    left-there c.args.place c.args.tags.now c.args.places.now.items c.loop-tag.left c.in-Some.tag c.pop_first.new.self
    c.loop-tag.places.items c.in-Some.ensures.first c.loop-tag.invariant

pub index_mut-own-requires : goal.index_mut-own-requires
index_mut-own-requires c =
    let it = c.in-Some.tag in
    let within : it < length c.loop-tag.places.items = there (goal.at.index_mut-own-requires c).In-Some in search rules

pub loop-tag-preserved : goal.loop-tag-preserved
loop-tag-preserved c =
    let here = (goal.at.loop-tag-preserved c).In-Some in
    let it = c.in-Some.tag in
    let now = c.loop-tag.places.items in
    let body = c.index_mut-own.result.now in
    subst (λ (list : List (ℕ × ℕ)). AreLeft c.args.place c.args.tags.now c.pop_first.new.self c.args.places.now.items
    (slice_set now it list)) (sym c.in_ok-push.ensures)
    (left-next c.args.place c.args.tags.now c.args.places.now.items c.loop-tag.left it c.pop_first.new.self now body
    c.in-Some.ensures.first c.in-Some.ensures.once (c.index_mut-own.ensures.value ∙ read-at now it body (there here))
    c.loop-tag.invariant)

pub returns : goal.returns
returns c = record {
  placed = c.loop-tag.invariant.long;
  added = left-none c.args.place c.args.tags.now c.args.places.now.items c.loop-tag.left c.loop-tag.places.items
      c.in_default.ensures.first c.loop-tag.invariant;
}
