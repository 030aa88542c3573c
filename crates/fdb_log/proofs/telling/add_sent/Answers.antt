use Rattle.std.proofs.Common.{◌≡◌, ◌∙◌, sym, ap, refl, subst, ℕ, ◌<◌, List, [], ◌∷◌, ◌++◌, length, rules}
use Rattle.std.specs.Prelude.{slice_set}
use Rattle.fdb_mutations.specs.declared.mutation.Mutation.{Mutation}
use Rattle.fdb_log.specs.Messages.{is_kept}
use Rattle.fdb_log.specs.Waiting.{kept_among}
use Rattle.fdb_log.proofs.AddedLemmas.{AreLeft, added-kept, left-all, left-none, left-next, left-there}
use Rattle.fdb_log.proofs.TagSetLemmas.{few-kept, kept-low}
use Rattle.fdb_log.proofs.ToldLemmas.{read-at}
use Rattle.fdb_log.proofs.telling.add_sent.Goals as goal
use Rattle.fdb_log.proofs.telling.add_sent.Goals.{In-Some}

pub loop-tag-init : goal.loop-tag-init
loop-tag-init c =
    let keeper = c.args.keeper in
    let sent = c.args.sent.now in
    let set = kept_among (is_kept keeper.log keeper.logs keeper.tags) sent.tags in
    subst (λ (left : List ℕ). AreLeft (sent.place, sent.mutation) set left c.args.bodies.now.items
    c.args.bodies.now.items) (sym c.kept_tags-left.ensures)
    (left-all (sent.place, sent.mutation) set c.args.bodies.now.items
    (λ tag among. subst (λ (count : ℕ). tag < count) (sym c.requires.long)
    (kept-low keeper.log keeper.logs keeper.tags sent.tags tag among)))

-- the next tag has a body
there : (c : In-Some) → c.in-Some.tag < length c.loop-tag.bodies.items
there c =
    left-there (c.args.sent.now.place, c.args.sent.now.mutation)
    (kept_among (is_kept c.args.keeper.log c.args.keeper.logs c.args.keeper.tags) c.args.sent.now.tags)
    c.args.bodies.now.items c.loop-tag.left c.in-Some.tag c.pop_first.new.self c.loop-tag.bodies.items
    c.in-Some.ensures.first c.loop-tag.invariant

pub index_mut-body-requires : goal.index_mut-body-requires
index_mut-body-requires c =
    let it = c.in-Some.tag in
    let within : it < length c.loop-tag.bodies.items = there (goal.at.index_mut-body-requires c).In-Some in
    search rules

pub loop-tag-preserved : goal.loop-tag-preserved
loop-tag-preserved c =
    let here = (goal.at.loop-tag-preserved c).In-Some in
    let keeper = c.args.keeper in
    let sent = c.args.sent.now in
    let set = kept_among (is_kept keeper.log keeper.logs keeper.tags) sent.tags in
    let one : ℕ × Mutation = (sent.place, sent.mutation) in
    let it = c.in-Some.tag in
    let now = c.loop-tag.bodies.items in
    let body = c.index_mut-body.result.now in
    let same : c.in_ok-clone.field-0 ≡ sent.mutation = search rules in
    let pushed : c.push.new.self ≡ body ++ one ∷ [] =
    c.in_ok-push.ensures.ok ∙ ap (λ (mutation : Mutation). body ++ (sent.place, mutation) ∷ []) same in
    subst (λ (list : List (ℕ × Mutation)). AreLeft one set c.pop_first.new.self c.args.bodies.now.items
    (slice_set now it list)) (sym pushed)
    (left-next one set c.args.bodies.now.items c.loop-tag.left it c.pop_first.new.self now body
    c.in-Some.ensures.first c.in-Some.ensures.once (c.index_mut-body.ensures.value ∙ read-at now it body (there here))
    c.loop-tag.invariant)

pub returns : goal.returns
returns c =
    let keeper = c.args.keeper in
    let sent = c.args.sent.now in
    let kept = is_kept keeper.log keeper.logs keeper.tags in
    let one : ℕ × Mutation = (sent.place, sent.mutation) in
    let old = c.args.bodies.now.items in
    let new = c.loop-tag.bodies.items in
    record {
      long = c.loop-tag.invariant.long ∙ c.requires.long;
      added = added-kept kept (few-kept keeper.log keeper.logs keeper.tags c.requires.few) one sent.tags
          (kept_among kept sent.tags) old new refl
          (left-none one (kept_among kept sent.tags) old c.loop-tag.left new c.in_default.ensures.first
          c.loop-tag.invariant);
    }
