use Rattle.std.proofs.Common.{◌∙◌, sym, ap, ℕ, List, ◌∷◌, take, get_or}
use Rattle.std.proofs.lemmas.List.{take_more}
use Rattle.fdb_log.specs.Messages.{is_kept}
use Rattle.fdb_log.specs.TagSets.{is_among, tags_that}
use Rattle.fdb_log.specs.Waiting.{kept_among}
use Rattle.fdb_log.proofs.TagSetLemmas.{few-kept, kept-none, kept-more, kept-left}
use Rattle.fdb_log.proofs.keeper.kept_tags.Goals as goal
use Rattle.fdb_log.proofs.keeper.kept_tags.Goals.{then-keeps, else-keeps}

pub loop-tag-init : goal.loop-tag-init
loop-tag-init c =
    c.empty-tags.ensures ∙ sym (kept-none (is_kept c.args.keeper.log c.args.keeper.logs c.args.keeper.tags))

pub add-requires : goal.add-requires
add-requires c =
    few-kept c.args.keeper.log c.args.keeper.logs c.args.keeper.tags c.requires.few _
    (sym c.keeps.ensures ∙ c.if-keeps.true)

pub loop-tag-preserved : goal.loop-tag-preserved
loop-tag-preserved c =
    let kept = is_kept c.args.keeper.log c.args.keeper.logs c.args.keeper.tags in
    let tags = c.as_slice-tag-items.result.now in
    let it = get_or tags c.loop-tag.tag-index 0 in
    let front = take c.loop-tag.tag-index tags in
    let next = ap (kept_among kept) (sym (take_more tags c.loop-tag.tag-index 0 c.loop-tag-test.true)) in
    elim c.if-keeps.branch [
      | then-keeps w ↦
          w.tags-is
          ∙ w.add.ensures
          ∙ ap (λ (set : List ℕ). tags_that (is_among (it ∷ set))) c.loop-tag.invariant
          ∙ kept-more kept front it (sym w.if-keeps.ensures)
          ∙ next
      | else-keeps w ↦
          w.tags-is ∙ c.loop-tag.invariant ∙ kept-left kept front it (sym w.if-keeps.ensures) ∙ next
    ]
