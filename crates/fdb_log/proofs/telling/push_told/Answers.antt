use Rattle.std.proofs.Common.{◌≡◌, ◌∙◌, sym, ap, subst, ℕ, ◌+◌, ◌<◌, true, List, [], ◌∷◌, ◌++◌, length, get_or}
use Rattle.std.proofs.Common.{arith}
use Rattle.std.specs.Prelude.{slice_set}
use Rattle.std.proofs.lemmas.Bool.{ne_eqb}
use Rattle.std.proofs.lemmas.List.{length-set}
use Rattle.fdb_mutations.specs.declared.mutation.Mutation.{Mutation}
use Rattle.fdb_log.specs.Messages.{is_kept, sent_to, tag_message}
use Rattle.fdb_log.specs.Places.{list_at}
use Rattle.fdb_log.proofs.ToldLemmas.{AreTold, read-at, set-other, told-left, told-more}
use Rattle.fdb_log.proofs.telling.push_told.Goals as goal
use Rattle.fdb_log.proofs.telling.push_told.Goals.{then-keeps+in_ok-body+in_ok-push, else-keeps}

pub loop-tag-preserved : goal.loop-tag-preserved
loop-tag-preserved c =
    let kept = is_kept c.args.keeper.log c.args.keeper.logs c.args.keeper.tags in
    let message = c.args.message.now in
    let told = λ (tag : ℕ). tag_message tag message in
    let tag = c.loop-tag.tag in
    let now = c.loop-tag.bodies.items in
    elim c.if-keeps.branch [
      | then-keeps+in_ok-body+in_ok-push w ↦
          let kept_here : kept tag ≡ true = sym w.if-keeps.ensures in
          let within : tag < length c.loop-tag.queues = omega (arith, c.requires.queued) in
          let queue = get_or c.loop-tag.queues tag w.index-queues-tag.result in
          let body : w.in_ok-body.body ≡ sent_to tag message.body =
          w.in_ok-body.ensures.body
          ∙ c.loop-tag.invariant.left tag (omega arith)
          ∙ c.in_ok-bodies.ensures.bodies tag kept_here in
          let pushed : w.push.new.self ≡ queue ++ told tag ∷ [] =
          w.in_ok-push.ensures
          ∙ ap (λ (list : List (ℕ × Mutation)). queue
          ++ record { version = message.version; prev = message.prev; body = list } ∷ []) body in
          let left : c.if-keeps.bodies.items ≡ slice_set now tag [] =
          ap (λ vec. vec.items) w.bodies-is ∙ w.take_body.ensures.left in
          record {
            told =
                subst (AreTold kept told (tag + 1) c.args.queues.now)
                (sym (w.queues-is ∙ ap (slice_set c.loop-tag.queues tag) pushed))
                (told-more kept told tag c.args.queues.now c.loop-tag.queues c.loop-tag.invariant.told queue kept_here
                within (read-at c.loop-tag.queues tag w.index-queues-tag.result within));
            long = ap length left ∙ length-set now tag [] ∙ c.loop-tag.invariant.long;
            left = λ other from.
                ap (λ (bodies : List (List (ℕ × Mutation))). list_at bodies other) left
                ∙ set-other now tag other [] (ne_eqb other tag (λ same. absurd (omega arith)))
                ∙ c.loop-tag.invariant.left other (omega arith);
          }
      | else-keeps w ↦
          record {
            told =
                subst (AreTold kept told (tag + 1) c.args.queues.now) (sym w.queues-is)
                (told-left kept told tag c.args.queues.now c.loop-tag.queues c.loop-tag.invariant.told
                (sym w.if-keeps.ensures));
            long = ap (λ vec. length vec.items) w.bodies-is ∙ c.loop-tag.invariant.long;
            left = λ other from.
                ap (λ vec. list_at vec.items other) w.bodies-is ∙ c.loop-tag.invariant.left other (omega arith);
          }
    ]
