use Rattle.std.proofs.Common.{◌≡◌, ◌∙◌, sym, ap, ℕ, ◌<◌, List, [], ◌∷◌, ◌++◌, take, length, get_or, map, rules}
use Rattle.std.specs.Prelude.{filter}
use Rattle.std.proofs.lemmas.List.{take_more, map-append}
use Rattle.std.proofs.lemmas.List.Elements.{filter-append}
use Rattle.fdb_mutations.specs.declared.mutation.Mutation.{Mutation}
use Rattle.fdb_log.specs.declared.message.Tagged.{Tagged}
use Rattle.fdb_log.specs.Messages.{is_kept, has_tag, sent_to}
use Rattle.fdb_log.proofs.AddedLemmas.{added-all}
use Rattle.fdb_log.proofs.telling.bodies_of.Goals as goal

sent_to-push : (tag : ℕ) (body : List Tagged) (sent : Tagged)
    → sent_to tag (body ++ sent ∷ []) ≡ sent_to tag body ++ sent_to tag (sent ∷ [])
sent_to-push tag body sent =
    ap (map (λ (one : Tagged). (one.place, one.mutation))) (filter-append (has_tag tag) body (sent ∷ []))
    ∙ map-append (λ (one : Tagged). (one.place, one.mutation)) (filter (has_tag tag) body)
    (filter (has_tag tag) (sent ∷ []))

pub loop-sent-preserved : goal.loop-sent-preserved
loop-sent-preserved c =
    let body = c.args.message.now.body in
    let index = c.loop-sent.sent-index in
    let sent = c.sent-item.result in
    let within : index < length body = search rules in
    let reads : sent ≡ get_or body index sent = search rules in
    record {
      long = c.in_ok-add_sent.ensures.long;
      sent = λ tag here.
          added-all (is_kept c.args.keeper.log c.args.keeper.logs c.args.keeper.tags) sent c.loop-sent.bodies.items
          c.add_sent.new.bodies.items c.in_ok-add_sent.ensures.added tag here
          ∙ ap (λ (list : List (ℕ × Mutation)). list ++ sent_to tag (sent ∷ [])) (c.loop-sent.invariant.sent tag here)
          ∙ sym (ap (sent_to tag) (take_more body index sent within
          ∙ ap (λ (one : Tagged). take index body ++ one ∷ []) (sym reads))
          ∙ sent_to-push tag (take index body) sent);
    }
