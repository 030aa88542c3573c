use Rattle.std.proofs.Common.{◌≡◌, ◌∙◌, sym, ap, subst, ℕ, ◌+◌, ◌<◌, ◌≤◌, List, [], ◌∷◌, ◌++◌, take, get_or, length}
use Rattle.std.proofs.Common.{append_assoc, rules}
use Rattle.std.specs.List.{AllByRecursion}
use Rattle.std.proofs.lemmas.List.{append-nil}
use Rattle.fdb_log.specs.Messages.{is_kept}
use Rattle.fdb_log.specs.Places.{Holding, AreListed}
use Rattle.fdb_log.specs.TagSets.{is_among}
use Rattle.fdb_log.specs.Waiting.{Waiting, ComesBefore, waiting_from}
use Rattle.fdb_log.proofs.AddedLemmas.{added-kept}
use Rattle.fdb_log.proofs.ListedLemmas.{listed-later, listed-more}
use Rattle.fdb_log.proofs.TagSetLemmas.{few-kept, kept-low}
use Rattle.fdb_log.proofs.WaitingLemmas.{next-none, next-one, come-before}
use Rattle.fdb_log.proofs.held.Held.add.Goals as goal
use Rattle.fdb_log.proofs.held.Held.add.Goals.{then-not-is_empty+in_ok-add_one, else-not-is_empty}

pub add_one-requires : goal.add_one-requires
add_one-requires c =
    let message = c.args.message.now in
    let kept = is_kept c.args.keeper.log c.args.keeper.logs c.args.keeper.tags in
    record {
      within = λ tag among.
          subst (λ (count : ℕ). tag < count) (sym c.loop-index.invariant.placed)
          (kept-low c.args.keeper.log c.args.keeper.logs c.args.keeper.tags c.sent-item.result.tags tag
          (sym (ap (λ (some : List ℕ). is_among some tag) c.kept_tags-tags.ensures) ∙ among));
      last =
          subst (λ (list : List Waiting). AllByRecursion
          (λ (one : Waiting). ComesBefore one.0 (message.version, c.loop-index.index)) list)
          (sym c.loop-index.invariant.waiting)
          (come-before kept message.version c.loop-index.index message.body c.args.self.now.waiting c.requires.later);
    }

pub loop-index-init : goal.loop-index-init
loop-index-init c =
    let message = c.args.message.now in
    let kept = is_kept c.args.keeper.log c.args.keeper.logs c.args.keeper.tags in
    record {
      waiting = sym (append-nil c.args.self.now.waiting);
      placed = c.requires.placed;
      listed = λ popped last more are. listed-later kept popped last message.version c.args.self.now more are;
    }

pub loop-index-preserved : goal.loop-index-preserved
loop-index-preserved c =
    let message = c.args.message.now in
    let kept = is_kept c.args.keeper.log c.args.keeper.logs c.args.keeper.tags in
    let index = c.loop-index.index in
    let sent = c.sent-item.result in
    let within : index < length message.body = search rules in
    let reads : sent ≡ get_or message.body index sent = search rules in
    let before = c.args.self.now.waiting in
    let tags = c.kept_tags-tags.result in
    let few = few-kept c.args.keeper.log c.args.keeper.logs c.args.keeper.tags c.requires.few in
    elim c.if-not-is_empty.branch [
      | then-not-is_empty+in_ok-add_one w ↦
          let added : w.add_one.new.self.waiting
          ≡ c.loop-index.self.waiting ++ ((message.version, index), tags) ∷ [] =
          w.in_ok-add_one.ensures.waiting in
          let waiting : w.add_one.new.self.waiting
          ≡ before ++ waiting_from kept message.version 0 (take (index + 1) message.body) =
          added
          ∙ ap (λ (list : List Waiting). list ++ ((message.version, index), tags) ∷ [])
          c.loop-index.invariant.waiting
          ∙ append_assoc before (waiting_from kept message.version 0 (take index message.body)) _
          ∙ ap (λ (list : List Waiting). before ++ list)
          (sym (next-one kept message.version few index message.body sent tags within reads
          c.kept_tags-tags.ensures (sym w.if-not-is_empty.ensures))) in
          let listed : (popped : ℕ → ℕ) (last : ℕ) → last ≤ message.version
          → AreListed kept popped last c.args.self.now
          → AreListed kept popped message.version w.add_one.new.self =
          λ popped last more are. listed-more kept popped (message.version, index) sent.tags c.loop-index.self
          w.add_one.new.self (c.loop-index.invariant.listed popped last more are)
          (added-kept kept few (message.version, index) sent.tags tags c.loop-index.self.places
          w.add_one.new.self.places c.kept_tags-tags.ensures w.in_ok-add_one.ensures.places)
          (added
          ∙ ap (λ (list : List ℕ). c.loop-index.self.waiting ++ ((message.version, index), list) ∷ [])
          c.kept_tags-tags.ensures) in
          record {
            waiting = ap (λ (held : Holding). held.waiting) w.self-is ∙ waiting;
            placed =
                ap (λ (held : Holding). length held.places) w.self-is
                ∙ w.in_ok-add_one.ensures.placed
                ∙ c.loop-index.invariant.placed;
            listed = λ popped last more are.
                subst (AreListed kept popped message.version) (sym w.self-is) (listed popped last more are);
          }
      | else-not-is_empty w ↦
          record {
            waiting =
                ap (λ (held : Holding). held.waiting) w.self-is
                ∙ c.loop-index.invariant.waiting
                ∙ ap (λ (list : List Waiting). before ++ list)
                (sym (next-none kept message.version few index message.body sent tags within reads
                c.kept_tags-tags.ensures (sym w.if-not-is_empty.ensures)));
            placed = ap (λ (held : Holding). length held.places) w.self-is ∙ c.loop-index.invariant.placed;
            listed = λ popped last more are.
                subst (AreListed kept popped message.version) (sym w.self-is)
                (c.loop-index.invariant.listed popped last more are);
          }
    ]
