use Rattle.std.proofs.Common.{◌≡◌, ◌∙◌, sym, ap, subst, ℕ, ◌+◌, ◌≤◌, List, [], ◌∷◌, ◌++◌, take, fold}
use Rattle.std.specs.FinMap.{get, empty}
use Rattle.std.proofs.lemmas.List.{take_all, take_more, append-nil, append_assoc}
use Rattle.std.proofs.lemmas.List.Sums.{fold-append}
use Rattle.fdb_mutations.specs.Maps.{Map}
use Rattle.fdb_log.specs.declared.peek.Peek.{Peek}
use Rattle.fdb_txn.specs.declared.tag_msg.TagMsg.{TagMsg}
use Rattle.fdb_storage.specs.CutMaps.{cut_with}
use Rattle.fdb_storage.specs.Replays.{messages_of, covered, replay_fault}
use Rattle.fdb_storage.proofs.CutLemmas.{get-cut}
use Rattle.fdb_storage.proofs.FaultLemmas.{given, replay_fault-none}
use Rattle.fdb_storage.proofs.replaying.replay.Goals as goal

-- one peek more
messages-append : (peeks : List Peek) (peek : Peek)
    → messages_of (peeks ++ peek ∷ []) ≡ messages_of peeks ++ peek.messages
messages-append [] peek = append-nil peek.messages
messages-append (first ∷ peeks) peek =
    ap (λ (others : List TagMsg). first.messages ++ others) (messages-append peeks peek)
    ∙ sym (append_assoc first.messages (messages_of peeks) peek.messages)

pub loop-peek-preserved : goal.loop-peek-preserved
loop-peek-preserved c =
    let peeks = c.args.peeks.now in
    let one_more : take (c.loop-peek.peek-index + 1) peeks
    ≡ take c.loop-peek.peek-index peeks ++ c.peek-item.result ∷ [] =
    take_more peeks c.loop-peek.peek-index c.peek-item.result c.loop-peek-test.true
    ∙ ap (λ (peek : Peek). take c.loop-peek.peek-index peeks ++ peek ∷ []) (sym c.peek-item.is) in
    let cut = cut_with c.args.range.now c.args.version in
    let before = messages_of (take c.loop-peek.peek-index peeks) in
    c.in_ok-apply_messages.ensures.answers
    ∙ ap (λ (messages : List TagMsg). fold cut c.loop-peek.map messages) c.as_slice.ensures
    ∙ ap (λ (map : Map). fold cut map c.peek-item.result.messages) c.loop-peek.invariant
    ∙ sym (ap (fold cut empty) (ap messages_of one_more ∙ messages-append (take c.loop-peek.peek-index peeks)
    c.peek-item.result)
    ∙ fold-append cut empty before c.peek-item.result.messages)

pub returns : goal.returns
returns c =
    let peeks = c.args.peeks.now in
    let all : take c.loop-peek.peek-index peeks ≡ peeks =
    take_all c.loop-peek.peek-index peeks c.loop-peek-test.false in
    let reached : c.args.version ≤ covered peeks =
    subst (λ (n : ℕ). c.args.version ≤ n) c.covered-through.ensures c.if-through-version.false in
    given c.loop-peek.map (replay_fault peeks c.args.version) _
    (replay_fault-none peeks c.args.version (sym c.any_has_stamped.ensures ∙ c.if-any_has_stamped.false) reached)
    (λ x. ap (λ (map : Map). get map x) (c.loop-peek.invariant
    ∙ ap (λ (some : List Peek). fold (cut_with c.args.range.now c.args.version) empty (messages_of some)) all)
    ∙ get-cut c.args.range.now c.args.version (messages_of peeks) x)
