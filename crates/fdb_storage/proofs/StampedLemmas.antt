-- Messages in which a mutation waits for a stamp, and that none is sent.
use Rattle.std.proofs.Common.{◌≡◌, ◌∙◌, refl, sym, ap, ap₂, ℕ, Bool, false, ◌||◌, List, [], ◌∷◌, Some, None}
use Rattle.std.proofs.Common.{if◌then◌else◌}
use Rattle.std.specs.List.{AllByRecursion, list_any}
use Rattle.std.proofs.lemmas.List.Folds.{list_any-append}
use Rattle.fdb_keys.specs.declared.refusal.Refusal.TheVariants.{BadOperand}
use Rattle.fdb_mutations.specs.declared.mutation.Mutation.{Mutation}
use Rattle.fdb_mutations.specs.Stamping.{is_stamped}
use Rattle.fdb_txn.specs.declared.tag_msg.TagMsg.{TagMsg}
use Rattle.fdb_txn.specs.rules.Messages.{Body, mutations_in, HasNoStamped, messages_after}
use Rattle.fdb_txn.proofs.Exports.{messages_are_stamped}
use Rattle.fdb_log.specs.declared.peek.Peek.{Peek}
use Rattle.fdb_storage.specs.Replays.{messages_of}
use Rattle.fdb_storage.specs.StampedMessages.{has_stamped, NoStampedIsSent}

-- the mutations are tested with their places or without them
pub any-mutations : (body : Body)
    → list_any (λ (sent : ℕ × Mutation). is_stamped sent.1) body ≡ list_any is_stamped (mutations_in body)
any-mutations [] = refl
any-mutations (sent ∷ body) = ap (λ (others : Bool). is_stamped sent.1 || others) (any-mutations body)

-- messages are tested peek by peek or all together
pub any-messages : (peeks : List Peek)
    → list_any (λ (peek : Peek). list_any has_stamped peek.messages) peeks ≡ list_any has_stamped (messages_of peeks)
any-messages [] = refl
any-messages (peek ∷ peeks) =
    ap (λ (others : Bool). list_any has_stamped peek.messages || others) (any-messages peeks)
    ∙ sym (list_any-append has_stamped peek.messages (messages_of peeks))

none-passes : (mutations : List Mutation)
    → AllByRecursion (λ (mutation : Mutation). is_stamped mutation ≡ false) mutations
    → list_any is_stamped mutations ≡ false
none-passes [] all = refl
none-passes (mutation ∷ mutations) all =
    ap₂ (λ (first others : Bool). first || others) all.0 (none-passes mutations all.1)

none-waits : (messages : List TagMsg) → AllByRecursion HasNoStamped messages → list_any has_stamped messages ≡ false
none-waits [] all = refl
none-waits (message ∷ messages) all =
    ap₂ (λ (first others : Bool). first || others) (none-passes (mutations_in message.body) all.0)
    (none-waits messages all.1)

pub no_stamped_is_sent : NoStampedIsSent
no_stamped_is_sent splits range before book =
    ap (λ (waits : Bool). if waits then Some BadOperand else None)
    (none-waits (messages_after splits range before book) (messages_are_stamped splits range before book))
