-- Messages in a queue, from the first one above a version on.
use Rattle.std.proofs.Common.{◌≡◌, ◌∙◌, sym, ap, refl, ℕ, zero, suc, ◌-◌, ◌<◌, ◌≤◌, min, Bool, true, false, List, []}
use Rattle.std.proofs.Common.{◌∷◌, ◌++◌, ◌+◌, take, drop, length, get_or, ⊎_elim, arith}
use Rattle.std.proofs.lemmas.Bool.{cond-true, cond-false, le-leb, lt-leb}
use Rattle.std.proofs.lemmas.List.{take_min, take_more, length-drop, get_or-drop}
use Rattle.std.proofs.lemmas.List.Sums.{prefix_len_is}
use Rattle.std.proofs.lemmas.List.Sorted.{IsPartitionedBy-leb}
use Rattle.std.specs.List.{prefix_len}
use Rattle.std.specs.List.Sorted.{IsNonDecreasingBy, IsPartitionedBy, IsPartitionPoint}
use Rattle.std.specs.Prelude.{nat_le}
use Rattle.fdb_txn.specs.declared.tag_msg.TagMsg.{TagMsg}
use Rattle.fdb_log.specs.Messages.{above}
use Rattle.fdb_log.specs.Peeks.{RiseAfter}
use Rattle.fdb_log.proofs.AboveLemmas.{above_or_not, above-keeps, above-drops}
use Rattle.fdb_log.proofs.RisingLemmas.{above-all}

-- the message is of this version or one before it
abbrev pub is_through : ℕ → TagMsg → Bool
is_through after message = nat_le message.version after

each_is_later : (version : ℕ) (messages : List TagMsg) → RiseAfter version messages
    → (k : ℕ) (d : TagMsg) → k < length messages → version < (get_or messages k d).version
each_is_later version [] rising k d within = absurd (omega arith)
each_is_later version (first ∷ messages) rising zero d within = rising.0
each_is_later version (first ∷ messages) rising (suc k) d within =
    let here : version < first.version = rising.0 in
    let later : first.version < (get_or messages k d).version =
    each_is_later first.version messages rising.1 k d (omega arith) in
    omega arith

versions_rise : (version : ℕ) (messages : List TagMsg) → RiseAfter version messages
    → IsNonDecreasingBy (λ (message : TagMsg). message.version) messages
versions_rise version [] rising i j d ordered within = absurd (omega arith)
versions_rise version (first ∷ messages) rising zero zero d ordered within = omega arith
versions_rise version (first ∷ messages) rising zero (suc j) d ordered within =
    let later : first.version < (get_or messages j d).version =
    each_is_later first.version messages rising.1 j d (omega arith) in
    omega arith
versions_rise version (first ∷ messages) rising (suc i) zero d ordered within = absurd (omega arith)
versions_rise version (first ∷ messages) rising (suc i) (suc j) d ordered within =
    versions_rise first.version messages rising.1 i j d (omega arith) (omega arith)

-- messages that rise come through a version first, and then above it
pub parted-by_version : (version after : ℕ) (messages : List TagMsg) → RiseAfter version messages
    → IsPartitionedBy (is_through after) messages
parted-by_version version after messages rising =
    IsPartitionedBy-leb (λ (message : TagMsg). message.version) messages after (versions_rise version messages rising)

-- so many come before the first one above the version
pub through-counted : (after start : ℕ) (messages : List TagMsg) → start ≤ length messages
    → IsPartitionPoint (λ message. is_through after message ≡ true) (λ message. is_through after message ≡ false)
    messages start
    → start ≡ prefix_len (is_through after) messages
through-counted after start messages within point =
    let some : TagMsg = record { version = 0; prev = 0; body = [] } in
    sym (prefix_len_is (is_through after) messages start some within (λ k low. point.0 k some (omega arith) low)
    (λ low. point.1 start some (omega arith) low))

-- those above a version are those from the first one above it on
pub above-from_first : (version after : ℕ) (messages : List TagMsg) → RiseAfter version messages
    → drop (prefix_len (is_through after) messages) messages ≡ above after messages
above-from_first version after [] rising = refl
above-from_first version after (first ∷ messages) rising =
    ⊎_elim
    (λ later.
    let none : prefix_len (is_through after) (first ∷ messages) ≡ 0 =
    cond-false _ _ _ (lt-leb first.version after later) in
    ap (λ (n : ℕ). drop n (first ∷ messages)) none
    ∙ sym (above-keeps after first messages later
    ∙ ap (λ (rest : List TagMsg). first ∷ rest) (above-all first.version after messages rising.1 (omega arith))))
    (λ earlier.
    let one_more : prefix_len (is_through after) (first ∷ messages) ≡ suc (prefix_len (is_through after) messages) =
    cond-true _ _ _ (le-leb first.version after earlier) ∙ omega arith in
    ap (λ (n : ℕ). drop n (first ∷ messages)) one_more
    ∙ above-from_first first.version after messages rising.1
    ∙ sym (above-drops after first messages earlier))
    (above_or_not after first.version)

-- as many as there are, at most the limit, from the first one above the version on
pub next-are_given : (version after limit start : ℕ) (messages : List TagMsg) → RiseAfter version messages
    → start ≡ prefix_len (is_through after) messages
    → take (min limit (length messages - start)) (drop start messages) ≡ take limit (above after messages)
next-are_given version after limit start messages rising counted =
    ap (λ (n : ℕ). take (min limit n) (drop start messages)) (sym (length-drop start messages))
    ∙ take_min limit (drop start messages)
    ∙ ap (λ (n : ℕ). take limit (drop n messages)) counted
    ∙ ap (take limit) (above-from_first version after messages rising)

-- one message more is copied
pub copied-more : (start index : ℕ) (messages : List TagMsg) (message : TagMsg) → start ≤ index
    → index < length messages → message ≡ get_or messages index message
    → take (index - start) (drop start messages) ++ message ∷ [] ≡ take (index + 1 - start) (drop start messages)
copied-more start index messages message from within reads =
    let some : index - start < length (drop start messages) = omega (arith, length-drop start messages) in
    let next : index + 1 - start ≡ index - start + 1 = omega arith in
    let place : start + (index - start) ≡ index = omega arith in
    ap (λ (one : TagMsg). take (index - start) (drop start messages) ++ one ∷ [])
    (reads
    ∙ ap (λ (n : ℕ). get_or messages n message) (sym place)
    ∙ sym (get_or-drop start messages (index - start) message))
    ∙ sym (take_more (drop start messages) (index - start) message some)
    ∙ ap (λ (n : ℕ). take n (drop start messages)) (sym next)
