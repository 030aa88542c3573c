-- The messages that lie above a version.
use Rattle.std.proofs.Common.{◌≡◌, ◌∙◌, sym, ap, refl, ℕ, ◌<◌, ◌≤◌, max, List, [], ◌∷◌, ⊎_elim, ◌⊎◌, inl, inr, arith}
use Rattle.std.proofs.lemmas.Bool.{cases_Bool, cond-true, cond-false, lt-ltb, le-ltb, ltb-true, ltb-false}
use Rattle.std.specs.Prelude.{nat_lt}
use Rattle.fdb_txn.specs.declared.tag_msg.TagMsg.{TagMsg}
use Rattle.fdb_log.specs.Messages.{above}

-- a version is above another one, or isn't
pub above_or_not : (low version : ℕ) → (low < version) ⊎ (version ≤ low)
above_or_not low version =
    ⊎_elim (λ later. inl (ltb-true low version later)) (λ earlier. inr (ltb-false low version earlier))
    (cases_Bool (nat_lt low version))

-- the first message is kept where it lies above, and dropped where it doesn't
pub above-keeps : (low : ℕ) (message : TagMsg) (messages : List TagMsg) → low < message.version
    → above low (message ∷ messages) ≡ message ∷ above low messages
above-keeps low message messages later = cond-true _ _ _ (lt-ltb low message.version later)

pub above-drops : (low : ℕ) (message : TagMsg) (messages : List TagMsg) → message.version ≤ low
    → above low (message ∷ messages) ≡ above low messages
above-drops low message messages earlier = cond-false _ _ _ (le-ltb low message.version earlier)

-- what lies above two versions lies above the greater
pub above-above : (low high : ℕ) (messages : List TagMsg)
    → above high (above low messages) ≡ above (max low high) messages
above-above low high [] = refl
above-above low high (message ∷ messages) =
    let more : above high (above low messages) ≡ above (max low high) messages = above-above low high messages in
    ⊎_elim
    (λ later.
    ap (above high) (above-keeps low message messages later)
    ∙ ⊎_elim
    (λ highest.
    above-keeps high message (above low messages) highest
    ∙ ap (λ (rest : List TagMsg). message ∷ rest) more
    ∙ sym (above-keeps (max low high) message messages (omega arith)))
    (λ between.
    above-drops high message (above low messages) between
    ∙ more
    ∙ sym (above-drops (max low high) message messages (omega arith)))
    (above_or_not high message.version))
    (λ earlier.
    ap (above high) (above-drops low message messages earlier)
    ∙ more
    ∙ sym (above-drops (max low high) message messages (omega arith)))
    (above_or_not low message.version)

-- and where the second isn't below the first, above the second
pub above-higher : (low high : ℕ) (messages : List TagMsg) → low ≤ high
    → above high (above low messages) ≡ above high messages
above-higher low high messages ordered =
    let greater : max low high ≡ high = omega arith in
    above-above low high messages ∙ ap (λ (version : ℕ). above version messages) greater
