-- Messages whose versions rise.
use Rattle.std.proofs.Common.{◌≡◌, ◌∙◌, sym, ap, refl, subst, ℕ, zero, suc, ◌<◌, ◌≤◌, max, List, [], ◌∷◌, ◌++◌, take}
use Rattle.std.proofs.Common.{⊎_elim, arith}
use Rattle.fdb_txn.specs.declared.tag_msg.TagMsg.{TagMsg}
use Rattle.fdb_log.specs.Messages.{above}
use Rattle.fdb_log.specs.Peeks.{RiseAfter, through_after}
use Rattle.fdb_log.proofs.AboveLemmas.{above_or_not, above-keeps, above-drops}

-- one message more, above the last one
pub rises-push : (version : ℕ) (messages : List TagMsg) (message : TagMsg) → RiseAfter version messages
    → through_after version messages < message.version → RiseAfter version (messages ++ message ∷ [])
rises-push version [] message rising later = (later, tt)
rises-push version (first ∷ messages) message rising later =
    (rising.0, rises-push first.version messages message rising.1 later)

pub through-push : (version : ℕ) (messages : List TagMsg) (message : TagMsg)
    → through_after version (messages ++ message ∷ []) ≡ message.version
through-push version [] message = refl
through-push version (first ∷ messages) message = through-push first.version messages message

-- the first of them rise
pub rises-take : (version : ℕ) (messages : List TagMsg) (count : ℕ) → RiseAfter version messages
    → RiseAfter version (take count messages)
rises-take version messages zero rising = tt
rises-take version [] (suc count) rising = tt
rises-take version (first ∷ messages) (suc count) rising =
    (rising.0, rises-take first.version messages count rising.1)

-- those above a version rise after it
pub rises-above-from : (version low start : ℕ) (messages : List TagMsg) → RiseAfter version messages
    → start ≤ max low version → RiseAfter start (above low messages)
rises-above-from version low start [] rising within = tt
rises-above-from version low start (first ∷ messages) rising within =
    let here : version < first.version = rising.0 in
    ⊎_elim
    (λ later.
    subst (RiseAfter start) (sym (above-keeps low first messages later))
    (omega arith, rises-above-from first.version low first.version messages rising.1 (omega arith)))
    (λ earlier.
    subst (RiseAfter start) (sym (above-drops low first messages earlier))
    (rises-above-from first.version low start messages rising.1 (omega arith)))
    (above_or_not low first.version)

pub rises-above : (version low : ℕ) (messages : List TagMsg) → RiseAfter version messages
    → RiseAfter low (above low messages)
rises-above version low messages rising = rises-above-from version low low messages rising (omega arith)

-- all that rise after a version lie above it
pub above-all : (version low : ℕ) (messages : List TagMsg) → RiseAfter version messages → low ≤ version
    → above low messages ≡ messages
above-all version low [] rising ordered = refl
above-all version low (first ∷ messages) rising ordered =
    let here : version < first.version = rising.0 in
    above-keeps low first messages (omega arith)
    ∙ ap (λ (rest : List TagMsg). first ∷ rest) (above-all first.version low messages rising.1 (omega arith))

-- and what lies above a version goes through the same one, where that isn't below
pub through-above : (version low : ℕ) (messages : List TagMsg) → RiseAfter version messages
    → low ≤ through_after version messages
    → through_after (max version low) (above low messages) ≡ through_after version messages
through-above version low [] rising within = omega arith
through-above version low (first ∷ messages) rising within =
    let here : version < first.version = rising.0 in
    ⊎_elim
    (λ later.
    ap (through_after (max version low)) (above-keeps low first messages later)
    ∙ ap (through_after first.version) (above-all first.version low messages rising.1 (omega arith)))
    (λ earlier.
    let from : max version low ≡ max first.version low = omega arith in
    ap (through_after (max version low)) (above-drops low first messages earlier)
    ∙ ap (λ (start : ℕ). through_after start (above low messages)) from
    ∙ through-above first.version low messages rising.1 within)
    (above_or_not low first.version)
