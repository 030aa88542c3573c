-- Queues to which the tags' messages are added, tag by tag.
use Rattle.std.proofs.Common.{◌≡◌, ◌≢◌, ◌∙◌, sym, ap, ℕ, ◌+◌, ◌<◌, Bool, true, false, List, [], ◌∷◌, ◌++◌, length}
use Rattle.std.proofs.Common.{get_or}
use Rattle.std.proofs.Common.{if◌then◌else◌, ⊎_elim, ◌⊎◌, inl, inr, arith}
use Rattle.std.specs.Prelude.{◌==◌, ◌&&◌, nat_lt, slice_set}
use Rattle.std.proofs.lemmas.Bool.{cases_Bool, cond-true, cond-false, eqb-true, eqb-false, and_from, and_right, lt-ltb}
use Rattle.std.proofs.lemmas.Bool.{le-ltb, cases_lt}
use Rattle.std.proofs.lemmas.List.{get_or-set_same, get_or-set_other, get_or_default}
use Rattle.std.proofs.lemmas.Option.{unwrap_or-slice_get}
use Rattle.fdb_txn.specs.declared.tag_msg.TagMsg.{TagMsg}
use Rattle.fdb_log.specs.Places.{list_at}

-- what is read there is that queue
pub read-at : {A : Type 0} (queues : List (List A)) (tag : ℕ) (other : List A) → tag < length queues
    → get_or queues tag other ≡ list_at queues tag
read-at queues tag other within =
    get_or_default queues tag other [] within ∙ sym (unwrap_or-slice_get queues tag [])

pub set-same : {A : Type 0} (queues : List (List A)) (tag : ℕ) (queue : List A) → tag < length queues
    → list_at (slice_set queues tag queue) tag ≡ queue
set-same queues tag queue within =
    unwrap_or-slice_get (slice_set queues tag queue) tag [] ∙ get_or-set_same queues tag queue [] within

pub set-other : {A : Type 0} (queues : List (List A)) (tag other : ℕ) (queue : List A) → (other == tag) ≡ false
    → list_at (slice_set queues tag queue) other ≡ list_at queues other
set-other queues tag other queue apart =
    unwrap_or-slice_get (slice_set queues tag queue) other []
    ∙ get_or-set_other queues tag other queue [] (eqb-false other tag apart)
    ∙ sym (unwrap_or-slice_get queues other [])

-- the first tags that are kept have their messages
abbrev pub AreTold : (ℕ → Bool) → (ℕ → TagMsg) → ℕ → (old new : List (List TagMsg)) → Type 0
AreTold kept told tags old new =
    (tag : ℕ) → list_at new tag
    ≡ (if nat_lt tag tags && kept tag then list_at old tag ++ told tag ∷ [] else list_at old tag)

module _ (kept : ℕ → Bool) (told : ℕ → TagMsg) (tag : ℕ) (old now : List (List TagMsg))
    (are : AreTold kept told tag old now) where
  same-test : (other : ℕ) → ((other == tag) ≡ false) ⊎ (kept other ≡ false)
      → (nat_lt other (tag + 1) && kept other) ≡ (nat_lt other tag && kept other)
  same-test other either =
      ⊎_elim
      (λ differs.
      ⊎_elim
      (λ less.
      ap (λ (b : Bool). b && kept other) (lt-ltb other (tag + 1) (omega arith) ∙ sym (lt-ltb other tag less)))
      (λ later.
      let apart : other ≢ tag = eqb-false other tag differs in
      ap (λ (b : Bool). b && kept other) (le-ltb other (tag + 1) (omega arith) ∙ sym (le-ltb other tag later)))
      (cases_lt other tag))
      (λ left. and_right (nat_lt other (tag + 1)) (kept other) left
      ∙ sym (and_right (nat_lt other tag) (kept other) left))
      either

  -- the next tag isn't kept
  pub told-left : kept tag ≡ false → AreTold kept told (tag + 1) old now
  told-left left other =
      are other
      ∙ ap (λ (b : Bool). if b then list_at old other ++ told other ∷ [] else list_at old other)
      (sym (same-test other (⊎_elim (λ same. inr (ap kept (eqb-true other tag same) ∙ left)) (λ apart. inl apart)
      (cases_Bool (other == tag)))))

  -- or it is
  pub told-more : (queue : List TagMsg) → kept tag ≡ true → tag < length now → queue ≡ list_at now tag
      → AreTold kept told (tag + 1) old (slice_set now tag (queue ++ told tag ∷ []))
  told-more queue is_kept within reads other =
      ⊎_elim
      (λ same.
      let here : list_at old tag ≡ list_at now tag = sym (are tag
      ∙ cond-false (nat_lt tag tag && kept tag) _ _ (ap (λ (b : Bool). b && kept tag)
      (le-ltb tag tag (omega arith)))) in
      ap (list_at (slice_set now tag (queue ++ told tag ∷ []))) (eqb-true other tag same)
      ∙ set-same now tag (queue ++ told tag ∷ []) within
      ∙ ap (λ (front : List TagMsg). front ++ told tag ∷ []) (reads ∙ sym here)
      ∙ sym (cond-true (nat_lt tag (tag + 1) && kept tag) _ _
      (and_from (nat_lt tag (tag + 1)) (kept tag) (lt-ltb tag (tag + 1) (omega arith)) is_kept))
      ∙ ap (λ (it : ℕ). if nat_lt it (tag + 1) && kept it then list_at old it ++ told it ∷ [] else list_at old it)
      (sym (eqb-true other tag same)))
      (λ apart.
      set-other now tag other (queue ++ told tag ∷ []) apart
      ∙ are other
      ∙ ap (λ (b : Bool). if b then list_at old other ++ told other ∷ [] else list_at old other)
      (sym (same-test other (inl apart))))
      (cases_Bool (other == tag))
