-- The lists of tags, to which one item more is added.
use Rattle.std.proofs.Common.{◌≡◌, ◌∙◌, sym, ap, refl, subst, ℕ, ◌<◌, Bool, true, false, ◌||◌, List, [], ◌∷◌, ◌++◌}
use Rattle.std.proofs.Common.{length, map, if◌then◌else◌, ⊎_elim}
use Rattle.std.specs.Prelude.{◌==◌, slice_set}
use Rattle.std.proofs.lemmas.Bool.{cases_Bool, cond-true, cond-false, eqb-true, eq-eqb, ne_eqb, both_ways, or_left}
use Rattle.std.proofs.lemmas.Bool.{or_right}
use Rattle.std.proofs.lemmas.List.{append-nil, length-set}
use Rattle.fdb_mutations.specs.declared.mutation.Mutation.{Mutation}
use Rattle.fdb_txn.specs.Limits.{tag_limit}
use Rattle.fdb_log.specs.declared.message.Tagged.{Tagged}
use Rattle.fdb_log.specs.Messages.{has_tag, sent_to}
use Rattle.fdb_log.specs.Places.{AreAdded, list_at, with_one}
use Rattle.fdb_log.specs.TagSets.{is_among}
use Rattle.fdb_log.specs.Waiting.{kept_among}
use Rattle.fdb_log.proofs.TagSetLemmas.{among-kept}
use Rattle.fdb_log.proofs.ToldLemmas.{set-same, set-other}

-- Each tag that is left has a list. With the item in the lists of these the lists are what they come to with the item
-- in those of all of the tags.
pub record AreLeft {A : Type 0} (one : A) (tags left : List ℕ) (old now : List (List A)) : Type 0 where
  pub long : length now ≡ length old
  pub within : (tag : ℕ) → is_among left tag ≡ true → tag < length now
  pub added : (tag : ℕ) → with_one one left now tag ≡ with_one one tags old tag

module _ {A : Type 0} (one : A) (tags : List ℕ) (old : List (List A)) where
  -- at first all of them are left
  pub left-all : ((tag : ℕ) → is_among tags tag ≡ true → tag < length old) → AreLeft one tags tags old old
  left-all within = record {
    long = refl;
    within = within;
    added = λ tag. refl;
  }

  -- where none is left the item is in the lists of all of them
  pub left-none : (left : List ℕ) (now : List (List A)) → left ≡ [] → AreLeft one tags left old now
      → (tag : ℕ) → list_at now tag ≡ with_one one tags old tag
  left-none left now none are tag =
      sym (ap (λ (others : List ℕ). with_one one others now tag) none) ∙ are.added tag

  -- the item is put into the list of the next one
  module _ (it : ℕ) (rest : List ℕ) (now : List (List A)) (body : List A) (once : is_among rest it ≡ false)
      (reads : body ≡ list_at now it) (there : it < length now) where
    abbrev put : List (List A)
    put = slice_set now it (body ++ one ∷ [])

    put-same : (tag : ℕ) → (it == tag) ≡ true → with_one one rest put tag ≡ with_one one (it ∷ rest) now tag
    put-same tag same =
        let here : it ≡ tag = eqb-true it tag same in
        cond-false (is_among rest tag) _ _ (sym (ap (is_among rest) here) ∙ once)
        ∙ ap (list_at put) (sym here)
        ∙ set-same now it (body ++ one ∷ []) there
        ∙ ap (λ (front : List A). front ++ one ∷ []) (reads ∙ ap (list_at now) here)
        ∙ sym (cond-true (is_among (it ∷ rest) tag) (list_at now tag ++ one ∷ []) (list_at now tag)
        (or_left (it == tag) (is_among rest tag) same))

    put-other : (tag : ℕ) → (it == tag) ≡ false → with_one one rest put tag ≡ with_one one (it ∷ rest) now tag
    put-other tag apart =
        let other : (tag == it) ≡ false =
        ne_eqb tag it (λ same. both_ways (it == tag) apart (eq-eqb it tag (sym same))) in
        ap (λ (list : List A). if is_among rest tag then list ++ one ∷ [] else list)
        (set-other now it tag (body ++ one ∷ []) other)
        ∙ ap (λ (first : Bool). if first || is_among rest tag then list_at now tag ++ one ∷ [] else list_at now tag)
        (sym apart)

    put-next : AreLeft one tags (it ∷ rest) old now → AreLeft one tags rest old put
    put-next are = record {
      long = length-set now it (body ++ one ∷ []) ∙ are.long;
      within = λ tag among.
          subst (λ (count : ℕ). tag < count) (sym (length-set now it (body ++ one ∷ [])))
          (are.within tag (or_right (it == tag) (is_among rest tag) among));
      added = λ tag. ⊎_elim (put-same tag) (put-other tag) (cases_Bool (it == tag)) ∙ are.added tag;
    }

  pub left-there : (left : List ℕ) (it : ℕ) (rest : List ℕ) (now : List (List A)) → left ≡ it ∷ rest
      → AreLeft one tags left old now → it < length now
  left-there left it rest now is are =
      are.within it (ap (λ (some : List ℕ). is_among some it) is
      ∙ or_left (it == it) (is_among rest it) (eq-eqb it it refl))

  pub left-next : (left : List ℕ) (it : ℕ) (rest : List ℕ) (now : List (List A)) (body : List A)
      → left ≡ it ∷ rest → is_among rest it ≡ false → body ≡ list_at now it → AreLeft one tags left old now
      → AreLeft one tags rest old (slice_set now it (body ++ one ∷ []))
  left-next left it rest now body is once reads are =
      put-next it rest now body once reads (left-there left it rest now is are)
      (subst (λ (some : List ℕ). AreLeft one tags some old now) is are)

-- the item is in the lists of those of the tags that are kept
pub added-kept : {A : Type 0} (kept : ℕ → Bool) (few : (tag : ℕ) → kept tag ≡ true → tag < tag_limit) (one : A)
    (tags set : List ℕ) (old new : List (List A)) → set ≡ kept_among kept tags
    → ((tag : ℕ) → list_at new tag ≡ with_one one set old tag) → AreAdded kept one tags old new
added-kept {A} kept few one tags set old new is added tag here =
    added tag
    ∙ ap (λ (some : Bool). if some then list_at old tag ++ one ∷ [] else list_at old tag)
    (ap (λ (some : List ℕ). is_among some tag) is ∙ among-kept kept few tags tag here)

-- then it was sent to all of its tags that are kept
pub added-all : (kept : ℕ → Bool) (sent : Tagged) (old new : List (List (ℕ × Mutation)))
    → AreAdded kept (sent.place, sent.mutation) sent.tags old new
    → (tag : ℕ) → kept tag ≡ true → list_at new tag ≡ list_at old tag ++ sent_to tag (sent ∷ [])
added-all kept sent old new are tag is_kept =
    are tag is_kept
    ∙ ⊎_elim
    (λ has.
    cond-true (has_tag tag sent) _ _ has
    ∙ ap (λ (some : List Tagged). list_at old tag
    ++ map (λ (one : Tagged). (one.place, one.mutation)) some)
    (sym (cond-true (has_tag tag sent) (sent ∷ []) [] has)))
    (λ none.
    cond-false (has_tag tag sent) _ _ none
    ∙ sym (append-nil (list_at old tag))
    ∙ ap (λ (some : List Tagged). list_at old tag
    ++ map (λ (one : Tagged). (one.place, one.mutation)) some)
    (sym (cond-false (has_tag tag sent) (sent ∷ []) [] none)))
    (cases_Bool (has_tag tag sent))
