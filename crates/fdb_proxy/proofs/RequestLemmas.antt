-- The requests of a batch, and those that wait.
use Rattle.std.proofs.Common.{◌≡◌, sym, ◌∙◌, ap, refl, ℕ, ◌+◌, ◌-◌, ◌≤◌, Bool, true, false, List, [], ◌++◌, length, min}
use Rattle.std.proofs.Common.{take, drop}
use Rattle.std.proofs.Common.{if◌then◌else◌, ◌⊎◌, ⊎_elim, arith}
use Rattle.std.proofs.Math.Seq.{take-append-add, take-append_seam}
use Rattle.std.proofs.lemmas.List.{length-append, append-nil, append_cancel_left, nil_from_length, take_all, take_min}
use Rattle.std.proofs.lemmas.List.{take-append-drop}
use Rattle.fdb_proxy.specs.declared.requests.Requests.TheInside.{Inside}
use Rattle.fdb_proxy.specs.RequestFields.{all_of, places_of, requests_of}

either_way : {X : Type 0} (is_in_flight : Bool) (front others : List X)
    → front ++ others
    ≡ (if is_in_flight then front else []) ++ ((if is_in_flight then [] else front) ++ others)
either_way true front others = refl
either_way false front others = refl

-- the batch and those that wait are all, whichever of the two the front belongs to
pub all_in_parts : (r : Inside) → all_of r ≡ (requests_of r).batch ++ (requests_of r).waiting
all_in_parts r = either_way r.is_in_flight (places_of r.last_batch) r.list.items

-- all of the first ones, and of the others as many as the limit leaves, are the first of all
pub first_of_all : {X : Type 0} (limit : ℕ) (xs ys : List X) → length xs ≤ limit
    → xs ++ take (min (limit - length xs) (length ys)) ys ≡ take limit (xs ++ ys)
first_of_all limit xs ys within =
    let left = limit - length xs in
    let e : length xs + left ≡ limit = omega arith in
    ap (λ part. xs ++ part) (take_min left ys)
    ∙ sym (take-append-add xs ys left)
    ∙ ap (λ count. take count (xs ++ ys)) e

-- the first ones are the first of all where there are no others, and where there are as many as the limit
pub first_alone : {X : Type 0} (limit : ℕ) (xs ys : List X) → length xs ≤ limit → length ys ≡ 0 ⊎ length xs ≡ limit
    → xs ≡ take limit (xs ++ ys)
first_alone limit xs ys within =
    ⊎_elim (λ none. rw (nil_from_length ys none, append-nil xs) (sym (take_all limit xs within)))
    (λ full. sym (take-append_seam xs ys) ∙ ap (λ count. take count (xs ++ ys)) full)

-- the others are the first of all where there are no first ones, and no more others than the limit
pub others_alone : {X : Type 0} (limit : ℕ) (xs ys : List X) → length xs ≡ 0 → length ys ≤ limit
    → ys ≡ take limit (xs ++ ys)
others_alone limit xs ys none few = rw (nil_from_length xs none) (sym (take_all limit ys few))

-- who is behind the first ones of all
pub behind_first : {X : Type 0} (limit : ℕ) (xs ys all : List X) → xs ≡ take limit all → xs ++ ys ≡ all
    → ys ≡ drop limit all
behind_first limit xs ys all first whole =
    append_cancel_left xs ys (drop limit all)
    (whole ∙ sym (take-append-drop limit all) ∙ ap (λ part. part ++ drop limit all) (sym first))

pub same_count : {X : Type 0} (xs ys zs ws : List X) → xs ++ ys ≡ zs ++ ws
    → length xs + length ys ≡ length zs + length ws
same_count xs ys zs ws same = sym (length-append xs ys) ∙ ap length same ∙ length-append zs ws
