-- Mutations that wait, and what is asked of lists of them.
use Rattle.std.proofs.Common.{◌≡◌, ◌∙◌, sym, ap, refl, subst, ℕ, suc, ◌+◌, ◌<◌, ◌≤◌, max, Bool, true, false, not}
use Rattle.std.proofs.Common.{◌||◌, List, [], ◌∷◌, ◌++◌, take, length, get_or, inl, inr, ⊎_elim, if◌then◌else◌, arith}
use Rattle.std.specs.Prelude.{◌&&◌, ◌==◌, nat_lt, nat_le, filter, count_by}
use Rattle.std.specs.List.{AllByRecursion, list_any}
use Rattle.std.specs.BTreeMap.{insert_entry}
use Rattle.std.specs.Ordering.{nat_cmp, ordering_then, match_ordering}
use Rattle.std.specs.declared.cmp.Ordering.{Ordering}
use Rattle.std.specs.declared.cmp.Ordering.TheVariants.{Equal, Greater}
use Rattle.std.proofs.lemmas.Bool.{cases_Bool, cases_lt, cond-true, cond-false, lt-ltb, le-ltb, le-leb, lt-leb}
use Rattle.std.proofs.lemmas.Bool.{ltb-true}
use Rattle.std.proofs.lemmas.Bool.{eqb-true, eq-eqb, ne_eqb, and_parts, not-true, leb-true, or_left, or_right}
use Rattle.std.proofs.lemmas.List.{take_more, append-nil, length-take}
use Rattle.std.proofs.lemmas.List.Sums.{length-filter}
use Rattle.fdb_keys.proofs.Exports.{all-append, all-weaken}
use Rattle.fdb_txn.specs.Limits.{tag_limit}
use Rattle.fdb_log.specs.declared.message.Tagged.{Tagged}
use Rattle.fdb_log.specs.Waiting.{Waiting, ComesBefore, kept_among, waits, waits_for_alone, waiting_from}
use Rattle.fdb_log.proofs.TagSetLemmas.{any-kept, any-of_kept}

-- what follows of those that pass a test holds of each that is picked by it
pub all-passing : {A : Type 0} (P Q : A → Type 0) (test : A → Bool) (items : List A)
    → ((one : A) → test one ≡ true → P one → Q one) → AllByRecursion P items → AllByRecursion Q (filter test items)
all-passing P Q test [] follows holds = tt
all-passing P Q test (one ∷ items) follows holds =
    ⊎_elim
    (λ passes. subst (AllByRecursion Q) (sym (cond-true (test one) _ _ passes))
    (follows one passes holds.0, all-passing P Q test items follows holds.1))
    (λ fails. subst (AllByRecursion Q) (sym (cond-false (test one) _ _ fails))
    (all-passing P Q test items follows holds.1))
    (cases_Bool (test one))

-- where all pass, all are picked
pub filter-all : {A : Type 0} (test : A → Bool) (items : List A) → AllByRecursion (λ (one : A). test one ≡ true) items
    → filter test items ≡ items
filter-all test [] all = refl
filter-all {A} test (one ∷ items) all =
    cond-true (test one) _ _ all.0 ∙ ap (λ (rest : List A). one ∷ rest) (filter-all test items all.1)

-- leaving out some that don't pass changes nothing of those that do
pub filter-either : {A : Type 0} (test other : A → Bool) (items : List A)
    → filter test (filter (λ (one : A). test one || other one) items) ≡ filter test items
filter-either test other [] = refl
filter-either {A} test other (one ∷ items) =
    ⊎_elim
    (λ passes.
    ap (filter test) (cond-true (test one || other one) _ _ (or_left (test one) (other one) passes))
    ∙ cond-true (test one) _ _ passes
    ∙ ap (λ (rest : List A). one ∷ rest) (filter-either test other items)
    ∙ sym (cond-true (test one) _ _ passes))
    (λ fails.
    ⊎_elim
    (λ passes_other.
    ap (filter test) (cond-true (test one || other one) _ _ (or_right (test one) (other one) passes_other))
    ∙ cond-false (test one) _ _ fails
    ∙ filter-either test other items
    ∙ sym (cond-false (test one) _ _ fails))
    (λ fails_other.
    ap (filter test) (cond-false (test one || other one) _ _
    (ap (λ (b : Bool). b || other one) fails ∙ fails_other))
    ∙ filter-either test other items
    ∙ sym (cond-false (test one) _ _ fails))
    (cases_Bool (other one)))
    (cases_Bool (test one))

-- where the one test passes just what the other one doesn't, both together count all
pub counts-apart : {A : Type 0} (stays leaves : A → Bool) (items : List A)
    → AllByRecursion (λ (one : A). leaves one ≡ not (stays one)) items
    → length (filter stays items) + count_by leaves items ≡ length items
counts-apart {A} stays leaves items apart =
    ap (λ (n : ℕ). length (filter stays items) + n) (sym (length-filter leaves items)) ∙ both items apart
  where
    step : (stays_here leaves_here : Bool) (one : A) (some others all : List A) → leaves_here ≡ not stays_here
        → length some + length others ≡ length all
        → length (if stays_here then one ∷ some else some) + length (if leaves_here then one ∷ others else others)
        ≡ suc (length all)
    step true true one some others all is rest = cc
    step true false one some others all is rest = omega arith
    step false true one some others all is rest = omega arith
    step false false one some others all is rest = cc

    both : (list : List A) → AllByRecursion (λ (one : A). leaves one ≡ not (stays one)) list
        → length (filter stays list) + length (filter leaves list) ≡ length list
    both [] all = refl
    both (one ∷ list) all = step (stays one) (leaves one) one _ _ list all.0 (both list all.1)

-- a test of numbers finds one where it finds the one, or another one
pub any-split : (test : ℕ → Bool) (tag : ℕ) (tags : List ℕ)
    → list_any test tags
    ≡ (list_any (λ (other : ℕ). not (other == tag) && test other) tags
    || (list_any (λ (other : ℕ). other == tag) tags && test tag))
any-split test tag [] = refl
any-split test tag (first ∷ tags) =
    ap (λ (b : Bool). test first || b) (any-split test tag tags)
    ∙ step (first == tag) (test first) (test tag) _ _ (λ same. ap test (eqb-true first tag same))
  where
    step : (is here there others found : Bool) → (is ≡ true → here ≡ there)
        → (here || (others || (found && there))) ≡ (((not is && here) || others) || ((is || found) && there))
    step false true there others found same = refl
    step false false there others found same = refl
    step true true true true found same = refl
    step true true true false found same = refl
    step true false false true found same = refl
    step true false false false true same = refl
    step true false false false false same = refl
    step true true false others found same = let apart : true ≡ false = same refl in cc
    step true false true others found same = let apart : false ≡ true = same refl in cc

-- tests that answer alike find alike
pub any-alike : (test other : ℕ → Bool) (tags : List ℕ) → ((tag : ℕ) → test tag ≡ other tag)
    → list_any test tags ≡ list_any other tags
any-alike test other [] alike = refl
any-alike test other (first ∷ tags) alike =
    ap (λ (b : Bool). b || list_any test tags) (alike first)
    ∙ ap (λ (b : Bool). other first || b) (any-alike test other tags alike)

-- The tag is popped through the version as well, and no other tag is.
module _ (before after : ℕ → ℕ) (tag through : ℕ) (here : after tag ≡ max (before tag) through)
    (others : (other : ℕ) → (other == tag) ≡ false → after other ≡ before other) where
  others-alike : (version other : ℕ)
      → (not (other == tag) && nat_lt (after other) version) ≡ (not (other == tag) && nat_lt (before other) version)
  others-alike version other =
      ⊎_elim
      (λ same.
      ap (λ (b : Bool). not b && nat_lt (after other) version) same
      ∙ sym (ap (λ (b : Bool). not b && nat_lt (before other) version) same))
      (λ apart. ap (λ (v : ℕ). not (other == tag) && nat_lt v version) (others other apart))
      (cases_Bool (other == tag))

  -- then just what waited for the tag alone waits no longer
  pub leaves-or_stays : (one : Waiting) → waits before one ≡ true
      → waits_for_alone before tag through one ≡ not (waits after one)
  leaves-or_stays one waited =
      let version = one.0.0 in
      let rest = list_any (λ (other : ℕ). not (other == tag) && nat_lt (before other) version) one.1 in
      let has = list_any (λ (other : ℕ). other == tag) one.1 in
      let now : waits after one ≡ (rest || (has && nat_lt (max (before tag) through) version)) =
      any-split (λ (other : ℕ). nat_lt (after other) version) tag one.1
      ∙ ap (λ (b : Bool). b || (has && nat_lt (after tag) version))
      (any-alike _ _ one.1 (others-alike version))
      ∙ ap (λ (v : ℕ). rest || (has && nat_lt v version)) here in
      let waited_still : (rest || (has && nat_lt (before tag) version)) ≡ true =
      sym (any-split (λ (other : ℕ). nat_lt (before other) version) tag one.1) ∙ waited in
      by_order rest has version waited_still ∙ sym (ap not now)
    where
      step : (rest has behind passed still : Bool) → (rest || (has && behind)) ≡ true
          → (behind ≡ true → passed ≡ not still)
          → ((passed && has) && not rest) ≡ not (rest || (has && still))
      step true has behind passed still waited order = right passed has
        where
          right : (a b : Bool) → ((a && b) && false) ≡ false
          right true true = refl
          right true false = refl
          right false b = refl
      step false true true passed still waited order = at passed still (order refl)
        where
          at : (passed still : Bool) → passed ≡ not still → ((passed && true) && true) ≡ not still
          at true still is = is
          at false still is = is
      step false true false passed still waited order = cc
      step false false behind passed still waited order = cc

      by_order : (rest has : Bool) (version : ℕ) → (rest || (has && nat_lt (before tag) version)) ≡ true
          → ((nat_le version through && has) && not rest)
          ≡ not (rest || (has && nat_lt (max (before tag) through) version))
      by_order rest has version waited =
          step rest has (nat_lt (before tag) version) (nat_le version through)
          (nat_lt (max (before tag) through) version) waited
          (λ behind.
          let low : before tag < version = ltb-true (before tag) version behind in
          ⊎_elim
          (λ later.
          lt-leb version through later
          ∙ sym (ap not (lt-ltb (max (before tag) through) version (omega arith))))
          (λ reached.
          le-leb version through reached
          ∙ sym (ap not (le-ltb (max (before tag) through) version (omega arith))))
          (cases_lt through version))

  -- what waited and waits no longer is of a version up to this one, and waited for the tag
  pub leaves-for : (one : Waiting) → waits before one ≡ true → waits after one ≡ false
      → (one.0.0 ≤ through) × (list_any (λ (other : ℕ). other == tag) one.1 ≡ true) × (before tag < one.0.0)
  leaves-for one waited left =
      let version = one.0.0 in
      let rest = list_any (λ (other : ℕ). not (other == tag) && nat_lt (before other) version) one.1 in
      let has = list_any (λ (other : ℕ). other == tag) one.1 in
      let alone : ((nat_le version through && has) && not rest) ≡ true = leaves-or_stays one waited ∙ ap not left in
      let outer = and_parts (nat_le version through && has) (not rest) alone in
      let inner = and_parts (nat_le version through) has outer.0 in
      let was : (rest || (has && nat_lt (before tag) version)) ≡ true =
      sym (any-split (λ (other : ℕ). nat_lt (before other) version) tag one.1) ∙ waited in
      let own : (has && nat_lt (before tag) version) ≡ true =
      sym (ap (λ (b : Bool). b || (has && nat_lt (before tag) version)) (not-true rest outer.1)) ∙ was in (
        leb-true version through inner.0,
        inner.1,
        ltb-true (before tag) version (and_parts has (nat_lt (before tag) version) own).1,
      )

-- One mutation more, which waits where it has a tag that is kept.
more : (b : Bool) (one : Waiting) (all front back : List Waiting) → all ≡ front ++ back
    → (if b then one ∷ all else all) ≡ (if b then one ∷ front else front) ++ back
more true one all front back is = ap (λ (rest : List Waiting). one ∷ rest) is
more false one all front back is = is

module _ (kept : ℕ → Bool) (version : ℕ) where
  -- those of a message in two parts
  waiting_from-append : (index : ℕ) (front back : List Tagged)
      → waiting_from kept version index (front ++ back)
      ≡ waiting_from kept version index front ++ waiting_from kept version (index + length front) back
  waiting_from-append index [] back =
      let same : index + length {A = Tagged} [] ≡ index = omega arith in
      ap (λ (n : ℕ). waiting_from kept version n back) (sym same)
  waiting_from-append index (sent ∷ front) back =
      let next : suc index + length front ≡ index + length (sent ∷ front) = omega arith in
      more (list_any kept sent.tags) ((version, index), kept_among kept sent.tags) _ _ _
      (waiting_from-append (suc index) front back
      ∙ ap (λ (n : ℕ). waiting_from kept version (suc index) front ++ waiting_from kept version n back) next)

  -- each stands before the next index
  waiting_from-before : (index next : ℕ) (body : List Tagged) → index + length body ≤ next
      → AllByRecursion (λ (one : Waiting). ComesBefore one.0 (version, next)) (waiting_from kept version index body)
  waiting_from-before index next [] within = tt
  waiting_from-before index next (sent ∷ body) within =
      step (list_any kept sent.tags) (inr (refl, omega arith))
      (waiting_from-before (suc index) next body (omega arith))
    where
      step : (b : Bool) → ComesBefore (version, index) (version, next)
          → AllByRecursion (λ (one : Waiting). ComesBefore one.0 (version, next))
          (waiting_from kept version (suc index) body)
          → AllByRecursion (λ (one : Waiting). ComesBefore one.0 (version, next))
          (if b
          then ((version, index), kept_among kept sent.tags) ∷ waiting_from kept version (suc index) body
          else waiting_from kept version (suc index) body)
      step true here rest = (here, rest)
      step false here rest = rest

  -- they are of the version, and wait where no tag was popped so far
  pub waiting_from-wait : ((tag : ℕ) → kept tag ≡ true → tag < tag_limit) → (popped : ℕ → ℕ)
      → ((tag : ℕ) → popped tag < version) → (index : ℕ) (body : List Tagged)
      → AllByRecursion (λ (one : Waiting). (one.0.0 ≡ version) × (waits popped one ≡ true))
      (waiting_from kept version index body)
  waiting_from-wait few popped low index [] = tt
  waiting_from-wait few popped low index (sent ∷ body) =
      step (list_any kept sent.tags)
      (any-of_kept kept few sent.tags (λ (tag : ℕ). nat_lt (popped tag) version)
      (λ tag. lt-ltb (popped tag) version (low tag)))
      (waiting_from-wait few popped low (suc index) body)
    where
      step : (b : Bool)
          → (b ≡ true → list_any (λ (tag : ℕ). nat_lt (popped tag) version) (kept_among kept sent.tags) ≡ true)
          → AllByRecursion (λ (one : Waiting). (one.0.0 ≡ version) × (waits popped one ≡ true))
          (waiting_from kept version (suc index) body)
          → AllByRecursion (λ (one : Waiting). (one.0.0 ≡ version) × (waits popped one ≡ true))
          (if b
          then ((version, index), kept_among kept sent.tags) ∷ waiting_from kept version (suc index) body
          else waiting_from kept version (suc index) body)
      step true waits_now rest = ((refl, waits_now refl), rest)
      step false waits_now rest = rest

  -- and there are as many as mutations with a tag that is kept
  pub waiting_from-count : (index : ℕ) (body : List Tagged)
      → length (waiting_from kept version index body)
      ≡ count_by (λ (sent : Tagged). list_any kept sent.tags) body
  waiting_from-count index body =
      by_filter index body ∙ length-filter (λ (sent : Tagged). list_any kept sent.tags) body
    where
      step : (b : Bool) (one : Waiting) (sent : Tagged) (all : List Waiting) (some : List Tagged)
          → length all ≡ length some
          → length (if b then one ∷ all else all) ≡ length (if b then sent ∷ some else some)
      step true one sent all some is = ap suc is
      step false one sent all some is = is

      by_filter : (index : ℕ) (body : List Tagged)
          → length (waiting_from kept version index body)
          ≡ length (filter (λ (sent : Tagged). list_any kept sent.tags) body)
      by_filter index [] = refl
      by_filter index (sent ∷ body) =
          step (list_any kept sent.tags) ((version, index), kept_among kept sent.tags) sent _ _
          (by_filter (suc index) body)

  -- one mutation more of a message
  next-of : (index : ℕ) (body : List Tagged) (sent : Tagged) → index < length body → sent ≡ get_or body index sent
      → waiting_from kept version 0 (take (index + 1) body)
      ≡ waiting_from kept version 0 (take index body) ++ waiting_from kept version index (sent ∷ [])
  next-of index body sent within reads =
      let long : 0 + length (take index body) ≡ index = omega (arith, length-take index body) in
      ap (waiting_from kept version 0)
      (take_more body index sent within
      ∙ ap (λ (one : Tagged). take index body ++ one ∷ []) (sym reads))
      ∙ waiting_from-append 0 (take index body) (sent ∷ [])
      ∙ ap (λ (n : ℕ). waiting_from kept version 0 (take index body) ++ waiting_from kept version n (sent ∷ [])) long

  pub next-none : ((tag : ℕ) → kept tag ≡ true → tag < tag_limit) → (index : ℕ) (body : List Tagged)
      (sent : Tagged) (tags : List ℕ) → index < length body → sent ≡ get_or body index sent
      → tags ≡ kept_among kept sent.tags → (length tags == 0) ≡ true
      → waiting_from kept version 0 (take (index + 1) body) ≡ waiting_from kept version 0 (take index body)
  next-none few index body sent tags within reads picked none =
      let not_one : list_any kept sent.tags ≡ false =
      any-kept kept few sent.tags
      ∙ ap (λ (list : List ℕ). not (length list == 0)) (sym picked)
      ∙ ap not none in
      next-of index body sent within reads
      ∙ ap (λ (list : List Waiting). waiting_from kept version 0 (take index body) ++ list)
      (cond-false (list_any kept sent.tags) _ _ not_one)
      ∙ append-nil (waiting_from kept version 0 (take index body))

  pub next-one : ((tag : ℕ) → kept tag ≡ true → tag < tag_limit) → (index : ℕ) (body : List Tagged)
      (sent : Tagged) (tags : List ℕ) → index < length body → sent ≡ get_or body index sent
      → tags ≡ kept_among kept sent.tags → (length tags == 0) ≡ false
      → waiting_from kept version 0 (take (index + 1) body)
      ≡ waiting_from kept version 0 (take index body) ++ ((version, index), tags) ∷ []
  next-one few index body sent tags within reads picked some =
      let is_one : list_any kept sent.tags ≡ true =
      any-kept kept few sent.tags
      ∙ ap (λ (list : List ℕ). not (length list == 0)) (sym picked)
      ∙ ap not some in
      next-of index body sent within reads
      ∙ ap (λ (list : List Waiting). waiting_from kept version 0 (take index body) ++ list)
      (cond-true (list_any kept sent.tags) _ _ is_one
      ∙ ap (λ (list : List ℕ). ((version, index), list) ∷ []) (sym picked))

  -- all that were added so far come before the next index
  pub come-before : (index : ℕ) (body : List Tagged) (before : List Waiting)
      → AllByRecursion (λ (one : Waiting). one.0.0 < version) before
      → AllByRecursion (λ (one : Waiting). ComesBefore one.0 (version, index))
      (before ++ waiting_from kept version 0 (take index body))
  come-before index body before earlier =
      let short : 0 + length (take index body) ≤ index = omega (arith, length-take index body) in
      all-append (λ (one : Waiting). ComesBefore one.0 (version, index)) before
      (waiting_from kept version 0 (take index body))
      (all-weaken (λ (one : Waiting). one.0.0 < version) (λ (one : Waiting). ComesBefore one.0 (version, index))
      (λ one less. inl less) before earlier)
      (waiting_from-before 0 index (take index body) short)

-- a place that comes after all others goes to the end
greater : (one next : ℕ × ℕ) → ComesBefore one next
    → ordering_then (nat_cmp next.0 one.0) (nat_cmp next.1 one.1) ≡ Greater
greater one next before =
    ⊎_elim (λ less. ap (λ (o : Ordering). ordering_then o (nat_cmp next.1 one.1)) (above_is next.0 one.0 less))
    (λ same.
    ap (λ (o : Ordering). ordering_then o (nat_cmp next.1 one.1)) (equal_is next.0 one.0 (sym same.0))
    ∙ above_is next.1 one.1 same.1)
    before
  where
    above_is : (a b : ℕ) → b < a → nat_cmp a b ≡ Greater
    above_is a b less =
        cond-false (nat_lt a b) _ _ (le-ltb a b (omega arith))
        ∙ cond-false (a == b) _ _ (ne_eqb a b (λ same. absurd (omega arith)))

    equal_is : (a b : ℕ) → a ≡ b → nat_cmp a b ≡ Equal
    equal_is a b same =
        cond-false (nat_lt a b) _ _ (le-ltb a b (omega arith)) ∙ cond-true (a == b) _ _ (eq-eqb a b same)

pub inserted-last : (next : ℕ × ℕ) (tags : List ℕ) (before : List Waiting)
    → AllByRecursion (λ (one : Waiting). ComesBefore one.0 next) before
    → insert_entry (λ (a b : ℕ × ℕ). ordering_then (nat_cmp a.0 b.0) (nat_cmp a.1 b.1)) before next tags
    ≡ before ++ (next, tags) ∷ []
inserted-last next tags [] all = refl
inserted-last next tags (one ∷ before) all =
    ap (λ (o : Ordering). match_ordering o ((next, tags) ∷ one ∷ before) ((one.0, tags) ∷ before)
    (one ∷ insert_entry (λ (a b : ℕ × ℕ). ordering_then (nat_cmp a.0 b.0) (nat_cmp a.1 b.1)) before next tags))
    (greater one.0 next all.0)
    ∙ ap (λ (rest : List Waiting). one ∷ rest) (inserted-last next tags before all.1)
