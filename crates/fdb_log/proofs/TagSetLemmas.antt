-- Tags that pass a test, and the bits that stand for them.
use Rattle.std.proofs.Common.{◌≡◌, ◌∙◌, sym, ap, refl, ℕ, zero, suc, ◌+◌, ◌<◌, ◌≤◌, ◌^◌, Bool, true, false, not}
use Rattle.std.proofs.Common.{◌||◌, List, [], ◌∷◌, length, ⊎_elim, arith}
use Rattle.std.specs.Prelude.{◌&&◌, ◌==◌, ◌++◌, ◌*◌, ◌%◌, nat_lt, filter}
use Rattle.std.specs.Int.{bit_at, bit_not, trailing_zeros, w64}
use Rattle.std.specs.Int.RustNames.{bit_or}
use Rattle.std.specs.List.{list_any, range_with_len}
use Rattle.std.proofs.lemmas.Bool.{cases_Bool, cases_lt, cond-true, cond-false, eqb-true, eqb-false, eq-eqb, ne_eqb}
use Rattle.std.proofs.lemmas.Bool.{and_parts, and_from, or_left, or_right, or_cases, both_ways, ltb-true}
use Rattle.std.proofs.lemmas.List.Folds.{list_any-append}
use Rattle.std.proofs.lemmas.Nat.Bits.{bit_at-zero, bit_at-trailing_zeros, bit_at_set_same, bit_at_set_other}
use Rattle.std.proofs.lemmas.Nat.Bits.{bit_at_clear_same, bit_at_clear_other}
use lib.Bits.{bit_and}
use mathlib.Core.Logic.{◌≢◌}
use mir.Val.{bits}
use Rattle.fdb_txn.specs.Limits.{tag_limit}
use Rattle.fdb_log.specs.Messages.{is_kept, log_of}
use Rattle.fdb_log.specs.TagSets.{all_tags, is_among, tags_that, tags_of_bits}
use Rattle.fdb_log.specs.Waiting.{kept_among}

-- ---- the numbers of a range that pass a test

-- tests that answer alike pick the same
ranges-alike : (test other : ℕ → Bool) (from count : ℕ)
    → ((tag : ℕ) → from ≤ tag → tag < from + count → test tag ≡ other tag)
    → filter test (range_with_len from count) ≡ filter other (range_with_len from count)
ranges-alike test other from zero alike = refl
ranges-alike test other from (suc count) alike =
    let rest : filter test (range_with_len (from + 1) count) ≡ filter other (range_with_len (from + 1) count) =
    ranges-alike test other (from + 1) count (λ tag above low. alike tag (omega arith) (omega arith)) in
    let here : test from ≡ other from = alike from (omega arith) (omega arith) in
    ⊎_elim
    (λ passes.
    cond-true (test from) _ _ passes
    ∙ ap (λ (tags : List ℕ). from ∷ tags) rest
    ∙ sym (cond-true (other from) _ _ (sym here ∙ passes)))
    (λ fails. cond-false (test from) _ _ fails ∙ rest ∙ sym (cond-false (other from) _ _ (sym here ∙ fails)))
    (cases_Bool (test from))

-- where none passes none is picked
none-of_range : (test : ℕ → Bool) (from count : ℕ) → ((tag : ℕ) → tag < from + count → test tag ≡ false)
    → filter test (range_with_len from count) ≡ []
none-of_range test from zero none = refl
none-of_range test from (suc count) none =
    cond-false (test from) _ _ (none from (omega arith))
    ∙ none-of_range test (from + 1) count (λ tag low. none tag (omega arith))

-- the first one that passes, and then those that pass but for it
first-of_range : (test rest : ℕ → Bool) (first from count : ℕ) → from ≤ first → first < from + count
    → test first ≡ true → rest first ≡ false → ((tag : ℕ) → tag < first → test tag ≡ false)
    → ((tag : ℕ) → tag < from + count → tag ≢ first → rest tag ≡ test tag)
    → filter test (range_with_len from count) ≡ first ∷ filter rest (range_with_len from count)
first-of_range test rest first from zero above below is gone none same = absurd (omega arith)
first-of_range test rest first from (suc count) above below is gone none same =
    ⊎_elim
    (λ later.
    let fails : test from ≡ false = none from later in
    cond-false (test from) _ _ fails
    ∙ first-of_range test rest first (from + 1) count (omega arith) (omega arith) is gone none
    (λ tag low apart. same tag (omega arith) apart)
    ∙ ap (λ (more : List ℕ). first ∷ more)
    (sym (cond-false (rest from) _ _ (same from (omega arith) (λ here. absurd (omega arith)) ∙ fails))))
    (λ reached.
    let here : from ≡ first = omega arith in
    cond-true (test from) _ _ (ap test here ∙ is)
    ∙ ap (λ (it : ℕ). it ∷ filter test (range_with_len (from + 1) count)) here
    ∙ ap (λ (more : List ℕ). first ∷ more)
    (ranges-alike test rest (from + 1) count
    (λ tag later low. sym (same tag (omega arith) (λ at. absurd (omega arith))))
    ∙ sym (cond-false (rest from) _ _ (ap rest here ∙ gone))))
    (cases_lt from first)

-- one that passes is picked
picked-of_range : (test : ℕ → Bool) (tag from count : ℕ) → from ≤ tag → tag < from + count
    → test tag ≡ true → is_among (filter test (range_with_len from count)) tag ≡ true
picked-of_range test tag from zero above below passes = absurd (omega arith)
picked-of_range test tag from (suc count) above below passes =
    ⊎_elim
    (λ later.
    let among : is_among (filter test (range_with_len (from + 1) count)) tag ≡ true =
    picked-of_range test tag (from + 1) count (omega arith) (omega arith) passes in
    ⊎_elim
    (λ picked.
    ap (λ (list : List ℕ). is_among list tag) (cond-true (test from) _ _ picked)
    ∙ or_right (from == tag) (is_among (filter test (range_with_len (from + 1) count)) tag) among)
    (λ left. ap (λ (list : List ℕ). is_among list tag) (cond-false (test from) _ _ left) ∙ among)
    (cases_Bool (test from)))
    (λ reached.
    let here : from ≡ tag = omega arith in
    ap (λ (list : List ℕ). is_among list tag) (cond-true (test from) _ _ (ap test here ∙ passes))
    ∙ or_left (from == tag) (is_among (filter test (range_with_len (from + 1) count)) tag) (eq-eqb from tag here))
    (cases_lt from tag)

-- ---- which tags are among some

-- what is picked passes
picked-passes : (test : ℕ → Bool) (tags : List ℕ) (tag : ℕ) → is_among (filter test tags) tag ≡ true
    → test tag ≡ true
picked-passes test [] tag among = cc
picked-passes test (first ∷ tags) tag among =
    ⊎_elim
    (λ picked.
    let here : ((first == tag) || is_among (filter test tags) tag) ≡ true =
    sym (ap (λ (list : List ℕ). is_among list tag)
    (cond-true (test first) (first ∷ filter test tags) (filter test tags) picked))
    ∙ among in
    ⊎_elim (λ is. sym (ap test (eqb-true first tag is)) ∙ picked)
    (λ later. picked-passes test tags tag later)
    (or_cases (first == tag) (is_among (filter test tags) tag) here))
    (λ left.
    picked-passes test tags tag
    (sym (ap (λ (list : List ℕ). is_among list tag)
    (cond-false (test first) (first ∷ filter test tags) (filter test tags) left))
    ∙ among))
    (cases_Bool (test first))

-- a test finds what is among them and passes
any-of_among : (test : ℕ → Bool) (tags : List ℕ) (tag : ℕ) → is_among tags tag ≡ true → test tag ≡ true
    → list_any test tags ≡ true
any-of_among test [] tag among passes = cc
any-of_among test (first ∷ tags) tag among passes =
    ⊎_elim
    (λ is. or_left (test first) (list_any test tags) (ap test (eqb-true first tag is) ∙ passes))
    (λ later. or_right (test first) (list_any test tags) (any-of_among test tags tag later passes))
    (or_cases (first == tag) (is_among tags tag) among)

-- and where it finds something, that is among them
among-of_any : (test : ℕ → Bool) (tags : List ℕ) → list_any test tags ≡ true
    → (tag : ℕ) × (is_among tags tag ≡ true) × (test tag ≡ true)
among-of_any test [] found = absurd (both_ways false refl found)
among-of_any test (first ∷ tags) found =
    ⊎_elim
    (λ is. (first, or_left (first == first) (is_among tags first) (eq-eqb first first refl), is))
    (λ later.
    let more = among-of_any test tags later in
    (more.0, or_right (first == more.0) (is_among tags more.0) more.1, more.2))
    (or_cases (test first) (list_any test tags) found)

-- ---- the tags that pass a test

that-alike : (test other : ℕ → Bool) → ((tag : ℕ) → tag < tag_limit → test tag ≡ other tag)
    → tags_that test ≡ tags_that other
unfolding all_tags
that-alike test other alike = ranges-alike test other 0 tag_limit (λ tag above low. alike tag low)

none-that : (test : ℕ → Bool) → ((tag : ℕ) → tag < tag_limit → test tag ≡ false) → tags_that test ≡ []
unfolding all_tags
none-that test none = none-of_range test 0 tag_limit none

first-that : (test rest : ℕ → Bool) (first : ℕ) → first < tag_limit
    → test first ≡ true → rest first ≡ false → ((tag : ℕ) → tag < first → test tag ≡ false)
    → ((tag : ℕ) → tag < tag_limit → tag ≢ first → rest tag ≡ test tag)
    → tags_that test ≡ first ∷ tags_that rest
unfolding all_tags
first-that test rest first below is gone none same =
    first-of_range test rest first 0 tag_limit (omega arith) below is gone none same

picked-that : (test : ℕ → Bool) (tag : ℕ) → tag < tag_limit → test tag ≡ true → is_among (tags_that test) tag ≡ true
unfolding all_tags
picked-that test tag low passes = picked-of_range test tag 0 tag_limit (omega arith) low passes

-- a tag is among those that pass the test where it passes
among-that : (test : ℕ → Bool) (tag : ℕ) → tag < tag_limit → is_among (tags_that test) tag ≡ test tag
among-that test tag low =
    ⊎_elim (λ passes. picked-that test tag low passes ∙ sym passes)
    (λ fails.
    ⊎_elim (λ among. absurd (both_ways (test tag) fails (picked-passes test all_tags tag among)))
    (λ none. none ∙ sym fails)
    (cases_Bool (is_among (tags_that test) tag)))
    (cases_Bool (test tag))

-- ---- tags that are kept

-- of no tags none is kept
pub kept-none : (kept : ℕ → Bool) → kept_among kept [] ≡ []
kept-none kept = none-that (λ (tag : ℕ). is_among [] tag && kept tag) (λ tag low. refl)

-- The test passes tags only.
module _ (kept : ℕ → Bool) (few : (tag : ℕ) → kept tag ≡ true → tag < tag_limit) (tags : List ℕ) where
  -- what it finds among some is kept of them
  kept-found : list_any kept tags ≡ true → (tag : ℕ) × (is_among (kept_among kept tags) tag ≡ true)
  kept-found found =
      let one = among-of_any kept tags found in (
        one.0,
        picked-that (λ (tag : ℕ). is_among tags tag && kept tag) one.0 (few one.0 one.2)
            (and_from (is_among tags one.0) (kept one.0) one.1 one.2),
      )

  -- it finds one just where some are kept
  pub any-kept : list_any kept tags ≡ not (length (kept_among kept tags) == 0)
  any-kept =
      ⊎_elim
      (λ found.
      let one = kept-found found in
      found ∙ sym (ap not (some (kept_among kept tags) one.0 one.1)))
      (λ none.
      none
      ∙ sym (ap (λ (list : List ℕ). not (length list == 0))
      (none-that (λ (tag : ℕ). is_among tags tag && kept tag) (λ tag low. not_kept none tag))))
      (cases_Bool (list_any kept tags))
    where
      some : (list : List ℕ) (tag : ℕ) → is_among list tag ≡ true → (length list == 0) ≡ false
      some [] tag among = absurd (both_ways false refl among)
      some (first ∷ list) tag among = ne_eqb (length (first ∷ list)) 0 (λ same. absurd (omega arith))

      not_kept : list_any kept tags ≡ false → (tag : ℕ) → (is_among tags tag && kept tag) ≡ false
      not_kept none tag =
          ⊎_elim
          (λ both.
          let parts = and_parts (is_among tags tag) (kept tag) both in
          absurd (both_ways (list_any kept tags) none (any-of_among kept tags tag parts.0 parts.1)))
          (λ fails. fails)
          (cases_Bool (is_among tags tag && kept tag))

  -- and then a test that all tags pass finds one among those that are kept
  pub any-of_kept : (test : ℕ → Bool) → ((tag : ℕ) → test tag ≡ true) → list_any kept tags ≡ true
      → list_any test (kept_among kept tags) ≡ true
  any-of_kept test passes found =
      let one = kept-found found in
      any-of_among test (kept_among kept tags) one.0 one.1 (passes one.0)

-- what is kept of some tags is among them, and is kept
pub kept-parts : (kept : ℕ → Bool) (tags : List ℕ) (tag : ℕ) → is_among (kept_among kept tags) tag ≡ true
    → (is_among tags tag ≡ true) × (kept tag ≡ true)
kept-parts kept tags tag among =
    and_parts (is_among tags tag) (kept tag)
    (picked-passes (λ (other : ℕ). is_among tags other && kept other) all_tags tag among)

pub among-of_kept : (kept : ℕ → Bool) (tags : List ℕ) (tag : ℕ) → is_among (kept_among kept tags) tag ≡ true
    → is_among tags tag ≡ true
among-of_kept kept tags tag among = (kept-parts kept tags tag among).0

-- so one that a log keeps of them is one of as many as it has
pub kept-low : (log logs count : ℕ) (tags : List ℕ) (tag : ℕ)
    → is_among (kept_among (is_kept log logs count) tags) tag ≡ true → tag < count
kept-low log logs count tags tag among =
    ltb-true tag count (and_parts (nat_lt tag count) (log_of logs tag == log)
    (kept-parts (is_kept log logs count) tags tag among).1).0

-- one that is kept is among those kept of some just where it is among them
pub among-kept : (kept : ℕ → Bool) (few : (tag : ℕ) → kept tag ≡ true → tag < tag_limit) (tags : List ℕ) (tag : ℕ)
    → kept tag ≡ true → is_among (kept_among kept tags) tag ≡ is_among tags tag
among-kept kept few tags tag here =
    among-that (λ (other : ℕ). is_among tags other && kept other) tag (few tag here)
    ∙ ap (λ (b : Bool). is_among tags tag && b) here
    ∙ either (is_among tags tag)
  where
    either : (among : Bool) → (among && true) ≡ among
    either true = refl
    either false = refl

-- a tag that a log keeps is one of those that there may be
pub few-kept : (log logs tags : ℕ) → tags ≤ tag_limit → (tag : ℕ) → is_kept log logs tags tag ≡ true
    → tag < tag_limit
few-kept log logs tags few tag kept =
    let low : tag < tags = ltb-true tag tags (and_parts (nat_lt tag tags) (log_of logs tag == log) kept).0 in
    omega arith

-- with one tag more, which is kept, that one is added
pub kept-more : (kept : ℕ → Bool) (front : List ℕ) (it : ℕ) → kept it ≡ true
    → tags_that (is_among (it ∷ kept_among kept front)) ≡ kept_among kept (front ++ it ∷ [])
kept-more kept front it here =
    that-alike (is_among (it ∷ kept_among kept front)) (λ (tag : ℕ). is_among (front ++ it ∷ []) tag && kept tag)
    (λ tag low.
    ap (λ (b : Bool). (it == tag) || b) (among-that (λ (other : ℕ). is_among front other && kept other) tag low)
    ∙ step (is_among front tag) (kept tag) (it == tag) (λ is. sym (ap kept (eqb-true it tag is)) ∙ here)
    ∙ ap (λ (b : Bool). b && kept tag) (sym (list_any-append (λ (other : ℕ). other == tag) front (it ∷ []))))
  where
    step : (among kept is : Bool) → (is ≡ true → kept ≡ true)
        → (is || (among && kept)) ≡ ((among || (is || false)) && kept)
    step among false true here = let apart : false ≡ true = here refl in cc
    step true true true here = refl
    step false true true here = refl
    step true kept false here = refl
    step false true false here = refl
    step false false false here = refl

-- and with one that isn't kept none is
pub kept-left : (kept : ℕ → Bool) (front : List ℕ) (it : ℕ) → kept it ≡ false
    → kept_among kept front ≡ kept_among kept (front ++ it ∷ [])
kept-left kept front it gone =
    that-alike (λ (tag : ℕ). is_among front tag && kept tag) (λ (tag : ℕ). is_among (front ++ it ∷ []) tag && kept tag)
    (λ tag low.
    step (is_among front tag) (kept tag) (it == tag) (λ is. sym (ap kept (eqb-true it tag is)) ∙ gone)
    ∙ ap (λ (b : Bool). b && kept tag) (sym (list_any-append (λ (other : ℕ). other == tag) front (it ∷ []))))
  where
    step : (among kept is : Bool) → (is ≡ true → kept ≡ false)
        → (among && kept) ≡ ((among || (is || false)) && kept)
    step among true true left = let apart : true ≡ false = left refl in cc
    step true false true left = refl
    step false false true left = refl
    step true kept false left = refl
    step false true false left = refl
    step false false false left = refl

-- ---- bits

-- where no bit is 1 there is no tag
pub bits-none : tags_of_bits 0 ≡ []
bits-none = none-that (λ (tag : ℕ). bit_at 0 tag == 1) (λ tag low. ap (λ (n : ℕ). n == 1) (bit_at-zero tag))

-- where the bit of a tag is set the tag is added
pub bits-set : (n it : ℕ) → it < tag_limit
    → tags_of_bits (bit_or n (1 * 2 ^ it % 2 ^ bits w64)) ≡ tags_that (is_among (it ∷ tags_of_bits n))
bits-set n it within =
    let set = bit_or n (1 * 2 ^ it % 2 ^ bits w64) in
    that-alike (λ (tag : ℕ). bit_at set tag == 1) (is_among (it ∷ tags_of_bits n))
    (λ tag low.
    ⊎_elim
    (λ is.
    ap (λ (bit : ℕ). bit == 1) (ap (bit_at set) (sym (eqb-true it tag is)) ∙ bit_at_set_same w64 n it within)
    ∙ sym (or_left (it == tag) (is_among (tags_of_bits n) tag) is))
    (λ apart.
    ap (λ (bit : ℕ). bit == 1) (bit_at_set_other w64 n it within tag (λ same. eqb-false it tag apart (sym same)))
    ∙ sym (ap (λ (b : Bool). b || is_among (tags_of_bits n) tag) apart
    ∙ among-that (λ (other : ℕ). bit_at n other == 1) tag low))
    (cases_Bool (it == tag)))

-- where the lowest bit is cleared the first tag is taken
pub bits-first : (n : ℕ) → 0 < n → n < 2 ^ 64
    → tags_of_bits n
    ≡ trailing_zeros w64 n ∷ tags_of_bits (bit_and n (bit_not w64 (1 * 2 ^ trailing_zeros w64 n % 2 ^ bits w64)))
bits-first n some fits =
    let lowest = bit_at-trailing_zeros w64 n some fits in
    let first = trailing_zeros w64 n in
    let rest = bit_and n (bit_not w64 (1 * 2 ^ first % 2 ^ bits w64)) in
    first-that (λ (tag : ℕ). bit_at n tag == 1) (λ (tag : ℕ). bit_at rest tag == 1) first lowest.0
    (ap (λ (bit : ℕ). bit == 1) lowest.1)
    (ap (λ (bit : ℕ). bit == 1) (bit_at_clear_same w64 n first lowest.0))
    (λ tag low. ap (λ (bit : ℕ). bit == 1) (lowest.2 tag low))
    (λ tag low apart. ap (λ (bit : ℕ). bit == 1) (bit_at_clear_other w64 n first lowest.0 tag low apart))

-- and isn't there any more
pub bits-once : (n : ℕ) → 0 < n → n < 2 ^ 64
    → is_among (tags_of_bits (bit_and n (bit_not w64 (1 * 2 ^ trailing_zeros w64 n % 2 ^ bits w64))))
    (trailing_zeros w64 n) ≡ false
bits-once n some fits =
    let lowest = bit_at-trailing_zeros w64 n some fits in
    let first = trailing_zeros w64 n in
    let rest = bit_and n (bit_not w64 (1 * 2 ^ first % 2 ^ bits w64)) in
    among-that (λ (tag : ℕ). bit_at rest tag == 1) first lowest.0
    ∙ ap (λ (bit : ℕ). bit == 1) (bit_at_clear_same w64 n first lowest.0)

-- there is no tag just where the number is 0
pub bits-empty : (n : ℕ) → n < 2 ^ 64 → (n == 0) ≡ (length (tags_of_bits n) == 0)
bits-empty n fits =
    ⊎_elim
    (λ none.
    none
    ∙ sym (ap (λ (list : List ℕ). length list == 0)
    (ap tags_of_bits (eqb-true n 0 none) ∙ bits-none)))
    (λ some.
    let apart : n ≢ 0 = eqb-false n 0 some in
    some
    ∙ sym (ap (λ (list : List ℕ). length list == 0) (bits-first n (omega arith) fits)
    ∙ ne_eqb _ 0 (λ same. absurd (omega arith))))
    (cases_Bool (n == 0))
