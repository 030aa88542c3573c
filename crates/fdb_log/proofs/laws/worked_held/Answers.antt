use Rattle.std.proofs.Common.{◌≡◌, ◌∙◌, ap, ap₂, refl, ℕ, ◌+◌, max, Bool, true, false, List, [], ◌∷◌, ◌++◌, arith}
use Rattle.std.proofs.Common.{if◌then◌else◌}
use Rattle.std.specs.Prelude.{◌==◌, ◌&&◌, nat_lt, filter, count_by}
use Rattle.std.specs.List.{list_any}
use Rattle.fdb_mutations.specs.declared.mutation.Mutation.{Mutation}
use Rattle.fdb_log.specs.declared.message.Tagged.{Tagged}
use Rattle.fdb_log.specs.Examples.{sent_with, first_to, second_to}
use Rattle.fdb_log.specs.Logs.{Log, keeps, held, popped_through}
use Rattle.fdb_log.specs.Messages.{log_of, is_kept}
use Rattle.fdb_log.specs.TagSets.{all_tags}
use Rattle.fdb_log.specs.Waiting.{Waiting, kept_among, waits, waits_for_alone, waiting_of}
use Rattle.fdb_log.proofs.laws.worked_held.Goals as goal

-- what a log keeps, by its numbers
keeps-is : (core : Log) (log logs tags tag : ℕ) → core.log ≡ log → core.logs ≡ logs → core.tags ≡ tags
    → keeps core tag ≡ is_kept log logs tags tag
keeps-is core log logs tags tag log_is logs_is tags_is =
    ap (λ (n : ℕ). nat_lt tag n && (log_of core.logs tag == core.log)) tags_is
    ∙ ap (λ (n : ℕ). nat_lt tag tags && (log_of n tag == core.log)) logs_is
    ∙ ap (λ (n : ℕ). nat_lt tag tags && (log_of logs tag == n)) log_is

-- how many have a tag that is kept
abbrev counted : (ℕ → Bool) → List Tagged → ℕ
counted kept body = count_by (λ (sent : Tagged). list_any kept sent.tags) body

-- tag 1 alone, where it is kept
only-one : (kept : ℕ → Bool) → kept 1 ≡ true → kept_among kept (1 ∷ []) ≡ 1 ∷ []
unfolding all_tags
only-one kept one_is = ap (λ (one : Bool). if one then 1 ∷ [] else []) one_is

-- tags 0 and 1, where each is kept or isn't
of-both : (kept : ℕ → Bool) (zero one : Bool) → kept 0 ≡ zero → kept 1 ≡ one
    → kept_among kept (0 ∷ 1 ∷ [])
    ≡ (if zero then 0 ∷ (if one then 1 ∷ [] else []) else (if one then 1 ∷ [] else []))
unfolding all_tags
of-both kept zero one zero_is one_is =
    ap₂ (λ (zero one : Bool). if zero then 0 ∷ (if one then 1 ∷ [] else []) else (if one then 1 ∷ [] else []))
    zero_is one_is

-- where tag 1 is kept, and tag 0 isn't
module _ (kept : ℕ → Bool) (zero_is : kept 0 ≡ false) (one_is : kept 1 ≡ true) (mutation : Mutation) where
  own-waits : waiting_of kept (first_to 1 (sent_with mutation (1 ∷ []) ∷ [])) ≡ ((100, 0), 1 ∷ []) ∷ []
  own-waits = rw one_is (ap (λ (tags : List ℕ). ((100, 0), tags) ∷ []) (only-one kept one_is))

  own-counts : counted kept (sent_with mutation (1 ∷ []) ∷ []) ≡ 1
  own-counts = rw one_is refl

  shared-waits : waiting_of kept (second_to 1 (sent_with mutation (0 ∷ 1 ∷ []) ∷ [])) ≡ ((200, 0), 1 ∷ []) ∷ []
  shared-waits =
      rw (zero_is, one_is) (ap (λ (tags : List ℕ). ((200, 0), tags) ∷ []) (of-both kept false true zero_is one_is))

  shared-counts : counted kept (sent_with mutation (0 ∷ 1 ∷ []) ∷ []) ≡ 1
  shared-counts = rw (zero_is, one_is) refl

-- where both are kept
module _ (kept : ℕ → Bool) (zero_is : kept 0 ≡ true) (one_is : kept 1 ≡ true) (mutation : Mutation) where
  one-waits : waiting_of kept (first_to 0 (sent_with mutation (1 ∷ []) ∷ sent_with mutation [] ∷ []))
      ≡ ((100, 0), 1 ∷ []) ∷ []
  one-waits = rw one_is (ap (λ (tags : List ℕ). ((100, 0), tags) ∷ []) (only-one kept one_is))

  one-counts : counted kept (sent_with mutation (1 ∷ []) ∷ sent_with mutation [] ∷ []) ≡ 1
  one-counts = rw one_is refl

  both-wait : waiting_of kept (second_to 0 (sent_with mutation (0 ∷ 1 ∷ []) ∷ [])) ≡ ((200, 0), 0 ∷ 1 ∷ []) ∷ []
  both-wait =
      rw zero_is (ap (λ (tags : List ℕ). ((200, 0), tags) ∷ []) (of-both kept true true zero_is one_is))

  both-count : counted kept (sent_with mutation (0 ∷ 1 ∷ []) ∷ []) ≡ 1
  both-count = rw zero_is refl

-- one that waits for tag 1, and one for both
abbrev two_wait : List Waiting
two_wait = ((100, 0), 1 ∷ []) ∷ ((200, 0), 0 ∷ 1 ∷ []) ∷ []

-- the first one waits for tag 1 alone
leaves-first : (popped : ℕ → ℕ) → popped 0 ≡ 0 → count_by (waits_for_alone popped 1 200) two_wait ≡ 1
leaves-first popped none = rw none refl

stays-second : (popped : ℕ → ℕ) → popped 0 ≡ 0 → popped 1 ≡ 200
    → filter (waits popped) two_wait ≡ ((200, 0), 0 ∷ 1 ∷ []) ∷ []
stays-second popped none through = rw (none, through) refl

-- and then the second one for tag 0 alone
leaves-second : (popped : ℕ → ℕ) → popped 1 ≡ 200
    → count_by (waits_for_alone popped 0 200) (((200, 0), 0 ∷ 1 ∷ []) ∷ []) ≡ 1
leaves-second popped through = rw through refl

pub returns-clause-of_two : goal.returns-clause-of_two
returns-clause-of_two c own shared new one two popped is_new first second pops =
    let kept : (tag : ℕ) → keeps new tag ≡ is_kept 1 2 2 tag =
    λ tag. keeps-is new 1 2 2 tag is_new.log is_new.logs is_new.tags in
    let kept_then : (tag : ℕ) → keeps one tag ≡ is_kept 1 2 2 tag =
    λ tag. keeps-is one 1 2 2 tag (first.same.log ∙ is_new.log) (first.same.logs ∙ is_new.logs)
    (first.same.tags ∙ is_new.tags) in
    let of_new : held new ≡ 0 = is_new.held in
    let of_one : held one ≡ held new + 1 =
    first.held ∙ ap (λ (n : ℕ). held new + n) (own-counts (keeps new) (kept 0) (kept 1) own) in
    let of_two : held two ≡ held one + 1 =
    second.held ∙ ap (λ (n : ℕ). held one + n) (shared-counts (keeps one) (kept_then 0) (kept_then 1) shared) in
    let wait : two.waiting ≡ ((100, 0), 1 ∷ []) ∷ ((200, 0), 1 ∷ []) ∷ [] =
    second.waiting
    ∙ ap₂ (λ (front back : List Waiting). front ++ back)
    (first.waiting
    ∙ ap₂ (λ (front back : List Waiting). front ++ back) is_new.waiting
    (own-waits (keeps new) (kept 0) (kept 1) own))
    (shared-waits (keeps one) (kept_then 0) (kept_then 1) shared) in
    let leave : count_by (waits_for_alone (popped_through two) 1 200) two.waiting ≡ 2 =
    ap (count_by (waits_for_alone (popped_through two) 1 200)) wait in
    (of_new, omega arith, omega arith, omega (arith, pops.held))

pub returns-clause-of_one : goal.returns-clause-of_one
returns-clause-of_one c own shared new one two first both is_new takes then_takes pops then_pops =
    let kept : (tag : ℕ) → keeps new tag ≡ is_kept 0 1 2 tag =
    λ tag. keeps-is new 0 1 2 tag is_new.log is_new.logs is_new.tags in
    let kept_then : (tag : ℕ) → keeps one tag ≡ is_kept 0 1 2 tag =
    λ tag. keeps-is one 0 1 2 tag (takes.same.log ∙ is_new.log) (takes.same.logs ∙ is_new.logs)
    (takes.same.tags ∙ is_new.tags) in
    let of_new : held new ≡ 0 = is_new.held in
    let of_one : held one ≡ held new + 1 =
    takes.held ∙ ap (λ (n : ℕ). held new + n) (one-counts (keeps new) (kept 0) (kept 1) own) in
    let of_two : held two ≡ held one + 1 =
    then_takes.held ∙ ap (λ (n : ℕ). held one + n) (both-count (keeps one) (kept_then 0) (kept_then 1) shared) in
    let wait : two.waiting ≡ two_wait =
    then_takes.waiting
    ∙ ap₂ (λ (front back : List Waiting). front ++ back)
    (takes.waiting
    ∙ ap₂ (λ (front back : List Waiting). front ++ back) is_new.waiting
    (one-waits (keeps new) (kept 0) (kept 1) own))
    (both-wait (keeps one) (kept_then 0) (kept_then 1) shared) in
    let unpopped : (tag : ℕ) → popped_through two tag ≡ 0 =
    λ tag. then_takes.popped tag ∙ takes.popped tag ∙ is_new.popped tag in
    let leave : count_by (waits_for_alone (popped_through two) 1 200) two.waiting ≡ 1 =
    ap (count_by (waits_for_alone (popped_through two) 1 200)) wait
    ∙ leaves-first (popped_through two) (unpopped 0) in
    let through : popped_through first 1 ≡ 200 = pops.popped ∙ ap (λ (n : ℕ). max n 200) (unpopped 1) in
    let stay : first.waiting ≡ ((200, 0), 0 ∷ 1 ∷ []) ∷ [] =
    pops.waiting
    ∙ ap (filter (waits (popped_through first))) wait
    ∙ stays-second (popped_through first) (pops.others_popped 0 refl ∙ unpopped 0) through in
    let leave_then : count_by (waits_for_alone (popped_through first) 0 200) first.waiting ≡ 1 =
    ap (count_by (waits_for_alone (popped_through first) 0 200)) stay
    ∙ leaves-second (popped_through first) through in
    (omega arith, omega arith, omega (arith, pops.held), omega (arith, pops.held, then_pops.held))
