-- The tags of mutations.
use Rattle.std.proofs.Common.{◌≡◌, ◌∙◌, sym, ap, refl, subst, ℕ, zero, suc, ◌+◌, ◌<◌, ◌≤◌, Bool, true, false, ◌&&◌}
use Rattle.std.proofs.Common.{if◌then◌else◌, List, [], ◌∷◌, ◌++◌, filter, length, ⊎_elim, arith}
use Rattle.std.specs.List.{range_with_len, list_any}
use Rattle.std.specs.Prelude.{◌==◌, nat_lt}
use Rattle.std.proofs.lemmas.Bool.{cases_Bool, cond-true, cond-false, eqb-true, eqb-false, eq-eqb, ltb-true, ltb-false}
use Rattle.std.proofs.lemmas.Bool.{false_from_ne_true, or_left, or_right}
use Rattle.std.proofs.Math.Bool.{and-true}
use Rattle.std.proofs.lemmas.List.{map-id}
use Rattle.std.proofs.lemmas.List.FromFn.{filter_of_map_range_with_len_more}
use Rattle.std.proofs.lemmas.Map.Views.{any-filter_same}
use Rattle.fdb_keys.specs.Points.{Point}
use Rattle.fdb_keys.specs.Ranges.{in_range}
use Rattle.fdb_mutations.specs.declared.mutation.Mutation.{Mutation}
use Rattle.fdb_mutations.specs.Mutations.{names}
use Rattle.fdb_txn.specs.rules.Messages.{meets_range}
use Rattle.fdb_txn.specs.rules.Splits.{piece}
use Rattle.fdb_txn.proofs.Exports.{meets_at_some_point}
use Rattle.fdb_storage.specs.ShardMaps.{shards_of, tags_of, TagsAreTheShards}

-- the numbers below n that pass a test, and then n if it does
pub filter-more : (p : ℕ → Bool) (n : ℕ)
    → filter p (range_with_len 0 (n + 1)) ≡ filter p (range_with_len 0 n) ++ (if p n then n ∷ [] else [])
filter-more p n =
    ap (filter p) (sym (map-id (range_with_len 0 (n + 1))))
    ∙ filter_of_map_range_with_len_more p (λ (tag : ℕ). tag) 0 n n (omega arith)
    ∙ ap (λ (tags : List ℕ). filter p tags ++ (if p n then n ∷ [] else [])) (map-id (range_with_len 0 n))

-- what isn't below a number and isn't it comes after it
later : (a tag : ℕ) → a ≤ tag → (a == tag) ≡ false → a < tag
later a tag above differs = ⊎_elim
    (λ after. ltb-true a tag after)
    (λ none. absurd (eqb-false a tag differs (omega (arith, above, ltb-false a tag none))))
    (cases_Bool (nat_lt a tag))

not-same : (a b : ℕ) → (a == b) ≡ false → (b == a) ≡ false
not-same a b differs = false_from_ne_true _ (λ same. eqb-false a b differs (sym (eqb-true b a same)))

-- a number from a on is among so many
any-number : (a n tag : ℕ) → a ≤ tag → tag < a + n → list_any (λ (other : ℕ). other == tag) (range_with_len a n) ≡ true
any-number a zero tag above below = absurd (omega (arith, above, below))
any-number a (suc n) tag above below = ⊎_elim
    (λ here. or_left (a == tag) _ here)
    (λ further. or_right (a == tag) (list_any (λ (other : ℕ). other == tag) (range_with_len (a + 1) n))
    (any-number (a + 1) n tag (omega (arith, later a tag above further)) (omega (arith, below))))
    (cases_Bool (a == tag))

-- a mutation has the tag of a shard exactly where it meets the shard's range
pub has-tag : (splits : List Point) (mutation : Mutation) (tag : ℕ) → tag < suc (length splits)
    → list_any (λ (other : ℕ). other == tag) (tags_of splits mutation) ≡ meets_range (piece splits tag) mutation
has-tag splits mutation tag within =
    any-filter_same (λ (other : ℕ). other == tag) meets (meets tag)
    (λ other is. ap meets (eqb-true other tag is)) (shards_of splits)
    ∙ ap (λ (found : Bool). meets tag && found)
    (any-number 0 (suc (length splits)) tag (omega arith) (omega (arith, within)))
    ∙ and-true (meets tag)
  where
    meets : ℕ → Bool
    meets other = meets_range (piece splits other) mutation

-- so where it names a point of that range
pub tags_are_the_shards : TagsAreTheShards
tags_are_the_shards splits mutation tag within = (
  λ has. (meets_at_some_point (piece splits tag) mutation).0 (sym (has-tag splits mutation tag within) ∙ has),
  λ named. has-tag splits mutation tag within ∙ (meets_at_some_point (piece splits tag) mutation).1 named,
)

-- numbers from above o on are none of them o
none-of : (a n o : ℕ) → o < a → filter (λ (tag : ℕ). o == tag) (range_with_len a n) ≡ []
none-of a zero o below = refl
none-of a (suc n) o below =
    cond-false (o == a) (a ∷ others) others
    (false_from_ne_true _ (λ same. absurd (omega (arith, eqb-true o a same, below))))
    ∙ none-of (a + 1) n o (omega (arith, below))
  where
    others : List ℕ
    others = filter (λ (tag : ℕ). o == tag) (range_with_len (a + 1) n)

-- of so many numbers just one is o
only-one : (a n o : ℕ) → a ≤ o → o < a + n → filter (λ (tag : ℕ). o == tag) (range_with_len a n) ≡ o ∷ []
only-one a zero o above below = absurd (omega (arith, above, below))
only-one a (suc n) o above below = ⊎_elim
    (λ here.
    cond-true (o == a) (a ∷ filter is_it (range_with_len (a + 1) n)) (filter is_it (range_with_len (a + 1) n)) here
    ∙ ap (λ (others : List ℕ). a ∷ others) (none-of (a + 1) n o (omega (arith, eqb-true o a here)))
    ∙ ap (λ (tag : ℕ). tag ∷ []) (sym (eqb-true o a here)))
    (λ further.
    cond-false (o == a) (a ∷ filter is_it (range_with_len (a + 1) n)) (filter is_it (range_with_len (a + 1) n)) further
    ∙ only-one (a + 1) n o (omega (arith, later a o above (not-same o a further))) (omega (arith, below)))
    (cases_Bool (o == a))
  where
    is_it : ℕ → Bool
    is_it tag = o == tag

-- two tests that say the same of each of so many numbers leave the same of them
filter-same : (p q : ℕ → Bool) (a n : ℕ) → ((tag : ℕ) → a ≤ tag → tag < a + n → p tag ≡ q tag)
    → filter p (range_with_len a n) ≡ filter q (range_with_len a n)
filter-same p q a zero same = refl
filter-same p q a (suc n) same =
    ap (λ (others : List ℕ). if p a then a ∷ others else others)
    (filter-same p q (a + 1) n (λ tag above below. same tag (omega (arith, above)) (omega (arith, below))))
    ∙ ap (λ (passes : Bool). if passes then a ∷ others else others) (same a (omega arith) (omega arith))
  where
    others : List ℕ
    others = filter q (range_with_len (a + 1) n)

-- two tests that follow from one another are the same
same-tests : (a b : Bool) → (a ≡ true → b ≡ true) → (b ≡ true → a ≡ true) → a ≡ b
same-tests true b there back = sym (there refl)
same-tests false true there back = back refl
same-tests false false there back = refl

-- a mutation of one key has the tag of the shard that holds the key, and no other
pub tags-of_key : (splits : List Point) (mutation : Mutation) (key : Point) (shard : ℕ) → shard ≤ length splits
    → in_range (piece splits shard) key ≡ true
    → ((other : ℕ) → other ≤ length splits → in_range (piece splits other) key ≡ true → other ≡ shard)
    → ((x : Point) → names mutation x ≡ true → x ≡ key) → names mutation key ≡ true
    → tags_of splits mutation ≡ shard ∷ []
tags-of_key splits mutation key shard within held alone named names_key =
    filter-same (λ (tag : ℕ). meets_range (piece splits tag) mutation) (λ (tag : ℕ). shard == tag)
    0 (suc (length splits)) each
    ∙ only-one 0 (suc (length splits)) shard (omega arith) (omega (arith, within))
  where
    each : (tag : ℕ) → 0 ≤ tag → tag < 0 + suc (length splits)
        → meets_range (piece splits tag) mutation ≡ (shard == tag)
    each tag above few =
        same-tests (meets_range (piece splits tag) mutation) (shard == tag)
        (λ meets. let found = (meets_at_some_point (piece splits tag) mutation).0 meets in
        eq-eqb shard tag (sym (alone tag (omega (arith, few))
        (subst (λ (x : Point). in_range (piece splits tag) x ≡ true) (named found.0 found.2) found.1))))
        (λ owns. (meets_at_some_point (piece splits tag) mutation).1
        (key, subst (λ (n : ℕ). in_range (piece splits n) key ≡ true) (eqb-true shard tag owns) held, names_key))
