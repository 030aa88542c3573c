-- What all resolvers found, joined place by place, is the conflict set of each place by the rule.
use Rattle.std.proofs.Common.{◌≡◌, ◌∙◌, sym, ap, subst, refl, ℕ, zero, suc, ◌<◌, ◌≤◌, Bool, true, false, ◌&&◌, ◌||◌}
use Rattle.std.proofs.Common.{◌==◌, List, [], ◌∷◌, fold, length, slice_get, Option, Some}
use Rattle.std.proofs.Common.{None, if◌then◌else◌, ⊎_elim, arith}
use Rattle.std.specs.Prelude.{⊤}
use Rattle.std.specs.List.{list_any, list_all}
use Rattle.std.proofs.Math.Bool.{or-false}
use Rattle.std.proofs.lemmas.Bool.{cases_Bool, cases_lt, both_ways, and_parts, and_from, false_from_ne_true, eqb-true}
use Rattle.std.proofs.lemmas.Bool.{cond-true, cond-false}
use Rattle.std.proofs.lemmas.List.{get_or_past}
use Rattle.std.proofs.lemmas.List.FromFn.{length-map-range_with_len, get_or-map-range_with_len}
use Rattle.std.proofs.lemmas.Option.{slice_get_cases}
use Rattle.std.proofs.lemmas.Map.Keys.{any_passes_from_place}
use Rattle.fdb_keys.specs.Insertion.{with_ranges}
use Rattle.fdb_keys.specs.Points.{Point}
use Rattle.fdb_keys.specs.Ranges.{Range, in_set}
use Rattle.fdb_keys.proofs.Exports.{in_with_ranges}
use Rattle.fdb_txn.specs.book.Transactions.{Transaction}
use Rattle.fdb_txn.specs.book.Book.{Head, Place, head_of, placed, add_places}
use Rattle.fdb_txn.specs.book.History.{IsHistory}
use Rattle.fdb_txn.specs.book.Places.{place_in}
use Rattle.fdb_txn.specs.rules.Admission.{is_fresh}
use Rattle.fdb_txn.specs.rules.Conflicts.{in_conflict, in_conflict_of}
use Rattle.fdb_txn.proofs.Exports.{conflicts_are_found, found_is_in_conflict}
use Rattle.fdb_resolver.specs.Rule.{Found, finds}
use Rattle.fdb_proxy.specs.Conflicts.{with_found, conflict_by, joined_by, conflicts_by, set_at}
use Rattle.fdb_proxy.specs.Verdicts.{found_at, conflict_at}
use Rattle.fdb_proxy.specs.VerdictLaws.{ConflictsAreJoinedByTheRule}
use Rattle.fdb_proxy.proofs.OutcomeLemmas.{place_of-any}
use Rattle.fdb_proxy.proofs.VerdictLemmas.{history-before}

swap : (a b c : Bool) → (a || (b || c)) ≡ ((b || a) || c)
swap true true c = refl
swap true false c = refl
swap false true c = refl
swap false false c = refl

in_if : (same : Bool) (ranges set : List Range) (x : Point)
    → in_set (if same then with_ranges ranges set else set) x ≡ ((same && in_set ranges x) || in_set set x)
in_if true ranges set x = in_with_ranges ranges set x
in_if false ranges set x = refl

-- the points that one resolver found at place p are added
in_with_found : (p : ℕ) (found : Found) (set : List Range) (x : Point)
    → in_set (with_found p found set) x ≡ (finds p found x || in_set set x)
in_with_found p [] set x = refl
in_with_found p (one ∷ found) set x =
    in_with_found p found (if one.0 == p then with_ranges one.1 set else set) x
    ∙ ap (λ (b : Bool). finds p found x || b) (in_if (one.0 == p) one.1 set x)
    ∙ swap (finds p found x) ((one.0 == p) && in_set one.1 x) (in_set set x)

-- a point was found at place p by some resolver
abbrev some_finds : ℕ → List Found → Point → Bool
some_finds p all x = list_any (λ (found : Found). finds p found x) all

in_joined : (p : ℕ) (all : List Found) (set : List Range) (x : Point)
    → in_set (fold (λ (joined : List Range) (found : Found). with_found p found joined) set all) x
    ≡ (some_finds p all x || in_set set x)
in_joined p [] set x = refl
in_joined p (found ∷ all) set x =
    in_joined p all (with_found p found set) x
    ∙ ap (λ (b : Bool). some_finds p all x || b) (in_with_found p found set x)
    ∙ swap (some_finds p all x) (finds p found x) (in_set set x)

-- nobody finds a point where nobody found anything
none-found : (found : Found) (p : ℕ) (x : Point) → length found == 0 ≡ true → finds p found x ≡ false
none-found [] p x none = refl
none-found (one ∷ found) p x none =
    let no : suc (length found) ≡ 0 = eqb-true _ _ none in absurd (omega (arith, no))

all-silent : (all : List Found) (p : ℕ) (x : Point)
    → list_all (λ (found : Found). length found == 0) all ≡ true → some_finds p all x ≡ false
all-silent [] p x none = refl
all-silent (found ∷ all) p x none =
    let parts = and_parts (length found == 0) (list_all (λ (of : Found). length of == 0) all) none in
    ap (λ (here : Bool). here || some_finds p all x) (none-found found p x parts.0) ∙ all-silent all p x parts.1

-- the set of a place of the batch has what some resolver found there
in_set_at : (all : List Found) (count p : ℕ) (x : Point) → p < count
    → in_set (set_at p (conflicts_by all count)) x ≡ some_finds p all x
in_set_at all count p x within = ⊎_elim
    (λ none.
    ap (λ (sets : List (List Range)). in_set (set_at p sets) x)
    (cond-true (list_all (λ (found : Found). length found == 0) all) [] (joined_by all count) none)
    ∙ sym (all-silent all p x none))
    (λ some.
    ap (λ (sets : List (List Range)). in_set (set_at p sets) x)
    (cond-false (list_all (λ (found : Found). length found == 0) all) [] (joined_by all count) some)
    ∙ ap (λ (set : List Range). in_set set x)
    (get_or-map-range_with_len (conflict_by all) 0 count p p [] within (omega arith))
    ∙ in_joined p all [] x
    ∙ or-false (some_finds p all x))
    (cases_Bool (list_all (λ (found : Found). length found == 0) all))

-- and no other place has a set
past-set_at : (all : List Found) (count p : ℕ) (x : Point) → count ≤ p
    → in_set (set_at p (conflicts_by all count)) x ≡ false
past-set_at all count p x beyond = ⊎_elim
    (λ none.
    ap (λ (sets : List (List Range)). in_set (set_at p sets) x)
    (cond-true (list_all (λ (found : Found). length found == 0) all) [] (joined_by all count) none))
    (λ some.
    ap (λ (sets : List (List Range)). in_set (set_at p sets) x)
    (cond-false (list_all (λ (found : Found). length found == 0) all) [] (joined_by all count) some)
    ∙ ap (λ (set : List Range). in_set set x)
    (get_or_past (joined_by all count) p []
    (subst (λ (n : ℕ). n ≤ p) (sym (length-map-range_with_len (conflict_by all) 0 count)) beyond)))
    (cases_Bool (list_all (λ (found : Found). length found == 0) all))

-- the place, if there is one, with those before it is a history
abbrev IsOfHistory : ℕ → Option (Place × List Place) → Type 0
IsOfHistory resolvers None = ⊤
IsOfHistory resolvers (Some there) = IsHistory resolvers (there.0 ∷ there.1)

place-of_history : (resolvers : ℕ) (head : Head) (n : ℕ) (batch : List Transaction) (earlier : List Place) (k : ℕ)
    → IsHistory resolvers (add_places head n batch earlier) → IsOfHistory resolvers (place_in head n batch earlier k)
place-of_history resolvers head n [] earlier k history = tt
place-of_history resolvers head n (t ∷ ts) earlier zero history =
    history-before resolvers head (suc n) ts (placed head n t ∷ earlier) history
place-of_history resolvers head n (t ∷ ts) earlier (suc k) history =
    place-of_history resolvers head (suc n) ts (placed head n t ∷ earlier) k history

past-place : (head : Head) (n : ℕ) (batch : List Transaction) (earlier : List Place) (k : ℕ) → length batch ≤ k
    → place_in head n batch earlier k ≡ None
past-place head n [] earlier k beyond = refl
past-place head n (t ∷ ts) earlier zero beyond = absurd (omega arith)
past-place head n (t ∷ ts) earlier (suc k) beyond =
    past-place head (suc n) ts (placed head n t ∷ earlier) k (omega arith)

same-test : (a b : Bool) → (a ≡ true → b ≡ true) → (b ≡ true → a ≡ true) → a ≡ b
same-test true b to back = sym (to refl)
same-test false b to back = sym (false_from_ne_true b (λ is. both_ways false refl (back is)))

-- at a place the resolvers together find what is in its conflict set
together : (splits : List Point) (there : Option (Place × List Place)) (all : List Found) (p : ℕ) (x : Point)
    → IsOfHistory (suc (length splits)) there → length all ≡ suc (length splits)
    → ((i : ℕ) (found : Found) → slice_get all i ≡ Some found → finds p found x ≡ found_at splits i there x)
    → some_finds p all x ≡ conflict_at splits there x
together splits None all p x history count each = false_from_ne_true _ (λ some.
    let found = place_of-any (λ (of : Found). finds p of x) all some in
    both_ways _ (each found.0 found.1 found.2) found.3)
together splits (Some there) all p x history count each = same-test _ _
    (λ some.
    let found = place_of-any (λ (of : Found). finds p of x) all some in
    let parts = and_parts (is_fresh there.0) (in_conflict_of splits found.0 there.1 there.0 x)
    (sym (each found.0 found.1 found.2) ∙ found.3) in
    and_from (is_fresh there.0) (in_conflict splits there.1 there.0 x) parts.0
    (found_is_in_conflict splits found.0 there.1 there.0 x parts.1))
    (λ conflict.
    let parts = and_parts (is_fresh there.0) (in_conflict splits there.1 there.0 x) conflict in
    let finder = (conflicts_are_found splits there.1 there.0 x history).0 parts.1 in
    ⊎_elim
    (λ here.
    any_passes_from_place (λ (of : Found). finds p of x) all finder.0 here.0 here.2
    (each finder.0 here.0 here.2
    ∙ and_from (is_fresh there.0) (in_conflict_of splits finder.0 there.1 there.0 x) parts.0 finder.2))
    (λ past. absurd (omega (arith, count, past.0, finder.1)))
    (slice_get_cases all finder.0).1)

pub conflicts_are_joined_by_the_rule : ConflictsAreJoinedByTheRule
conflicts_are_joined_by_the_rule splits before entry all history are p x = ⊎_elim
    (λ within.
    in_set_at all (length entry.batch) p x within
    ∙ together splits (place_in head 0 entry.batch before.places p) all p x
    (place-of_history (suc (length splits)) head 0 entry.batch before.places p history) are.count
    (λ i found there. are.each i found there p x))
    (λ beyond.
    past-set_at all (length entry.batch) p x beyond
    ∙ sym (ap (λ (there : Option (Place × List Place)). conflict_at splits there x)
    (past-place head 0 entry.batch before.places p beyond)))
    (cases_lt p (length entry.batch))
  where
    head : Head
    head = head_of before entry
