-- What is kept for a point, after something was put under a key.
use Rattle.std.proofs.Common.{◌≡◌, ◌∙◌, sym, ap, refl, ℕ, Bool, true, false, cond, if◌then◌else◌, List, Option, Some}
use Rattle.std.proofs.Common.{None, [], ◌∷◌, ◌++◌, not, ◌&&◌, Result, Ok, Err, ⊎_elim}
use Rattle.std.specs.Ordering.{nat_cmp}
use Rattle.std.specs.Cmp.{eq_by_cmp_equiv}
use Rattle.std.specs.Cmp.Lexicographic.{slice_cmp, bytes_decides}
use Rattle.std.specs.BTreeMap.{is_at}
use Rattle.std.specs.Map.{lookup}
use Rattle.std.specs.Prelude.{OnErr, is_some}
use Rattle.std.proofs.lemmas.Bool.{cases_Bool, cond-true, cond-false}
use Rattle.std.proofs.lemmas.Cmp.{nat_list_cmp_total}
use Rattle.std.proofs.lemmas.Map.Text.{is_eq-slice_cmp}
use Rattle.fdb_keys.specs.Answers.{Answers}
use Rattle.fdb_keys.specs.declared.refusal.Refusal.{Refusal}
use Rattle.fdb_keys.specs.Points.{Point, point_eq}
use Rattle.fdb_keys.specs.Ranges.{Range, in_set}
use Rattle.fdb_keys.specs.Texts.{is_key}
use Rattle.fdb_mutations.specs.declared.mutation.Mutation.{Mutation}
use Rattle.fdb_mutations.specs.Mutations.{is_blind, new_value}
use Rattle.fdb_mutations.specs.Stamping.{is_stamped}
use Rattle.fdb_mutations.proofs.Exports.{blind_is_blind}
use Rattle.fdb_client.specs.declared.left.Left.{Left}
use Rattle.fdb_client.specs.declared.left.Left.TheVariants.{Value, Unreadable, Changes}
use Rattle.fdb_client.specs.OwnWrites.{kept_of, kept_at, left_after}

-- what is under a point
abbrev pub found : List (List ℕ × Left) → Point → Option Left
found entries x = lookup (is_at (slice_cmp nat_cmp x)) entries

-- it is the same to ask which of two points is compared with the other
pub same_point : (key x : Point) → is_at (slice_cmp nat_cmp key) x ≡ point_eq x key
same_point key x = (eq_by_cmp_equiv nat_list_cmp_total).symm key x ∙ is_eq-slice_cmp x key

-- with something new under a key it is kept there, and at every other point what was kept before
pub left_at-put : (before after : List (List ℕ × Left)) (cleared : List Range) (key : Point) (left : Left)
    → ((x : Point) → found after x ≡ cond (is_at (slice_cmp nat_cmp key) x) (Some left) (found before x))
    → (x : Point) → kept_at after cleared x ≡ (if point_eq x key then left else kept_at before cleared x)
left_at-put before after cleared key left there x =
    ap (kept_of cleared x) (there x)
    ∙ ap (λ (same : Bool). kept_of cleared x (cond same (Some left) (found before x))) (same_point key x)
    ∙ by_point (point_eq x key)
  where
    by_point : (same : Bool) → kept_of cleared x (cond same (Some left) (found before x))
        ≡ cond same left (kept_of cleared x (found before x))
    by_point true = refl
    by_point false = refl

-- either way the same
pub either_way : (test : Bool) (left : Left) → (if test then left else left) ≡ left
either_way true left = refl
either_way false left = refl

-- what is made of what was kept at a key is made of what was kept at each point that is the key
pub changed-at : (old : Point → Left) (key x : Point) (new left : Left) (change : Left → Left)
    → new ≡ (if point_eq x key then left else old x) → left ≡ change (old key)
    → new ≡ (if point_eq x key then change (old x) else old x)
changed-at old key x new left change put made =
    put ∙ ⊎_elim
    (λ (same : point_eq x key ≡ true).
    cond-true _ left (old x) same
    ∙ made
    ∙ ap (λ (y : Point). change (old y)) (sym ((bytes_decides x key).0 same))
    ∙ sym (cond-true _ (change (old x)) (old x) same))
    (λ (other : point_eq x key ≡ false).
    cond-false _ left (old x) other
    ∙ sym (cond-false _ (change (old x)) (old x) other))
    (cases_Bool (point_eq x key))

-- the same where what is put there is made of what was kept there
pub left_at-changed : (before after : List (List ℕ × Left)) (cleared : List Range) (key : Point) (left : Left)
    (change : Left → Left)
    → ((x : Point) → found after x ≡ cond (is_at (slice_cmp nat_cmp key) x) (Some left) (found before x))
    → left ≡ change (kept_at before cleared key) → (x : Point)
    → kept_at after cleared x ≡ (if point_eq x key then change (kept_at before cleared x) else kept_at before cleared x)
left_at-changed before after cleared key left change there made x =
    changed-at (kept_at before cleared) key x (kept_at after cleared x) left change
    (left_at-put before after cleared key left there x) made

-- where what has an entry is a legal key, it is so with one more entry under a legal key
pub legal-put : (before after : List (List ℕ × Left)) (key : Point) (left : Left) → is_key key ≡ true
    → ((x : Point) → is_some (found before x) ≡ true → is_key x ≡ true)
    → ((x : Point) → found after x ≡ cond (is_at (slice_cmp nat_cmp key) x) (Some left) (found before x))
    → (x : Point) → is_some (found after x) ≡ true → is_key x ≡ true
legal-put before after key left legal all there x some =
    ⊎_elim
    (λ (same : point_eq x key ≡ true). ap is_key ((bytes_decides x key).0 same) ∙ legal)
    (λ (other : point_eq x key ≡ false).
    all x (ap is_some (sym (there x ∙ cond-false _ _ _ (same_point key x ∙ other))) ∙ some))
    (cases_Bool (point_eq x key))

-- what a first mutation makes of what was kept at a key without an entry, which is cleared or not
pub first-change : (entries : List (List ℕ × Left)) (cleared : List Range) (key : Point) (mutation : Mutation)
    → found entries key ≡ None
    → left_after (if in_set cleared key then Value None else Changes []) mutation
    ≡ left_after (kept_at entries cleared key) mutation
first-change entries cleared key mutation absent =
    ap (λ (there : Option Left). left_after (kept_of cleared key there) mutation) (sym absent)

-- what a blind mutation leaves doesn't depend on what was left
pub blind-after : (left : Left) (mutation : Mutation) → is_blind mutation ≡ true
    → (if is_stamped mutation then Unreadable (new_value mutation None) else Value (new_value mutation None))
    ≡ left_after left mutation
blind-after (Value value) mutation blind =
    ap (λ (made : Option (List ℕ)). if is_stamped mutation then Unreadable made else Value made)
    (blind_is_blind mutation blind None value)
blind-after (Unreadable value) mutation blind =
    ap (λ (made : Option (List ℕ)). if is_stamped mutation then Unreadable made else Value made)
    (blind_is_blind mutation blind None value)
    ∙ turned (is_stamped mutation) (new_value mutation value)
    ∙ ap (λ (is : Bool). if is && not (is_stamped mutation) then Value (new_value mutation value)
    else Unreadable (new_value mutation value)) (sym blind)
  where
    turned : (waits : Bool) (made : Option (List ℕ))
        → (if waits then Unreadable made else Value made) ≡ (if not waits then Value made else Unreadable made)
    turned true made = refl
    turned false made = refl
blind-after (Changes mutations) mutation blind =
    ap (λ (other : Left). if is_stamped mutation then Unreadable (new_value mutation None) else other)
    (sym (cond-true _ (Value (new_value mutation None)) (Changes (mutations ++ mutation ∷ [])) blind))

-- it holds of a call whether it is refused or not
pub on_err : {T E : Type 0} (result : Result T E) (P : Type 0) → P → OnErr result P
on_err (Ok given) P holds = tt
on_err (Err why) P holds = holds

-- what follows of what holds of a call that isn't refused
pub answers_also : {T : Type 0} (result : Result T Refusal) (P Q : Type 0) → (P → Q)
    → Answers result None (λ _. P) → Answers result None (λ _. Q)
answers_also (Ok given) P Q step holds = step holds
answers_also (Err why) P Q step ran_out = ran_out
