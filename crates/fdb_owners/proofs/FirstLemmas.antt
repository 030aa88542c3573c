-- The pieces between splits.
use Rattle.std.proofs.Common.{◌≡◌, ◌∙◌, sym, ap, refl, ℕ, suc, ◌+◌, ◌<◌, Bool, true, ◌&&◌}
use Rattle.std.proofs.Common.{List, [], ◌∷◌, ◌++◌, length, take, drop, take-append-drop, ⊎_elim, arith}
use Rattle.std.specs.List.{AllByRecursion}
use Rattle.std.specs.Ordering.{match_ordering}
use Rattle.std.proofs.lemmas.Bool.{cases_Bool, and_parts, cond-true, cond-false}
use Rattle.fdb_keys.specs.Points.{Point, point_lt}
use Rattle.fdb_keys.specs.Texts.{is_bound}
use Rattle.fdb_keys.proofs.Exports.{lt_chain, cmp_greater}
use Rattle.fdb_txn.specs.rules.Owners.{first_owner}
use Rattle.fdb_txn.specs.rules.Splits.{rise_after}
use Rattle.fdb_interval.specs.Breakpoints.{Breaks, value_from}
use Rattle.fdb_interval.proofs.Exports.{value-after, put}
use Rattle.fdb_owners.specs.declared.history.History.{History}
use Rattle.fdb_owners.specs.Histories.{IsHistory}

-- a first owner and no change
abbrev pub alone : ℕ → History
alone owner = record { first = owner; changes = [] }

-- a breakpoint at each split, from the resolver with the next number on
abbrev pub first_breaks : ℕ → List Point → Breaks History
first_breaks before [] = []
first_breaks before (split ∷ splits) = (split, alone (suc before)) ∷ first_breaks (suc before) splits

-- ---- one split more
pub first_breaks-push : (before : ℕ) (splits : List Point) (split : Point)
    → first_breaks before (splits ++ split ∷ [])
    ≡ first_breaks before splits ++ (split, alone (suc (before + length splits))) ∷ []
first_breaks-push before [] split =
    ap (λ (n : ℕ). (split, alone (suc n)) ∷ []) (omega arith)
first_breaks-push before (first ∷ splits) split =
    ap (λ (l : Breaks History). (first, alone (suc before)) ∷ l)
    (first_breaks-push (suc before) splits split
    ∙ ap (λ (n : ℕ). first_breaks (suc before) splits ++ (split, alone (suc n)) ∷ []) (omega arith))

-- splits rise up to the last one
rises-to : (before : ℕ) (start : Point) (splits : List Point) (split : Point)
    → rise_after start (splits ++ split ∷ []) ≡ true
    → (point_lt start split ≡ true)
    × AllByRecursion (λ (piece : Point × History). point_lt piece.0 split ≡ true) (first_breaks before splits)
rises-to before start [] split rising = ((and_parts _ _ rising).0, tt)
rises-to before start (first ∷ splits) split rising =
    let parts = and_parts (point_lt start first) _ rising in
    let others = rises-to (suc before) first splits split parts.1 in
    (lt_chain start first split parts.0 others.0, (others.0, others.1))

rise-front : (start : Point) (front back : List Point) → rise_after start (front ++ back) ≡ true
    → rise_after start front ≡ true
rise-front start [] back rising = refl
rise-front start (first ∷ front) back rising =
    let parts = and_parts (point_lt start first) _ rising in
    ap (λ (t : Bool). t && rise_after first front) parts.0 ∙ rise-front first front back parts.1

-- what is put behind all breakpoints comes last
put-last : {V : Type 0} (x : Point) (value : V) (es : Breaks V)
    → AllByRecursion (λ (e : Point × V). point_lt e.0 x ≡ true) es → put x value es ≡ es ++ (x, value) ∷ []
put-last x value [] all = refl
put-last {V} x value (e ∷ es) all =
    ap (λ o. match_ordering o ((x, value) ∷ e ∷ es) ((e.0, value) ∷ es) (e ∷ put x value es)) (cmp_greater x e.0 all.0)
    ∙ ap (λ (l : Breaks V). e ∷ l) (put-last x value es all.1)

pub first_breaks-put : (start : Point) (all splits : List Point) (split : Point) (k n : ℕ)
    → rise_after start all ≡ true → take (k + 1) all ≡ splits ++ split ∷ [] → n ≡ suc (length splits)
    → put split (alone n) (first_breaks 0 splits) ≡ first_breaks 0 (take (k + 1) all)
first_breaks-put start all splits split k n rising more is =
    put-last split (alone n) (first_breaks 0 splits)
    (rises-to 0 start splits split
    (ap (rise_after start) (sym more)
    ∙ rise-front start (take (k + 1) all) (drop (k + 1) all) (ap (rise_after start) (take-append-drop (k + 1) all)
    ∙ rising))).1
    ∙ ap (λ (m : ℕ). first_breaks 0 splits ++ (split, alone m) ∷ []) (omega (arith, is))
    ∙ sym (first_breaks-push 0 splits split)
    ∙ ap (first_breaks 0) (sym more)

-- ---- the first owner of a point
all-later : (before : ℕ) (split : Point) (splits : List Point) (x : Point) → rise_after split splits ≡ true
    → point_lt x split ≡ true
    → AllByRecursion (λ (piece : Point × History). point_lt x piece.0 ≡ true) (first_breaks before splits)
all-later before split [] x rising sooner = tt
all-later before split (next ∷ splits) x rising sooner =
    let parts = and_parts (point_lt split next) _ rising in
    let first = lt_chain x split next sooner parts.0 in
    (first, all-later (suc before) next splits x parts.1 first)

pub first-value : (before : ℕ) (start : Point) (splits : List Point) (x : Point) → rise_after start splits ≡ true
    → value_from (alone before) (first_breaks before splits) x ≡ alone (before + first_owner splits x)
first-value before start [] x rising = ap alone (omega arith)
first-value before start (split ∷ splits) x rising = ⊎_elim
    (λ sooner.
    ap (λ (history : History). value_from history (first_breaks (suc before) splits) x) (cond-true _ _ _ sooner)
    ∙ value-after (alone before) (first_breaks (suc before) splits) x
    (all-later (suc before) split splits x (and_parts (point_lt start split) _ rising).1 sooner)
    ∙ sym (ap (λ (n : ℕ). alone (before + n)) (cond-true _ _ _ sooner) ∙ ap alone (omega arith)))
    (λ reached.
    ap (λ (history : History). value_from history (first_breaks (suc before) splits) x) (cond-false _ _ _ reached)
    ∙ first-value (suc before) split splits x (and_parts (point_lt start split) _ rising).1
    ∙ sym (ap (λ (n : ℕ). alone (before + n)) (cond-false _ _ _ reached) ∙ ap alone (omega arith)))
    (cases_Bool (point_lt x split))

pub first-pieces : (resolvers last before : ℕ) (splits : List Point) → before + length splits < resolvers
    → AllByRecursion (λ (x : Point). is_bound x ≡ true) splits
    → AllByRecursion (λ (piece : Point × History). (is_bound piece.0 ≡ true) × IsHistory resolvers last piece.1)
    (first_breaks before splits)
first-pieces resolvers last before [] few bounds = tt
first-pieces resolvers last before (split ∷ splits) few bounds = (
  (bounds.0, record { first = omega arith; changes = tt; falling = tt }),
  first-pieces resolvers last (suc before) splits (omega arith) bounds.1,
)
