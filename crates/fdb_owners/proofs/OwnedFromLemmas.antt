-- Who owned the keys of a history at some version of a span.
use Rattle.std.proofs.Common.{◌≡◌, ◌∙◌, sym, ap, ap₂, refl, ℕ, zero, suc, ◌<◌, ◌≤◌, Bool, true, false, ◌&&◌, ◌||◌}
use Rattle.std.proofs.Common.{◌==◌, nat_lt, nat_le, List, [], ◌∷◌, ⊎_elim, arith}
use Rattle.std.specs.List.{AllByRecursion, list_any}
use Rattle.std.proofs.lemmas.Bool.{cases_lt, and_parts, and_from, cond-true, cond-false, ltb-true, leb-true, lt-ltb}
use Rattle.std.proofs.lemmas.Bool.{le-leb, lt-leb, false_from_ne_true}
use Rattle.fdb_keys.proofs.Exports.{all-weaken}
use Rattle.fdb_owners.specs.declared.history.Change.{Change}
use Rattle.fdb_owners.specs.declared.history.History.{History}
use Rattle.fdb_owners.specs.Histories.{AreFalling, owner_by, owner_in, any_between}
use Rattle.fdb_owners.specs.Parts.{owned_from}

-- the version is above one and at most another
abbrev is_within : ℕ → ℕ → ℕ → Bool
is_within since through v = nat_lt since v && nat_le v through

-- some change of such a version is to resolver i
abbrev any_within : ℕ → ℕ → ℕ → List Change → Bool
any_within i since through changes =
    list_any (λ (change : Change).
    nat_lt since change.version && nat_le change.version through && (change.owner == i)) changes

within : (since through v : ℕ) → since < v → v ≤ through → is_within since through v ≡ true
within since through v above up_to = and_from _ _ (lt-ltb since v above) (le-leb v through up_to)

not_within : (since through v : ℕ) → (since < v → v ≤ through → ⊥) → is_within since through v ≡ false
not_within since through v none = false_from_ne_true _ (λ is.
    let parts : (nat_lt since v ≡ true) × (nat_le v through ≡ true) = and_parts _ _ is in
    none (ltb-true since v parts.0) (leb-true v through parts.1))

any-skip : (i since through : ℕ) (change : Change) (older : List Change)
    → (since < change.version → change.version ≤ through → ⊥)
    → any_within i since through (change ∷ older) ≡ any_within i since through older
any-skip i since through change older none =
    ap (λ (t : Bool). t && (change.owner == i) || any_within i since through older)
    (not_within since through change.version none)

any-take : (i since through : ℕ) (change : Change) (older : List Change)
    → since < change.version → change.version ≤ through
    → any_within i since through (change ∷ older) ≡ ((change.owner == i) || any_within i since through older)
any-take i since through change older above up_to =
    ap (λ (t : Bool). t && (change.owner == i) || any_within i since through older)
    (within since through change.version above up_to)

-- no version is above one and at most a lesser one
any-empty : (i since through : ℕ) (changes : List Change) → through ≤ since
    → any_within i since through changes ≡ false
any-empty i since through [] order = refl
any-empty i since through (change ∷ older) order =
    any-skip i since through change older (λ above up_to. omega (arith, order, above, up_to))
    ∙ any-empty i since through older order

-- changes up to a version are up to the next one too
any-same : (i since v : ℕ) (changes : List Change) → AllByRecursion (λ (change : Change). change.version ≤ v) changes
    → any_within i since (suc v) changes ≡ any_within i since v changes
any-same i since v [] all = refl
any-same i since v (change ∷ older) all =
    ap₂ (λ (up_to rest : Bool). nat_lt since change.version && up_to && (change.owner == i) || rest)
    (le-leb change.version (suc v) (omega (arith, all.0)) ∙ sym (le-leb change.version v all.0))
    (any-same i since v older all.1)

owner-older : (first v : ℕ) (change : Change) (older : List Change) → v < change.version
    → owner_by first (change ∷ older) v ≡ owner_by first older v
owner-older first v change older later = cond-false _ _ _ (lt-leb change.version v later)

owner-here : (first v : ℕ) (change : Change) (older : List Change) → change.version ≤ v
    → owner_by first (change ∷ older) v ≡ change.owner
owner-here first v change older by = cond-true _ _ _ (le-leb change.version v by)

or-held : (a b : Bool) → (a || b) ≡ (a || (a || b))
or-held true b = refl
or-held false b = refl

or-turned : (a b rest : Bool) → (a || (b || rest)) ≡ (b || (a || rest))
or-turned true true rest = refl
or-turned true false rest = refl
or-turned false true rest = refl
or-turned false false rest = refl

or-among : (a b rest : Bool) → (a || (b || rest)) ≡ (b || (a || (b || rest)))
or-among true true rest = refl
or-among true false rest = refl
or-among false true rest = refl
or-among false false rest = refl

-- one version more: its owner comes to those of the span before it
later : (i first since v : ℕ) (changes : List Change) → AreFalling changes → since ≤ v
    → ((owner_by first changes since == i) || any_within i since (suc v) changes)
    ≡ ((owner_by first changes (suc v) == i)
    || ((owner_by first changes since == i) || any_within i since v changes))
later i first since v [] falling order = or-held (first == i) false
later i first since v (change ∷ older) falling order = ⊎_elim
    (λ (above : suc v < change.version).
    let at_since = owner-older first since change older (omega (arith, above, order)) in
    let at_next = owner-older first (suc v) change older above in
    let through_next = any-skip i since (suc v) change older (λ _ up_to. omega (arith, above, up_to)) in
    let through_v = any-skip i since v change older (λ _ up_to. omega (arith, above, up_to)) in
    ap₂ (λ (owner : ℕ) (any : Bool). (owner == i) || any) at_since through_next
    ∙ later i first since v older falling.1 order
    ∙ sym (λ k. (at_next k == i) || ((at_since k == i) || through_v k)))
    (λ (by_next : change.version ≤ suc v).
    let at_next = owner-here first (suc v) change older by_next in
    ⊎_elim
    (λ (here : v < change.version).
    let at_since = owner-older first since change older (omega (arith, here, order)) in
    let through_next = any-take i since (suc v) change older (omega (arith, here, order)) by_next
    ∙ ap (λ (any : Bool). (change.owner == i) || any) (any-same i since v older
    (all-weaken _ _ (λ (earlier : Change) sooner. omega (arith, sooner, by_next)) older falling.0)) in
    let through_v = any-skip i since v change older (λ _ up_to. omega (arith, here, up_to)) in
    ap₂ (λ (owner : ℕ) (any : Bool). (owner == i) || any) at_since through_next
    ∙ or-turned (owner_by first older since == i) (change.owner == i) (any_within i since v older)
    ∙ sym (λ k. (at_next k == i) || ((at_since k == i) || through_v k)))
    (λ (by : change.version ≤ v).
    let through_next = any-same i since v (change ∷ older)
    (by, all-weaken _ _ (λ (earlier : Change) sooner. omega (arith, sooner, by)) older falling.0) in
    ap (λ (any : Bool). (owner_by first (change ∷ older) since == i) || any) through_next
    ∙ ⊎_elim
    (λ (inside : since < change.version).
    let through_v = any-take i since v change older inside by in
    ap (λ (any : Bool). (owner_by first (change ∷ older) since == i) || any) through_v
    ∙ or-among (owner_by first (change ∷ older) since == i) (change.owner == i) (any_within i since v older)
    ∙ sym (λ k. (at_next k == i) || ((owner_by first (change ∷ older) since == i) || through_v k)))
    (λ (early : change.version ≤ since).
    let at_since = owner-here first since change older early in
    ap (λ (owner : ℕ). (owner == i) || any_within i since v (change ∷ older)) at_since
    ∙ or-held (change.owner == i) (any_within i since v (change ∷ older))
    ∙ sym (λ k. (at_next k == i) || ((at_since k == i) || any_within i since v (change ∷ older))))
    (cases_lt since change.version))
    (cases_lt v change.version))
    (cases_lt (suc v) change.version)

none-between : (test : ℕ → Bool) (low high : ℕ) → high ≤ low → any_between test low high ≡ false
none-between test low zero order = refl
none-between test low (suc v) order =
    ap (λ (t : Bool). t && test (suc v) || any_between test low v) (lt-leb low v (omega (arith, order)))
    ∙ none-between test low v (omega (arith, order))

-- at some version above low and at most high is from the one after low through high
pub between-owned_from : (history : History) (i low high : ℕ) → AreFalling history.changes → low < high
    → any_between (λ v. owner_in history v == i) low high ≡ owned_from history i (suc low) high
between-owned_from history i low zero falling order = absurd (omega (arith, order))
between-owned_from history i low (suc v) falling order = ⊎_elim
    (λ (more : low < v).
    ap₂ (λ (t rest : Bool). t && (owner_in history (suc v) == i) || rest) (le-leb low v (omega (arith, more)))
    (between-owned_from history i low v falling more)
    ∙ sym (later i history.first (suc low) v history.changes falling more))
    (λ (none : v ≤ low).
    let same : v ≡ low = omega (arith, order, none) in
    ap₂ (λ (t rest : Bool). t && (owner_in history (suc v) == i) || rest) (le-leb low v (omega (arith, order)))
    (none-between (λ w. owner_in history w == i) low v none)
    ∙ ap (λ (w : ℕ). (owner_in history (suc w) == i) || false) same
    ∙ sym (ap (λ (any : Bool). (owner_in history (suc low) == i) || any)
    (any-empty i (suc low) (suc v) history.changes (omega (arith, none)))))
    (cases_lt low v)

pub or-none : (a : Bool) → (a || false) ≡ a
or-none true = refl
or-none false = refl

-- at one version alone
pub owned_from-one : (history : History) (i last : ℕ) → owned_from history i last last ≡ (owner_in history last == i)
owned_from-one history i last =
    ap (λ (any : Bool). (owner_in history last == i) || any) (any-empty i last last history.changes (omega arith))
    ∙ or-none (owner_in history last == i)
