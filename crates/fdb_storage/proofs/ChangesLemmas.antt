-- Changes of keys from a version on, one after another.
use Rattle.std.proofs.Common.{◌≡◌, ◌∙◌, sym, ap, refl, subst, ℕ, zero, suc, get_or, take, length, ◌≤◌, ◌<◌, nat_le}
use Rattle.std.proofs.Common.{Bool, true, false, ◌||◌}
use Rattle.std.proofs.Common.{List, [], ◌∷◌, ◌++◌, Option, Some, None, is_some, if◌then◌else◌, arith}
use Rattle.std.specs.Prelude.{◌&&◌, OnOk}
use Rattle.std.proofs.Common.{Result, Ok, Err}
use Rattle.std.specs.List.{list_any}
use Rattle.std.proofs.lemmas.Bool.{both_ways, cond-false, leb-true}
use Rattle.std.proofs.lemmas.List.Folds.{list_any-append}
use Rattle.std.proofs.lemmas.List.Sums.{fold-append}
use Rattle.fdb_keys.specs.Answers.{Answers}
use Rattle.fdb_keys.specs.declared.refusal.Refusal.{Refusal}
use Rattle.fdb_keys.specs.Points.{Point, point_eq}
use Rattle.fdb_keys.specs.Ranges.{Range, in_range}
use Rattle.fdb_mutations.specs.declared.mutation.Mutation.{Mutation}
use Rattle.fdb_mutations.specs.Mutations.{named, new_value, value_after}
use Rattle.fdb_mutations.specs.Naming.{NamedKeys, OneKey, KeysIn, is_named}
use Rattle.fdb_mutations.proofs.Exports.{ranges_are_cleared}
use Rattle.fdb_txn.specs.declared.tag_msg.TagMsg.{TagMsg}
use Rattle.fdb_txn.specs.rules.Messages.{mutations_in, value_with}
use Rattle.fdb_log.specs.Peeks.{RiseAfter, through_after}
use Rattle.fdb_storage.specs.VersionLists.{newest_of}
use Rattle.fdb_storage.specs.VersionMaps.{VersionedKeys, versions_at, value_of, EndBy, HaveLegalKeys}
use Rattle.fdb_storage.specs.Changes.{Change, HaveChangedIn, HaveFollowed, changed_by}
use Rattle.fdb_storage.specs.Changes.{HaveChanged, put_at, cleared_at, cleared_in, new_at}
use Rattle.fdb_storage.proofs.VersionsLemmas.{by_point, either_same, value-newest}

-- ---- changes one after another
pub changed-none : (version : ℕ) (keys : VersionedKeys) → EndBy version keys → HaveLegalKeys keys
    → HaveChanged version (λ x before. before) keys keys
changed-none version keys ended legal = record {
  values = λ v x. sym (either_same (nat_le version v) (value_of keys v x));
  end_by = ended;
  legal_keys = legal;
}

pub changed-then : (version : ℕ) (first second : Change) (old mid new : VersionedKeys)
    → HaveChanged version first old mid → HaveChanged version second mid new
    → HaveChanged version (λ x before. second x (first x before)) old new
changed-then version first second old mid new one two = record {
  values = λ v x. two.values v x ∙ both (nat_le version v) v x (one.values v x);
  end_by = two.end_by;
  legal_keys = two.legal_keys;
}
  where
    both : (reached : Bool) (v : ℕ) (x : Point)
        → value_of mid v x ≡ (if reached then first x (value_of old v x) else value_of old v x)
        → (if reached then second x (value_of mid v x) else value_of mid v x)
        ≡ (if reached then second x (first x (value_of old v x)) else value_of old v x)
    both true v x is = ap (second x) is
    both false v x is = is

-- the same change in other words, where it matters
pub changed-as : (version : ℕ) (change other : Change) (old new : VersionedKeys)
    → ((v : ℕ) (x : Point) → version ≤ v → change x (value_of old v x) ≡ other x (value_of old v x))
    → HaveChanged version change old new → HaveChanged version other old new
changed-as version change other old new alike changed = record {
  values = λ v x.
      changed.values v x ∙ either (nat_le version v) v x (λ reached. alike v x (leb-true version v reached));
  end_by = changed.end_by;
  legal_keys = changed.legal_keys;
}
  where
    either : (reached : Bool) (v : ℕ) (x : Point)
        → (reached ≡ true → change x (value_of old v x) ≡ other x (value_of old v x))
        → (if reached then change x (value_of old v x) else value_of old v x)
        ≡ (if reached then other x (value_of old v x) else value_of old v x)
    either true v x same = same refl
    either false v x same = refl

-- a value that a mutation makes of the newest one is put at its key
pub changed-key : (version : ℕ) (key : Point) (mutation : Mutation) (value : Option (List ℕ)) (old new : VersionedKeys)
    → EndBy version old → value ≡ new_value mutation (newest_of (versions_at old key))
    → HaveChanged version (put_at key value) old new → HaveChanged version (new_at key mutation) old new
changed-key version key mutation value old new ended made =
    changed-as version (put_at key value) (new_at key mutation) old new
    (λ v x reached. by_point x key (put_at key value x (value_of old v x) ≡ new_at key mutation x (value_of old v x))
    (λ (same : x ≡ key).
    ap (λ (put : Option (List ℕ)). if point_eq x key then put else value_of old v x)
    (made ∙ ap (new_value mutation) (sym (value-newest v version (versions_at old key) (ended key) reached))
    ∙ ap (λ (y : Point). new_value mutation (value_of old v y)) (sym same)))
    (λ other.
    cond-false (point_eq x key) value (value_of old v x) other
    ∙ sym (cond-false (point_eq x key) (new_value mutation (value_of old v x)) (value_of old v x) other)))

-- a mutation of one key, or of the keys of a range, by what it names
pub changed-mutation_key : (version : ℕ) (key : Point) (mutation : Mutation) (old new : VersionedKeys)
    → OneKey key ≡ named mutation → HaveChanged version (new_at key mutation) old new
    → HaveChanged version (λ x before. value_after x before mutation) old new
changed-mutation_key version key mutation old new naming =
    changed-as version (new_at key mutation) (λ x before. value_after x before mutation) old new
    (λ v x reached. ap (λ (keys : NamedKeys).
    if is_named keys x then new_value mutation (value_of old v x) else value_of old v x) naming)

pub changed-mutation_range : (version : ℕ) (range : Range) (mutation : Mutation) (old new : VersionedKeys)
    → KeysIn range ≡ named mutation → HaveChanged version (cleared_in range) old new
    → HaveChanged version (λ x before. value_after x before mutation) old new
changed-mutation_range version range mutation old new naming =
    changed-as version (cleared_in range) (λ x before. value_after x before mutation) old new
    (λ v x reached.
    ap (λ (cleared : Option (List ℕ)). if in_range range x then cleared else value_of old v x)
    (sym ((ranges_are_cleared mutation range (sym naming)).1 (value_of old v x)))
    ∙ ap (λ (keys : NamedKeys).
    if is_named keys x then new_value mutation (value_of old v x) else value_of old v x) naming)

-- one key after others is cleared
cleared-more : (keys : List Point) (key x : Point) (before : Option (List ℕ))
    → put_at key None x (cleared_at keys x before) ≡ cleared_at (keys ++ key ∷ []) x before
cleared-more keys key x before =
    both (list_any (point_eq x) keys) (point_eq x key)
    ∙ ap (λ (cleared : Bool). if cleared then None else before) (sym (list_any-append (point_eq x) keys (key ∷ [])))
  where
    both : (earlier here : Bool) → (if here then None else (if earlier then None else before))
        ≡ (if earlier || (here || false) then None else before)
    both true true = refl
    both true false = refl
    both false true = refl
    both false false = refl

pub changed-cleared : (version : ℕ) (keys : List Point) (key : Point) (old mid new : VersionedKeys)
    → HaveChanged version (cleared_at keys) old mid → HaveChanged version (put_at key None) mid new
    → HaveChanged version (cleared_at (keys ++ key ∷ [])) old new
changed-cleared version keys key old mid new earlier last =
    changed-as version (λ x before. put_at key None x (cleared_at keys x before)) (cleared_at (keys ++ key ∷ [])) old
    new
    (λ v x reached. cleared-more keys key x (value_of old v x))
    (changed-then version (cleared_at keys) (put_at key None) old mid new earlier last)

-- all keys of the range at which something stands are cleared
pub changed-range : (version : ℕ) (range : Range) (keys : List Point) (old new : VersionedKeys) → EndBy version old
    → ((x : Point) → list_any (point_eq x) keys ≡ (in_range range x && is_some (newest_of (versions_at old x))))
    → HaveChanged version (cleared_at keys) old new → HaveChanged version (cleared_in range) old new
changed-range version range keys old new ended live =
    changed-as version (cleared_at keys) (cleared_in range) old new
    (λ v x reached.
    ap (λ (cleared : Bool). if cleared then None else value_of old v x) (live x)
    ∙ by_newest (in_range range x) (newest_of (versions_at old x)) (value_of old v x)
    (value-newest v version (versions_at old x) (ended x) reached))
  where
    by_newest : (inside : Bool) (newest value : Option (List ℕ)) → value ≡ newest
        → (if inside && is_some newest then None else value) ≡ (if inside then None else value)
    by_newest true None value is = is
    by_newest true (Some some) value is = refl
    by_newest false newest value is = refl

-- ---- mutations and messages one after another
-- the first message that is left comes after those before it
pub rising-at : (version : ℕ) (messages : List TagMsg) (i : ℕ) (message : TagMsg) → RiseAfter version messages
    → i < length messages → message ≡ get_or messages i message
    → through_after version (take i messages) < message.version
rising-at version [] i message rising within is = absurd (omega (arith, within))
rising-at version (first ∷ messages) zero message rising within is =
    subst (λ (it : TagMsg). version < it.version) (sym is) rising.0
rising-at version (first ∷ messages) (suc i) message rising within is =
    rising-at first.version messages i message rising.1 (omega (arith, within)) is

-- ---- changes in a range
pub changed-in : (range : Range) (version : ℕ) (change : Change) (old new : VersionedKeys)
    → HaveChanged version change old new → HaveChangedIn range version change old new
changed-in range version change old new changed = record {
  values = λ v x inside. changed.values v x;
  end_by = changed.end_by;
  legal_keys = changed.legal_keys;
}

-- a mutation of a key outside the range changes nothing there
pub changed-outside : (range : Range) (version : ℕ) (key : Point) (mutation : Mutation) (keys : VersionedKeys)
    → EndBy version keys → HaveLegalKeys keys → OneKey key ≡ named mutation → in_range range key ≡ false
    → HaveChangedIn range version (λ x before. value_after x before mutation) keys keys
changed-outside range version key mutation keys ended legal naming outside = record {
  values = λ v x inside.
      sym (ap (λ (changed : Option (List ℕ)). if nat_le version v then changed else value_of keys v x)
      (ap (λ (names : NamedKeys).
      if is_named names x then new_value mutation (value_of keys v x) else value_of keys v x)
      (sym naming)
      ∙ cond-false (point_eq x key) (new_value mutation (value_of keys v x)) (value_of keys v x) (elsewhere x inside))
      ∙ either_same (nat_le version v) (value_of keys v x));
  end_by = ended;
  legal_keys = legal;
}
  where
    elsewhere : (x : Point) → in_range range x ≡ true → point_eq x key ≡ false
    elsewhere x inside = by_point x key (point_eq x key ≡ false)
        (λ (same : x ≡ key). absurd (both_ways (in_range range key) outside (ap (in_range range) (sym same) ∙ inside)))
        (λ other. other)

pub changed-body : (range : Range) (version : ℕ) (mutations : List Mutation) (mutation : Mutation)
    (old mid new : VersionedKeys) → HaveChangedIn range version (changed_by mutations) old mid
    → HaveChangedIn range version (λ x before. value_after x before mutation) mid new
    → HaveChangedIn range version (changed_by (mutations ++ mutation ∷ [])) old new
changed-body range version mutations mutation old mid new one two = record {
  values = λ v x inside. two.values v x inside ∙ both (nat_le version v) v x (one.values v x inside);
  end_by = two.end_by;
  legal_keys = two.legal_keys;
}
  where
    both : (reached : Bool) (v : ℕ) (x : Point)
        → value_of mid v x ≡ (if reached then changed_by mutations x (value_of old v x) else value_of old v x)
        → (if reached then value_after x (value_of mid v x) mutation else value_of mid v x)
        ≡ (if reached then changed_by (mutations ++ mutation ∷ []) x (value_of old v x) else value_of old v x)
    both true v x is =
        ap (λ (before : Option (List ℕ)). value_after x before mutation) is
        ∙ sym (fold-append (value_after x) (value_of old v x) mutations (mutation ∷ []))
    both false v x is = is

pub followed-none : (range : Range) (version : ℕ) (keys : VersionedKeys) → EndBy version keys → HaveLegalKeys keys
    → HaveFollowed range version [] keys keys
followed-none range version keys ended legal = record {
  values = λ v x inside. refl;
  end_by = ended;
  legal_keys = legal;
}

pub followed-more : (range : Range) (version : ℕ) (messages : List TagMsg) (message : TagMsg)
    (old mid new : VersionedKeys) → HaveFollowed range version messages old mid
    → HaveChangedIn range message.version (changed_by (mutations_in message.body)) mid new
    → HaveFollowed range version (messages ++ message ∷ []) old new
followed-more range version messages message old mid new earlier last = record {
  values = λ v x inside.
      last.values v x inside
      ∙ ap (λ (value : Option (List ℕ)). value_with v x value message) (earlier.values v x inside)
      ∙ sym (fold-append (value_with v x) (value_of old v x) messages (message ∷ []));
  end_by = subst (λ (v : ℕ). EndBy v new)
      (sym (fold-append (λ (before : ℕ) (it : TagMsg). it.version) version messages (message ∷ []))) last.end_by;
  legal_keys = last.legal_keys;
}

pub answers-then : {T : Type 0} (result : Result T Refusal) (P Q : Type 0) → (P → Q)
    → Answers result None (λ _. P) → Answers result None (λ _. Q)
answers-then (Ok given) P Q step holds = step holds
answers-then (Err why) P Q step ran_out = ran_out

-- what is answered where nothing is refused
pub on_ok-answers : {T : Type 0} (result : Result T Refusal) (P : Type 0) → Answers result None (λ _. P)
    → OnOk result P
on_ok-answers (Ok given) P holds = holds
on_ok-answers (Err why) P ran_out = tt
