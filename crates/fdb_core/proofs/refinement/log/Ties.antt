-- The logs and the shards, kept tied through the steps.
use Rattle.std.proofs.Common.{◌≡◌, ◌∙◌, refl, sym, ap, ap₂, subst, ℕ, zero, suc, ◌+◌, ◌-◌, ◌<◌, ◌≤◌, min, le_of_lt}
use Rattle.std.proofs.Common.{le_trans, Bool, true, false, List, [], ◌∷◌, ◌++◌, length, take, drop, Option, Some, None}
use Rattle.std.proofs.Common.{arith, ◌⊎◌, inl, inr, ⊎_elim}
use Rattle.std.specs.Prelude.{◌==◌, not, nat_lt, Result, Err, if◌then◌else◌}
use Rattle.std.specs.List.{slice_get, slice_set}
use Rattle.std.proofs.lemmas.Bool.{cases_Bool, cases_lt, both_ways, cond-false, eq-eqb, eqb-true, false_from_ne_true}
use Rattle.std.proofs.lemmas.Bool.{lt-ltb, ltb-true, ltb-false}
use Rattle.std.proofs.lemmas.List.{length-take, length-drop, length-set}
use Rattle.std.proofs.lemmas.Option.{slice_get_within}
use Rattle.std.proofs.Math.Seq.{take-add}
use Rattle.fdb_keys.specs.Points.{Point}
use Rattle.fdb_keys.specs.Ranges.{Range}
use Rattle.fdb_keys.specs.declared.refusal.Refusal.{Refusal}
use Rattle.fdb_keys.specs.declared.refusal.Refusal.TheVariants.{NotYet, Stale, Failed, Unknown}
use Rattle.fdb_txn.specs.declared.entry.Entry.{Entry}
use Rattle.fdb_txn.specs.book.Book.{seen_of, last_version}
use Rattle.fdb_txn.specs.book.History.{AreEntries}
use Rattle.fdb_txn.specs.laws.SerialMapLaws.{version_after}
use Rattle.fdb_txn.specs.rules.Messages.{messages_for, messages_after}
use Rattle.fdb_txn.specs.rules.Splits.{piece}
use Rattle.fdb_log.specs.declared.message.LogMsg.{LogMsg}
use Rattle.fdb_log.specs.Logs.{Log, keeps, kept, popped_through, push_fault, given_after, peek_of, HasPopped}
use Rattle.fdb_log.specs.Messages.{log_of, above}
use Rattle.fdb_storage.specs.Shards.{Shard, HasApplied}
use Rattle.fdb_storage.specs.StampedMessages.{stamped_fault}
use Rattle.fdb_storage.proofs.Exports.{no_stamped_is_sent}
use Rattle.fdb_proxy.specs.declared.config.Config.{Config}
use Rattle.fdb_roles.specs.AtBook.{IsShardAt}
use Rattle.fdb_roles.specs.Entries.{IsRising}
use Rattle.fdb_roles.specs.Lists.{Each}
use Rattle.fdb_roles.proofs.Exports.{each-set, entries-take, count-messages, gives-messages, gives-through}
use Rattle.fdb_roles.proofs.Exports.{shard-applied, kept-popped, entries-linked, entries-rising, front-version}
use Rattle.fdb_roles.proofs.Exports.{versions-ordered, versions-apart, take-both}
use Rattle.fdb_core.specs.declared.roles.log.LogRole.{LogRole}
use Rattle.fdb_core.specs.declared.roles.shard.ShardRole.{ShardRole}
use Rattle.fdb_machine.specs.machine.Machine.{Machine, Transition, refused_where, is_set}
use Rattle.fdb_machine.specs.machine.RoleSteps.{pushes}
use Rattle.fdb_core.specs.refinement.log.Ties.{LogRefines, ShardRefines, TagRefines}

module _ (config : Config) (book : List Entry) where
  -- and drops what a tag was popped through
  pub log-popped : (l : ℕ) (role : LogRole) (tag through : ℕ) (new : Log)
      → LogRefines config book l role → HasPopped role.state tag through new
      → LogRefines config book l (record { state = new; taken = role.taken })
  log-popped l role tag through new before popped = record {
    number = popped.same.log ∙ before.number;
    logs = popped.same.logs ∙ before.logs;
    tags = popped.same.tags ∙ before.tags;
    works = popped.works;
    within = before.within;
    last = popped.last ∙ before.last;
    kept = kept-popped (λ (it : ℕ). messages_for config.resolver_splits (piece config.shard_splits it)
        (take role.taken book)) tag through role.state new before.kept popped;
  }

  -- a shard is where the entries that it applied leave it
  pub shard-at : (s : ℕ) (role : ShardRole) → ShardRefines config book s role
      → IsShardAt config (take role.applied book) s role.state
  shard-at s role is = record {
    tag = is.tag;
    range = is.range;
    works = is.works;
    version = is.version;
    serving = is.serving;
    serves = is.serves;
  }

  -- and one that is there applied them
  pub shard-refines : (s applied popped : ℕ) (state : Shard) → IsShardAt config (take applied book) s state
      → applied ≤ length book → popped ≤ state.version
      → ShardRefines config book s (record { state = state; applied = applied; popped = popped })
  shard-refines s applied popped state at within dropped = record {
    tag = at.tag;
    range = at.range;
    works = at.works;
    within = within;
    version = at.version;
    serving = at.serving;
    popped = dropped;
    serves = at.serves;
  }

-- A shard applies what its log has for it.
module _ (config : Config) (book : List Entry)
    (entries : AreEntries (suc (length config.resolver_splits)) 0 book) (s l limit : ℕ) (shard : ShardRole)
    (log : LogRole)
    (has : LogRefines config book l log) (is : ShardRefines config book s shard)
    (keeps_it : keeps log.state s ≡ true) (behind : shard.applied ≤ log.taken)
    (unpopped : popped_through log.state s ≤ shard.state.version) where
  abbrev pub splits : List Point
  splits = config.resolver_splits

  abbrev resolvers : ℕ
  resolvers = suc (length config.resolver_splits)

  abbrev pub range : Range
  range = piece config.shard_splits s

  -- how many messages are given
  abbrev pub count : ℕ
  count = min limit (log.taken - shard.applied)

  abbrev pub front : List Entry
  front = take shard.applied book

  abbrev pub more : List Entry
  more = take count (drop shard.applied book)

  -- the entries that the log took and the shard didn't apply
  abbrev left : List Entry
  left = take (log.taken - shard.applied) (drop shard.applied book)

  whole : front ++ more ≡ take (shard.applied + count) book
  whole = sym (take-add shard.applied count book)

  taken-is : take log.taken book ≡ front ++ left
  taken-is =
      let all : shard.applied + (log.taken - shard.applied) ≡ log.taken = omega (arith, behind) in
      ap (λ (n : ℕ). take n book) (sym all) ∙ take-add shard.applied (log.taken - shard.applied) book

  entries-taken : AreEntries resolvers 0 (front ++ left)
  entries-taken = subst (AreEntries resolvers 0) taken-is (entries-take resolvers 0 log.taken book entries)

  entries-whole : AreEntries resolvers 0 (front ++ more)
  entries-whole = subst (AreEntries resolvers 0) (sym whole)
      (entries-take resolvers 0 (shard.applied + count) book entries)

  left-is : take limit left ≡ more
  left-is = take-both limit (log.taken - shard.applied) (drop shard.applied book)

  kept-is : kept log.state s ≡ above (popped_through log.state s) (messages_for splits range (front ++ left))
  kept-is = has.kept s keeps_it
      ∙ ap (λ (all : List Entry). above (popped_through log.state s) (messages_for splits range all)) taken-is

  unpopped-front : popped_through log.state s ≤ last_version front
  unpopped-front = subst (λ (v : ℕ). popped_through log.state s ≤ v) is.version unpopped

  given-is : given_after log.state s shard.state.version limit ≡ messages_after splits range (seen_of front) more
  given-is =
      ap (λ (v : ℕ). given_after log.state s v limit) is.version
      ∙ gives-messages config front left entries-taken s limit log.state kept-is unpopped-front
      ∙ ap (messages_after splits range (seen_of front)) left-is

  -- none of them has a mutation that waits for a stamp
  pub given-stamped : stamped_fault (given_after log.state s shard.state.version limit) ≡ None
  given-stamped = ap stamped_fault given-is ∙ no_stamped_is_sent splits range (seen_of front) more

  within : shard.applied + count ≤ length book
  within = omega (arith, has.within, behind)

  pub count-is : length (given_after log.state s shard.state.version limit) ≡ count
  count-is =
      ap length given-is ∙ count-messages splits range (seen_of front) more
      ∙ length-take count (drop shard.applied book)
      ∙ (let rest = length-drop shard.applied book in omega (arith, rest, within))

  -- they go through the version of the last entry that the shard has then applied
  pub through-is : (peek_of log.state s shard.state.version limit).through
      ≡ last_version (front ++ more)
  through-is =
      ap (λ (v : ℕ). (peek_of log.state s v limit).through) is.version
      ∙ gives-through config front left entries-taken s limit log.state kept-is unpopped-front
      ∙ ap (λ (those : List Entry). last_version (front ++ those)) left-is

  -- the shard then answers from the run of these entries
  pub shard-pulled : (new : Shard) → HasApplied shard.state (peek_of log.state s shard.state.version limit) new
      → ShardRefines config book s (record shard { state = new; applied = shard.applied + count })
  shard-pulled new applied =
      let next : IsShardAt config (front ++ more) s new = shard-applied config front more entries-whole s shard.state
      new (peek_of log.state s shard.state.version limit) (shard-at config book s shard is)
      through-is given-is applied in
      let later = front-version front more (entries-linked resolvers 0 (front ++ more) entries-whole) in
      let low = is.popped in
      shard-refines config book s (shard.applied + count) shard.popped new
      (subst (λ (all : List Entry). IsShardAt config all s new) whole next) within
      (omega (arith, low, later, is.version, next.version))

-- an entry's previous version is that of the last entry before it
prev-from : (resolvers last : ℕ) (book : List Entry) (i : ℕ) (entry : Entry) → AreEntries resolvers last book
    → slice_get book i ≡ Some entry → entry.prev ≡ version_after last (take i book)
prev-from resolvers last [] i entry entries there = cc
prev-from resolvers last (first ∷ book) zero entry entries there =
    let same : first ≡ entry = cc in subst (λ (e : Entry). e.prev ≡ last) same entries.1.0
prev-from resolvers last (first ∷ book) (suc i) entry entries there =
    prev-from resolvers first.version book i entry entries.4 there

pub prev-is : (resolvers : ℕ) (book : List Entry) (i : ℕ) (entry : Entry) → AreEntries resolvers 0 book
    → slice_get book i ≡ Some entry → entry.prev ≡ last_version (take i book)
prev-is resolvers book i entry entries there = prev-from resolvers 0 book i entry entries there

-- tests of numbers that mean the same are the same
same-test : (a b c d : ℕ) → (a < b → c < d) → (c < d → a < b) → nat_lt a b ≡ nat_lt c d
same-test a b c d there back = ⊎_elim
    (λ is. is ∙ sym (lt-ltb c d (there (ltb-true a b is))))
    (λ isn't. isn't ∙ sym (false_from_ne_true (nat_lt c d)
    (λ other. both_ways (nat_lt a b) isn't (lt-ltb a b (back (ltb-true c d other))))))
    (cases_Bool (nat_lt a b))

-- later versions are those of later entries
version-test : (book : List Entry) → IsRising book → (n m : ℕ) → n ≤ length book → m ≤ length book
    → nat_lt (last_version (take n book)) (last_version (take m book)) ≡ nat_lt n m
version-test book rising n m first second =
    same-test (last_version (take n book)) (last_version (take m book)) n m
    (λ later. ⊎_elim (λ is. is)
    (λ ordered. absurd (let back = versions-ordered book rising m n ordered in omega (arith, later, back)))
    (cases_lt n m))
    (λ before. versions-apart book rising n m before second)

-- why one who took some entries doesn't take entry i
abbrev pub turn_fault : ℕ → ℕ → Entry → Option Refusal
turn_fault taken i entry =
    if nat_lt i taken then Some Stale else (if nat_lt taken i then Some (NotYet entry.prev) else None)

-- a log refuses its message of entry i where that isn't the next one
pub push_fault-turn : (config : Config) (book : List Entry) (l : ℕ) (role : LogRole) (i : ℕ) (entry : Entry)
    (message : LogMsg)
    → AreEntries (suc (length config.resolver_splits)) 0 book → LogRefines config book l role
    → slice_get book i ≡ Some entry → message.log ≡ l → message.prev ≡ entry.prev → push_fault role.state message
    ≡ turn_fault role.taken i entry
push_fault-turn config book l role i entry message entries is there log prev =
    cond-false (not (message.log == role.state.log)) (Some Unknown) _
    (ap not (eq-eqb message.log role.state.log (log ∙ sym is.number)))
    ∙ cond-false role.state.is_failed (Some Failed) _ is.works
    ∙ ap₂ (λ (late early : Bool). if late then Some Stale else (if early then Some (NotYet message.prev) else None))
    (ap₂ nat_lt before is.last ∙ version-test book rising i role.taken inside is.within)
    (ap₂ nat_lt is.last before ∙ version-test book rising role.taken i is.within inside)
    ∙ ap (λ (version : ℕ). if nat_lt i role.taken then Some Stale
    else (if nat_lt role.taken i then Some (NotYet version) else None)) prev
  where
    rising : IsRising book
    rising = entries-rising (suc (length config.resolver_splits)) book entries

    before : message.prev ≡ last_version (take i book)
    before = prev ∙ prev-is (suc (length config.resolver_splits)) book i entry entries there

    inside : i ≤ length book
    inside = le_of_lt (slice_get_within book i entry there)

-- who has no such fault is at its turn
pub in_turn-now : (taken i : ℕ) (entry : Entry) → turn_fault taken i entry ≡ None → taken ≡ i
in_turn-now taken i entry none = by_tests (nat_lt i taken) (nat_lt taken i) refl refl none
  where
    by_tests : (late early : Bool) → nat_lt i taken ≡ late → nat_lt taken i ≡ early
        → (if late then Some Stale else (if early then Some (NotYet entry.prev) else None)) ≡ None → taken ≡ i
    by_tests true early is also none = cc
    by_tests false true is also none = cc
    by_tests false false is also none =
        let high = ltb-false i taken is in let low = ltb-false taken i also in omega (arith, high, low)

-- what the machine does at a push, once the entry and the log are found
module _ (m : Machine) (i l taken : ℕ) (entry : Entry) (there : slice_get m.book i ≡ Some entry)
    (at : slice_get m.logs l ≡ Some taken) where
  pub push-undecided : is_set m.decided i ≡ false → pushes m i l ≡ Err Unknown
  unfolding pushes
  push-undecided undecided = rw (there, at, undecided) refl

  pub push-refused : (why : Refusal) → is_set m.decided i ≡ true → turn_fault taken i entry ≡ Some why
      → pushes m i l ≡ Err why
  unfolding pushes
  push-refused why made fault = rw (there, at, made) (by_tests (nat_lt i taken) (nat_lt taken i) _ fault)
    where
      by_tests : (late early : Bool) (next : Result Transition Refusal)
          → (if late then Some Stale else (if early then Some (NotYet entry.prev) else None)) ≡ Some why
          → refused_where late Stale (refused_where early (NotYet entry.prev) next) ≡ Err why
      by_tests true early next is = cc
      by_tests false true next is = cc
      by_tests false false next is = cc

-- what stands in a list after an item was put is that item or what stood there
pub set-cases : {A : Type 0} (xs : List A) (i : ℕ) (x : A) (j : ℕ) (y : A) → slice_get (slice_set xs i x) j ≡ Some y
    → ((j ≡ i) × (x ≡ y)) ⊎ ((j ≡ i → ⊥) × (slice_get xs j ≡ Some y))
set-cases [] zero x j y there = cc
set-cases [] (suc i) x j y there = cc
set-cases (z ∷ zs) zero x zero y there = inl (refl, cc)
set-cases (z ∷ zs) zero x (suc j) y there = inr ((λ same. cc), there)
set-cases (z ∷ zs) (suc i) x zero y there = inr ((λ same. cc), there)
set-cases (z ∷ zs) (suc i) x (suc j) y there = ⊎_elim
    (λ is. inl (ap suc is.0, is.1))
    (λ other. inr ((λ same. other.0 (omega (arith, same))), other.1))
    (set-cases zs i x j y there)

-- a log that took more, and popped what it had popped of each tag, serves its shards as before
pub tags-taken : (logs : List LogRole) (l : ℕ) (old new : LogRole) (shards : List ShardRole)
    → slice_get logs l ≡ Some old → old.taken ≤ new.taken
    → ((tag : ℕ) → popped_through new.state tag ≡ popped_through old.state tag)
    → Each (TagRefines logs) shards → Each (TagRefines (slice_set logs l new)) shards
tags-taken logs l old new shards at more same before s shard there log found =
    ⊎_elim
    (λ is.
    let its : slice_get logs (log_of (length logs) s) ≡ Some old = ap (slice_get logs) is.0 ∙ at in
    let tie = before s shard there old its in
    subst (λ (role : LogRole). (shard.applied ≤ role.taken) × (popped_through role.state s ≡ shard.popped)) is.1
    (le_trans tie.0 more, same s ∙ tie.1))
    (λ other. before s shard there log other.1)
    (set-cases logs l new (log_of (length logs) s) log (number found))
  where
    number : slice_get (slice_set logs l new) (log_of (length (slice_set logs l new)) s) ≡ Some log
        → slice_get (slice_set logs l new) (log_of (length logs) s) ≡ Some log
    number is = ap (λ (n : ℕ). slice_get (slice_set logs l new) (log_of n s)) (sym (length-set logs l new)) ∙ is

-- a shard that applied no more than its log took, and popped what it had popped, is served as before
pub tags-applied : (logs : List LogRole) (shards : List ShardRole) (s : ℕ) (old new : ShardRole)
    → slice_get shards s ≡ Some old
    → ((log : LogRole) → slice_get logs (log_of (length logs) s) ≡ Some log → new.applied ≤ log.taken)
    → new.popped ≡ old.popped → Each (TagRefines logs) shards → Each (TagRefines logs) (slice_set shards s new)
tags-applied logs shards s old new at within same before =
    each-set (TagRefines logs) shards s new before
    (λ _ log found. (within log found, (before s old at log found).1 ∙ sym same))

-- a shard pops its tag at its log
pub tags-popped : (logs : List LogRole) (shards : List ShardRole) (s : ℕ) (old new : ShardRole) (log popped : LogRole)
    → slice_get shards s ≡ Some old → slice_get logs (log_of (length logs) s) ≡ Some log
    → new.applied ≡ old.applied → popped.taken ≡ log.taken
    → popped_through popped.state s ≡ new.popped
    → ((other : ℕ) → (other == s) ≡ false → popped_through popped.state other ≡ popped_through log.state other)
    → Each (TagRefines logs) shards
    → Each (TagRefines (slice_set logs (log_of (length logs) s) popped)) (slice_set shards s new)
tags-popped logs shards s old new log popped there at applied
    taken own others before t shard found its-log its = ⊎_elim
    (λ is. own-tag is.0 is.1)
    (λ other. other-tag other.0 other.1)
    (set-cases shards s new t shard found)
  where
    number : slice_get (slice_set logs (log_of (length logs) s) popped) (log_of (length logs) t) ≡ Some its-log
    number = ap (λ (n : ℕ). slice_get (slice_set logs (log_of (length logs) s) popped) (log_of n t))
        (sym (length-set logs (log_of (length logs) s) popped)) ∙ its

    Tie : LogRole → ShardRole → Type 0
    Tie role it = (it.applied ≤ role.taken) × (popped_through role.state t ≡ it.popped)

    own-tag : t ≡ s → new ≡ shard → (shard.applied ≤ its-log.taken) × (popped_through its-log.state t ≡ shard.popped)
    own-tag same is = ⊎_elim
        (λ at_log.
        let tie = before s old there log at in
        let within : shard.applied ≤ its-log.taken =
        subst (λ (n : ℕ). shard.applied ≤ n) (sym taken ∙ ap (λ (role : LogRole). role.taken) at_log.1)
        (subst (λ (n : ℕ). n ≤ log.taken) (sym applied
        ∙ ap (λ (role : ShardRole). role.applied) is) tie.0) in (
          within,
          ap (λ (role : LogRole). popped_through role.state t) (sym at_log.1)
              ∙ ap (popped_through popped.state) same ∙ own ∙ ap (λ (role : ShardRole). role.popped) is,
        ))
        (λ elsewhere. absurd (elsewhere.0 (ap (log_of (length logs)) same)))
        (set-cases logs (log_of (length logs) s) popped (log_of (length logs) t) its-log number)

    other-tag : (t ≡ s → ⊥) → slice_get shards t ≡ Some shard
        → (shard.applied ≤ its-log.taken) × (popped_through its-log.state t ≡ shard.popped)
    other-tag differs before-it = ⊎_elim
        (λ at_log.
        let tie = before t shard before-it log (ap (slice_get logs) at_log.0 ∙ at) in
        let other : (t == s) ≡ false = false_from_ne_true (t == s) (λ same. differs (eqb-true t s same)) in (
          subst (λ (n : ℕ). shard.applied ≤ n) (sym taken ∙ ap (λ (role : LogRole). role.taken) at_log.1) tie.0,
          ap (λ (role : LogRole). popped_through role.state t) (sym at_log.1) ∙ others t other ∙ tie.1,
        ))
        (λ elsewhere. before t shard before-it its-log elsewhere.1)
        (set-cases logs (log_of (length logs) s) popped (log_of (length logs) t) its-log number)

-- an item that is put where it stands changes nothing
pub set-same : {A : Type 0} (xs : List A) (i : ℕ) (x : A) → slice_get xs i ≡ Some x → slice_set xs i x ≡ xs
set-same [] i x there = cc
set-same (y ∷ ys) zero x there = let same : y ≡ x = cc in ap (λ (z : _). z ∷ ys) (sym same)
set-same (y ∷ ys) (suc i) x there = ap (λ (zs : _). y ∷ zs) (set-same ys i x there)
