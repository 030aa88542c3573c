-- A shard that applies what its log gave goes on to the front of as many entries more.
use Rattle.std.proofs.Common.{◌≡◌, ◌∙◌, refl, sym, ap, ap₂, subst, ℕ, suc, ◌+◌, ◌<◌, ◌≤◌, arith, Bool, true, false}
use Rattle.std.proofs.Common.{List, [], length, take, inl, Option, Some, None, Result, Ok, Err}
use Rattle.std.specs.Prelude.{◌==◌, ◌⊎◌, ⊤, not, nat_lt, IsNone, IsSome, OnErr, if◌then◌else◌}
use Rattle.std.proofs.lemmas.Bool.{eqb-true, ltb-false, true≢false}
use Rattle.std.proofs.lemmas.List.{length-take}
use Rattle.fdb_keys.specs.Answers.{Answers, AnswersExactly}
use Rattle.fdb_keys.specs.Ranges.{Range}
use Rattle.fdb_keys.specs.declared.refusal.Refusal.{Refusal}
use Rattle.fdb_keys.specs.declared.refusal.Refusal.TheVariants.{Failed, NotYet, Stale, Unknown}
use Rattle.fdb_txn.specs.declared.entry.Entry.{Entry}
use Rattle.fdb_txn.specs.book.Book.{last_version}
use Rattle.fdb_txn.specs.book.History.{AreEntries}
use Rattle.fdb_txn.specs.rules.Splits.{piece}
use Rattle.fdb_txn.specs.Turn.{turn_fault}
use Rattle.fdb_book.specs.Fronts.{IsPrefix}
use Rattle.fdb_log.specs.declared.peek.Peek.{Peek}
use Rattle.fdb_log.specs.Logs.{peek_of, peek_fault as log_fault}
use Rattle.fdb_storage.specs.Shards.{Shard, apply_fault, IsNewShard, HasApplied, HasFailed}
use Rattle.fdb_proxy.specs.declared.config.Config.{Config}
use Rattle.fdb_roles.specs.AtBook.{IsShardAt}
use Rattle.fdb_roles.proofs.Exports.{given-fault, gives, shard_goes_on_by_its_log, shard_starts}
use Rattle.fdb_sections.specs.Messages.{PeekAtFront, IsGivenAt}
use Rattle.fdb_sections.specs.ShardsAtFronts.{ShardAtFront, IsThere, HasGoneOn, next_fault, peek_fault}
use Rattle.fdb_sections.specs.ShardsAtFronts.{front_through}

-- a new shard of its piece is there
pub starts : (config : Config) (tag : ℕ) (range : Range) (new : Shard) → tag < suc (length config.shard_splits)
    → range ≡ piece config.shard_splits tag → IsNewShard tag range new
    → (tag ≡ new.tag) × IsThere config (record { front = []; shard = new })
starts config tag range new exists its is = (
  sym is.tag,
  (
    subst (λ (s : ℕ). s < suc (length config.shard_splits)) (sym is.tag) exists,
    λ works. subst (λ (s : ℕ). IsShardAt config [] s new) (sym is.tag)
        (shard_starts config tag new (subst (λ (keys : Range). IsNewShard tag keys new) its is)),
  ),
)

-- one that has failed is there
pub failed-there : (config : Config) (front : List Entry) (old new : Shard) → old.tag < suc (length config.shard_splits)
    → HasFailed old new → IsThere config (record { front = front; shard = new })
failed-there config front old new exists failed = (
  subst (λ (s : ℕ). s < suc (length config.shard_splits)) (sym failed.tag) exists,
  λ works. absurd (true≢false (sym failed.fails ∙ works)),
)

-- two versions of which none comes before the other are the same
in-turn : (last prev : ℕ) → turn_fault last prev ≡ None → prev ≡ last
in-turn last prev none = by_tests (nat_lt prev last) (nat_lt last prev) refl refl none
  where
    by_tests : (before behind : Bool) → nat_lt prev last ≡ before → nat_lt last prev ≡ behind
        → (if before then Some Stale else (if behind then Some (NotYet prev) else None)) ≡ None → prev ≡ last
    by_tests true behind is also none = cc
    by_tests false true is also none = cc
    by_tests false false is also none = omega (arith, ltb-false prev last is, ltb-false last prev also)

-- a peek that a shard doesn't refuse is of its tag and its version, and the shard works
abbrev Fits : Shard → Peek → Type 0
Fits shard peek = (peek.tag ≡ shard.tag) × (shard.is_failed ≡ false) × (peek.after ≡ shard.version)

fits : (shard : Shard) (peek : Peek) → next_fault shard peek ≡ None → Fits shard peek
fits shard peek none = by_tests (peek.tag == shard.tag) shard.is_failed refl refl none
  where
    by_tests : (own failed : Bool) → (peek.tag == shard.tag) ≡ own → shard.is_failed ≡ failed
        → (if not own then Some Unknown else (if failed then Some Failed else turn_fault shard.version peek.after))
        ≡ None
        → Fits shard peek
    by_tests true false is works none =
        (eqb-true peek.tag shard.tag is, works, in-turn shard.version peek.after none)
    by_tests true true is fails none = cc
    by_tests false failed is also none = cc

-- what isn't refused at the front is the next one
is-next : (at : ShardAtFront) (given : PeekAtFront) → peek_fault at given ≡ None
    → next_fault at.shard given.peek ≡ None
is-next at given none = by_test (nat_lt (length given.front) (length at.front)) none
  where
    by_test : (shorter : Bool) → (if shorter then Some Stale else next_fault at.shard given.peek) ≡ None
        → next_fault at.shard given.peek ≡ None
    by_test true none = cc
    by_test false none = none

-- what a shard has then applied, as the law says it
abbrev Applies : Config → (short long : List Entry) → Shard → Peek → Type 0
Applies config short long old peek =
    let applied = take (length short + length peek.messages) long in
    (apply_fault old peek ≡ None)
    × (length applied ≡ length short + length peek.messages)
    × (peek.through ≡ last_version applied)
    × ((new : Shard) → HasApplied old peek new → IsShardAt config applied old.tag new)

-- a shard is there, and takes a peek that a log gave at a front that begins with its own
pub record Takes (config : Config) (at : ShardAtFront) (given : PeekAtFront) : Type 0 where
  pub there : IsThere config at
  pub is : IsGivenAt config given
  pub entries : AreEntries (suc (length config.resolver_splits)) 0 given.front
  pub none : peek_fault at given ≡ None
  pub begins : IsPrefix at.front given.front

-- so it is where the check of a peek refuses nothing; what was checked is said of the whole values, what is there of
-- their parts
pub takes : (config : Config) (at own : ShardAtFront) (given sent : PeekAtFront) → at ≡ own → given ≡ sent
    → IsThere config at → IsGivenAt config given → AreEntries (suc (length config.resolver_splits)) 0 sent.front
    → AnswersExactly {T = Unit} (Ok tt) (peek_fault own sent) (λ _. IsPrefix own.front sent.front)
    → Takes config at given
takes config at own given sent is also there gave entries answers =
    let has = given-fault (peek_fault own sent) tt (λ _. IsPrefix own.front sent.front) answers in
    let checked =
    subst (λ (it : PeekAtFront). (peek_fault at it ≡ None) × IsPrefix at.front it.front) (sym also)
    (subst (λ (it : ShardAtFront). (peek_fault it sent ≡ None) × IsPrefix it.front sent.front) (sym is) has) in
    record {
      there = there;
      is = gave;
      entries = subst (λ (it : PeekAtFront). AreEntries (suc (length config.resolver_splits)) 0 it.front) (sym also)
          entries;
      none = checked.0;
      begins = checked.1;
    }

module _ (config : Config) (at : ShardAtFront) (given : PeekAtFront) (takes : Takes config at given) where
  applies : Applies config at.front given.front at.shard given.peek
  applies =
      let mine = fits at.shard given.peek (is-next at given takes.none) in
      let is = takes.is in
      let same : given.peek ≡ peek_of is.log at.shard.tag at.shard.version is.limit =
      is.gives ∙ ap₂ (λ (tag after : ℕ). peek_of is.log tag after is.limit) mine.0 mine.2 in
      let may : log_fault is.log at.shard.tag at.shard.version ≡ None =
      sym (ap₂ (λ (tag after : ℕ). log_fault is.log tag after) mine.0 mine.2) ∙ is.may in
      subst (Applies config at.front given.front at.shard) (sym same)
      (shard_goes_on_by_its_log config at.front given.front at.shard.tag is.number is.limit at.shard is.log
      takes.begins takes.entries (takes.there.1 mine.1) is.at may)

  pub state-takes : apply_fault at.shard given.peek ≡ None
  state-takes = applies.0

  pub count : length (front_through at given) ≡ length at.front + length given.peek.messages
  count = applies.1

  pub within : length at.front + length given.peek.messages ≤ length given.front
  within = omega (arith, count, length-take (length at.front + length given.peek.messages) given.front)

  -- the cut is that of the front
  cut-is : (own more : ℕ) (front : List Entry) → own ≡ length at.front → more ≡ length given.peek.messages
      → front ≡ take (own + more) given.front → front ≡ front_through at given
  cut-is own more front own_is more_is is =
      is ∙ ap₂ (λ (n m : ℕ). take (n + m) given.front) own_is more_is

  module _ (own more : ℕ) (front : List Entry) (own_is : own ≡ length at.front)
      (more_is : more ≡ length given.peek.messages) (is : front ≡ take (own + more) given.front) (new : Shard)
      (applied : HasApplied at.shard given.peek new) where
    -- it is then there
    pub goes-on : IsThere config (record { front = front; shard = new })
    goes-on = (
      subst (λ (s : ℕ). s < suc (length config.shard_splits)) (sym applied.tag) takes.there.0,
      λ works. subst (λ (all : List Entry). IsShardAt config all new.tag new)
          (sym (cut-is own more front own_is more_is is))
          (subst (λ (s : ℕ). IsShardAt config (front_through at given) s new) (sym applied.tag)
          (applies.3 new applied)),
    )

    pub has-gone-on : HasGoneOn at given (record { front = front; shard = new })
    has-gone-on =
        let through = cut-is own more front own_is more_is is in
        record { applied = applied; front = through; count = ap (λ (all : List Entry). length all) through ∙ count }

-- which is said of the whole values
pub answers-on : (at own : ShardAtFront) (given sent : PeekAtFront) (new : ShardAtFront) → at ≡ own → given ≡ sent
    → peek_fault own sent ≡ None → HasGoneOn at given new
    → Answers {T = Unit} (Ok tt) (peek_fault own sent) (λ _. HasGoneOn own sent new)
answers-on at own given sent new is also none gone =
    gives (peek_fault own sent) tt (λ _. HasGoneOn own sent new) none
    (subst (λ (it : ShardAtFront). HasGoneOn it sent new) is
    (subst (λ (it : PeekAtFront). HasGoneOn at it new) also gone))

-- A shard that refuses to apply is as it was, but for what memory ran out in.
pub kept-or-failed : (fault : Option Refusal) (result : Result ⊤ Refusal) (old new : ShardAtFront)
    → (IsSome fault → new ≡ old)
    → (IsNone fault → OnErr result ((new.shard ≡ old.shard) ⊎ HasFailed old.shard new.shard))
    → OnErr result ((new.shard ≡ old.shard) ⊎ HasFailed old.shard new.shard)
kept-or-failed None result old new refused failed = failed refl
kept-or-failed (Some fault) (Ok done) old new refused failed = tt
kept-or-failed (Some fault) (Err why) old new refused failed =
    inl (ap (λ (it : ShardAtFront). it.shard) (refused refl))
