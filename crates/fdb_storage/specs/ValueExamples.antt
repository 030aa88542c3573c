-- What shards answer, and what replays cover, computed.
use Rattle.std.specs.Prelude.{◌≡◌, ℕ, true, false, List, [], ◌∷◌, Option, Some, None}
use Rattle.std.specs.FinMap.{get}
use Rattle.fdb_keys.specs.declared.refusal.Refusal.TheVariants.{NotYet, BadOperand}
use Rattle.fdb_mutations.specs.declared.mutation.Mutation.TheVariants.{Set, Clear, ClearRange, Add}
use Rattle.fdb_mutations.specs.Examples.{one}
use Rattle.fdb_mutations.specs.Maps.{Map}
use Rattle.fdb_mutations.specs.PairExamples.{pair}
use Rattle.fdb_txn.specs.declared.tag_msg.TagMsg.{TagMsg}
use Rattle.fdb_txn.specs.rules.Messages.{Body}
use Rattle.fdb_log.specs.declared.peek.Peek.{Peek}
use Rattle.fdb_mutations.specs.declared.page.Page.{Page}
use Rattle.fdb_storage.specs.Examples.{span, message_of, sets, waits}
use Rattle.fdb_storage.specs.Replays.{covered, messages_of, replay_fault}
use Rattle.fdb_storage.specs.declared.version_list.VersionedValue.{VersionedValue}
use Rattle.fdb_storage.specs.VersionMaps.{VersionedKeys}
use Rattle.fdb_storage.specs.Shards.{Shard, value_at, kept_of, IsNewShard, IsPage, HasApplied, HasForgotten, HasCopied}

abbrev pub message : (version prev : ℕ) → Body → TagMsg
message version prev body = record { version = version; prev = prev; body = body }

abbrev pub versioned : ℕ → Option (List ℕ) → VersionedValue
versioned version value = record { version = version; value = value }

-- shard 3 of the keys from 10 to 20 with these, which serves the versions from 50 through 100
abbrev pub shard_with : VersionedKeys → Shard
shard_with keys = record { tag = 3; range = span 10 20; version = 100; floor = 50; is_failed = false; keys = keys }

-- keys that are set, changed and cleared at several versions
abbrev pub changing : Shard
changing = shard_with
    ((one 12, versioned 60 (Some (one 5)) ∷ versioned 80 None ∷ [])
    ∷ (one 15, versioned 60 (Some (one 7)) ∷ versioned 80 (Some (one 8)) ∷ versioned 100 None ∷ [])
    ∷ (one 17, versioned 100 (Some (one 10)) ∷ [])
    ∷ [])

-- What stands at a key at the version of each message, before it and behind it.
abbrev pub WorkedValues : Type 0
WorkedValues =
    (value_at changing 59 (one 12) ≡ None)
    × (value_at changing 60 (one 12) ≡ Some (one 5))
    × (value_at changing 79 (one 12) ≡ Some (one 5))
    × (value_at changing 80 (one 12) ≡ None)
    × (value_at changing 59 (one 15) ≡ None)
    × (value_at changing 60 (one 15) ≡ Some (one 7))
    × (value_at changing 79 (one 15) ≡ Some (one 7))
    × (value_at changing 80 (one 15) ≡ Some (one 8))
    × (value_at changing 99 (one 15) ≡ Some (one 8))
    × (value_at changing 100 (one 15) ≡ None)
    × (value_at changing 99 (one 17) ≡ None)
    × (value_at changing 100 (one 17) ≡ Some (one 10))
    × (value_at changing 100 (one 13) ≡ None)

-- two keys from version 60 on, and a third one from version 100 on
abbrev pub growing : Shard
growing = shard_with
    ((one 12, versioned 60 (Some (one 5)) ∷ [])
    ∷ (one 15, versioned 60 (Some (one 7)) ∷ [])
    ∷ (one 17, versioned 100 (Some (one 9)) ∷ [])
    ∷ [])

-- A page is just this one, by the version, the range, the limit and the order: with no limit, with one that is met
-- before the last pair, at it, or not at all, and of ranges with one pair and with none.
abbrev pub WorkedPages : Type 0
WorkedPages =
    (page : Page)
    → (IsPage growing (span 10 20) 100 0 false page
    → page ≡ record { pairs = pair 12 5 ∷ pair 15 7 ∷ pair 17 9 ∷ []; more = false })
    × (IsPage growing (span 10 20) 100 2 false page → page ≡ record { pairs = pair 12 5 ∷ pair 15 7 ∷ []; more = true })
    × (IsPage growing (span 10 20) 100 3 false page
    → page ≡ record { pairs = pair 12 5 ∷ pair 15 7 ∷ pair 17 9 ∷ []; more = false })
    × (IsPage growing (span 10 20) 100 4 false page
    → page ≡ record { pairs = pair 12 5 ∷ pair 15 7 ∷ pair 17 9 ∷ []; more = false })
    × (IsPage growing (span 10 20) 100 2 true page → page ≡ record { pairs = pair 17 9 ∷ pair 15 7 ∷ []; more = true })
    × (IsPage growing (span 13 18) 100 1 false page → page ≡ record { pairs = pair 15 7 ∷ []; more = true })
    × (IsPage growing (span 13 17) 100 1 false page → page ≡ record { pairs = pair 15 7 ∷ []; more = false })
    × (IsPage growing (span 18 20) 100 1 false page → page ≡ record { pairs = []; more = false })
    × (IsPage growing (span 10 20) 60 2 false page → page ≡ record { pairs = pair 12 5 ∷ pair 15 7 ∷ []; more = false })
    × (IsPage growing (span 10 20) 99 1 true page → page ≡ record { pairs = pair 15 7 ∷ []; more = true })
    × (IsPage growing (span 10 20) 59 0 false page → page ≡ record { pairs = []; more = false })

abbrev pub peek : (after through : ℕ) → List TagMsg → Peek
peek after through messages = record { tag = 3; after = after; through = through; messages = messages }

-- Once messages are applied, what was served before stays, and later versions have what the messages change.
abbrev pub WorkedApplied : Type 0
WorkedApplied =
    (new : Shard) → HasApplied growing (peek 100 200 (message 200 100 ((0, Set (one 12) (one 6)) ∷ []) ∷ [])) new
    → (new.tag ≡ 3)
    × (new.range ≡ span 10 20)
    × (new.version ≡ 200)
    × (new.floor ≡ 50)
    × (new.is_failed ≡ false)
    × (value_at new 50 (one 12) ≡ None)
    × (value_at new 60 (one 12) ≡ Some (one 5))
    × (value_at new 99 (one 17) ≡ None)
    × (value_at new 100 (one 17) ≡ Some (one 9))
    × (value_at new 199 (one 12) ≡ Some (one 5))
    × (value_at new 200 (one 12) ≡ Some (one 6))
    × (value_at new 200 (one 17) ≡ Some (one 9))

-- The floor rises, and never falls; what is served from there on stays.
abbrev pub WorkedForgotten : Type 0
WorkedForgotten =
    (new : Shard)
    → (HasForgotten growing 40 new → new.floor ≡ 50)
    × (HasForgotten growing 80 new
    → (new.tag ≡ 3)
    × (new.range ≡ span 10 20)
    × (new.version ≡ 100)
    × (new.floor ≡ 80)
    × (new.is_failed ≡ false)
    × (value_at new 80 (one 12) ≡ Some (one 5))
    × (value_at new 99 (one 17) ≡ None)
    × (value_at new 100 (one 17) ≡ Some (one 9)))

-- messages after which the keys of `changing` have their versions
abbrev pub changes : List TagMsg
changes =
    message 60 0 ((0, Set (one 12) (one 5)) ∷ (0, Set (one 15) (one 7)) ∷ [])
    ∷ message 80 60 ((0, Add (one 15) (one 1)) ∷ (1, Clear (one 12)) ∷ [])
    ∷ message 100 80 ((0, Set (one 17) (one 9)) ∷ (2, Add (one 17) (one 1)) ∷ (3, ClearRange (span 11 16)) ∷ [])
    ∷ []

-- A new shard that applied them answers at each version what stood there.
abbrev pub WorkedFollowed : Type 0
WorkedFollowed =
    (empty new : Shard) → IsNewShard 3 (span 10 20) empty → HasApplied empty (peek 0 100 changes) new
    → (value_at new 59 (one 12) ≡ None)
    × (value_at new 60 (one 12) ≡ Some (one 5))
    × (value_at new 79 (one 12) ≡ Some (one 5))
    × (value_at new 80 (one 12) ≡ None)
    × (value_at new 60 (one 15) ≡ Some (one 7))
    × (value_at new 79 (one 15) ≡ Some (one 7))
    × (value_at new 80 (one 15) ≡ Some (one 8))
    × (value_at new 99 (one 15) ≡ Some (one 8))
    × (value_at new 100 (one 15) ≡ None)
    × (value_at new 99 (one 17) ≡ None)
    × (value_at new 100 (one 17) ≡ Some (one 10))
    × (value_at new 100 (one 13) ≡ None)

-- a key that is set at two versions, and another one that is cleared alone
abbrev pub rewriting : List TagMsg
rewriting =
    message 100 0 ((0, Set (one 12) (one 1)) ∷ (0, Clear (one 13)) ∷ [])
    ∷ message 299 100 []
    ∷ message 300 299 ((0, Set (one 12) (one 3)) ∷ [])
    ∷ []

-- Two versions of the one are kept, and from the last one on one; of the other there is none.
abbrev pub WorkedKept : Type 0
WorkedKept =
    (empty old new : Shard) → IsNewShard 3 (span 10 20) empty → HasApplied empty (peek 0 300 rewriting) old
    → HasForgotten old 300 new
    → (kept_of old (one 12) ≡ 2)
    × (kept_of new (one 12) ≡ 1)
    × (kept_of old (one 13) ≡ 0)
    × (kept_of new (one 13) ≡ 0)

-- Of a range that the shard holds in part a map gets the values at the version, and keeps its own outside that part.
abbrev pub WorkedCopied : Type 0
WorkedCopied =
    (old new : Map)
    → (HasCopied growing (span 14 30) 60 old new
    → (get old (one 15) ≡ None → get new (one 15) ≡ Some (one 7))
    × (get old (one 17) ≡ None → get new (one 17) ≡ None)
    × (get new (one 12) ≡ get old (one 12))
    × (get new (one 25) ≡ get old (one 25)))
    × (HasCopied growing (span 14 30) 100 old new
    → get old (one 17) ≡ None → get new (one 17) ≡ Some (one 9))

-- No peek; one from 0 on, and one that isn't; two that go on, that overlap, of which the second one ends before the
-- first one, and that leave a gap, which a third one doesn't fill. What is refused is told the first version that is
-- missing; before that it is told that a mutation waits for a stamp, also where no read wants its message. The messages
-- are those of the first peek and then those of the second.
abbrev pub WorkedReplays : Type 0
WorkedReplays =
    (covered [] ≡ 0)
    × (covered (peek 0 60 [] ∷ []) ≡ 60)
    × (covered (peek 1 60 [] ∷ []) ≡ 0)
    × (covered (peek 0 60 [] ∷ peek 60 100 [] ∷ []) ≡ 100)
    × (covered (peek 0 60 [] ∷ peek 30 100 [] ∷ []) ≡ 100)
    × (covered (peek 0 60 [] ∷ peek 30 50 [] ∷ []) ≡ 60)
    × (covered (peek 0 60 [] ∷ peek 61 100 [] ∷ []) ≡ 60)
    × (covered (peek 0 60 [] ∷ peek 61 100 [] ∷ peek 60 80 [] ∷ []) ≡ 60)
    × (replay_fault [] 0 ≡ None)
    × (replay_fault [] 1 ≡ Some (NotYet 1))
    × (replay_fault (peek 0 60 [] ∷ peek 60 100 [] ∷ []) 100 ≡ None)
    × (replay_fault (peek 0 60 [] ∷ peek 60 100 [] ∷ []) 101 ≡ Some (NotYet 101))
    × (replay_fault (peek 0 60 [] ∷ peek 61 100 [] ∷ []) 60 ≡ None)
    × (replay_fault (peek 0 60 [] ∷ peek 61 100 [] ∷ []) 100 ≡ Some (NotYet 61))
    × (replay_fault (peek 0 60 (message_of (sets ∷ []) ∷ []) ∷ []) 60 ≡ None)
    × (replay_fault (peek 0 60 [] ∷ peek 61 100 (message_of (sets ∷ waits ∷ []) ∷ []) ∷ []) 60 ≡ Some BadOperand)
    × (replay_fault (peek 0 60 [] ∷ peek 61 100 (message_of (sets ∷ waits ∷ []) ∷ []) ∷ []) 100 ≡ Some BadOperand)
    × (messages_of [] ≡ [])
    × (messages_of (peek 0 60 (message 50 0 [] ∷ message 60 50 [] ∷ []) ∷ peek 60 100 (message 100 60 [] ∷ []) ∷ [])
    ≡ message 50 0 [] ∷ message 60 50 [] ∷ message 100 60 [] ∷ [])
