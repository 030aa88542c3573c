-- Which mutations of a log wait, until the last of their tags is popped.
use Rattle.std.specs.Prelude.{◌≡◌, ◌<◌, ◌⊎◌, ℕ, suc, Bool, not, ◌&&◌, ◌==◌, nat_lt, nat_le, List, [], ◌∷◌}
use Rattle.std.specs.Prelude.{if◌then◌else◌}
use Rattle.std.specs.List.{list_any}
use Rattle.fdb_log.specs.declared.message.LogMsg.{LogMsg}
use Rattle.fdb_log.specs.declared.message.Tagged.{Tagged}
use Rattle.fdb_log.specs.TagSets.{is_among, tags_that}

-- a mutation: the version of its entry and its index in the message, and those of its tags that the log keeps, each
-- once, rising
abbrev pub Waiting : Type 0
Waiting = (ℕ × ℕ) × List ℕ

-- a place comes before another one, by its version and then by its index
abbrev pub ComesBefore : ℕ × ℕ → ℕ × ℕ → Type 0
ComesBefore one other = (one.0 < other.0) ⊎ ((one.0 ≡ other.0) × (one.1 < other.1))

-- it waits where some tag of it was popped through a version below its own only
abbrev pub waits : (ℕ → ℕ) → Waiting → Bool
waits popped one = list_any (λ (tag : ℕ). nat_lt (popped tag) one.0.0) one.1

-- up to a version it waits for the one tag, and for no other
abbrev pub waits_for_alone : (ℕ → ℕ) → (tag through : ℕ) → Waiting → Bool
waits_for_alone popped tag through one =
    nat_le one.0.0 through
    && list_any (λ (other : ℕ). other == tag) one.1
    && not (list_any (λ (other : ℕ). not (other == tag) && nat_lt (popped other) one.0.0) one.1)

-- those of the tags that are kept, each once, rising
abbrev pub kept_among : (ℕ → Bool) → List ℕ → List ℕ
kept_among kept tags = tags_that (λ (tag : ℕ). is_among tags tag && kept tag)

-- of mutations from an index on those that have a tag which is kept
abbrev pub waiting_from : (ℕ → Bool) → (version index : ℕ) → List Tagged → List Waiting
waiting_from kept version index [] = []
waiting_from kept version index (sent ∷ body) =
    if list_any kept sent.tags
    then ((version, index), kept_among kept sent.tags) ∷ waiting_from kept version (suc index) body
    else waiting_from kept version (suc index) body

-- those of a message
abbrev pub waiting_of : (ℕ → Bool) → LogMsg → List Waiting
waiting_of kept message = waiting_from kept message.version 0 message.body
