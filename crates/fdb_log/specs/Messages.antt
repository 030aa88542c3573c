-- What a log's messages have for a tag.
use Rattle.std.specs.Prelude.{ℕ, ◌%◌, Bool, ◌==◌, ◌&&◌, nat_lt, List, map, filter}
use Rattle.std.specs.List.{list_any}
use Rattle.fdb_mutations.specs.declared.mutation.Mutation.{Mutation}
use Rattle.fdb_txn.specs.declared.tag_msg.TagMsg.{TagMsg}
use Rattle.fdb_log.specs.declared.message.LogMsg.{LogMsg}
use Rattle.fdb_log.specs.declared.message.Tagged.{Tagged}

-- the number of the log, of so many, that keeps the tag
abbrev pub log_of : (logs tag : ℕ) → ℕ
log_of logs tag = tag % logs

-- the tag is one of so many, and the log of the number, of so many, keeps it
abbrev pub is_kept : (log logs tags tag : ℕ) → Bool
is_kept log logs tags tag = nat_lt tag tags && (log_of logs tag == log)

-- the mutation has the tag
abbrev pub has_tag : ℕ → Tagged → Bool
has_tag tag sent = list_any (λ (other : ℕ). other == tag) sent.tags

-- those with the tag, each with its place
abbrev pub sent_to : ℕ → List Tagged → List (ℕ × Mutation)
sent_to tag body = map (λ (sent : Tagged). (sent.place, sent.mutation)) (filter (has_tag tag) body)

-- what a message has for the tag
abbrev pub tag_message : ℕ → LogMsg → TagMsg
tag_message tag message =
    record { version = message.version; prev = message.prev; body = sent_to tag message.body }

-- those of a version above this one
abbrev pub above : ℕ → List TagMsg → List TagMsg
above version messages = filter (λ (message : TagMsg). nat_lt version message.version) messages
