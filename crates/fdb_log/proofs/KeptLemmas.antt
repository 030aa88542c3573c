-- What a log gives of a tag.
use Rattle.std.proofs.Common.{◌≡◌, ◌∙◌, ap, ap₂, refl, ℕ, List}
use Rattle.fdb_txn.specs.declared.tag_msg.TagMsg.{TagMsg}
use Rattle.fdb_log.specs.Logs.{Log, kept, given_after, peek_of}
use Rattle.fdb_log.specs.Peeks.{RiseAfter, IsPeek, through_after}
use Rattle.fdb_log.specs.Messages.{above}
use Rattle.fdb_log.proofs.RisingLemmas.{rises-take, rises-above}

-- what is given rises after the version
pub is_peek : (core : Log) (tag after limit low : ℕ) → RiseAfter low (kept core tag)
    → IsPeek (peek_of core tag after limit)
is_peek core tag after limit low rising =
    record {
      rising =
          rises-take after (above after (kept core tag)) limit (rises-above low after (kept core tag) rising);
      through = refl;
    }

-- a peek with these messages that goes through the last of them
pub peek-is : (core : Log) (tag after limit through : ℕ) (messages : List TagMsg)
    → messages ≡ given_after core tag after limit → through ≡ through_after after messages
    → record { tag = tag; after = after; through = through; messages = messages } ≡ peek_of core tag after limit
peek-is core tag after limit through messages given last =
    ap₂ (λ (last : ℕ) (list : List TagMsg). record { tag = tag; after = after; through = last; messages = list })
    (last ∙ ap (through_after after) given) given
