-- Messages in which a mutation waits for a stamp, which no shard takes.
use Rattle.std.specs.Prelude.{◌≡◌, Bool, List, Option, Some, None, if◌then◌else◌}
use Rattle.std.specs.List.{list_any}
use Rattle.fdb_keys.specs.Points.{Point}
use Rattle.fdb_keys.specs.Ranges.{Range}
use Rattle.fdb_keys.specs.declared.refusal.Refusal.{Refusal}
use Rattle.fdb_keys.specs.declared.refusal.Refusal.TheVariants.{BadOperand}
use Rattle.fdb_mutations.specs.Stamping.{is_stamped}
use Rattle.fdb_txn.specs.declared.entry.Entry.{Entry}
use Rattle.fdb_txn.specs.declared.tag_msg.TagMsg.{TagMsg}
use Rattle.fdb_txn.specs.book.Book.{Seen}
use Rattle.fdb_txn.specs.rules.Messages.{mutations_in, messages_after}

-- some mutation of the message waits for a stamp
abbrev pub has_stamped : TagMsg → Bool
has_stamped message = list_any is_stamped (mutations_in message.body)

-- why messages are refused: one of them has a mutation that waits for a stamp
abbrev pub stamped_fault : List TagMsg → Option Refusal
stamped_fault messages = if list_any has_stamped messages then Some BadOperand else None

-- No shard is ever sent one: the messages of entries, whatever was seen before them, have none.
abbrev pub NoStampedIsSent : Type 0
NoStampedIsSent =
    (splits : List Point) (range : Range) (before : Seen) (book : List Entry)
    → stamped_fault (messages_after splits range before book) ≡ None
