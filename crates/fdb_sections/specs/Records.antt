-- What a database holds at a version, with the front that it is of.
use Rattle.std.specs.Prelude.{◌≡◌, ◌≤◌, ◌==◌, ◌&&◌, ℕ, Bool, false, List, [], ◌∷◌, length, Option, Some, None}
use Rattle.std.specs.Prelude.{if◌then◌else◌}
use Rattle.fdb_keys.specs.Points.{Point}
use Rattle.fdb_keys.specs.Ranges.{Range}
use Rattle.fdb_keys.specs.declared.refusal.Refusal.{Refusal}
use Rattle.fdb_keys.specs.declared.refusal.Refusal.TheVariants.{KeyOutsideLegalRange}
use Rattle.fdb_mutations.specs.Pairs.{pairs_in}
use Rattle.fdb_txn.specs.declared.entry.Entry.{Entry}
use Rattle.fdb_txn.specs.book.Book.{last_version}
use Rattle.fdb_txn.specs.rules.Splits.{end_of_keys}
use Rattle.fdb_proxy.specs.declared.config.Config.{Config}
use Rattle.fdb_sections.specs.ShardViews.{run_of}

pub record RecordAtFront : Type 0 where
  pub front : List Entry
  pub committed : ℕ
  pub pairs : List (Point × List ℕ)

-- the range that has every key
abbrev pub every_key : Range
every_key = record { begin = []; end = end_of_keys }

-- the text is the end of keys
abbrev pub is_end_of_keys : List ℕ → Bool
is_end_of_keys [] = false
is_end_of_keys (byte ∷ []) = byte == 255
is_end_of_keys (byte ∷ other ∷ bytes) = false

-- the range is that of every key
abbrev pub is_every_key : Range → Bool
is_every_key range = (length range.begin == 0) && is_end_of_keys range.end

-- why what shards were lent for is no record: it isn't every key
abbrev pub record_fault : Range → Option Refusal
record_fault range = if is_every_key range then None else Some KeyOutsideLegalRange

-- the front reaches the version, and the pairs are those of every key on its serial map there, in key order
abbrev pub IsRecord : Config → RecordAtFront → Type 0
IsRecord config it =
    (it.committed ≤ last_version it.front)
    × (it.pairs ≡ pairs_in (run_of config it.committed it.front) every_key false)
