-- What a closed database held, carried over to the next one.
use Rattle.std.specs.Prelude.{◌≡◌, ◌≤◌, ◌+◌, ◌*◌, ◌↔◌, ◌||◌, ◌++◌, ℕ, Bool, true, false, List, length, map, drop}
use Rattle.std.specs.Prelude.{Option, Some, None}
use Rattle.std.specs.List.{AllByRecursion, flat_map}
use Rattle.fdb_keys.specs.Points.{Point}
use Rattle.fdb_keys.specs.declared.refusal.Refusal.{Refusal}
use Rattle.fdb_keys.specs.declared.refusal.Refusal.TheVariants as refusal
use Rattle.fdb_mutations.specs.Pairs.{pairs_in}
use Rattle.fdb_mutations.specs.declared.mutation.Mutation.TheVariants.{Set}
use Rattle.fdb_txn.specs.declared.entry.Entry.{Entry}
use Rattle.fdb_txn.specs.book.Book.{last_version}
use Rattle.fdb_book.specs.Fronts.{IsPrefix}
use Rattle.fdb_proxy.specs.declared.config.Config.{Config}
use Rattle.fdb_client.specs.declared.program.Op.{Op}
use Rattle.fdb_client.specs.declared.program.Reply.{Reply}
use Rattle.fdb_sections.specs.Commits.{is_handed_back}
use Rattle.fdb_sections.specs.Receipts.{IsReceipt, ReceiptAtFront}
use Rattle.fdb_sections.specs.Records.{RecordAtFront, every_key}
use Rattle.fdb_sections.specs.Refusals.{is_of_begin, is_of_read}
use Rattle.fdb_sections.specs.Sessions.{Session}
use Rattle.fdb_sections.specs.ShardViews.{run_of}
use Rattle.fdb_layers.specs.Operations.{writing}

-- The next database has just the pairs of the record at the version, which its front reaches: those that the closed one
-- had at its committed version.
pub record IsCarriedOver (closed : Config) (held : RecordAtFront) (next : Config) (version : ℕ) (front : List Entry)
    : Type 0 where
  pub reached : version ≤ last_version front
  pub pairs : pairs_in (run_of next version front) every_key false ≡ held.pairs
  pub same_run : pairs_in (run_of next version front) every_key false
      ≡ pairs_in (run_of closed held.committed held.front) every_key false

-- The next database has other pairs than these at a version that its front reaches.
pub record HasOthers (next : Config) (front : List Entry) (pairs : List (Point × List ℕ)) : Type 0 where
  pub version : ℕ
  pub reached : version ≤ last_version front
  pub differ : pairs_in (run_of next version front) every_key false ≡ pairs → ⊥

-- It is the session that it was, has begun no fewer transactions, and has seen no less of the book.
pub record GoesOn (old new : Session) : Type 0 where
  pub number : new.number ≡ old.number
  pub begun : old.next_number ≤ new.next_number
  pub seen : IsPrefix old.front new.front

-- the pair is set
abbrev pub setting : Point × List ℕ → Op × Reply
setting pair = writing (Set pair.0 pair.1)

-- A transaction set just these pairs, one after another, and is committed, as a receipt says whose front this one
-- begins with.
pub record AreSetAtOnce (splits : List Point) (front : List Entry) (pairs : List (Point × List ℕ)) : Type 0 where
  pub receipt : ReceiptAtFront
  pub committed : IsReceipt splits receipt
  pub seen : IsPrefix receipt.front front
  pub done : receipt.transcript.ops ≡ map setting pairs

-- All pairs were set so, part by part.
pub record AreSet (splits : List Point) (front : List Entry) (pairs : List (Point × List ℕ)) : Type 0 where
  pub parts : List (List (Point × List ℕ))
  pub whole : flat_map (λ part. part) parts ≡ pairs
  pub each : AllByRecursion (AreSetAtOnce splits front) parts

-- no less than what a pair adds to the size of a transaction that sets it: its key three times, in the mutation and in
-- both bounds of the range that is written, the byte that ends this one, and its value
abbrev pub pair_size : Point × List ℕ → ℕ
pair_size pair = 3 * length pair.0 + 1 + length pair.1

-- the pairs begin with the page's, and it has so many; or there is no number, since they don't begin with them
abbrev pub BeginWith : List (Point × List ℕ) → List (Point × List ℕ) → Option ℕ → Type 0
BeginWith pairs page (Some count) = (count ≤ length pairs) × (pairs ≡ page ++ drop count pairs)
BeginWith pairs page None = (rest : List (Point × List ℕ)) → pairs ≡ page ++ rest → ⊥

-- The pairs are those that were left before just where, without the first so many of them, they are those that are left
-- behind the page; or there is no number, since they aren't.
abbrev pub ComparesPage : (before after pairs : List (Point × List ℕ)) → Option ℕ → Type 0
ComparesPage before after pairs (Some count) =
    (count ≤ length pairs) × ((drop count pairs ≡ after) ↔ (pairs ≡ before))
ComparesPage before after pairs None = pairs ≡ before → ⊥

-- of a call that sets a key: no transaction is open, the value is too large, or memory ran out
abbrev pub is_of_set : Refusal → Bool
is_of_set refusal.NoTransaction = true
is_of_set refusal.ValueTooLarge = true
is_of_set refusal.NoMemory = true
is_of_set why = false

-- of one that commits, where nothing is handed back: nothing is open, it is too large, or memory ran out
abbrev pub is_unsubmitted : Refusal → Bool
is_unsubmitted refusal.NoTransaction = true
is_unsubmitted refusal.TransactionTooLarge = true
is_unsubmitted refusal.NoMemory = true
is_unsubmitted why = false

-- of one that commits
abbrev pub is_of_commit : Refusal → Bool
is_of_commit why = is_handed_back why || is_unsubmitted why

-- of one that carries pairs over: as of one that begins, sets, commits or reads
abbrev pub is_of_carrying : Refusal → Bool
is_of_carrying why = is_of_begin why || (is_of_set why || (is_of_commit why || is_of_read why))
