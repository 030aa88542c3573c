-- The book, read as places with all that a rule about a place looks at.
use Rattle.std.specs.Prelude.{ℕ, suc, max, ◌-◌, List, [], ◌∷◌, fold, take}
use Rattle.fdb_keys.specs.Ranges.{Range}
use Rattle.fdb_txn.specs.declared.entry.Move.{Move}
use Rattle.fdb_txn.specs.declared.entry.Entry.{Entry}
use Rattle.fdb_txn.specs.book.Transactions.{Transaction}

-- a move with the version of its entry
pub record DatedMove : Type 0 where
  pub version : ℕ
  pub range : Range
  pub target : ℕ

-- what all places of an entry share: its version, its horizon, and all moves through that version, the newest first
pub record Head : Type 0 where
  pub version : ℕ
  pub horizon : ℕ
  pub moves : List DatedMove

-- a transaction at its place, with what its entry's head says and the place's number in the entry
pub record Place : Type 0 where
  pub version : ℕ
  pub horizon : ℕ
  pub moves : List DatedMove
  pub number : ℕ
  pub transaction : Transaction

-- along the book: all moves and all places so far, the newest first
pub record Seen : Type 0 where
  pub moves : List DatedMove
  pub places : List Place

abbrev pub nothing : Seen
nothing = record { moves = []; places = [] }

-- the moves of one entry before the older ones; of one entry a later move is newer
abbrev pub add_moves : ℕ → List Move → List DatedMove → List DatedMove
add_moves version [] older = older
add_moves version (move ∷ moves) older =
    add_moves version moves (record { version = version; range = move.range; target = move.to } ∷ older)

-- the head of an entry of this version and horizon, by all moves through it
abbrev pub head_at : ℕ → ℕ → List DatedMove → Head
head_at version horizon moves = record { version = version; horizon = horizon; moves = moves }

-- the head of an entry after what was seen before it
abbrev pub head_of : Seen → Entry → Head
head_of before entry = head_at entry.version entry.horizon (add_moves entry.version entry.moves before.moves)

-- the transaction at the place with this number
abbrev pub placed : Head → ℕ → Transaction → Place
placed head number t = record {
  version = head.version;
  horizon = head.horizon;
  moves = head.moves;
  number = number;
  transaction = t;
}

-- the transactions of one entry, from place p on, before the earlier places
abbrev pub add_places : Head → ℕ → List Transaction → List Place → List Place
add_places head p [] earlier = earlier
add_places head p (t ∷ ts) earlier = add_places head (suc p) ts (placed head p t ∷ earlier)

abbrev pub add_entry : Seen → Entry → Seen
add_entry seen entry =
    let head = head_of seen entry in
    record { moves = head.moves; places = add_places head 0 entry.batch seen.places }

-- all moves and places of a book, of which the oldest entry is the first
abbrev pub seen_of : List Entry → Seen
seen_of book = fold add_entry nothing book

-- the version of the last entry, 0 where there is none
abbrev pub last_version : List Entry → ℕ
last_version book = fold (λ (last : ℕ) (entry : Entry). entry.version) 0 book

-- the horizon of the last entry, 0 where there is none
abbrev pub last_horizon : List Entry → ℕ
last_horizon book = fold (λ (last : ℕ) (entry : Entry). entry.horizon) 0 book

-- The horizon of an entry of this version, after the horizon of the entry before it and by the window: it is the begin
-- of the version's window, and never falls, also where the window grows.
abbrev pub next_horizon : (last window version : ℕ) → ℕ
next_horizon last window version = max last (version - window)

-- what was seen before entry i
abbrev pub seen_before : List Entry → ℕ → Seen
seen_before book i = seen_of (take i book)
