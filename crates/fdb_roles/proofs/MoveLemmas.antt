-- The moves of a book, as they are handed out and learnt.
use Rattle.std.proofs.Common.{◌≡◌, ◌≢◌, ◌∙◌, refl, sym, ap, ℕ, zero, suc, ◌+◌, ◌<◌, ◌≤◌, List, [], ◌∷◌, ◌++◌, length}
use Rattle.std.proofs.Common.{map, fold, subst, unwrap_or, arith, le_trans}
use Rattle.std.specs.List.{AllByRecursion, slice_get, slice_set}
use Rattle.std.proofs.lemmas.List.{append-nil, append_assoc, length-map, length-set}
use Rattle.std.proofs.lemmas.List.Sums.{fold-append, sum_by_push}
use Rattle.fdb_keys.proofs.Exports.{all-append, all-weaken}
use Rattle.fdb_txn.specs.declared.entry.Entry.{Entry}
use Rattle.fdb_txn.specs.declared.entry.Move.{Move}
use Rattle.fdb_txn.specs.book.Book.{Seen, DatedMove, add_entry, add_moves, last_version, nothing, seen_of}
use Rattle.fdb_txn.specs.book.History.{AreEntries, HorizonsRise}
use Rattle.fdb_txn.specs.laws.SerialMapLaws.{version_after}
use Rattle.fdb_txn.proofs.Exports.{entries-split}
use Rattle.fdb_sequencer.specs.declared.ticket.Ticket.{Ticket}
use Rattle.fdb_sequencer.specs.TicketLaws.{AreRisingUpTo, GoToResolvers, MayBeLearnt}
use Rattle.fdb_sequencer.specs.declared.dated.Dated.{Dated}
use Rattle.fdb_sequencer.specs.Moves.{dated}
use Rattle.fdb_sequencer.specs.Sequencer.{Sequencer, accepting, unlearnt_by}
use Rattle.fdb_proxy.specs.CommitProxies.{moves_with}
use Rattle.fdb_roles.specs.Entries.{dated_moves, moves_in}
use Rattle.fdb_roles.proofs.BookLemmas.{last-above}

-- the moves of one version, after older ones
dated-with : (version : ℕ) (moves : List Move) (older : List DatedMove)
    → moves_with (dated version moves) older ≡ add_moves version moves older
dated-with version [] older = refl
dated-with version (move ∷ moves) older = refl

-- moves that are learnt after others
pub moves-append : (first more : List Dated) (older : List DatedMove)
    → moves_with (first ++ more) older ≡ moves_with more (moves_with first older)
moves-append first more older =
    fold-append (λ (moves : List DatedMove) (of : Dated). add_moves of.version of.moves moves) older first more

-- the moves of more entries come after those of the first ones
pub dated_moves-append : (book more : List Entry)
    → dated_moves (book ++ more) ≡ dated_moves book ++ dated_moves more
dated_moves-append [] more = refl
dated_moves-append (first ∷ book) more =
    ap (λ (moves : List Dated). dated first.version first.moves ++ moves) (dated_moves-append book more)
    ∙ sym (append_assoc (dated first.version first.moves) (dated_moves book) (dated_moves more))

-- one more entry has its own moves
pub dated_moves-push : (book : List Entry) (entry : Entry)
    → dated_moves (book ++ entry ∷ []) ≡ dated_moves book ++ dated entry.version entry.moves
dated_moves-push book entry = dated_moves-append book (entry ∷ [])
    ∙ ap (λ (moves : List Dated). dated_moves book ++ moves) (append-nil (dated entry.version entry.moves))

moves-seen : (book : List Entry) (seen : Seen)
    → moves_with (dated_moves book) seen.moves ≡ (fold add_entry seen book).moves
moves-seen [] seen = refl
moves-seen (entry ∷ book) seen =
    moves-append (dated entry.version entry.moves) (dated_moves book) seen.moves
    ∙ ap (moves_with (dated_moves book)) (dated-with entry.version entry.moves seen.moves)
    ∙ moves-seen book (add_entry seen entry)

-- who learnt all moves of a book has those that were seen of it
pub moves-of-book : (book : List Entry) → moves_with (dated_moves book) [] ≡ (seen_of book).moves
moves-of-book book = moves-seen book nothing

-- what holds of a version's moves holds of them where there are any
dated-all : (P : Dated → Type 0) (version : ℕ) (moves : List Move) → P (record { version = version; moves = moves })
    → AllByRecursion P (dated version moves)
dated-all P version [] holds = tt
dated-all P version (move ∷ moves) holds = (holds, tt)

-- The moves of entries after a version may be learnt by who learnt those up to it.
module _ (resolvers : ℕ) where
  moves-later : (last : ℕ) (entries : List Entry) → AreEntries resolvers last entries
      → AllByRecursion (λ (of : Dated). last < of.version) (dated_moves entries)
  moves-later last [] are = tt
  moves-later last (entry ∷ entries) are =
      let later = are.0 in
      all-append (λ (of : Dated). last < of.version) (dated entry.version entry.moves) (dated_moves entries)
      (dated-all (λ (of : Dated). last < of.version) entry.version entry.moves later)
      (all-weaken (λ (of : Dated). entry.version < of.version) (λ (of : Dated). last < of.version)
      (λ of above. omega (arith, later, above)) (dated_moves entries) (moves-later entry.version entries are.4))

  moves-rising : (last through : ℕ) (entries : List Entry) → AreEntries resolvers last entries
      → version_after last entries ≤ through → AreRisingUpTo through (dated_moves entries)
  moves-rising last through [] are reached = tt
  moves-rising last through (entry ∷ entries) are reached =
      with-first (moves-rising entry.version through entries are.4 reached) entry.moves
    where
      with-first : AreRisingUpTo through (dated_moves entries) → (moves : List Move)
          → AreRisingUpTo through (dated entry.version moves ++ dated_moves entries)
      with-first others [] = others
      with-first others (move ∷ moves) =
          let end = last-above resolvers entry.version entries are.4 in
          (omega (arith, end, reached), moves-later entry.version entries are.4, others)

  moves-exist : (last : ℕ) (entries : List Entry) → AreEntries resolvers last entries
      → GoToResolvers resolvers (dated_moves entries)
  moves-exist last [] are = tt
  moves-exist last (entry ∷ entries) are =
      let Exist : Dated → Type 0 = λ (of : Dated). AllByRecursion (λ (move : Move). move.to < resolvers) of.moves in
      all-append Exist (dated entry.version entry.moves) (dated_moves entries)
      (dated-all Exist entry.version entry.moves are.2) (moves-exist entry.version entries are.4)

  -- entries before one more have a lower last version
  later-than : (last : ℕ) (more : List Entry) (entry : Entry) → AreEntries resolvers last (more ++ entry ∷ [])
      → last < entry.version
  later-than last [] entry are = are.0
  later-than last (first ∷ more) entry are =
      let later = are.0 in
      let others = later-than first.version more entry are.4 in
      omega (arith, later, others)

  -- the horizon of the last of some entries is below its version,
  last-below : (last : ℕ) (more : List Entry) (entry : Entry) → AreEntries resolvers last (more ++ entry ∷ [])
      → entry.horizon < entry.version
  last-below last [] entry are = are.1.1
  last-below last (first ∷ more) entry are = last-below first.version more entry are.4

  -- and no less than a horizon before them
  risen : (floor : ℕ) (more : List Entry) (entry : Entry) → HorizonsRise floor (more ++ entry ∷ [])
      → floor ≤ entry.horizon
  risen floor [] entry rise = rise.0
  risen floor (first ∷ more) entry rise = le_trans rise.0 (risen first.horizon more entry rise.1)

  version-push : (last : ℕ) (more : List Entry) (entry : Entry)
      → version_after last (more ++ entry ∷ []) ≡ entry.version
  version-push last [] entry = refl
  version-push last (first ∷ more) entry = version-push first.version more entry

  -- one more after some and others comes after the first ones
  pub entries-behind : (front between : List Entry) (entry : Entry)
      → AreEntries resolvers 0 ((front ++ between) ++ entry ∷ [])
      → AreEntries resolvers (last_version front) (between ++ entry ∷ [])
  entries-behind front between entry entries = (entries-split resolvers 0 front (between ++ entry ∷ [])
      (subst (AreEntries resolvers 0) (append_assoc front between (entry ∷ [])) entries)).1

  -- and so may the ticket of the last one, that tells them all
  pub ticket-after : (last floor : ℕ) (more : List Entry) (entry : Entry) (ticket : Ticket)
      → AreEntries resolvers last (more ++ entry ∷ []) → HorizonsRise floor (more ++ entry ∷ [])
      → entry.version ≡ ticket.version → entry.horizon ≡ ticket.horizon
      → ticket.moves ≡ dated_moves (more ++ entry ∷ []) → MayBeLearnt resolvers last floor ticket
  ticket-after last floor more entry ticket are rise version horizon moves =
      let all = more ++ entry ∷ [] in
      let through : version_after last all ≡ ticket.version = version-push last more entry ∙ version in
      record {
        later = subst (λ (v : ℕ). last < v) version (later-than last more entry are);
        above = subst (AllByRecursion (λ (of : Dated). last < of.version)) (sym moves) (moves-later last all are);
        rising = subst (AreRisingUpTo ticket.version) (sym moves)
            (moves-rising last ticket.version all are (omega (arith, through)));
        targets = subst (GoToResolvers resolvers) (sym moves) (moves-exist last all are);
        horizon = let low = risen floor more entry rise in omega (arith, low, horizon);
        below = let below = last-below last more entry are in omega (arith, below, version, horizon);
      }

-- so many moves there are with one more entry
pub moves_in-push : (book : List Entry) (entry : Entry)
    → moves_in (book ++ entry ∷ []) ≡ moves_in book + length entry.moves
moves_in-push book entry = sum_by_push (λ (of : Entry). length of.moves) book entry

module _ (more : List Dated) where
  abbrev with_more : List Dated → List Dated
  with_more moves = moves ++ more

  more-at : (lists : List (List Dated)) (i : ℕ) → i < length lists
      → unwrap_or (slice_get (map with_more lists) i) [] ≡ unwrap_or (slice_get lists i) [] ++ more
  more-at [] i within = absurd (omega (arith, within))
  more-at (first ∷ lists) zero within = refl
  more-at (first ∷ lists) (suc i) within = more-at lists i (omega (arith, within))

  other-at : (lists : List (List Dated)) (own i : ℕ) → i ≢ own → i < length lists
      → unwrap_or (slice_get (slice_set (map with_more lists) own []) i) [] ≡ unwrap_or (slice_get lists i) [] ++ more
  other-at [] own i differs within = absurd (omega (arith, within))
  other-at (first ∷ lists) zero zero differs within = absurd (differs refl)
  other-at (first ∷ lists) zero (suc i) differs within = more-at lists i (omega (arith, within))
  other-at (first ∷ lists) (suc own) zero differs within = refl
  other-at (first ∷ lists) (suc own) (suc i) differs within =
      other-at lists own i (λ same. differs (ap suc same)) (omega (arith, within))

  own-at : (lists : List (List Dated)) (own : ℕ) → own < length lists
      → unwrap_or (slice_get (slice_set (map with_more lists) own []) own) [] ≡ []
  own-at [] own within = refl
  own-at (first ∷ lists) zero within = refl
  own-at (first ∷ lists) (suc own) within = own-at lists own (omega (arith, within))

-- Once its ticket is accepted, a proxy has had all moves, and each other one lacks those that took effect with it.
module _ (s : Sequencer) (ticket : Ticket) where
  pub handed-own : ticket.proxy < length s.unlearnt → unlearnt_by (accepting s ticket) ticket.proxy ≡ []
  handed-own within = own-at (dated ticket.version s.pending) s.unlearnt ticket.proxy within

  pub handed-other : (proxy : ℕ) → proxy ≢ ticket.proxy → proxy < length s.unlearnt
      → unlearnt_by (accepting s ticket) proxy ≡ unlearnt_by s proxy ++ dated ticket.version s.pending
  handed-other proxy differs within =
      other-at (dated ticket.version s.pending) s.unlearnt ticket.proxy proxy differs within

  pub handed-count : length (accepting s ticket).unlearnt ≡ length s.unlearnt
  handed-count = length-set (map (λ (moves : List Dated). moves ++ dated ticket.version s.pending) s.unlearnt)
      ticket.proxy [] ∙ length-map s.unlearnt (λ (moves : List Dated). moves ++ dated ticket.version s.pending)
