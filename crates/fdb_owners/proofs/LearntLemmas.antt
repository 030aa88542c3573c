-- What learnt moves make of the owners, and that pieces stay pieces.
use Rattle.std.proofs.Common.{◌≡◌, ◌∙◌, sym, ap, refl, subst, ℕ, Bool, true, false, [], ◌∷◌, List}
use Rattle.std.proofs.Common.{Option, None, if◌then◌else◌, ◌<◌, ◌≤◌, nat_le, arith}
use Rattle.std.specs.List.{AllByRecursion}
use Rattle.fdb_keys.specs.Points.{Point}
use Rattle.fdb_keys.specs.Ranges.{Range, in_range}
use Rattle.fdb_keys.specs.Texts.{is_bound}
use Rattle.fdb_txn.specs.declared.entry.Move.{Move}
use Rattle.fdb_interval.specs.Breakpoints.{Breaks, value_from, AreRising}
use Rattle.fdb_owners.specs.declared.history.Change.{Change}
use Rattle.fdb_owners.specs.declared.history.History.{History}
use Rattle.fdb_owners.specs.declared.pieces.Pieces.{Pieces}
use Rattle.fdb_owners.specs.Histories.{IsHistory, owner_in}
use Rattle.fdb_owners.specs.Learning.{IsSplit, HasBounds, changed, fresh_of, with_fresh}
use Rattle.fdb_owners.specs.Ownership.{target_after}
use Rattle.fdb_owners.specs.Pieces.{history_at, IsPieces}
use Rattle.fdb_owners.proofs.SplitLemmas.{either_same}
use Rattle.fdb_owners.proofs.FreshLemmas.{all-remade, after, with_fresh-after}
use Rattle.fdb_owners.proofs.PlaceLemmas.{place_from, place_in, value-remade, place-within}

-- ---- the history at each point
-- no move touches what comes before all breakpoints
after-none : (version : ℕ) (from history : History) (moves : List Move)
    → after version (λ range. place_in range None) from moves history ≡ history
after-none version from history [] = refl
after-none version from history (move ∷ moves) = after-none version from history moves

-- moves that touch the same leave the same
after-same : (version : ℕ) (touches others : Range → Bool) (from history : History) (moves : List Move)
    → AllByRecursion (λ (move : Move). touches move.range ≡ others move.range) moves
    → after version touches from moves history ≡ after version others from moves history
after-same version touches others from history [] same = refl
after-same version touches others from history (move ∷ moves) same =
    ap (λ (t : Bool). after version touches from moves (if t then changed version move.to from else history)) same.0
    ∙ after-same version touches others from
    (if others move.range then changed version move.to from else history) moves same.1

pub history-learnt : (version : ℕ) (moves : List Move) (pieces : Pieces) (x : Point)
    → AreRising pieces.breaks.entries
    → AllByRecursion (λ (move : Move). HasBounds pieces move.range) moves
    → value_from pieces.lowest (with_fresh pieces.breaks.entries (fresh_of version moves pieces.breaks.entries)) x
    ≡ after version (λ range. in_range range x) (history_at pieces x) moves (history_at pieces x)
history-learnt version moves pieces x rising bounds =
    let es = pieces.breaks.entries in
    let made = λ (place : Option Point) (history : History).
    after version (λ range. place_in range place) history moves history in
    ap (λ (l : Breaks History). value_from pieces.lowest l x) (with_fresh-after version moves es rising)
    ∙ value-remade made pieces.lowest pieces.lowest None es x
    (sym (after-none version pieces.lowest pieces.lowest moves))
    ∙ after-same version (λ range. place_in range (place_from None es x)) (λ range. in_range range x)
    (history_at pieces x) (history_at pieces x) moves (all_within moves bounds)
  where
    all_within : (ms : List Move) → AllByRecursion (λ (move : Move). HasBounds pieces move.range) ms
        → AllByRecursion (λ (move : Move).
        place_in move.range (place_from None pieces.breaks.entries x) ≡ in_range move.range x) ms
    all_within [] all = tt
    all_within (move ∷ ms) all =
        (place-within pieces.breaks.entries x move.range rising all.0.0 all.0.1, all_within ms all.1)

-- ---- its owners
owner-after : (version : ℕ) (x : Point) (v : ℕ) (from history : History) (target : ℕ) (moves : List Move)
    → owner_in history v ≡ (if nat_le version v then target else owner_in from v)
    → owner_in (after version (λ range. in_range range x) from moves history) v
    ≡ (if nat_le version v then target_after moves x target else owner_in from v)
owner-after version x v from history target [] is = is
owner-after version x v from history target (move ∷ moves) is =
    owner-after version x v from (if in_range move.range x then changed version move.to from else history)
    (if in_range move.range x then move.to else target) moves (either (in_range move.range x))
  where
    either : (t : Bool) → owner_in (if t then changed version move.to from else history) v
        ≡ (if nat_le version v then (if t then move.to else target) else owner_in from v)
    either true = refl
    either false = is

pub owner-learnt : (version : ℕ) (x : Point) (v : ℕ) (from : History) (moves : List Move)
    → owner_in (after version (λ range. in_range range x) from moves from) v
    ≡ (if nat_le version v then target_after moves x (owner_in from v) else owner_in from v)
owner-learnt version x v from moves =
    owner-after version x v from from (owner_in from v) moves (sym (either_same (nat_le version v) (owner_in from v)))

-- ---- histories stay histories
later-changes : (resolvers last version : ℕ) → last < version → (changes : List Change)
    → AllByRecursion (λ (change : Change). (change.owner < resolvers) × (change.version ≤ last)) changes
    → AllByRecursion (λ (change : Change). (change.owner < resolvers) × (change.version ≤ version)) changes
later-changes resolvers last version later [] all = tt
later-changes resolvers last version later (change ∷ older) all =
    let by_last : change.version ≤ last = all.0.1 in
    ((all.0.0, omega arith), later-changes resolvers last version later older all.1)

earlier-changes : (resolvers last version : ℕ) → last < version → (changes : List Change)
    → AllByRecursion (λ (change : Change). (change.owner < resolvers) × (change.version ≤ last)) changes
    → AllByRecursion (λ (change : Change). change.version < version) changes
earlier-changes resolvers last version later [] all = tt
earlier-changes resolvers last version later (change ∷ older) all =
    let by_last : change.version ≤ last = all.0.1 in
    (omega arith, earlier-changes resolvers last version later older all.1)

pub history-later : (resolvers last version : ℕ) → last < version → (history : History)
    → IsHistory resolvers last history → IsHistory resolvers version history
history-later resolvers last version later history is = record {
  first = is.first;
  changes = later-changes resolvers last version later history.changes is.changes;
  falling = is.falling;
}

history-changed : (resolvers last version owner : ℕ) → last < version → owner < resolvers → (history : History)
    → IsHistory resolvers last history → IsHistory resolvers version (changed version owner history)
history-changed resolvers last version owner later within history is = record {
  first = is.first;
  changes = ((within, omega arith), later-changes resolvers last version later history.changes is.changes);
  falling = (earlier-changes resolvers last version later history.changes is.changes, is.falling);
}

after-is-history : (resolvers last version : ℕ) → last < version → (x : Point) (from history : History)
    (moves : List Move) → AllByRecursion (λ (move : Move). move.to < resolvers) moves
    → IsHistory resolvers last from → IsHistory resolvers version history
    → IsHistory resolvers version (after version (λ range. in_range range x) from moves history)
after-is-history resolvers last version later x from history [] within is so_far = so_far
after-is-history resolvers last version later x from history (move ∷ moves) within is so_far =
    after-is-history resolvers last version later x from
    (if in_range move.range x then changed version move.to from else history) moves within.1 is
    (either (in_range move.range x))
  where
    either : (t : Bool) → IsHistory resolvers version (if t then changed version move.to from else history)
    either true = history-changed resolvers last version move.to later within.0 from is
    either false = so_far

-- ---- pieces stay pieces
pub pieces-learnt : (resolvers last version : ℕ) (moves : List Move) (pieces others : Pieces)
    → AreRising pieces.breaks.entries → last < version
    → AllByRecursion (λ (move : Move). move.to < resolvers) moves
    → others.lowest ≡ pieces.lowest
    → others.breaks.entries ≡ with_fresh pieces.breaks.entries (fresh_of version moves pieces.breaks.entries)
    → IsPieces resolvers last pieces → IsPieces resolvers version others
pieces-learnt resolvers last version moves pieces others rising later within front entries are =
    let P = λ (piece : Point × History). (is_bound piece.0 ≡ true) × IsHistory resolvers last piece.1 in
    let Q = λ (piece : Point × History). (is_bound piece.0 ≡ true) × IsHistory resolvers version piece.1 in
    record {
      lowest = subst (IsHistory resolvers version) (sym front)
          (history-later resolvers last version later pieces.lowest are.lowest);
      breaks = subst (AllByRecursion Q)
          (sym (entries ∙ with_fresh-after version moves pieces.breaks.entries rising))
          (all-remade (λ x history. after version (λ range. in_range range x) history moves history) P Q
          (λ x history holds. (
            holds.0,
            after-is-history resolvers last version later x history history moves within
                holds.1 (history-later resolvers last version later history holds.1),
          )) pieces.breaks.entries are.breaks);
    }

-- ---- all of it, where the breakpoints were made first
pub owners-learnt : (version : ℕ) (moves : List Move) (pieces split others : Pieces) → IsSplit pieces split
    → AreRising split.breaks.entries
    → AllByRecursion (λ (move : Move). HasBounds split move.range) moves
    → others.lowest ≡ split.lowest
    → others.breaks.entries ≡ with_fresh split.breaks.entries (fresh_of version moves split.breaks.entries)
    → (x : Point) (v : ℕ) → owner_in (history_at others x) v
    ≡ (if nat_le version v then target_after moves x (owner_in (history_at pieces x) v)
    else owner_in (history_at pieces x) v)
owners-learnt version moves pieces split others is_split rising bounds front entries x v =
    (λ i. owner_in (value_from (front i) (entries i) x) v)
    ∙ ap (λ (h : History). owner_in h v) (history-learnt version moves split x rising bounds)
    ∙ owner-learnt version x v (history_at split x) moves
    ∙ ap (λ (h : History). if nat_le version v then target_after moves x (owner_in h v) else owner_in h v)
    (is_split.histories x)
