-- Owners of a point by the book, before and after the moves of one version.
use Rattle.std.proofs.Common.{◌≡◌, ◌∙◌, refl, ℕ, ◌<◌, ◌≤◌, Bool, true, false, ◌&&◌, nat_le, if◌then◌else◌}
use Rattle.std.proofs.Common.{List, [], ◌∷◌}
use Rattle.std.proofs.lemmas.Bool.{cond-true, cond-false, le-leb, lt-leb}
use Rattle.fdb_keys.specs.Points.{Point}
use Rattle.fdb_keys.specs.Ranges.{in_range}
use Rattle.fdb_txn.specs.declared.entry.Move.{Move}
use Rattle.fdb_txn.specs.book.Book.{DatedMove, add_moves}
use Rattle.fdb_txn.specs.rules.Owners.{owner}
use Rattle.fdb_owners.specs.Ownership.{target_after}

-- the owner, by whether the version is reached
abbrev where_reached : Bool → ℕ → ℕ → ℕ
where_reached reached after before = if reached then after else before

-- a move that is reached gives the points of its range its target
reached-move : (reached inside : Bool) (moves : List Move) (x : Point) (target before : ℕ)
    → where_reached reached (target_after moves x (if reached && inside then target else before))
    (if reached && inside then target else before)
    ≡ where_reached reached (target_after moves x (if inside then target else before)) before
reached-move true inside moves x target before = refl
reached-move false inside moves x target before = refl

owner-add_moves : (splits : List Point) (version : ℕ) (moves : List Move) (older : List DatedMove) (x : Point) (v : ℕ)
    → owner splits (add_moves version moves older) x v
    ≡ where_reached (nat_le version v) (target_after moves x (owner splits older x v)) (owner splits older x v)
owner-add_moves splits version [] older x v = same_either_way (nat_le version v) (owner splits older x v)
  where
    same_either_way : (reached : Bool) (i : ℕ) → i ≡ where_reached reached i i
    same_either_way true i = refl
    same_either_way false i = refl
owner-add_moves splits version (move ∷ moves) older x v =
    owner-add_moves splits version moves (record { version = version; range = move.range; target = move.to } ∷ older)
    x v
    ∙ reached-move (nat_le version v) (in_range move.range x) moves x move.to (owner splits older x v)

-- from the version on, the moves change the owner
pub owner-since : (splits : List Point) (version : ℕ) (moves : List Move) (older : List DatedMove) (x : Point) (v : ℕ)
    → version ≤ v → owner splits (add_moves version moves older) x v ≡ target_after moves x (owner splits older x v)
owner-since splits version moves older x v reached =
    owner-add_moves splits version moves older x v ∙ cond-true (nat_le version v) _ _ (le-leb version v reached)

-- below the version they don't
pub owner-before : (splits : List Point) (version : ℕ) (moves : List Move) (older : List DatedMove) (x : Point) (v : ℕ)
    → v < version → owner splits (add_moves version moves older) x v ≡ owner splits older x v
owner-before splits version moves older x v below =
    owner-add_moves splits version moves older x v ∙ cond-false (nat_le version v) _ _ (lt-leb version v below)
