-- How many breakpoints are touched: as many as fresh histories are made.
use Rattle.std.proofs.Common.{◌≡◌, ◌∙◌, sym, ap, ap₂, refl, ℕ, suc, ◌+◌, Bool, true, false, List, [], ◌∷◌, length, cond}
use Rattle.std.proofs.Common.{if◌then◌else◌, arith}
use Rattle.std.specs.List.{filter}
use Rattle.std.proofs.lemmas.List.{length-append, length-map}
use Rattle.fdb_keys.specs.Points.{Point}
use Rattle.fdb_keys.specs.Ranges.{in_range}
use Rattle.fdb_txn.specs.declared.entry.Move.{Move}
use Rattle.fdb_interval.specs.Breakpoints.{Breaks, AreRising}
use Rattle.fdb_owners.specs.declared.history.History.{History}
use Rattle.fdb_owners.specs.Learning.{changed, breaks_of, fresh_by, fresh_of, is_moved, touched_by, with_fresh, Decide}
use Rattle.fdb_owners.proofs.FreshLemmas.{remade, after, between-is, with_fresh-after}

-- a test of the points picks as many of other values there
count-remade : {V : Type 0} (picked : Point → Bool) (f : Point → V → V) (es : Breaks V)
    → length (filter (λ (e : Point × V). picked e.0) (remade f es)) ≡ length (filter (λ (e : Point × V). picked e.0) es)
count-remade picked f [] = refl
count-remade {V} picked f (e ∷ es) = either (picked e.0) (count-remade picked f es)
  where
    either : (t : Bool)
        → length (filter (λ (e : Point × V). picked e.0) (remade f es))
        ≡ length (filter (λ (e : Point × V). picked e.0) es)
        → length (cond t ((e.0, f e.0 e.1) ∷ filter (λ (e : Point × V). picked e.0) (remade f es))
        (filter (λ (e : Point × V). picked e.0) (remade f es)))
        ≡ length (cond t (e ∷ filter (λ (e : Point × V). picked e.0) es) (filter (λ (e : Point × V). picked e.0) es))
    either true others = ap suc others
    either false others = others

-- ---- those of each move, one by one
abbrev held_by : Move → Breaks History → Breaks History
held_by move es = filter (λ (e : Point × History). in_range move.range e.0) es

abbrev touched_one_by_one : List Move → Breaks History → ℕ
touched_one_by_one [] es = 0
touched_one_by_one (move ∷ moves) es = length (held_by move es) + touched_one_by_one moves es

touched-fresh : (version : ℕ) (moves : List Move) (es : Breaks History)
    → length (fresh_of version moves es) ≡ touched_one_by_one moves es
touched-fresh version [] es = refl
touched-fresh version (move ∷ moves) es =
    length-append (fresh_by version move es) (fresh_of version moves es)
    ∙ ap₂ (λ (n m : ℕ). n + m)
    (length-map {B = Point × History} (breaks_of move.range es)
    (λ (piece : Point × History). (piece.0, changed version move.to piece.1))
    ∙ (λ i. length (filter (λ (e : Point × History). between-is move.range e.0 i) es)))
    (touched-fresh version moves es)

-- each breakpoint is one of them for each move that holds it
touched-more : (moves : List Move) (e : Point × History) (es : Breaks History)
    → touched_one_by_one moves (e ∷ es)
    ≡ length (filter (λ (move : Move). in_range move.range e.0) moves) + touched_one_by_one moves es
touched-more [] e es = refl
touched-more (move ∷ moves) e es = either (in_range move.range e.0) (touched-more moves e es)
  where
    either : (t : Bool)
        → touched_one_by_one moves (e ∷ es)
        ≡ length (filter (λ (one : Move). in_range one.range e.0) moves) + touched_one_by_one moves es
        → length (cond t (e ∷ held_by move es) (held_by move es)) + touched_one_by_one moves (e ∷ es)
        ≡ length (cond t (move ∷ filter (λ (one : Move). in_range one.range e.0) moves)
        (filter (λ (one : Move). in_range one.range e.0) moves))
        + (length (held_by move es) + touched_one_by_one moves es)
    either true others = omega arith
    either false others = omega arith

none-touched : (moves : List Move) → touched_one_by_one moves [] ≡ 0
none-touched [] = refl
none-touched (move ∷ moves) = omega (arith, none-touched moves)

-- ---- so where they share no point each is counted once
touched-once : (moves decisive : List Move) → Decide moves decisive → (es : Breaks History)
    → touched_one_by_one decisive es ≡ touched_by moves es
touched-once moves decisive decide [] = none-touched decisive
touched-once moves decisive decide (e ∷ es) =
    touched-more decisive e es
    ∙ ap₂ (λ (n m : ℕ). n + m) (decide.once e.0) (touched-once moves decisive decide es)
    ∙ either (is_moved moves e.0)
  where
    others : Breaks History
    others = filter (λ (piece : Point × History). is_moved moves piece.0) es

    either : (t : Bool) → ((if t then 1 else 0) + length others) ≡ length (cond t (e ∷ others) others)
    either true = omega arith
    either false = omega arith

pub touched-learnt : (version : ℕ) (moves decisive : List Move) (es : Breaks History) → Decide moves decisive
    → AreRising es
    → length (fresh_of version decisive es) ≡ touched_by moves (with_fresh es (fresh_of version decisive es))
touched-learnt version moves decisive es decide rising =
    touched-fresh version decisive es
    ∙ touched-once moves decisive decide es
    ∙ sym (ap (touched_by moves) (with_fresh-after version decisive es rising)
    ∙ count-remade (is_moved moves)
    (λ x history. after version (λ range. in_range range x) history decisive history) es)
