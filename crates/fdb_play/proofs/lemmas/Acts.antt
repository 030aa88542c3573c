-- Why keys and ranges of drawn steps are none.
use Rattle.std.proofs.Common.{Bool, true, false, ◌||◌, inl, inr, refl, sym, subst, List, ℕ, Option, Some, None}
use Rattle.std.proofs.Common.{Result, Ok, Err, IfErr, IfSome, length}
use Rattle.std.specs.Prelude.{nat_lt, if◌then◌else◌}
use Rattle.fdb_keys.specs.Answers.{Answers}
use Rattle.fdb_keys.specs.Limits.{bound_limit, key_limit}
use Rattle.fdb_keys.specs.Points.{point_lt}
use Rattle.fdb_keys.specs.Texts.{begins_with_ff, is_after_ff, key_fault, range_fault}
use Rattle.fdb_keys.specs.declared.refusal.Refusal.{Refusal}
use Rattle.fdb_keys.specs.declared.refusal.Refusal.TheVariants.{InvertedRange, KeyOutsideLegalRange, KeyTooLarge}
use Rattle.fdb_play.specs.random.Runs.{IsUnmade}

-- a fault of a text is why it isn't made
by_fault : {T : Type 0} (fault : Option Refusal) (made : Result T Refusal) (P : T → Type 0) → IfSome fault IsUnmade
    → Answers made fault P → IfErr made IsUnmade
by_fault fault (Ok given) P unmade answers = tt
by_fault None (Err why) P unmade answers = inl answers
by_fault (Some fault) (Err why) P unmade answers = subst IsUnmade (sym answers) unmade

key_faults : (is_large is_outside : Bool)
    → IfSome (if is_large then Some KeyTooLarge else (if is_outside then Some KeyOutsideLegalRange else None)) IsUnmade
key_faults true is_outside = inr (inl refl)
key_faults false true = inr (inr (inl refl))
key_faults false false = tt

range_faults : (are_large are_outside is_inverted : Bool)
    → IfSome (if are_large then Some KeyTooLarge
    else (if are_outside then Some KeyOutsideLegalRange
    else (if is_inverted then Some InvertedRange else None))) IsUnmade
range_faults true are_outside is_inverted = inr (inl refl)
range_faults false true is_inverted = inr (inr (inl refl))
range_faults false false true = inr (inr (inr refl))
range_faults false false false = tt

-- a text is refused as no key
pub key_unmade : {T : Type 0} (text : List ℕ) (made : Result T Refusal) (P : T → Type 0)
    → Answers made (key_fault text) P → IfErr made IsUnmade
key_unmade text made P answers =
    by_fault (key_fault text) made P (key_faults (nat_lt key_limit (length text)) (begins_with_ff text)) answers

-- two texts are refused as no range
pub range_unmade : {T : Type 0} (begin end : List ℕ) (made : Result T Refusal) (P : T → Type 0)
    → Answers made (range_fault begin end) P → IfErr made IsUnmade
range_unmade begin end made P answers =
    by_fault (range_fault begin end) made P
    (range_faults (nat_lt bound_limit (length begin) || nat_lt bound_limit (length end))
    (is_after_ff begin || is_after_ff end) (point_lt end begin)) answers
