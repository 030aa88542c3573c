-- A page of a walk, and what a read gave.
use Rattle.std.proofs.Common.{◌≡◌, ◌∙◌, refl, sym, ap, subst, ℕ, ◌==◌, Bool, true, false}
use Rattle.std.proofs.Common.{List, [], ◌∷◌, length, Option, Some, None, arith, true≢false}
use Rattle.std.proofs.Common.{Result, Ok, Err}
use Rattle.std.specs.Prelude.{IfSome}
use Rattle.fdb_keys.specs.Points.{Point}
use Rattle.fdb_keys.specs.Ranges.{Range}
use Rattle.fdb_mutations.specs.Maps.{Map}
use Rattle.fdb_mutations.specs.PairLaws.{given_of}
use Rattle.fdb_keys.specs.declared.refusal.Refusal.{Refusal}
use Rattle.fdb_keys.specs.declared.refusal.Refusal.TheVariants.{NoTransaction}
use Rattle.fdb_txn.specs.book.Book.{seen_of}
use Rattle.fdb_txn.specs.rules.SerialMap.{serial_map_at}
use Rattle.fdb_client.specs.Programs.{program, copy, reply_on}
use Rattle.fdb_client.specs.TxnState.{with_op}
use Rattle.fdb_client.specs.declared.program.Op.TheVariants as operation
use Rattle.fdb_client.specs.declared.program.Reply.{Reply}
use Rattle.fdb_client.specs.declared.program.Reply.TheVariants as answer
use Rattle.fdb_client.specs.declared.program.Transcript.{Transcript}
use Rattle.fdb_sections.specs.Reading.{HasRead}
use Rattle.fdb_sections.specs.Sessions.{Session, with_current}
use Rattle.fdb_runtime.specs.Walks.{HasReadPage, some_page}

-- ---- a page, unless it has no pair
pub empty_is_none : (pairs : List (Point × List ℕ)) → (length pairs == 0) ≡ true → None ≡ some_page pairs
empty_is_none [] empty = refl
empty_is_none (pair ∷ pairs) empty = absurd (no empty)
  where
    no : (length (pair ∷ pairs) == 0) ≡ true → ⊥
    no e = grind (arith, e)

pub some_is_page : (pairs : List (Point × List ℕ)) → (length pairs == 0) ≡ false → Some pairs ≡ some_page pairs
some_is_page [] some = absurd (true≢false some)
some_is_page (pair ∷ pairs) some = refl

-- ---- what a read gave
pub forward : (splits : List Point) (range : Range) (limit : ℕ) (reverse snapshot : Bool) (before : Session)
    (pairs : List (Point × List ℕ)) (after : Session) → reverse ≡ false
    → HasRead splits before (operation.Range range limit reverse snapshot) (answer.Pairs pairs) after
    → HasReadPage splits range limit snapshot before pairs after
forward splits range limit reverse snapshot before pairs after is_forward read =
    subst (λ (it : Bool). HasRead splits before (operation.Range range limit it snapshot) (answer.Pairs pairs) after)
    is_forward read

abbrev pairs_of : Reply → List (Point × List ℕ)
pairs_of (answer.Pairs pairs) = pairs
pairs_of reply = []

abbrev IsGiven : Result (List (Point × List ℕ)) Refusal → Type 0
IsGiven (Ok pairs) = Unit
IsGiven (Err why) = ⊥

pub gave : (splits : List Point) (range : Range) (limit : ℕ) (snapshot : Bool) (before : Session)
    (pairs : List (Point × List ℕ)) (after : Session) (result : Result (List (Point × List ℕ)) Refusal)
    → result ≡ Ok pairs → (before.current ≡ None → result ≡ Err NoTransaction)
    → HasReadPage splits range limit snapshot before pairs after
    → (map : Map) × (pairs ≡ given_of map range limit false)
gave splits range limit snapshot before pairs after result is none read = by_current before.current none read
  where
    by_current : (current : Option Transcript) → (current ≡ None → result ≡ Err NoTransaction)
        → IfSome current (λ (transcript : Transcript).
        (answer.Pairs pairs
        ≡ reply_on (copy (serial_map_at splits transcript.read_version (seen_of before.front).places)
        (program transcript.ops)) (operation.Range range limit false snapshot))
        × (after ≡ with_current before (Some (with_op transcript (operation.Range range limit false snapshot)
        (answer.Pairs pairs)))))
        → (map : Map) × (pairs ≡ given_of map range limit false)
    by_current None none read = absurd (subst IsGiven (sym is ∙ none refl) tt)
    by_current (Some transcript) none read = (
      copy (serial_map_at splits transcript.read_version (seen_of before.front).places) (program transcript.ops),
      ap pairs_of read.0,
    )
