-- A front with one entry more.
use Rattle.std.proofs.Common.{◌≡◌, refl, sym, ap, ap₂, suc, List, [], ◌∷◌, ◌++◌, length, Option, Some, None}
use Rattle.std.proofs.Common.{Result, Ok, Err, OnErr, arith, inl, inr, ◌⊎◌}
use Rattle.std.proofs.lemmas.Bool.{lt-leb, le-ltb}
use Rattle.std.proofs.lemmas.List.{length-append}
use Rattle.fdb_keys.specs.Answers.{Answers}
use Rattle.fdb_keys.specs.declared.refusal.Refusal.{Refusal}
use Rattle.fdb_keys.specs.declared.refusal.Refusal.TheVariants.{NoMemory}
use Rattle.fdb_txn.specs.declared.entry.Entry.{Entry}
use Rattle.fdb_book.specs.Fronts.{IsPrefix}
use Rattle.fdb_sections.specs.Turns.{front_fault, HasOneMore, AnswersInTurn}

-- a front that begins with another one and has one entry more
pub one-more : (own theirs : List Entry) → length theirs ≡ suc (length own) → IsPrefix own theirs
    → HasOneMore own theirs
one-more own theirs count prefix = by_rest prefix.0 prefix.1
  where
    by_rest : (rest : List Entry) → theirs ≡ own ++ rest → HasOneMore own theirs
    by_rest [] is = absurd (omega (arith, count, ap length is, length-append own []))
    by_rest (entry ∷ []) is = (entry, is)
    by_rest (entry ∷ other ∷ rest) is =
        absurd (omega (arith, count, ap length is, length-append own (entry ∷ other ∷ rest)))

-- it is taken next
pub next-in-turn : (own theirs : List Entry) → length theirs ≡ suc (length own) → front_fault own theirs ≡ None
next-in-turn own theirs count =
    rw (lt-leb (length theirs) (length own) (omega (arith, count)))
    (rw (le-ltb (suc (length own)) (length theirs) (omega (arith, count))) refl)

-- of two ways to part a front into its last entry and those before it, the parts are the same
pub same-front : (before own : List Entry) (entry other : Entry) → before ++ entry ∷ [] ≡ own ++ other ∷ []
    → before ≡ own
same-front [] [] entry other is = refl
same-front [] (one ∷ own) entry other is =
    absurd (omega (arith, ap length is, length-append own (other ∷ [])))
same-front (one ∷ before) [] entry other is =
    absurd (omega (arith, ap length is, length-append before (entry ∷ [])))
same-front (one ∷ before) (another ∷ own) entry other is =
    ap₂ (λ (e : Entry) (front : List Entry). e ∷ front) (same-head _ _ _ _ is)
    (same-front before own entry other (same-tail _ _ _ _ is))
  where
    same-head : (a b : Entry) (more others : List Entry) → a ∷ more ≡ b ∷ others → a ≡ b
    same-head a b more others is = cc

    same-tail : (a b : Entry) (more others : List Entry) → a ∷ more ≡ b ∷ others → more ≡ others
    same-tail a b more others is = cc

-- what holds anyhow holds where a call is refused
pub where-refused : {T E : Type 0} (result : Result T E) (P : Type 0) → P → OnErr result P
where-refused (Ok given) P holds = tt
where-refused (Err why) P holds = holds

-- a call in its turn that its role refused is refused as the role says, or for memory
pub refused-by-role : {T U : Type 0} (turn own : Option Refusal) (P : T → Type 0) (why : Refusal) (Q : U → Type 0)
    → turn ≡ None → Answers {T = U} (Err why) own Q → AnswersInTurn {T = T} (Err why) turn own P
refused-by-role {T} {U} turn own P why Q next answers = rw next (by_fault own answers)
  where
    by_fault : (fault : Option Refusal) → Answers {T = U} (Err why) fault Q → (why ≡ NoMemory) ⊎ (fault ≡ Some why)
    by_fault (Some fault) is = inr (ap (λ (it : Refusal). Some it) (sym is))
    by_fault None is = inl is
