-- What a put into a room answers.
use Rattle.std.proofs.Common.{◌≡◌, sym, refl, subst, true, false, Option, Some, None, Result, Ok, Err}
use Rattle.std.specs.Prelude.{is_some}
use Rattle.fdb_keys.specs.Answers.{AnswersOrHandsBack}
use Rattle.fdb_keys.specs.declared.refusal.Refusal.TheVariants.{NoMemory, Stale}
use Rattle.fdb_keys.specs.declared.refusal.Refused.{Refused}
use Rattle.fdb_txn.specs.Room.{room_fault}

module _ {X : Type 0} where
  -- where one waits, an item is refused as stale
  pub refused_where_one_waits : (waiting : Option X) (item : X) (P : Unit {0} → Type 0) → is_some waiting ≡ true
      → AnswersOrHandsBack {T = Unit {0}} {B = X} (Err (record { why = Stale; back = item })) item
      (room_fault waiting) P
  refused_where_one_waits None item P waits = cc
  refused_where_one_waits (Some other) item P waits = (refl, refl)

  -- where none waits, an item is let wait
  pub let_wait : (waiting : Option X) (result : Result (Unit {0}) (Refused X)) (item : X) (P : Unit {0} → Type 0)
      → is_some waiting ≡ false → result ≡ Ok tt → P tt → AnswersOrHandsBack result item (room_fault waiting) P
  let_wait None result item P none is holds = subst (λ r. AnswersOrHandsBack r item None P) (sym is) holds
  let_wait (Some other) result item P none is holds = cc

  -- or refused because memory ran out
  pub refused_for_memory : (waiting : Option X) (result : Result (Unit {0}) (Refused X)) (item back : X)
      (P : Unit {0} → Type 0) → is_some waiting ≡ false → result ≡ Err (record { why = NoMemory; back = back })
      → back ≡ item → AnswersOrHandsBack result item (room_fault waiting) P
  refused_for_memory None result item back P none is same =
      subst (λ r. AnswersOrHandsBack r item None P) (sym is) (refl, same)
  refused_for_memory (Some other) result item back P none is same = cc
