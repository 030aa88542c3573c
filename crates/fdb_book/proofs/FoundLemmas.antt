-- What an append that finds an entry in its cell needs.
use Rattle.std.proofs.Common.{◌≡◌, ◌≢◌, ◌∙◌, sym, refl, ap, subst, ℕ, ◌<◌, ◌≤◌, Bool, true, false, List, [], ◌∷◌}
use Rattle.std.proofs.Common.{◌++◌, length, ◌+◌, Option, Some, None, Ok, Err, inr, rules, arith}
use Rattle.std.specs.Bool.{Decides}
use Rattle.std.specs.Option.{MatchOption}
use Rattle.std.proofs.lemmas.List.{length-append}
use Rattle.fdb_keys.specs.Answers.{Answers}
use Rattle.fdb_keys.specs.declared.refusal.Refusal.{Refusal}
use Rattle.fdb_keys.specs.declared.refusal.Refusal.TheVariants.{NoMemory, Taken}
use Rattle.fdb_txn.specs.declared.entry.Entry.{Entry}
use Rattle.fdb_txn.specs.book.History.{IsSealed}
use Rattle.fdb_book.specs.Fronts.{IsLinkedBook, IsFront, Known, AreOfFirst, shown}
use Rattle.fdb_book.specs.Ids.{Latest, Covers}
use Rattle.fdb_book.proofs.AppendLemmas.{append-room, append-book}
use Rattle.fdb_book.proofs.FactLemmas.{shown-count}
use Rattle.fdb_book.specs.Appending.{append_fault, Found, found_behind, Appends}

-- what is decided not to hold doesn't
pub decided-false : {P : Type 0} {test : Bool} → test ≡ false → Decides test P → P → ⊥
decided-false is_false decides holds = search (rules, sym is_false ∙ decides.1 holds)

pub match-none : {X : Type 0} (P : Type 0) (Q : X → Type 0) (given : Option X)
    → given ≡ None → MatchOption given P Q → P
match-none P Q given is holds = subst (λ (it : Option _). MatchOption it P Q) is holds

pub match-some : {X : Type 0} (P : Type 0) (Q : X → Type 0) (given : Option X) (x : X) → given ≡ Some x
    → MatchOption given P Q → Q x
match-some P Q given x is holds = subst (λ (it : Option _). MatchOption it P Q) is holds

-- where an entry may be appended, there is a cell left
pub room-left : (names cells : List ℕ) (known : Known) (book : List Entry) (entry : Entry) → cells ≡ names
    → AreOfFirst cells known → shown known ≡ book → append_fault (length names) book entry ≡ None
    → length book < length names
room-left names cells known book entry same first view fits =
    let within : length book ≤ length names = rw (← view, shown-count known, ← same) first.within in
    let apart : length book ≢ length names = append-room (length names) book entry fits in search (arith, within, apart)

-- a front with what is known of the next cell, whose entry may stand there
pub front-next : (names cells : List ℕ) (next : Known) (len : ℕ) (latest : Latest) (capacity : ℕ) (book : List Entry)
    (entry : Entry) → cells ≡ names → AreOfFirst names next → len ≡ length book → shown next ≡ book ++ entry ∷ []
    → IsLinkedBook book → append_fault capacity book entry ≡ None → IsSealed entry
    → Covers latest (book ++ entry ∷ []) → IsFront names cells next (len + 1) true latest
front-next names cells next len latest capacity book entry same
    first counted more linked fits is_sealed covered = record {
      same = same;
      first = rw same first;
      counted =
          ap (λ (n : ℕ). n + 1) counted ∙ sym (length-append book (entry ∷ [])) ∙ ap length (sym more)
          ∙ shown-count next;
      book = rw more (append-book capacity book entry linked fits is_sealed);
      covered = λ known. rw more covered;
    }

-- what a call gives says that there is no fault, and what it gives
pub given-fits : {T : Type 0} (given : T) (fault : Option Refusal) (P : T → Type 0)
    → Answers (Ok given) fault P → fault ≡ None
given-fits given None P answers = refl
given-fits given (Some fault) P answers = absurd answers

pub given-has : {T : Type 0} (given : T) (fault : Option Refusal) (P : T → Type 0)
    → Answers (Ok given) fault P → P given
given-has given None P answers = answers
given-has given (Some fault) P answers = absurd answers

-- an entry that may not stand there is found without a front
pub taken-back : {T : Type 0} (capacity : ℕ) (book : List Entry) (entry other : Entry) (why : Refusal) (P : T → Type 0)
    (back : Found) → append_fault capacity book entry ≡ None → other ≢ entry
    → Answers (Err why) (append_fault capacity book other) P → why ≢ NoMemory
    → back ≡ record { entries = book ++ other ∷ []; front = None }
    → Appends capacity book entry (Err (record { why = Taken; back = Some back }))
taken-back {T = T} capacity book entry other why P back fits apart answers lacked is =
    rw fits (inr (refl, (other, apart, ap Some (is ∙ no-front (append_fault capacity book other) answers refl))))
  where
    bare : Found
    bare = record { entries = book ++ other ∷ []; front = None }

    no-front : (fault : Option Refusal) → Answers {T = T} (Err why) fault P → append_fault capacity book other ≡ fault
        → bare ≡ found_behind capacity book other
    no-front None answers is = absurd (lacked answers)
    no-front (Some fault) answers is = rw is refl
