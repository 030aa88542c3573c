-- A transaction, spread over the resolvers that are asked about it.
use Rattle.std.proofs.Common.{◌≡◌, ◌∙◌, refl, sym, ap, ℕ, zero, suc, ◌≤◌, max, min, Bool, false, ◌&&◌, ◌||◌, ◌==◌, List}
use Rattle.std.proofs.Common.{Result, Ok, Err, None, IfOk, arith}
use Rattle.std.proofs.Math.Bool.{and-false}
use Rattle.std.proofs.lemmas.Bool.{lt-leb}
use Rattle.fdb_keys.specs.Answers.{Answers}
use Rattle.fdb_keys.specs.declared.refusal.Refusal.{Refusal}
use Rattle.fdb_keys.specs.Points.{Point}
use Rattle.fdb_keys.specs.Ranges.{Range, in_set}
use Rattle.fdb_txn.specs.book.Book.{DatedMove, head_at, placed}
use Rattle.fdb_txn.specs.book.Transactions.{Transaction}
use Rattle.fdb_txn.specs.rules.Admission.{has_points}
use Rattle.fdb_owners.specs.Histories.{any_between}
use Rattle.fdb_owners.specs.Ownership.{Ownership, owner_at, owned_between}
use Rattle.fdb_owners.specs.OwnersLaws.{AgreesWith}
use Rattle.fdb_owners.specs.Parts.{ArePartsOf}
use Rattle.fdb_owners.specs.Spreads.{is_held, AreOwned}
use Rattle.fdb_owners.specs.declared.parts.Owned.{Owned}
use Rattle.fdb_owners.proofs.Exports.{owned_by_the_book, parts-owned, parts-held}
use Rattle.fdb_proxy.specs.declared.parting.Spread.{Spread}
use Rattle.fdb_proxy.specs.Spreads.{IsSpreadOf}

-- no version lies above the greater one and at most at the lower one
none-between : (test : ℕ → Bool) (low high : ℕ) → high ≤ low → any_between test low high ≡ false
none-between test low zero order = refl
none-between test low (suc v) order =
    ap (λ (t : Bool). t && test (suc v) || any_between test low v) (lt-leb low v (omega (arith, order)))
    ∙ none-between test low v (omega (arith, order))

-- so nobody is asked about reads between such versions
pub none-asked : (owners : Ownership) (set : List Range) (i : ℕ) (x : Point) (low high : ℕ) → high ≤ low
    → false ≡ (in_set set x && owned_between owners i x low high)
none-asked owners set i x low high order =
    sym (ap (λ (held : Bool). in_set set x && held) (none-between (λ v. owner_at owners x v == i) low high order)
    ∙ and-false (in_set set x))

-- what owners find for a set is owned, and held by who owns it
pub answers-owned : (n : ℕ) (held : ℕ → Point → Bool) (result : Result (List Owned) Refusal)
    → Answers result None (ArePartsOf n held) → IfOk result (AreOwned n)
answers-owned n held (Ok parts) are = parts-owned n held parts are
answers-owned n held (Err why) are = tt

pub answers-held : (n : ℕ) (held : ℕ → Point → Bool) (result : Result (List Owned) Refusal)
    → Answers result None (ArePartsOf n held)
    → Answers result None (λ parts. (i : ℕ) (x : Point) → is_held parts i x ≡ held i x)
answers-held n held (Ok parts) are = parts-held n held parts are
answers-held n held (Err why) refused = refused

-- by owners that agree with a book, the parts are those of the book's place
pub spread-by_book : (owners : Ownership) (moves : List DatedMove) (version horizon number : ℕ)
    (t : Transaction) (spread : Spread)
    → AgreesWith owners moves → owners.floor ≤ min horizon version
    → spread.reading.read_version ≡ t.read
    → spread.reading.has_reads ≡ has_points t.reads
    → ((i : ℕ) (x : Point) → is_held spread.reads i x
    ≡ (in_set t.reads x && owned_between owners i x (max t.read horizon) version))
    → ((i : ℕ) (x : Point) → is_held spread.writes i x ≡ (in_set t.writes x && (owner_at owners x version == i)))
    → IsSpreadOf owners.splits (placed (head_at version horizon moves) number t) spread
spread-by_book owners moves version horizon number t spread agrees kept read has_reads reads writes =
    record {
      read = read;
      has_reads = has_reads;
      reads = λ i x. reads i x ∙ ap (λ (held : Bool). in_set t.reads x && held)
          (owned_by_the_book owners moves i x (max t.read horizon) version agrees (omega (arith, kept)));
      writes = λ i x. writes i x
          ∙ ap (λ (j : ℕ). in_set t.writes x && (j == i)) (agrees x version (omega (arith, kept)));
    }
