-- What becomes of the places of a book's entries.
use Rattle.std.specs.Prelude.{◌≡◌, ℕ, List, [], length, Option, Some, None, slice_get}
use Rattle.std.specs.Prelude.{◌⊎◌, suc, Result, MatchResult}
use Rattle.fdb_keys.specs.Points.{Point}
use Rattle.fdb_keys.specs.declared.refusal.Refusal.{Refusal}
use Rattle.fdb_keys.specs.declared.refusal.Refusal.TheVariants.{Chain, NoMemory}
use Rattle.fdb_txn.specs.declared.entry.Entry.{Entry}
use Rattle.fdb_txn.specs.book.Book.{Seen, seen_before}
use Rattle.fdb_txn.specs.book.History.{AreEntries, HorizonsRise}
use Rattle.fdb_txn.specs.rules.Splits.{splits_fault}
use Rattle.fdb_txn.specs.Limits.{resolver_limit}
use Rattle.fdb_proxy.specs.declared.outcome.Outcome.{Outcome}
use Rattle.fdb_proxy.specs.Verdicts.{outcomes_on}

-- entries after a version and a horizon, as they are in a book of sealed transactions, but for the ids
abbrev pub FollowOn : (resolvers last horizon : ℕ) → List Entry → Type 0
FollowOn resolvers last horizon entries = AreEntries resolvers last entries × HorizonsRise horizon entries

-- what becomes of the places of an entry, if there is one
abbrev pub outcomes_of : List Point → Seen → Option Entry → List Outcome
outcomes_of splits before None = []
outcomes_of splits before (Some entry) = outcomes_on splits before entry

-- Each entry of the book has, by its number, what the rule says of its places by what was seen before it.
pub record AreJudged (splits : List Point) (book : List Entry) (judged : List (List Outcome)) : Type 0 where
  pub count : length judged ≡ length book
  pub each : (i : ℕ) (entry : Entry) → slice_get book i ≡ Some entry
      → slice_get judged i ≡ Some (outcomes_on splits (seen_before book i) entry)

-- a judged book, and the splits by which it is judged
pub record JudgedBook : Type 0 where
  pub splits : List Point
  pub book : List Entry

-- why there is no book to judge: the keys are no splits, or they are and the entries don't follow on one another
abbrev pub IsNoBook : List Point → List Entry → Refusal → Type 0
IsNoBook splits book why =
    (splits_fault resolver_limit splits ≡ Some why)
    ⊎ ((splits_fault resolver_limit splits ≡ None) × (why ≡ Chain) × ¬ FollowOn (suc (length splits)) 0 0 book)

-- keys that are splits, and entries that follow on one another
abbrev pub IsToJudge : List Point → List Entry → Type 0
IsToJudge splits book = (splits_fault resolver_limit splits ≡ None) × FollowOn (suc (length splits)) 0 0 book

-- What judging a book answers, exact both ways: there is no book to judge, with that fault. Where there is one, memory
-- may run out, and else it is the judged book of these splits and entries.
abbrev pub JudgesBook : Result JudgedBook Refusal → List Point → List Entry → Type 0
JudgesBook result splits book =
    MatchResult result
    (λ judged. IsToJudge splits book × (judged ≡ record { splits = splits; book = book }))
    (λ why. IsNoBook splits book why ⊎ ((why ≡ NoMemory) × IsToJudge splits book))
