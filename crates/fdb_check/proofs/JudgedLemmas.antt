-- The entries of a book, judged one after another.
use Rattle.std.proofs.Common.{◌≡◌, ◌∙◌, sym, ap, subst, ℕ, ◌+◌, add-one, arith, List, [], ◌∷◌, ◌++◌, take, length, Some}
use Rattle.std.proofs.Common.{suc, slice_get}
use Rattle.std.proofs.lemmas.Option.{same_Some, slice_get_within}
use Rattle.fdb_keys.specs.Points.{Point}
use Rattle.fdb_txn.specs.declared.entry.Entry.{Entry}
use Rattle.fdb_txn.specs.book.Book.{seen_before}
use Rattle.fdb_txn.specs.book.History.{HorizonsRise}
use Rattle.fdb_proxy.specs.declared.outcome.Outcome.{Outcome}
use Rattle.fdb_proxy.specs.Verdicts.{outcomes_on}
use Rattle.fdb_roles.specs.Lists.{Each}
use Rattle.fdb_roles.proofs.Exports.{within-item, each-push, rise-take, take-next}
use Rattle.fdb_check.specs.Judged.{AreJudged, FollowOn}
use Rattle.fdb_check.specs.Judging.{Judge, IsJudgeAt}
use Rattle.fdb_check.proofs.RunningLemmas.{entries-front}

-- the first entries of those that follow on one another do so, too
pub front-follows : (splits : List Point) (book : List Entry) → FollowOn (suc (length splits)) 0 0 book
    → (n : ℕ) (entry : Entry) → slice_get book n ≡ Some entry
    → FollowOn (suc (length splits)) 0 0 (take n book ++ entry ∷ [])
front-follows splits book follow n entry there = (
  entries-front splits book follow.0 n entry there,
  subst (HorizonsRise 0) (take-next book n entry there) (rise-take 0 (suc n) book follow.1),
)

-- these are the outcomes of the entry with the number
abbrev pub AreOutcomesOf : List Point → List Entry → ℕ → List Outcome → Type 0
AreOutcomesOf splits book i outcomes =
    (entry : Entry) → slice_get book i ≡ Some entry → outcomes ≡ outcomes_on splits (seen_before book i) entry

module _ (splits : List Point) (book : List Entry) where
  -- the first n entries are judged
  pub record IsJudgedTo (n : ℕ) (judged : List (List Outcome)) (judge : Judge) : Type 0 where
    pub each : Each (AreOutcomesOf splits book) judged
    pub at : IsJudgeAt splits (take n book) judge

  -- one more is judged
  pub judged-next : (n : ℕ) (entry : Entry) → slice_get book n ≡ Some entry → (old : List (List Outcome))
      (outcomes : List Outcome) (judge : Judge) → length old ≡ n → Each (AreOutcomesOf splits book) old
      → (outcomes ≡ outcomes_on splits (seen_before book n) entry) × IsJudgeAt splits (take n book ++ entry ∷ []) judge
      → IsJudgedTo (n + 1) (old ++ outcomes ∷ []) judge
  judged-next n entry there old outcomes judge count all took = record {
    each = each-push (AreOutcomesOf splits book) old outcomes all
        (subst (λ (k : ℕ). AreOutcomesOf splits book k outcomes) (sym count)
        (λ other its. took.0 ∙ ap (outcomes_on splits (seen_before book n)) (same_Some entry other (sym there ∙ its))));
    at = subst (λ (front : List Entry). IsJudgeAt splits front judge)
        (sym (ap (λ (k : ℕ). take k book) (add-one n) ∙ take-next book n entry there)) took.1;
  }

  -- all are
  pub judged-all : (judged : List (List Outcome)) → length judged ≡ length book
      → Each (AreOutcomesOf splits book) judged
      → AreJudged splits book judged
  judged-all judged count each = record {
    count = count;
    each = λ i entry there.
        let inside = slice_get_within book i entry there in
        let its = within-item judged i (omega (arith, inside, count)) in
        its.1 ∙ ap (λ (outcomes : List Outcome). Some outcomes) (each i its.0 its.1 entry there);
  }
