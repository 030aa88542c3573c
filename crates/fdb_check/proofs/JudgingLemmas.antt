-- A judge that took the entries before another one says of that what the rule says, and has then taken it, too.
use Rattle.std.proofs.Common.{◌≡◌, ◌∙◌, sym, subst, ℕ, suc, ◌<◌, ◌≤◌, List, [], ◌∷◌, ◌++◌, length, slice_get, Option}
use Rattle.std.proofs.Common.{Some, None, OnErr, Result, Ok, Err, arith}
use Rattle.std.proofs.lemmas.Option.{same_Some, slice_get_within}
use Rattle.fdb_keys.specs.Answers.{Answers}
use Rattle.fdb_keys.specs.Points.{Point}
use Rattle.fdb_keys.specs.declared.refusal.Refusal.{Refusal}
use Rattle.fdb_keys.specs.declared.refusal.Refusal.TheVariants.{NoMemory}
use Rattle.fdb_txn.specs.declared.entry.Entry.{Entry}
use Rattle.fdb_txn.specs.declared.entry.Move.{Move}
use Rattle.fdb_txn.specs.book.Book.{DatedMove, Seen, add_moves, head_of, seen_of}
use Rattle.fdb_txn.proofs.Exports.{seen_of-push}
use Rattle.fdb_owners.specs.Ownership.{Ownership, resolvers_of, learn_fault, HasLearnt}
use Rattle.fdb_owners.specs.OwnersLaws.{AgreesWith}
use Rattle.fdb_owners.proofs.Exports.{learning_goes_on}
use Rattle.fdb_resolver.specs.declared.part.Part.{Part}
use Rattle.fdb_resolver.specs.Resolvers.{Resolver}
use Rattle.fdb_proxy.specs.declared.outcome.Outcome.{Outcome}
use Rattle.fdb_proxy.specs.Deciding.{Said, outcomes_by}
use Rattle.fdb_proxy.specs.Parting.{AreParts}
use Rattle.fdb_proxy.specs.Verdicts.{moves_through, verdicts_on, outcomes_on}
use Rattle.fdb_proxy.specs.VerdictLaws.{AreByTheRule}
use Rattle.fdb_proxy.proofs.Exports.{entries_are_decided_by_the_rule, may-learn}
use Rattle.fdb_roles.specs.AtBook.{IsResolverAt}
use Rattle.fdb_roles.specs.Lists.{Each}
use Rattle.fdb_roles.specs.ProxyStages.{position_in}
use Rattle.fdb_roles.proofs.Exports.{within-item, may-take, takes, history, last-push, last-risen, last_horizon-push}
use Rattle.fdb_check.specs.Judged.{FollowOn}
use Rattle.fdb_check.specs.Judging.{Judge, HaveMoves, IsJudgeAt, MayTake, HaveSaid}

-- The next entry of a book after these.
module _ (splits : List Point) (before : List Entry) (entry : Entry)
    (follow : FollowOn (suc (length splits)) 0 0 (before ++ entry ∷ [])) where
  -- all of them take their parts
  module _ (index : ℕ) (old : List Resolver) (parts : List Part) (count : length old ≡ suc (length splits))
      (at : Each (IsResolverAt splits before) old)
      (are : AreParts splits (moves_through (seen_of before) entry) (position_in index entry) entry.batch parts) where
    pub may-take-all : MayTake old parts
    may-take-all i resolver part here its = may-take splits before entry follow.0 index i resolver part
        (at i resolver here) (are.each i part its)

    module _ (new : List Resolver) (said : List (Option Said)) (have : HaveSaid (length parts) old parts new said) where
      -- what came of resolver i
      came-of : (i : ℕ) → i < suc (length splits)
          → (after : Resolver) × (one : Option Said) × (slice_get new i ≡ Some after) × (slice_get said i ≡ Some one)
          × (one ≡ Some (verdicts_on splits i (seen_of before) entry))
          × IsResolverAt splits (before ++ entry ∷ []) i after
      came-of i within =
          let as_many = are.count in
          let resolver = within-item old i (omega (arith, count, within)) in
          let part = within-item parts i (omega (arith, as_many, within)) in
          let given = have.each i resolver.0 part.0 (omega (arith, as_many, within)) resolver.1 part.1 in
          let took = takes splits before entry follow.0 index i resolver.0 part.0 (at i resolver.0 resolver.1)
          (are.each i part.0 part.1) (last-risen before entry follow.1) given.0 given.1 given.4 in
          (given.0, given.1, given.2, given.3, took.0, took.1)

      within-said : (i : ℕ) (one : Option Said) → slice_get said i ≡ Some one → i < suc (length splits)
      within-said i one there =
          let inside = slice_get_within said i one there in
          let as_many = have.as_many in
          let parts_are = are.count in omega (arith, inside, as_many, parts_are)

      said-is : (i : ℕ) (one : Option Said) → slice_get said i ≡ Some one
          → one ≡ Some (verdicts_on splits i (seen_of before) entry)
      said-is i one there =
          let came = came-of i (within-said i one there) in same_Some one came.1 (sym there ∙ came.3) ∙ came.4

      by-the-rule : AreByTheRule splits (head_of (seen_of before) entry) entry.batch (seen_of before).places said
      by-the-rule = record {
        count = have.as_many ∙ are.count;
        came = λ i one there. same_Some one (verdicts_on splits i (seen_of before) entry) (said-is i (Some one) there);
        silent = λ i there. absurd (some-none _ (said-is i None there));
      }
        where
          some-none : (one : Said) → None ≡ Some one → ⊥
          some-none one is = cc

      pub decided : outcomes_by entry.version said (length entry.batch) ≡ outcomes_on splits (seen_of before) entry
      decided = entries_are_decided_by_the_rule splits (seen_of before) entry said
          (history splits before entry follow.0) by-the-rule

      pub all-at-next : Each (IsResolverAt splits (before ++ entry ∷ [])) new
      all-at-next i resolver there =
          let inside = slice_get_within new i resolver there in
          let same_count = have.count in
          let came = came-of i (omega (arith, inside, same_count, count)) in
          subst (IsResolverAt splits (before ++ entry ∷ []) i) (same_Some came.0 resolver (sym came.2 ∙ there)) came.5

-- what is learnt above the last version goes on as the moves of a book do
pub learns : {T : Type 0} (result : Result T Refusal) (old new : Ownership) (version : ℕ) (moves : List Move)
    → old.last < version
    → Answers result (learn_fault old version) (λ _. HasLearnt old version moves new)
    → Answers result None (λ _. (older : List DatedMove) → AgreesWith old older
    → AgreesWith new (add_moves version moves older))
learns (Ok done) old new version moves above answers = λ older agrees.
    learning_goes_on old new older version moves agrees
    (subst (λ (fault : Option Refusal). Answers (Ok done) fault (λ _. HasLearnt old version moves new))
    (may-learn old version above) answers)
learns {T} (Err why) old new version moves above answers =
    subst (λ (fault : Option Refusal). Answers {T = T} (Err why) fault (λ _. HasLearnt old version moves new))
    (may-learn old version above) answers

-- so owners of some moves stay such, also where they learn nothing
pub learns-known : {T : Type 0} (result : Result T Refusal) (old new : Ownership) (version : ℕ) (moves : List Move)
    → old.last < version → Answers result (learn_fault old version) (λ _. HasLearnt old version moves new)
    → OnErr result (new ≡ old) → HaveMoves old → HaveMoves new
learns-known (Ok done) old new version moves above answers same known =
    (add_moves version moves known.0, learns (Ok done) old new version moves above answers known.0 known.1)
learns-known (Err why) old new version moves above answers same known = subst HaveMoves (sym same) known

-- A judge whose owners learnt the moves of the next entry, and whose resolvers took their parts of it.
module _ (splits : List Point) (before : List Entry) (entry : Entry) (old : Judge) (owners : Ownership)
    (at : IsJudgeAt splits before old) (same : owners.splits ≡ old.owners.splits)
    (learnt : (older : List DatedMove) → AgreesWith old.owners older
    → AgreesWith owners (add_moves entry.version entry.moves older))
    (forgot : owners.floor ≤ entry.horizon) (follow : FollowOn (suc (length splits)) 0 0 (before ++ entry ∷ [])) where
  are : splits ≡ owners.splits
  are = sym (same ∙ at.splits_are)

  -- the rule by these splits
  abbrev Rules : List Point → Result (List Outcome) Refusal → List Resolver → Type 0
  Rules by result new = Answers result None (λ outcomes. (outcomes ≡ outcomes_on by (seen_of before) entry)
      × Each (IsResolverAt by (before ++ entry ∷ [])) new)

  -- what resolvers that took the entries before make of the entry
  abbrev pub Judges : Result (List Outcome) Refusal → List Resolver → Type 0
  Judges result new =
      (earlier : List Entry) → AgreesWith owners (moves_through (seen_of earlier) entry)
      → Each (IsResolverAt owners.splits earlier) old.resolvers
      → FollowOn (resolvers_of owners) 0 0 (earlier ++ entry ∷ [])
      → Answers result None (λ outcomes. (outcomes ≡ outcomes_on owners.splits (seen_of earlier) entry)
      × Each (IsResolverAt owners.splits (earlier ++ entry ∷ [])) new)

  rules : (result : Result (List Outcome) Refusal) (new : List Resolver) → Judges result new → Rules splits result new
  rules result new judges =
      subst (λ (by : List Point). Rules by result new) (sym are)
      (judges before (learnt (seen_of before).moves at.owners)
      (subst (λ (by : List Point). Each (IsResolverAt by before) old.resolvers) are at.resolvers)
      (subst (λ (by : List Point). FollowOn (suc (length by)) 0 0 (before ++ entry ∷ [])) are follow))

  -- has taken it
  pub taken-judge : (outcomes : List Outcome) (new : List Resolver) → Judges (Ok outcomes) new
      → (outcomes ≡ outcomes_on splits (seen_of before) entry)
      × IsJudgeAt splits (before ++ entry ∷ []) (record { owners = owners; last = entry.version; resolvers = new })
  taken-judge outcomes new judges =
      let ruled = rules (Ok outcomes) new judges in (
        ruled.0,
        record {
          splits_are = sym are;
          last = sym (last-push before entry);
          owners = subst (λ (seen : Seen). AgreesWith owners seen.moves) (sym (seen_of-push before entry))
              (learnt (seen_of before).moves at.owners);
          resolvers = ruled.1;
          floor = let last = last_horizon-push before entry in omega (arith, forgot, last);
        },
      )

  -- or lacks memory
  pub lacking-judge : (why : Refusal) (new : List Resolver) → Judges (Err why) new → why ≡ NoMemory
  lacking-judge why new judges = rules (Err why) new judges
