-- What ties the resolvers, and what they are sent, to the book.
use Rattle.std.specs.Prelude.{◌≡◌, ◌⊎◌, ◌+◌, ◌≤◌, ℕ, List, [], ◌∷◌, ◌++◌, take, map, length, Some, slice_get}
use Rattle.fdb_keys.specs.Points.{Point}
use Rattle.fdb_txn.specs.declared.entry.Entry.{Entry}
use Rattle.fdb_txn.specs.book.Book.{seen_of, seen_before}
use Rattle.fdb_resolver.specs.declared.part.Part.{Part}
use Rattle.fdb_resolver.specs.declared.verdict.Verdict.{Verdict}
use Rattle.fdb_resolver.specs.declared.verdict.Verdicts.{Verdicts}
use Rattle.fdb_resolver.specs.Resolvers.{HasFailed}
use Rattle.fdb_proxy.specs.Verdicts.{verdicts_on}
use Rattle.fdb_roles.specs.ProxyStages.{AreFindsOn, ArePartsOf}
use Rattle.fdb_roles.specs.Lists.{Each}
use Rattle.fdb_roles.specs.AtBook.{IsResolverAt}
use Rattle.fdb_core.specs.declared.roles.resolver.ResolverRole.{ResolverRole}

-- how many entries each resolver took
abbrev pub taken_by : List ResolverRole → List ℕ
taken_by resolvers = map (λ (role : ResolverRole). role.taken) resolvers

-- it sent these verdicts on the first of its entries that it took, with what it found
pub record HaveBeenSent (splits : List Point) (book : List Entry) (i : ℕ) (sent : List Verdicts) : Type 0 where
  pub resolver : (j : ℕ) (verdicts : Verdicts) → slice_get sent j ≡ Some verdicts
      → (verdicts.resolver ≡ i) × (verdicts.index ≡ j)
  pub rule : (j : ℕ) (verdicts : Verdicts) (entry : Entry) → slice_get sent j ≡ Some verdicts
      → slice_get book j ≡ Some entry → verdicts.answers ≡ verdicts_on splits i (seen_before book j) entry
  pub found : (j : ℕ) (verdicts : Verdicts) (entry : Entry) → slice_get sent j ≡ Some verdicts
      → slice_get book j ≡ Some entry → AreFindsOn splits i (seen_before book j) entry verdicts.conflicts

-- a resolver took this many entries, and sent what the rule says of each
pub record ResolverRefines (splits : List Point) (book : List Entry) (i : ℕ) (role : ResolverRole) : Type 0 where
  pub within : role.taken ≤ length book
  pub state : IsResolverAt splits (take role.taken book) i role.state
  pub count : length role.sent.items ≡ role.taken
  pub sent : HaveBeenSent splits book i role.sent.items

-- What a resolver leaves that lacked memory: it took and sent nothing more, and its state is as it was or has failed.
pub record IsLeftBy (old new : ResolverRole) : Type 0 where
  pub taken : new.taken ≡ old.taken
  pub sent : new.sent.items ≡ old.sent.items
  pub state : (new.state ≡ old.state) ⊎ HasFailed old.state new.state

-- there is one more than splits
pub record ResolversRefine (splits : List Point) (book : List Entry) (resolvers : List ResolverRole) : Type 0 where
  pub count : length resolvers ≡ length splits + 1
  pub each : Each (ResolverRefines splits book) resolvers

-- for each entry the parts for the resolvers
pub record PartsRefine (splits : List Point) (book : List Entry) (parts : List (List Part)) : Type 0 where
  pub count : length parts ≡ length book
  pub each : (i : ℕ) (entry : Entry) (of : List Part) → slice_get book i ≡ Some entry → slice_get parts i ≡ Some of
      → ArePartsOf splits book i entry of

-- Resolver i took its next entry, which has the number `index`, answered what the rule says of the entry's places, and
-- sent just that, with what it found by the rule.
pub record TakesNext (splits : List Point) (before : List Entry) (entry : Entry) (i index : ℕ) (old : ResolverRole)
    (answer : List (ℕ × Verdict)) (new : ResolverRole) : Type 0 where
  pub rule : answer ≡ verdicts_on splits i (seen_of before) entry
  pub state : IsResolverAt splits (before ++ entry ∷ []) i new.state
  pub taken : new.taken ≡ old.taken + 1
  pub verdicts : Verdicts
  pub sent : new.sent.items ≡ old.sent.items ++ verdicts ∷ []
  pub resolver : verdicts.resolver ≡ i
  pub number : verdicts.index ≡ index
  pub answers : verdicts.answers ≡ answer
  pub found : AreFindsOn splits i (seen_of before) entry verdicts.conflicts
