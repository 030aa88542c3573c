-- What each account has is noted once the walk over all of them has ended.
use Rattle.std.proofs.Common.{◌≡◌, ◌∙◌, sym, ap, refl, subst, ℕ, ◌+◌, ◌<◌, ◌^◌, true, false, List, [], ◌∷◌, ◌++◌}
use Rattle.std.proofs.Common.{Option, Some, None, ⊎_elim, arith}
use Rattle.std.specs.Cmp.Lexicographic.{bytes_decides, slice_cmp}
use Rattle.std.specs.Coded.{coded_ℕ}
use Rattle.std.specs.FinMap.{get}
use Rattle.std.specs.FinMap.Entries.{find}
use Rattle.std.specs.List.{AllByRecursion}
use Rattle.std.specs.Option.{is_some}
use Rattle.std.specs.Ordering.{nat_cmp}
use Rattle.std.specs.Prelude.{codes, IfSome}
use Rattle.std.proofs.Math.Logic.{inl, ∥∥₁_elim}
use Rattle.std.proofs.lemmas.Bool.{cases_Bool, cond-true, cond-false, both_ways}
use Rattle.std.proofs.lemmas.List.Sums.{fold-append, sum_by-cons}
use base.Stored.{Coded-set}
use Rattle.fdb_keys.specs.Points.{Point, point_eq, point_lt}
use Rattle.fdb_keys.specs.Prefixes.{prefix_range}
use Rattle.fdb_keys.specs.Ranges.{Range, in_range}
use Rattle.fdb_keys.proofs.Exports.{lt-itself}
use Rattle.fdb_mutations.specs.Maps.{Map}
use Rattle.fdb_mutations.specs.Pairs.{pairs_in}
use Rattle.fdb_mutations.proofs.Exports.{find-within, ordered-pairs_in}
use Rattle.fdb_txn.specs.book.Book.{seen_of}
use Rattle.fdb_txn.specs.declared.entry.Entry.{Entry}
use Rattle.fdb_txn.specs.rules.SerialMap.{serial_map_at}
use Rattle.fdb_client.specs.declared.program.Transcript.{Transcript}
use Rattle.fdb_sections.specs.Asking.{HoldsOnRun}
use Rattle.fdb_sections.specs.Sessions.{Session}
use Rattle.fdb_layers.specs.Accounts.{account_key}
use Rattle.fdb_layers.specs.Auditing.{all_noted, noted, AreBut}
use Rattle.fdb_layers.specs.Bank.{amount, opening, total, IsBalanced, IsOfBank}
use Rattle.fdb_layers.specs.Reads.{pairs_left, run_at, run_read, HasOnlyRead, HasWrittenNone}
use Rattle.fdb_layers.specs.declared.accounts.Account.{Account}
use Rattle.fdb_layers.specs.declared.accounts.Account.TheVariants.{Ann, Bob, Cid}
use Rattle.fdb_layers.specs.declared.auditing.Amounts.{Amounts}
use Rattle.fdb_layers.proofs.PagesLemmas.{Pair}
use Rattle.fdb_layers.proofs.RangesLemmas.{find-first, AreInOrder}
use Rattle.fdb_layers.proofs.ReadsLemmas.{one-run}

-- ---- one account
-- pairs of other keys tell nothing of it
none-noted : (account : Account) (had : ℕ) (pairs : List Pair)
    → AllByRecursion (λ (pair : Pair). point_eq (account_key account) pair.0 ≡ false) pairs
    → all_noted account had pairs ≡ had
none-noted account had [] others = refl
none-noted account had (pair ∷ pairs) others =
    ap (λ (now : ℕ). all_noted account now pairs)
    (cond-false (point_eq (account_key account) pair.0) (amount (Some pair.1)) had others.0)
    ∙ none-noted account had pairs others.1

-- keys behind its own are others
others-behind : (key : Point) (pairs : List Pair) → AllByRecursion (λ (pair : Pair). point_lt key pair.0 ≡ true) pairs
    → AllByRecursion (λ (pair : Pair). point_eq key pair.0 ≡ false) pairs
others-behind key [] behind = tt
others-behind key (pair ∷ pairs) behind = (
  ⊎_elim
      (λ same. absurd (both_ways (point_lt key pair.0)
      (ap (λ (x : Point). point_lt key x) (sym ((bytes_decides key pair.0).0 same)) ∙ lt-itself key) behind.0))
      (λ differs. differs)
      (cases_Bool (point_eq key pair.0)),
  others-behind key pairs behind.1,
)

-- the amount of what was found, if something was
abbrev amount_or : ℕ → Option (List ℕ) → ℕ
amount_or had None = had
amount_or had (Some value) = amount (Some value)

noted-found : (account : Account) (had : ℕ) (pairs : List Pair)
    → AreInOrder pairs
    → all_noted account had pairs ≡ amount_or had (find (slice_cmp nat_cmp) (account_key account) pairs)
noted-found account had [] rise = refl
noted-found account had (pair ∷ pairs) rise = ⊎_elim
    (λ same. ap (λ (now : ℕ). all_noted account now pairs)
    (cond-true (point_eq key pair.0) (amount (Some pair.1)) had same)
    ∙ none-noted account (amount (Some pair.1)) pairs
    (others-behind key pairs (subst (λ (x : Point). AllByRecursion (λ (pair : Pair). point_lt x pair.0 ≡ true) pairs)
    (sym ((bytes_decides key pair.0).0 same)) rise.0))
    ∙ sym (ap (amount_or had) (at same)))
    (λ differs. ap (λ (now : ℕ). all_noted account now pairs)
    (cond-false (point_eq key pair.0) (amount (Some pair.1)) had differs)
    ∙ noted-found account had pairs rise.1
    ∙ sym (ap (amount_or had) (past differs)))
    (cases_Bool (point_eq key pair.0))
  where
    key : Point
    key = account_key account

    at : point_eq key pair.0 ≡ true → find (slice_cmp nat_cmp) key (pair ∷ pairs) ≡ Some pair.1
    at same = find-first key pair pairs
        ∙ cond-true (point_eq key pair.0) (Some pair.1) (find (slice_cmp nat_cmp) key pairs) same

    past : point_eq key pair.0 ≡ false
        → find (slice_cmp nat_cmp) key (pair ∷ pairs) ≡ find (slice_cmp nat_cmp) key pairs
    past differs = find-first key pair pairs
        ∙ cond-false (point_eq key pair.0) (Some pair.1) (find (slice_cmp nat_cmp) key pairs) differs

-- ---- all of them
account-inside : (account : Account) → in_range (prefix_range (codes "bank/")) (account_key account) ≡ true
unfolding point_lt
account-inside Ann = refl
account-inside Bob = refl
account-inside Cid = refl

opens : (value : Option (List ℕ)) → amount_or opening value ≡ amount value
opens None = refl
opens (Some value) = refl

account-noted : (map : Map) (account : Account)
    → all_noted account opening (pairs_in map (prefix_range (codes "bank/")) false)
    ≡ amount (get map (account_key account))
account-noted map account =
    noted-found account opening (pairs_in map (prefix_range (codes "bank/")) false)
    (ordered-pairs_in map (prefix_range (codes "bank/")) false)
    ∙ ap (amount_or opening)
    (find-within map (prefix_range (codes "bank/")) (account_key account)
    ∙ cond-true (in_range (prefix_range (codes "bank/")) (account_key account)) (get map (account_key account)) None
    (account-inside account))
    ∙ opens (get map (account_key account))

pub all-but-all : (map : Map) (amounts : Amounts) → amounts ≡ record { ann = 100; bob = 100; cid = 100 }
    → AreBut map (pairs_in map (prefix_range (codes "bank/")) false) amounts
all-but-all map amounts are = subst (AreBut map (pairs_in map (prefix_range (codes "bank/")) false)) (sym are) (record {
  ann = account-noted map Ann;
  bob = account-noted map Bob;
  cid = account-noted map Cid;
})

-- a page is noted, and those behind it are left
pub page-noted : (map : Map) (page left : List Pair) (old new : Amounts)
    → new ≡ record {
      ann = all_noted Ann old.ann page;
      bob = all_noted Bob old.bob page;
      cid = all_noted Cid old.cid page;
    }
    → AreBut map (page ++ left) old → AreBut map left new
page-noted map page left old new are but = subst (AreBut map left) (sym are) (record {
  ann = sym (fold-append (noted Ann) old.ann page left) ∙ but.ann;
  bob = sym (fold-append (noted Bob) old.bob page left) ∙ but.bob;
  cid = sym (fold-append (noted Cid) old.cid page left) ∙ but.cid;
})

-- ---- a walk over all of them
pub walk-starts : (map : Map) (rest : Option Range) (amounts : Amounts) → rest ≡ Some (prefix_range (codes "bank/"))
    → amounts ≡ record { ann = 100; bob = 100; cid = 100 } → AreBut map (pairs_left map rest) amounts
walk-starts map rest amounts whole are =
    subst (λ (rest : Option Range). AreBut map (pairs_left map rest) amounts) (sym whole) (all-but-all map amounts are)

pub walk-ends : (map : Map) (rest : Option Range) (amounts : Amounts) → is_some rest ≡ false
    → AreBut map (pairs_left map rest) amounts → AreBut map [] amounts
walk-ends map None amounts none are = are
walk-ends map (Some rest) amounts none are = absurd (let wrong : true ≡ false = none in cc)

pub not-over : (rest : Option Range) → is_some rest ≡ true → rest ≡ None → ⊥
not-over None some none = absurd (let wrong : false ≡ true = some in cc)
not-over (Some rest) some none = cc

-- what holds of the run that a session reads holds of the one that it goes on with, and the other way round
pub of-next : (splits : List Point) (old new : Session) (P : Map → Type 0) → HasOnlyRead old new
    → P (run_read splits old) → P (run_read splits new)
of-next splits old new P reads holds = subst P (sym (one-run splits old new reads)) holds

pub of-first : (splits : List Point) (old new : Session) (P : Map → Type 0) → HasOnlyRead old new
    → P (run_read splits new) → P (run_read splits old)
of-first splits old new P reads holds = subst P (one-run splits old new reads) holds

-- ---- the sum
-- the sum of all accounts is that of the three
three : (map : Map)
    → total map
    ≡ amount (get map (account_key Ann)) + amount (get map (account_key Bob)) + amount (get map (account_key Cid))
three map = omega (
  arith,
  sum_by-cons (λ (account : Point). amount (get map account)) (codes "bank/ann")
      (codes "bank/bob" ∷ codes "bank/cid" ∷ []),
  sum_by-cons (λ (account : Point). amount (get map account)) (codes "bank/bob") (codes "bank/cid" ∷ []),
  sum_by-cons (λ (account : Point). amount (get map account)) (codes "bank/cid") [],
)

pub summed : (map : Map) (amounts : Amounts) → AreBut map [] amounts
    → amounts.ann + amounts.bob + amounts.cid ≡ total map
summed map amounts are = omega (arith, three map, are.ann, are.bob, are.cid)

-- on the run the sum of all accounts is what it was
stays : (splits : List Point) (front : List Entry) (current : Option Transcript) → HasWrittenNone current
    → HoldsOnRun IsBalanced splits front → total (run_at splits front current) ≡ 300
stays splits front None nothing holds = absurd nothing
stays splits front (Some transcript) unwritten holds =
    ∥∥₁_elim (holds transcript.read_version) (Coded-set coded_ℕ (total (run_at splits front (Some transcript))) 300)
    (λ balanced. balanced.sum_stays)

pub sum-stays : (splits : List Point) (it : Session) → HasWrittenNone it.current
    → HoldsOnRun IsBalanced splits it.front → total (run_read splits it) ≡ 300
sum-stays splits it unwritten holds = stays splits it.front it.current unwritten holds

-- what was noted comes to what stands there, and to what it was
pub audited : (splits : List Point) (old new : Session) (amounts : Amounts) → HasOnlyRead old new
    → AreBut (run_read splits old) [] amounts → HoldsOnRun IsBalanced splits new.front
    → (amounts.ann + amounts.bob + amounts.cid ≡ total (run_read splits old))
    × (amounts.ann + amounts.bob + amounts.cid ≡ 300)
audited splits old new amounts reads are holds =
    let sum : amounts.ann + amounts.bob + amounts.cid ≡ total (run_read splits old) =
    summed (run_read splits old) amounts are in (
      sum,
      sum ∙ sym (ap (λ (map : Map). total map) (one-run splits old new reads))
          ∙ sum-stays splits new reads.unwritten holds,
    )

pub sum-there : (splits : List Point) (front : List Entry) (current : Option Transcript) (sum noted : ℕ)
    → sum ≡ noted → noted ≡ total (run_at splits front current)
    → IfSome current (λ (transcript : Transcript).
    sum ≡ total (serial_map_at splits transcript.read_version (seen_of front).places))
sum-there splits front None sum noted is there = tt
sum-there splits front (Some transcript) sum noted is there = is ∙ there

pub reader-allowed : (current : Option Transcript) → HasWrittenNone current → IfSome current IsOfBank
reader-allowed None unwritten = absurd unwritten
reader-allowed (Some transcript) unwritten = inl unwritten

-- so what two accounts have together fits into eight bytes
pub pair-fits : (map : Map) (one other : Account) → total map ≡ 300 → (one ≡ other → ⊥)
    → amount (get map (account_key one)) + amount (get map (account_key other)) < 2 ^ 64
pair-fits map Ann Ann sum differ = absurd (differ refl)
pair-fits map Ann Bob sum differ = omega (arith, three map, sum)
pair-fits map Ann Cid sum differ = omega (arith, three map, sum)
pair-fits map Bob Ann sum differ = omega (arith, three map, sum)
pair-fits map Bob Bob sum differ = absurd (differ refl)
pair-fits map Bob Cid sum differ = omega (arith, three map, sum)
pair-fits map Cid Ann sum differ = omega (arith, three map, sum)
pair-fits map Cid Bob sum differ = omega (arith, three map, sum)
pair-fits map Cid Cid sum differ = absurd (differ refl)
