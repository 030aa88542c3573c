-- What each account has, noted pair by pair.
use Rattle.std.specs.Prelude.{◌≡◌, ℕ, List, Some, if◌then◌else◌}
use Rattle.std.specs.FinMap.{get}
use Rattle.std.specs.List.{fold}
use Rattle.fdb_keys.specs.Points.{Point, point_eq}
use Rattle.fdb_mutations.specs.Maps.{Map}
use Rattle.fdb_layers.specs.Accounts.{account_key}
use Rattle.fdb_layers.specs.Bank.{amount}
use Rattle.fdb_layers.specs.declared.accounts.Account.{Account}
use Rattle.fdb_layers.specs.declared.accounts.Account.TheVariants.{Ann, Bob, Cid}
use Rattle.fdb_layers.specs.declared.auditing.Amounts.{Amounts}

-- what the account has once the pair is noted: the amount in the pair, if that is the account's, and else what it had
abbrev pub noted : Account → ℕ → Point × List ℕ → ℕ
noted account had pair = if point_eq (account_key account) pair.0 then amount (Some pair.1) else had

-- and once all of the pairs are
abbrev pub all_noted : Account → ℕ → List (Point × List ℕ) → ℕ
all_noted account had pairs = fold (noted account) had pairs

-- Once the pairs are noted, the amounts are what the accounts have on the map.
pub record AreBut (map : Map) (left : List (Point × List ℕ)) (amounts : Amounts) : Type 0 where
  pub ann : all_noted Ann amounts.ann left ≡ amount (get map (account_key Ann))
  pub bob : all_noted Bob amounts.bob left ≡ amount (get map (account_key Bob))
  pub cid : all_noted Cid amounts.cid left ≡ amount (get map (account_key Cid))
