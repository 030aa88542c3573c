-- The bank's three accounts, by name.
use Rattle.std.specs.Prelude.{codes}
use Rattle.fdb_keys.specs.Points.{Point}
use Rattle.fdb_layers.specs.declared.accounts.Account.{Account}
use Rattle.fdb_layers.specs.declared.accounts.Account.TheVariants.{Ann, Bob, Cid}

-- the key of an account
abbrev pub account_key : Account → Point
account_key Ann = codes "bank/ann"
account_key Bob = codes "bank/bob"
account_key Cid = codes "bank/cid"
