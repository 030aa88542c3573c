-- What becomes of a place of an entry by the rule.
use Rattle.std.specs.Prelude.{◌≡◌, ◌↔◌, ℕ, true, false, List}
use Rattle.fdb_keys.specs.Points.{Point}
use Rattle.fdb_txn.specs.book.Book.{Place}
use Rattle.fdb_txn.specs.rules.Admission.{is_fresh, committed}
use Rattle.fdb_proxy.specs.declared.outcome.Outcome.{Outcome}
use Rattle.fdb_proxy.specs.declared.outcome.Outcome.TheVariants as outcome

-- What becomes of place p of an entry by the rule, after the places before it: it has a commit version and its place
-- exactly where it is committed, is too old exactly where it isn't fresh, and else has a conflict.
pub record IsByRule (splits : List Point) (there : Place × List Place) (p : ℕ) (became : Outcome) : Type 0 where
  pub commits : (became ≡ outcome.Commit there.0.version p) ↔ (committed splits there.1 there.0 ≡ true)
  pub is_old : (became ≡ outcome.Old) ↔ (is_fresh there.0 ≡ false)
  pub conflicts : (became ≡ outcome.Conflict)
      ↔ ((is_fresh there.0 ≡ true) × (committed splits there.1 there.0 ≡ false))
