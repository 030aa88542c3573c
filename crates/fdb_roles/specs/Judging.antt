-- Which entry may stand after another, and what a resolver said of its part.
use Rattle.std.specs.Prelude.{◌≡◌, ◌<◌, ◌≤◌, ℕ, Option, Some}
use Rattle.std.specs.List.{All}
use Rattle.fdb_txn.specs.declared.entry.Entry.{Entry}
use Rattle.fdb_txn.specs.declared.entry.Move.{Move}
use Rattle.fdb_txn.specs.book.Transactions.{Transaction}
use Rattle.fdb_resolver.specs.declared.part.Part.{Part}
use Rattle.fdb_resolver.specs.declared.verdict.Verdicts.{Verdicts}
use Rattle.fdb_resolver.specs.Resolvers.{Resolver, IsAnswer, HasTaken}
use Rattle.fdb_proxy.specs.Deciding.{Said}

-- the entry may stand after one of this version and this horizon, where there are so many resolvers
pub record MayFollow (last horizon resolvers : ℕ) (entry : Entry) : Type 0 where
  pub later : last < entry.version
  pub linked : entry.prev ≡ last
  pub moves : All (λ (move : Move). move.to < resolvers) entry.moves
  pub reads : All (λ (t : Transaction). t.read < entry.version) entry.batch
  pub rises : horizon ≤ entry.horizon
  pub below : entry.horizon < entry.version

-- a resolver took its part, and said this of it
pub record HasSaid (old : Resolver) (part : Part) (new : Resolver) (said : Option Said) : Type 0 where
  pub verdicts : Verdicts
  pub said_them : said ≡ Some verdicts.answers
  pub answer : IsAnswer old part verdicts
  pub taken : HasTaken old part verdicts new
