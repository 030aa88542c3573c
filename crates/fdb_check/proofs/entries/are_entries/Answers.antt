use Rattle.std.proofs.Common.{◌≡◌, ◌<◌, ◌≤◌, refl, sym, subst, ℕ, add-one, length, Some, slice_get, rules, arith}
use Rattle.std.proofs.lemmas.Bool.{both_ways}
use Rattle.std.proofs.lemmas.Option.{slice_get_read}
use Rattle.fdb_txn.specs.book.History.{IsSealed}
use Rattle.fdb_roles.proofs.Exports.{all-at}
use Rattle.fdb_check.proofs.EntryLemmas.{FollowFrom, follow-first, follow-next, follows-there, follow-all}
use Rattle.fdb_check.proofs.StandingLemmas.{answers-not}
use Rattle.fdb_check.proofs.entries.are_entries.Goals as goal

pub loop-entry-init : goal.loop-entry-init
loop-entry-init c = follow-first c.args.resolvers c.args.book.now

pub returns-then-not-may_follow : goal.returns-then-not-may_follow
returns-then-not-may_follow c =
    let book = c.args.book.now in
    let i = c.loop-entry.entry-index in
    let entry = c.entry-item.result in
    let within : i < length book = search rules in
    let there : slice_get book i ≡ Some entry = slice_get_read book (length book) i entry refl within c.entry-item.is in
    answers-not (λ entries. both_ways _ c.if-not-may_follow.true
    (c.may_follow.ensures.1
    (follows-there c.args.resolvers book i c.loop-entry.last c.loop-entry.horizon entry there
    c.loop-entry.invariant entries)))

pub loop-entry-preserved : goal.loop-entry-preserved
loop-entry-preserved c =
    let book = c.args.book.now in
    let i = c.loop-entry.entry-index in
    let entry = c.entry-item.result in
    let within : i < length book = search rules in
    let there : slice_get book i ≡ Some entry = slice_get_read book (length book) i entry refl within c.entry-item.is in
    subst (λ (n : ℕ). FollowFrom c.args.resolvers book n entry.version entry.horizon) (sym (add-one i))
    (follow-next c.args.resolvers book i c.loop-entry.last c.loop-entry.horizon entry there c.loop-entry.invariant
    (all-at IsSealed book i entry c.know_sealed.ensures there) (c.may_follow.ensures.0 c.if-not-may_follow.false))

pub returns : goal.returns
returns c =
    let ended : length c.args.book.now ≤ c.loop-entry.entry-index = omega arith in (
      λ yes. follow-all c.args.resolvers c.args.book.now c.loop-entry.entry-index c.loop-entry.last
          c.loop-entry.horizon ended c.loop-entry.invariant,
      λ entries. refl,
    )
