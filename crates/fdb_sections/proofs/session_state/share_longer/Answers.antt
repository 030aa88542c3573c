use Rattle.std.proofs.Common.{suc, length, List, ◌≤◌, arith}
use Rattle.fdb_txn.specs.declared.entry.Entry.{Entry}
use Rattle.fdb_txn.specs.book.Book.{last_version}
use Rattle.fdb_book.specs.Fronts.{IsPrefix}
use Rattle.fdb_sections.proofs.SessionLemmas.{begins-itself, reaches, where-given}
use Rattle.fdb_sections.proofs.session_state.share_longer.Goals as goal

pub returns-then-len-clause-begins : goal.returns-then-len-clause-begins
returns-then-len-clause-begins g c =
    let fewer : length c.args.own.now ≤ length c.args.theirs.now =
    omega (arith, c.if-len.true, c.len.ensures, c.len-2.ensures) in
    where-given c.share.result c.args.theirs.now
    (λ (front : List Entry). IsPrefix c.args.own.now front × IsPrefix c.args.theirs.now front)
    c.share.ensures (c.know_one_book.ensures.shorter fewer, begins-itself c.args.theirs.now)

pub returns-then-len-clause-reaches : goal.returns-then-len-clause-reaches
returns-then-len-clause-reaches g c =
    let resolvers = suc (length g.B.DatabaseName.config.resolver_splits) in
    let fewer : length c.args.own.now ≤ length c.args.theirs.now =
    omega (arith, c.if-len.true, c.len.ensures, c.len-2.ensures) in
    where-given c.share.result c.args.theirs.now
    (λ (front : List Entry). (last_version c.args.own.now ≤ last_version front)
    × (last_version c.args.theirs.now ≤ last_version front)) c.share.ensures (
      reaches resolvers c.args.own.now c.args.theirs.now c.know_entries-2.ensures
          (c.know_one_book.ensures.shorter fewer),
      omega arith,
    )

pub returns-else-len-clause-begins : goal.returns-else-len-clause-begins
returns-else-len-clause-begins g c =
    let more : length c.args.theirs.now ≤ length c.args.own.now =
    omega (arith, c.if-len.false, c.len.ensures, c.len-2.ensures) in
    where-given c.share-else-len.result c.args.own.now
    (λ (front : List Entry). IsPrefix c.args.own.now front × IsPrefix c.args.theirs.now front)
    c.share-else-len.ensures (begins-itself c.args.own.now, c.know_one_book.ensures.longer more)

pub returns-else-len-clause-reaches : goal.returns-else-len-clause-reaches
returns-else-len-clause-reaches g c =
    let resolvers = suc (length g.B.DatabaseName.config.resolver_splits) in
    let more : length c.args.theirs.now ≤ length c.args.own.now =
    omega (arith, c.if-len.false, c.len.ensures, c.len-2.ensures) in
    where-given c.share-else-len.result c.args.own.now
    (λ (front : List Entry). (last_version c.args.own.now ≤ last_version front)
    × (last_version c.args.theirs.now ≤ last_version front)) c.share-else-len.ensures (
      omega arith,
      reaches resolvers c.args.theirs.now c.args.own.now c.know_entries.ensures (c.know_one_book.ensures.longer more),
    )
