use Rattle.std.proofs.Common.{◌≡◌, true, None, Err, rules}
use Rattle.fdb_client.specs.LeftAt.{left_at}
use Rattle.fdb_client.specs.Merging.{ReadsOn}
use Rattle.fdb_client.proofs.FaultLemmas.{given, lacked_memory}
use Rattle.fdb_client.proofs.PagesLemmas.{left_over-smaller, read-is, read-start}
use Rattle.fdb_client.proofs.range_read.RangeRead.take_all.Goals as goal

pub merge_page-requires-clause-page : goal.merge_page-requires-clause-page
merge_page-requires-clause-page g c = (
  g.S.Snapshot.map c.args.snapshot.now,
  c.requires.copy.0,
  c.requires.copy.1,
  record { first = c.requires.page.first; more = c.requires.page.more },
)

pub loop-more-init : goal.loop-more-init
loop-more-init g c =
    let map = g.S.Snapshot.map c.args.snapshot.now in
    let read = c.args.self.now in
    let range = c.args.progress.now.left in
    let own = left_at read.own.now in
    let merged = rw c.requires.start at c.in_ok-more.ensures in
    read-is own map range read.reverse read.limit range c.merge_page.new.progress.given c.merge_page.new.progress.left
    c.in_ok-more.more
    (merged map c.requires.copy.0 range c.requires.copy.1
    (record { first = c.requires.page.first; more = c.requires.page.more })
    (read-start own map range read.reverse read.limit))

pub returns-in_err-more-2 : goal.returns-in_err-more-2
returns-in_err-more-2 g c =
    let map = g.S.Snapshot.map c.args.snapshot.now in
    let read = c.args.self.now in
    let range = c.args.progress.now.left in
    let left = c.loop-more.progress.left in
    let fault = g.S.Snapshot.range_fault c.args.snapshot.now in
    let is_more : c.loop-more.more ≡ true = c.loop-more-test.true in
    let on : ReadsOn (left_at read.own.now) map range read.reverse read.limit c.loop-more.progress.given left =
    rw is_more at c.loop-more.invariant in
    let served : fault left ≡ None = g.met.S.Snapshot.serves_parts c.args.snapshot.now left range on.part
    c.requires.served in
    let why = c.in_err-more-2.field-0.0 in
    let same : c.from_residual-in_err-more-2.result ≡ Err why = search rules in
    rw same (lacked_memory why (fault left) _ served c.in_err-more-2.ensures)

pub loop-more-smaller : goal.loop-more-smaller
loop-more-smaller g c =
    let map = g.S.Snapshot.map c.args.snapshot.now in
    let read = c.args.self.now in
    let range = c.args.progress.now.left in
    let own = left_at read.own.now in
    let left = c.loop-more.progress.left in
    let is_more : c.loop-more.more ≡ true = c.loop-more-test.true in
    let on : ReadsOn own map range read.reverse read.limit c.loop-more.progress.given left =
    rw is_more at c.loop-more.invariant in
    let taken = (given c.in_ok-more-2.more (g.S.Snapshot.range_fault c.args.snapshot.now left) _
    c.in_ok-more-2.ensures).1 in
    rw is_more (left_over-smaller own map range read.reverse read.limit left c.take_page.new.progress.given
    c.take_page.new.progress.left c.in_ok-more-2.more (taken range on))

pub loop-more-preserved : goal.loop-more-preserved
loop-more-preserved g c =
    let map = g.S.Snapshot.map c.args.snapshot.now in
    let read = c.args.self.now in
    let range = c.args.progress.now.left in
    let own = left_at read.own.now in
    let left = c.loop-more.progress.left in
    let is_more : c.loop-more.more ≡ true = c.loop-more-test.true in
    let on : ReadsOn own map range read.reverse read.limit c.loop-more.progress.given left =
    rw is_more at c.loop-more.invariant in
    let taken = (given c.in_ok-more-2.more (g.S.Snapshot.range_fault c.args.snapshot.now left) _
    c.in_ok-more-2.ensures).1 in
    read-is own map range read.reverse read.limit left c.take_page.new.progress.given
    c.take_page.new.progress.left c.in_ok-more-2.more (taken range on)
