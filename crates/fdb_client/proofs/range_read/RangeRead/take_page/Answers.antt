use Rattle.std.proofs.Common.{None}
use Rattle.fdb_client.specs.Pages.{IsPage}
use Rattle.fdb_client.proofs.FaultLemmas.{given, same_fault}
use Rattle.fdb_client.proofs.range_read.RangeRead.take_page.Goals as goal

pub merge_page-more-requires-clause-page : goal.merge_page-more-requires-clause-page
merge_page-more-requires-clause-page g c =
    let map = g.S.Snapshot.map c.args.snapshot.now in
    let left = c.args.progress.now.left in
    let page : IsPage map left c.saturating_mul-asked.result c.args.self.now.reverse c.in_ok-page.page =
    (given c.in_ok-page.page (g.S.Snapshot.range_fault c.args.snapshot.now left)
    (IsPage map left c.saturating_mul-asked.result c.args.self.now.reverse) c.in_ok-page.ensures).1 in
    (map, c.requires.copy.0, c.requires.copy.1, record { first = page.first; more = page.more })

pub returns : goal.returns
returns g c =
    let map = g.S.Snapshot.map c.args.snapshot.now in
    let left = c.args.progress.now.left in
    let answered = given c.in_ok-page.page (g.S.Snapshot.range_fault c.args.snapshot.now left)
    (IsPage map left c.saturating_mul-asked.result c.args.self.now.reverse) c.in_ok-page.ensures in
    let page : IsPage map left c.saturating_mul-asked.result c.args.self.now.reverse c.in_ok-page.page = answered.1 in
    rw answered.0 (same_fault c.merge_page-more.result None _ _
    (λ more says range so_far.
    says map c.requires.copy.0 range c.requires.copy.1 (record { first = page.first; more = page.more }) so_far)
    c.merge_page-more.ensures)
