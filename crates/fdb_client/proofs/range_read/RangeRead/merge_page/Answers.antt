use Rattle.std.proofs.Common.{◌≡◌, rules, Some, None}
use Rattle.fdb_client.proofs.range_read.RangeRead.merge_page.Goals as goal

pub returns-in-Some : goal.returns-in-Some
returns-in-Some c =
    let is : c.in_ok-rest.field-0 ≡ Some c.in-Some.rest = search rules in
    rw is at c.in_ok-rest.ensures

pub returns-in-None : goal.returns-in-None
returns-in-None c =
    let is : c.in_ok-rest.field-0 ≡ None = search rules in
    rw is at c.in_ok-rest.ensures
