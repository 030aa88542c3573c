use Rattle.std.proofs.Common.{◌≡◌, sym, subst, rules, length, true, false, not, ◌&&◌}
use Rattle.fdb_keys.specs.Ranges.{Range}
use Rattle.fdb_mutations.specs.Maps.{Map}
use Rattle.fdb_mutations.specs.Pairs.{is_limit_reached}
use Rattle.fdb_client.specs.LeftAt.{left_at}
use Rattle.fdb_client.specs.Merging.{HasFirst, TookPage}
use Rattle.fdb_client.specs.OwnWalk.{left_of}
use Rattle.fdb_client.proofs.PagesLemmas.{reads-page}
use Rattle.fdb_client.proofs.range_read.RangeRead.merge_left.Goals as goal
use Rattle.fdb_client.proofs.range_read.RangeRead.merge_left.Goals.{else-page-via-then-page+else-not-is_full}
use Rattle.fdb_client.proofs.range_read.RangeRead.merge_left.Goals.{else-page-via-else-page}

pub merge-requires-clause-page : goal.merge-requires-clause-page
merge-requires-clause-page c =
    let map : Map = c.requires.page.0 in (
      map,
      c.requires.page.1,
      c.requires.page.2,
      subst (λ (whole : Range). HasFirst map whole c.args.self.now.reverse c.args.page.now)
          (sym c.new-walk.ensures.left) c.requires.page.3,
    )

pub returns-then-not-is_full : goal.returns-then-not-is_full
returns-then-not-is_full c = λ map copy range is_copy first so_far.
    let own = c.args.self.now.own.now in
    let reverse = c.args.self.now.reverse in
    let limit = c.args.self.now.limit in
    let page = c.args.page.now in
    let whole = c.args.left.now in
    let before = c.args.given.now in
    let given = c.merge.new.given in
    let more : true ≡ (page.more && not (is_limit_reached limit given)) = search rules in
    reads-page (left_at own) map range whole reverse limit before given c.in_ok-rest.rest page so_far
    (λ other is_other.
    subst (λ (left : Range). TookPage map other reverse limit (length page.pairs) page.more before left given
    c.in_ok-rest.rest) c.new-walk.ensures.left
    (subst (λ (rest : Range). TookPage map other reverse limit (length page.pairs) page.more before
    (left_of reverse c.new-walk.result) given rest) (sym c.in_ok-rest.ensures)
    (c.in_ok-merge.ensures.answers map other is_other
    (subst (λ (left : Range). HasFirst map left reverse page) (sym c.new-walk.ensures.left) first))))
    copy is_copy first c.requires.goes_on c.in_ok-merge.ensures.within true more

pub returns : goal.returns
returns c = λ map copy range is_copy first so_far.
    let own = c.args.self.now.own.now in
    let reverse = c.args.self.now.reverse in
    let limit = c.args.self.now.limit in
    let page = c.args.page.now in
    let whole = c.args.left.now in
    let before = c.args.given.now in
    let given = c.merge.new.given in
    let rest = left_of reverse c.merge.new.walk in
    let last : false ≡ (page.more && not (is_limit_reached limit given)) = elim c.else-page.branch [
      | else-page-via-then-page+else-not-is_full w ↦ search rules
      | else-page-via-else-page w ↦ search rules
    ] in
    reads-page (left_at own) map range whole reverse limit before given rest page so_far
    (λ other is_other.
    subst (λ (left : Range). TookPage map other reverse limit (length page.pairs) page.more before left given rest)
    c.new-walk.ensures.left
    (c.in_ok-merge.ensures.answers map other is_other
    (subst (λ (left : Range). HasFirst map left reverse page) (sym c.new-walk.ensures.left) first)))
    copy is_copy first c.requires.goes_on c.in_ok-merge.ensures.within false last
