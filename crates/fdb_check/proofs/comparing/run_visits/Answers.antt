use Rattle.std.proofs.Common.{◌≡◌, ◌≤◌, refl, length, Some, slice_get, inr, arith}
use Rattle.std.proofs.lemmas.Bool.{both_ways}
use Rattle.std.proofs.lemmas.Option.{slice_get_read}
use Rattle.fdb_roles.specs.Spots.{IsSerialized}
use Rattle.fdb_check.proofs.VisitLemmas.{moment-is, so_far-next, so_far-all, so_far-stops, index-within}
use Rattle.fdb_check.proofs.comparing.run_visits.Goals as goal

pub returns-then-not-branch : goal.returns-then-not-branch
returns-then-not-branch c splits entries start ordered same =
    let book = c.args.book.now in
    let placed = c.args.placed.now in
    let visits = c.args.visits.now in
    let i = c.loop-number.number in
    let visit = c.visit_at-visit.result in
    let one = c.index-placed-visit.result in
    let so_far = c.loop-number.invariant splits entries start ordered same in
    let there : slice_get visits i ≡ Some visit = c.visit_at-visit.ensures in
    let inside = index-within visits placed i visit there c.requires in
    let at : slice_get placed visit.index ≡ Some one = slice_get_read placed (length placed) visit.index one refl inside
    c.index-placed-visit.is in
    let found = c.in_ok-is_serialized.ensures.ok splits entries so_far.at
    (moment-is book placed visits ordered same i visit one there at) (so_far.later i visit (omega arith) there) in
    inr (so_far-stops book placed visits ordered same splits (IsSerialized splits book) i c.loop-number.run visit one
    so_far there at (λ holds. absurd (both_ways _ c.if-not-branch.true (found.0.1 holds))))

pub loop-number-preserved : goal.loop-number-preserved
loop-number-preserved c splits entries start ordered same =
    let book = c.args.book.now in
    let placed = c.args.placed.now in
    let visits = c.args.visits.now in
    let i = c.loop-number.number in
    let visit = c.visit_at-visit.result in
    let one = c.index-placed-visit.result in
    let so_far = c.loop-number.invariant splits entries start ordered same in
    let there : slice_get visits i ≡ Some visit = c.visit_at-visit.ensures in
    let inside = index-within visits placed i visit there c.requires in
    let at : slice_get placed visit.index ≡ Some one = slice_get_read placed (length placed) visit.index one refl inside
    c.index-placed-visit.is in
    let found = c.in_ok-is_serialized.ensures.ok splits entries so_far.at
    (moment-is book placed visits ordered same i visit one there at) (so_far.later i visit (omega arith) there) in
    so_far-next book placed visits ordered same splits (IsSerialized splits book) i c.loop-number.run
    c.is_serialized.new.run visit one so_far there at (found.0.0 c.if-not-branch.false) (found.1 c.if-not-branch.false)

pub returns : goal.returns
returns c splits entries start ordered same =
    let visits = c.args.visits.now in
    let ended : length visits ≤ c.loop-number.number = omega arith in
    so_far-all c.args.book.now c.args.placed.now visits ordered same splits (IsSerialized splits c.args.book.now)
    c.loop-number.number c.loop-number.run ended (c.loop-number.invariant splits entries start ordered same)
