use Rattle.std.proofs.Common.{◌≡◌, ◌∙◌, sym, ap, ℕ, true, ◌&&◌, ◌||◌, nat_lt, List, rules}
use Rattle.std.proofs.Math.Bool.{or-false}
use Rattle.fdb_keys.specs.Ranges.{Range, in_range, in_set, is_empty_range}
use Rattle.fdb_keys.proofs.Exports.{in_range-empty}
use Rattle.fdb_interval.specs.Breakpoints.{Breakpoints, value_from, breaks_inside}
use Rattle.fdb_interval.specs.Newer.{newer_pieces}
use Rattle.fdb_interval.specs.Versions.{version_at}
use Rattle.fdb_interval.proofs.NewerPieceLemmas.{newer_pieces-points}
use Rattle.fdb_interval.proofs.last_commit.LastCommit.newer_in.Goals as goal

pub returns-then-is_empty : goal.returns-then-is_empty
returns-then-is_empty c = λ x.
    let range = c.args.range.now in
    let empty : is_empty_range range ≡ true = search rules in
    ap (λ (l : List Range). in_set l x) c.new-newer.ensures
    ∙ sym (λ i. in_range-empty range x empty i && nat_lt c.args.version (version_at c.args.self.now x))

pub returns : goal.returns
returns c = λ x.
    let range = c.args.range.now in
    let version = c.args.version in
    let entries = c.self.inside.breaks.entries in
    let pieces : List Range = c.in_ok-list_newer.field-0.items in
    c.in_ok-add_all.ensures.answers x
    ∙ ap (λ (l : List Range). in_set pieces x || in_set l x) c.new-newer.ensures
    ∙ or-false (in_set pieces x)
    ∙ ap (λ (l : List Range). in_set l x) c.in_ok-list_newer.ensures.value
    ∙ ap (λ (bar : ℕ). in_set (newer_pieces bar (value_from 0 entries range.begin) range.begin
    (breaks_inside range entries) range.end) x) c.max-bar.ensures
    ∙ newer_pieces-points c.self.inside.floor version entries range x c.in_ok-list_newer.ensures.rising
    ∙ ap (λ (last : Breakpoints). in_range range x && nat_lt version (version_at last x)) c.self.view_is
