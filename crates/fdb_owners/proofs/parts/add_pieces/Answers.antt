use Rattle.std.proofs.Common.{◌≡◌, ◌∙◌, sym, ap, subst, refl, List}
use Rattle.std.specs.BTreeMap.Range.{entries_between}
use Rattle.std.specs.Cmp.Lexicographic.{slice_cmp}
use Rattle.std.specs.Ordering.{nat_cmp}
use Rattle.std.specs.declared.ops.Bound.TheVariants.{Excluded}
use Rattle.fdb_keys.specs.Points.{Point}
use Rattle.fdb_keys.specs.Ranges.{Range}
use Rattle.fdb_keys.proofs.Exports.{cmp_less}
use Rattle.fdb_interval.specs.Breakpoints.{Breaks, breaks_inside}
use Rattle.fdb_owners.specs.declared.history.History.{History}
use Rattle.fdb_owners.specs.declared.parts.Owned.{Owned}
use Rattle.fdb_owners.specs.Parts.{AreRising, with_pieces}
use Rattle.fdb_owners.specs.Pieces.{history_at}
use Rattle.fdb_owners.proofs.PartsLemmas.{rising-with_owners}
use Rattle.fdb_owners.proofs.WalkLemmas.{way-same, way-next, way-next_bound}
use Rattle.fdb_owners.proofs.parts.add_pieces.Goals as goal

pub range-point-items-requires : goal.range-point-items-requires
range-point-items-requires c =
    rw (c.begin-2.ensures, c.end.ensures.value, c.in_ok-keyed.ensures)
    (cmp_less c.args.range.now.begin c.args.range.now.end c.requires.some)

-- what the walk goes over, by the texts of the bounds
by_texts : (es found : Breaks History) (begin end begin_text end_text : Point) → begin_text ≡ begin → end_text ≡ end
    → found ≡ entries_between (slice_cmp nat_cmp) (Excluded begin_text) (Excluded end_text) es
    → found ≡ breaks_inside (record { begin = begin; end = end }) es
by_texts es found begin end begin_text end_text begins ends is =
    is
    ∙ ap (λ (x : Point). entries_between (slice_cmp nat_cmp) (Excluded x) (Excluded end_text) es) begins
    ∙ ap (λ (x : Point). entries_between (slice_cmp nat_cmp) (Excluded begin) (Excluded x) es) ends

pub loop-point-init : goal.loop-point-init
loop-point-init c =
    let begin_is : c.in_ok-keyed.keyed.begin ≡ c.args.range.now.begin =
    ap (λ (range : Range). range.begin) c.in_ok-keyed.ensures in
    let end_is : c.in_ok-keyed.keyed.end ≡ c.args.range.now.end =
    ap (λ (range : Range). range.end) c.in_ok-keyed.ensures in
    record {
      rising = c.requires.rising;
      way = way-same _ c.history_at-history.result.now _ c.begin-begin.result.now _ c.into_iter-point-iterator.result
          c.args.range.now.end
          (c.history_at-history.ensures.value
          ∙ ap (λ (x : Point). history_at c.args.pieces.now x) (c.begin.ensures ∙ begin_is))
          (c.begin-begin.ensures ∙ begin_is)
          (by_texts c.args.pieces.now.breaks.entries c.into_iter-point-iterator.result c.args.range.now.begin
          c.args.range.now.end c.begin-2.result.now c.end.result.now (c.begin-2.ensures ∙ begin_is)
          (c.end.ensures.value ∙ end_is)
          (c.into_iter-point-iterator.ensures.into_iter_gives ∙ c.range-point-items.ensures.between tt))
          c.requires.way;
      same = refl;
    }

pub add_piece-requires-clause-end : goal.add_piece-requires-clause-end
add_piece-requires-clause-end c =
    way-next_bound c.loop-point.history.now c.loop-point.begin.now c.loop-point.point-iterator c.next.new.self
    c.in-Some.point.now c.in-Some.next.now c.args.range.now.end c.in-Some.ensures.steps c.loop-point.invariant.way

pub loop-point-preserved : goal.loop-point-preserved
loop-point-preserved c = record {
  rising = subst AreRising (sym c.in_ok-add_piece.ensures)
      (rising-with_owners c.loop-point.history.now c.args.span.since c.args.span.through _ c.loop-point.parts.items
      c.loop-point.invariant.rising);
  way = way-next c.loop-point.history.now c.loop-point.begin.now c.loop-point.point-iterator c.next.new.self
      c.in-Some.point.now c.in-Some.next.now c.args.range.now.end c.in-Some.ensures.steps c.loop-point.invariant.way;
  same =
      ap (λ (parts : List Owned). with_pieces c.in-Some.next.now c.args.span.since c.args.span.through
      c.in-Some.point.now
      c.next.new.self c.args.range.now.end parts) c.in_ok-add_piece.ensures
      ∙ ap (λ (pieces : Breaks History). with_pieces c.loop-point.history.now c.args.span.since c.args.span.through
      c.loop-point.begin.now pieces c.args.range.now.end c.loop-point.parts.items) (sym c.in-Some.ensures.steps)
      ∙ c.loop-point.invariant.same;
}
