use Rattle.std.proofs.Common.{◌≡◌, ◌∙◌, sym, ap, [], ◌∷◌, ◌++◌, ◌+◌, take, arith, rules}
use Rattle.std.proofs.lemmas.List.{take_more}
use Rattle.fdb_interval.specs.Versions.{version_at}
use Rattle.fdb_resolver.specs.declared.part.Item.{Item}
use Rattle.fdb_resolver.specs.Rule.{IsFoundWith}
use Rattle.fdb_resolver.proofs.RuleLemmas.{AreJudged, judged-push, found-push}
use Rattle.fdb_resolver.proofs.judging.judge_items.Goals as goal

pub loop-item-preserved : goal.loop-item-preserved
loop-item-preserved c =
    let more : take (c.loop-item.item-index + 1) c.args.items.now ≡ take c.loop-item.item-index c.args.items.now
    ++ c.item-item.result ∷ [] =
    take_more c.args.items.now c.loop-item.item-index c.item-item.result (omega arith)
    ∙ ap (λ (item : Item). take c.loop-item.item-index c.args.items.now ++ item ∷ []) (sym c.item-item.is) in
    let said : c.push.new.self ≡ c.loop-item.answers ++ (c.item-item.result.place, c.in_ok-verdict.verdict) ∷ [] =
    search rules in
    let before : AreJudged c.args.version c.args.horizon (version_at c.args.versions.now)
    (take c.loop-item.item-index c.args.items.now) c.loop-item.answers (version_at c.loop-item.versions) = record {
      verdicts = c.loop-item.invariant.verdicts;
      versions = c.loop-item.invariant.versions;
      below = c.loop-item.invariant.below;
    } in
    let judged = judged-push c.args.version c.args.horizon (version_at c.args.versions.now)
    (version_at c.loop-item.versions)
    (version_at c.judge_item.new.versions)
    (take c.loop-item.item-index c.args.items.now) (take (c.loop-item.item-index + 1) c.args.items.now)
    c.loop-item.answers c.push.new.self
    c.item-item.result c.in_ok-verdict.verdict more said before
    c.in_ok-verdict.ensures.verdict c.in_ok-verdict.ensures.versions in
    let noted : IsFoundWith (version_at c.judge_item.new.versions) c.item-item.result c.in_ok-verdict.verdict
    c.loop-item.conflicts c.note.new.conflicts = search rules in
    record {
      verdicts = judged.verdicts;
      conflicts = found-push c.args.version c.args.horizon (version_at c.args.versions.now)
          (version_at c.loop-item.versions)
          (version_at c.judge_item.new.versions)
          (take c.loop-item.item-index c.args.items.now) (take (c.loop-item.item-index + 1) c.args.items.now)
          c.loop-item.answers c.push.new.self
          c.item-item.result c.in_ok-verdict.verdict c.loop-item.conflicts c.note.new.conflicts more said before
          c.loop-item.invariant.conflicts
          c.in_ok-verdict.ensures.versions noted;
      versions = judged.versions;
      below = judged.below;
    }
