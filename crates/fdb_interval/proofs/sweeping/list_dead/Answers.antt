use Rattle.std.proofs.Common.{◌≡◌, ◌∙◌, sym, ap, subst, max, nat_le, true, false, List, [], ◌∷◌, ◌++◌, if◌then◌else◌}
use Rattle.std.proofs.Common.{rules}
use Rattle.std.proofs.lemmas.Bool.{cond-true, cond-false}
use Rattle.std.proofs.lemmas.List.{append-nil}
use Rattle.fdb_keys.specs.Points.{Point}
use Rattle.fdb_interval.proofs.SweepLemmas.{IsWalking, walking-begins, walking-on}
use Rattle.fdb_interval.proofs.sweeping.list_dead.Goals as goal
use Rattle.fdb_interval.proofs.sweeping.list_dead.Goals.{else-max-floor-via-then-max-floor+else-is_err}
use Rattle.fdb_interval.proofs.sweeping.list_dead.Goals.{else-max-floor-via-else-max-floor}

pub loop-point-init : goal.loop-point-init
loop-point-init c =
    let entries = c.args.breaks.now.entries in
    let nothing : c.new-dead.result.items ≡ [] = search rules in
    subst (λ (l : List Point). IsWalking c.args.floor c.args.from.now entries c.into_iter-point-iterator.result l
    c.version_before-before.result) (sym nothing)
    (walking-begins c.args.floor c.args.from.now entries c.into_iter-point-iterator.result
    c.version_before-before.result c.version_before-before.ensures.rising
    (c.into_iter-point-iterator.ensures.into_iter_gives ∙ c.range-point-items.ensures.between tt)
    c.version_before-before.ensures.value)

pub loop-point-preserved : goal.loop-point-preserved
loop-point-preserved c =
    let floor = c.args.floor in
    let dead : List Point = c.loop-point.dead.items in
    let point : Point = c.in-Some.point.now in
    let version = c.in-Some.version.now in
    let before = c.loop-point.before in
    let more : c.else-max-floor.dead.items
    ≡ dead ++ (if nat_le (max before version) floor then point ∷ [] else []) =
    elim c.else-max-floor.branch [
      | else-max-floor-via-then-max-floor+else-is_err w ↦
          let pushed : c.else-max-floor.dead.items ≡ dead ++ point ∷ [] = search rules in
          let low : nat_le (max before version) floor ≡ true = search rules in
          pushed ∙ sym (ap (λ (l : List Point). dead ++ l) (cond-true _ (point ∷ []) [] low))
      | else-max-floor-via-else-max-floor w ↦
          let same : c.else-max-floor.dead.items ≡ dead = search rules in
          let high : nat_le (max before version) floor ≡ false = search rules in
          same ∙ sym (append-nil dead) ∙ sym (ap (λ (l : List Point). dead ++ l) (cond-false _ (point ∷ []) [] high))
    ] in
    walking-on floor c.args.from.now c.args.breaks.now.entries c.loop-point.point-iterator c.next.new.self dead
    c.else-max-floor.dead.items before (point, version) c.loop-point.invariant c.in-Some.ensures.steps more
