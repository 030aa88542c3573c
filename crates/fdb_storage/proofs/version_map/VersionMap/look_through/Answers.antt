use Rattle.std.proofs.Common.{◌≡◌, ◌∙◌, sym, ap, ap₂, ◌∷◌}
use Rattle.fdb_keys.specs.Points.{Point, point_eq}
use Rattle.fdb_storage.specs.VersionMaps.{VersionedKeys, found}
use Rattle.fdb_storage.proofs.VersionsLemmas.{found-first, found-later}
use Rattle.fdb_storage.proofs.version_map.VersionMap.look_through.Goals as goal
use Rattle.fdb_storage.proofs.version_map.VersionMap.look_through.Goals.{After-eq}

-- the test is that of the points
tested : (c : After-eq) → c.eq.result ≡ point_eq c.in-Some.point.now c.args.key.now
tested c =
    c.eq.ensures ∙ ap₂ (λ (a b : Point). point_eq a b) c.text.ensures.value c.text-in-loop-point.ensures.value

-- what was left is the key that was looked at, and what is left
left : (c : After-eq)
    → found ((c.in-Some.point.now, c.in-Some.versions.now) ∷ c.next.new.self) c.args.key.now
    ≡ found c.args.self.now.keys.entries c.args.key.now
left c = ap (λ (keys : VersionedKeys). found keys c.args.key.now) (sym c.in-Some.ensures.steps) ∙ c.loop-point.invariant

pub returns-then-eq : goal.returns-then-eq
returns-then-eq c =
    let here = (goal.at.returns-then-eq c).After-eq in
    sym (found-first c.args.key.now c.in-Some.point.now c.in-Some.versions.now c.next.new.self
    (sym (tested here) ∙ c.if-eq.true))
    ∙ left here

pub loop-point-preserved : goal.loop-point-preserved
loop-point-preserved c =
    let here = (goal.at.loop-point-preserved c).After-eq in
    sym (found-later c.args.key.now c.in-Some.point.now c.in-Some.versions.now c.next.new.self
    (sym (tested here) ∙ c.if-eq.false))
    ∙ left here
