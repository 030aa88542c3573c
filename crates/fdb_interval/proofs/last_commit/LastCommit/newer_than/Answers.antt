use Rattle.std.proofs.Common.{◌≡◌, ◌∙◌, sym, refl, subst, ℕ, ◌<◌, max, true, ◌||◌, nat_lt, ⊎_elim, rules}
use Rattle.std.proofs.lemmas.Bool.{both_ways, lt-ltb, ltb-true, not-false, or_cases, or_left, or_right}
use Rattle.fdb_keys.specs.Points.{Point, point_lt}
use Rattle.fdb_keys.specs.Ranges.{Range, in_range, is_empty_range}
use Rattle.fdb_keys.proofs.Exports.{in_range-empty}
use Rattle.fdb_interval.specs.Breakpoints.{Breakpoints, value_from, breaks_inside}
use Rattle.fdb_interval.specs.Versions.{version_at}
use Rattle.fdb_interval.proofs.VersionsLemmas.{newer_from_begin, newer_from_inside, found_from_newer, any_newer}
use Rattle.fdb_interval.proofs.last_commit.LastCommit.newer_than.Goals as goal

abbrev HasNewerIn : Range → ℕ → Breakpoints → Type 0
HasNewerIn range version last = (x : Point) × (in_range range x ≡ true) × (version < version_at last x)

pub returns-then-is_empty : goal.returns-then-is_empty
returns-then-is_empty c =
    let empty : is_empty_range c.args.range.now ≡ true = search rules in (
      λ never. absurd (both_ways _ refl never),
      λ newer. absurd (both_ways _ (in_range-empty c.args.range.now newer.0 empty) newer.1),
    )

pub returns : goal.returns
returns c =
    let entries = c.self.inside.breaks.entries in
    let range = c.args.range.now in
    let version = c.args.version in
    let floor = c.self.inside.floor in
    let bar = max version floor in
    let some : point_lt range.begin range.end ≡ true = not-false _ (search rules) in
    let is : c.is_any_newer.result
    ≡ (nat_lt bar (value_from 0 entries range.begin) || any_newer bar (breaks_inside range entries)) =
    search rules in (
      λ found. subst (HasNewerIn range version) c.self.view_is (⊎_elim
          (λ at_begin. newer_from_begin floor entries range version some (ltb-true _ _ at_begin))
          (λ within. newer_from_inside floor entries range version c.is_any_newer.ensures.rising within)
          (or_cases (nat_lt bar (value_from 0 entries range.begin)) _ (sym is ∙ found))),
      λ newer. is ∙ ⊎_elim
          (λ at_begin. or_left (nat_lt bar (value_from 0 entries range.begin)) _ (lt-ltb _ _ at_begin))
          (λ within. or_right (nat_lt bar (value_from 0 entries range.begin)) _ within)
          (found_from_newer floor entries range version (subst (HasNewerIn range version) (sym c.self.view_is) newer)),
    )
