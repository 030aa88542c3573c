use Rattle.std.proofs.Common.{◌≡◌, ◌∙◌, sym, [], rules}
use Rattle.fdb_interval.specs.Breakpoints.{value_from, breaks_inside}
use Rattle.fdb_interval.proofs.ThroughoutLemmas.{value-found, value-goes-on}
use Rattle.fdb_interval.proofs.breakpoints.version_behind.Goals as goal

pub returns-in-Some : goal.returns-in-Some
returns-in-Some c =
    value-found 0 c.args.range.now.end c.in-Some.version c.args.breaks.now.entries c.requires.rising
    (sym c.in-Some.is ∙ c.requires.at_end)

pub returns-in-Some-throughout : goal.returns-in-Some-throughout
returns-in-Some-throughout c =
    let entries = c.args.breaks.now.entries in
    let range = c.args.range.now in
    let version : c.in-Some-throughout.found.version ≡ value_from 0 entries range.begin = search rules in
    let none : breaks_inside range entries ≡ [] = search rules in
    version
    ∙ value-goes-on 0 entries range.begin range.end c.requires.rising c.requires.some none
    (sym c.in-None.is ∙ c.requires.at_end)
