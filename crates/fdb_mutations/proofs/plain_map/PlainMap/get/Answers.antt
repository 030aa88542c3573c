use Rattle.std.proofs.Common.{◌∙◌, sym, ap}
use Rattle.std.specs.FinMap.{get, from_entries}
use Rattle.std.specs.Ordering.{nat_cmp}
use Rattle.std.specs.Cmp.Lexicographic.{slice_cmp}
use Rattle.fdb_mutations.specs.Maps.{Map}
use Rattle.fdb_mutations.proofs.MapsLemmas.{get-pairs}
use Rattle.fdb_mutations.proofs.plain_map.PlainMap.get.Goals as goal

pub returns : goal.returns
returns c =
    c.get.ensures.value ∙ sym (get-pairs c.self.inside.pairs.entries c.text.result.now)
    ∙ ap (get (from_entries {R = slice_cmp nat_cmp} c.self.inside.pairs.entries)) c.text.ensures.value
    ∙ ap (λ (map : Map). get map c.args.key.now) c.self.view_is
