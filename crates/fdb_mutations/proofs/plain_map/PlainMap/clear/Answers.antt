use Rattle.std.proofs.Common.{◌∙◌, ap}
use Rattle.std.specs.FinMap.{remove, from_entries}
use Rattle.std.specs.Ordering.{nat_cmp}
use Rattle.std.specs.Cmp.Lexicographic.{slice_cmp}
use Rattle.fdb_mutations.specs.Maps.{Map, has_legal_keys}
use Rattle.fdb_mutations.proofs.MapsLemmas.{one_cleared, legal-remove}
use Rattle.fdb_mutations.proofs.plain_map.PlainMap.clear.Goals as goal

pub invariant_of-self : goal.invariant_of-self
invariant_of-self c = ap has_legal_keys c.remove.ensures.entries
    ∙ legal-remove c.self.inside.pairs.entries _ c.self.invariant

pub returns : goal.returns
returns c =
    one_cleared c.self.inside.pairs.entries c.remove.new.self.entries c.text.result.now c.remove.ensures.updates.0
    ∙ ap (remove (from_entries {R = slice_cmp nat_cmp} c.self.inside.pairs.entries)) c.text.ensures.value
    ∙ ap (λ (map : Map). remove map c.args.key.now) c.self.view_is
