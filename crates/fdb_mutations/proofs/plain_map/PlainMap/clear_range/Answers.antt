use Rattle.std.proofs.Common.{◌∙◌, ap, not}
use Rattle.std.specs.FinMap.{retain_keys, from_entries}
use Rattle.std.specs.Ordering.{nat_cmp}
use Rattle.std.specs.Cmp.Lexicographic.{slice_cmp}
use Rattle.fdb_keys.specs.Ranges.{in_range}
use Rattle.fdb_mutations.specs.Maps.{Map, has_legal_keys}
use Rattle.fdb_mutations.proofs.MapsLemmas.{some_kept, legal-filter}
use Rattle.fdb_mutations.proofs.plain_map.PlainMap.clear_range.Goals as goal

pub invariant_of-self : goal.invariant_of-self
invariant_of-self c =
    ap has_legal_keys c.clear_pairs.ensures ∙ legal-filter c.self.inside.pairs.entries _ c.self.invariant

pub returns : goal.returns
returns c =
    ap (from_entries {R = slice_cmp nat_cmp}) c.clear_pairs.ensures
    ∙ some_kept c.self.inside.pairs.entries (λ x. not (in_range c.args.range.now x))
    ∙ ap (λ (map : Map). retain_keys map (λ x. not (in_range c.args.range.now x))) c.self.view_is
