use Rattle.std.proofs.Common.{◌∙◌, sym, ap, length, List, ℕ}
use Rattle.std.proofs.lemmas.Bool.{eqb-true, eq-eqb}
use Rattle.fdb_mutations.proofs.MapsLemmas.{equal-maps, same-pairs}
use Rattle.fdb_mutations.proofs.plain_map.PlainMap.is_same.Goals as goal

pub returns-then-len : goal.returns-then-len
returns-then-len c =
    let decides = equal-maps c.self.inside.pairs.entries c.other.inside.pairs.entries c.len.ensures.ordered
    c.len-2.ensures.ordered in (
      λ equal. sym c.self.view_is ∙ decides.0 (sym c.eq.ensures ∙ equal) ∙ c.other.view_is,
      λ same. c.eq.ensures ∙ decides.1 (c.self.view_is ∙ same ∙ sym c.other.view_is),
    )

pub returns-else-len : goal.returns-else-len
returns-else-len c = (
  λ equal. absurd (c.if-len.false (eqb-true c.len.result c.len-2.result equal)),
  λ same. eq-eqb c.len.result c.len-2.result (c.len.ensures.len
      ∙ ap (λ (pairs : List (List ℕ × List ℕ)). length pairs)
      (same-pairs c.self.inside.pairs.entries c.other.inside.pairs.entries c.len.ensures.ordered c.len-2.ensures.ordered
      (c.self.view_is ∙ same ∙ sym c.other.view_is))
      ∙ sym c.len-2.ensures.len),
)
