use Rattle.std.proofs.Common.{◌∙◌, sym, ap, length, List}
use Rattle.std.specs.Prelude.{◌==◌}
use Rattle.std.proofs.lemmas.Bool.{cond-false, cond-true}
use Rattle.fdb_keys.specs.Ranges.{Range}
use Rattle.fdb_client.proofs.ConflictLemmas.{some-joined}
use Rattle.fdb_client.proofs.conflict_set.ConflictSet.is_empty.Goals as goal

pub returns-then-is_empty : goal.returns-then-is_empty
returns-then-is_empty c =
    c.is_empty-then-is_empty.ensures
    ∙ sym
    (ap (λ (set : List Range). length set == 0) (sym c.self.view_is)
    ∙ some-joined c.self.inside.keys c.self.inside.ranges c.self.invariant
    ∙ cond-true _ _ _ (sym c.is_empty.ensures ∙ c.if-is_empty.true))

pub returns-else-is_empty : goal.returns-else-is_empty
returns-else-is_empty c =
    c.if-is_empty.false
    ∙ sym
    (ap (λ (set : List Range). length set == 0) (sym c.self.view_is)
    ∙ some-joined c.self.inside.keys c.self.inside.ranges c.self.invariant
    ∙ cond-false _ _ _ (sym c.is_empty.ensures ∙ c.if-is_empty.false))
