use Rattle.std.proofs.Common.{◌∙◌, sym, ap, Bool, ◌||◌, List}
use Rattle.std.specs.List.{list_any}
use Rattle.fdb_keys.specs.Points.{point_eq}
use Rattle.fdb_keys.specs.Ranges.{Range, in_set, is_apart}
use Rattle.fdb_client.proofs.ConflictLemmas.{in_joined, apart-joined}
use Rattle.fdb_client.proofs.conflict_set.ConflictSet.contains.Goals as goal

pub returns-then-has-clause-value : goal.returns-then-has-clause-value
returns-then-has-clause-value c =
    let key = c.args.key.now in
    let keys = c.self.inside.keys in
    let ranges = c.self.inside.ranges in
    c.if-has.true
    ∙ sym
    (ap (λ (set : List Range). in_set set key) (sym c.self.view_is)
    ∙ in_joined keys ranges key
    ∙ ap (λ (listed : Bool). listed || in_set ranges key)
    (sym (c.has.ensures ∙ ap (list_any (point_eq key)) c.as_slice.ensures) ∙ c.if-has.true))

pub returns-else-has-clause-value : goal.returns-else-has-clause-value
returns-else-has-clause-value c =
    let key = c.args.key.now in
    let keys = c.self.inside.keys in
    let ranges = c.self.inside.ranges in
    c.lies_in.ensures
    ∙ ap (λ (set : List Range). in_set set key) c.as_slice-else-has.ensures
    ∙ sym
    (ap (λ (set : List Range). in_set set key) (sym c.self.view_is)
    ∙ in_joined keys ranges key
    ∙ ap (λ (listed : Bool). listed || in_set ranges key)
    (sym (c.has.ensures ∙ ap (list_any (point_eq key)) c.as_slice.ensures) ∙ c.if-has.false))

pub returns-then-has-clause-apart : goal.returns-then-has-clause-apart
returns-then-has-clause-apart c =
    sym (ap is_apart c.self.view_is) ∙ apart-joined c.self.inside.keys c.self.inside.ranges

pub returns-else-has-clause-apart : goal.returns-else-has-clause-apart
returns-else-has-clause-apart c =
    sym (ap is_apart c.self.view_is) ∙ apart-joined c.self.inside.keys c.self.inside.ranges
