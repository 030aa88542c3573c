use Rattle.std.proofs.Common.{◌≡◌, ◌∙◌, ap, List, None, cond}
use Rattle.std.specs.List.{list_any}
use Rattle.fdb_keys.specs.Points.{Point, point_eq}
use Rattle.fdb_keys.specs.Ranges.{Range, in_set}
use Rattle.fdb_keys.proofs.Exports.{in_with_range}
use Rattle.fdb_client.specs.OwnWrites.{keys_between}
use Rattle.fdb_client.proofs.ClearedLemmas.{left_at-cleared}
use Rattle.fdb_client.proofs.LeftAtLemmas.{found}
use Rattle.fdb_client.proofs.buffering.clear_range.Goals as goal

pub returns-clause-kept : goal.returns-clause-kept
returns-clause-kept c =
    let own = c.args.own.now in
    let after = c.remove_all.new.self in
    let listed : c.as_slice.result.now ≡ keys_between c.args.range.now own.keys.entries =
    c.as_slice.ensures.value ∙ c.in_ok-keys.ensures in
    left_at-cleared c.args.range.now own.keys.entries after.keys.entries own.cleared after.cleared
    (λ x. c.remove_all.ensures.entries x
    ∙ ap (λ (keys : List Point). cond (list_any (point_eq x) keys) None (found own.keys.entries x)) listed)
    (λ x. ap (λ (set : List Range). in_set set x) (c.remove_all.ensures.cleared ∙ c.in_ok-add_beside.ensures.other)
    ∙ in_with_range c.args.range.now own.cleared x)
