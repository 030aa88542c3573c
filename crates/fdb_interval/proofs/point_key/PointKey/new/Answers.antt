use Rattle.std.proofs.Common.{◌≡◌, subst, ℕ, List, true, rules}
use Rattle.fdb_keys.specs.Texts.{is_bound}
use Rattle.fdb_interval.specs.Heads.{IsHeaded}
use Rattle.fdb_interval.proofs.point_key.PointKey.new.Goals as goal

pub invariant_of-result : goal.invariant_of-result
invariant_of-result c =
    let same : c.as_slice.result.now ≡ c.in_ok-text.text = search rules in
    let copied : c.args.text.now ≡ c.in_ok-text.text = search rules in (
      subst (λ (text : List ℕ). IsHeaded c.head_of-head.result text) same
          (record { is = c.head_of-head.ensures.value; bytes = c.head_of-head.ensures.bytes }),
      subst (λ (text : List ℕ). is_bound text ≡ true) copied c.requires,
    )
