use Rattle.std.proofs.Common.{◌≡◌, ◌∙◌, sym, ap, ap₂, Bool, Option, Some}
use Rattle.std.proofs.lemmas.Result.{err_from_is_err_and}
use Rattle.std.specs.Prelude.{◌&&◌}
use Rattle.fdb_keys.specs.Points.{Point}
use Rattle.fdb_keys.specs.Ranges.{Range, in_range}
use Rattle.fdb_keys.specs.Clipping.{in_clipped}
use Rattle.fdb_storage.specs.Shards.{Shard, IsKeptOutside, part_fault, value_at}
use Rattle.fdb_storage.proofs.FaultLemmas.{none-of, given-also, refused-as, part_fault-none}
use Rattle.fdb_storage.proofs.shard.Shard.copy_into.Goals as goal
use Rattle.fdb_storage.proofs.shard.Shard.copy_into.Goals.{After-copy_part}

-- the part that is given is that of the range which the shard holds
in-both : (c : After-copy_part) (x : Point) → in_clipped (Some c.in-Some.part) x
    ≡ (in_range c.args.range.now x && in_range c.args.self.now.range x)
in-both c x =
    ap (λ (part : Option Range). in_clipped part x) (sym c.in-Some.is)
    ∙ c.in_ok-part.ensures.points x
    ∙ ap (λ (it : Shard). in_range c.args.range.now x && in_range it.range x) c.self.view_is

outside : (c : After-copy_part)
    → IsKeptOutside c.args.self.now c.args.range.now c.args.map.now c.copy_part.new.target
outside c x apart = c.copy_part.ensures.outside x (in-both c x ∙ apart)

pub copy_part-requires : goal.copy_part-requires
copy_part-requires c =
    c.self.invariant.legal_keys (ap (λ (shard : Shard). shard.is_failed) c.self.view_is
    ∙ part_fault-none c.args.self.now c.args.range.now c.args.version (none-of _ _ _ c.in_ok-check_part.ensures))

pub returns-in-Some-clause-answers : goal.returns-in-Some-clause-answers
returns-in-Some-clause-answers c =
    let here = (goal.at.returns-in-Some-clause-answers c).After-copy_part in
    given-also c.copy_part.result (part_fault c.args.self.now c.args.range.now c.args.version) _ _
    (none-of _ _ _ c.in_ok-check_part.ensures)
    (λ done copied. record {
      inside = λ x inside there none.
          copied x (in-both here x ∙ ap₂ (λ (a b : Bool). a && b) inside there) none
          ∙ ap (λ (it : Shard). value_at it c.args.version x) c.self.view_is;
      outside = outside here;
    })
    c.copy_part.ensures.answers

pub returns-in-Some-clause-outside : goal.returns-in-Some-clause-outside
returns-in-Some-clause-outside c = outside (goal.at.returns-in-Some-clause-outside c).After-copy_part

pub returns-in_err-check_part-clause-answers : goal.returns-in_err-check_part-clause-answers
returns-in_err-check_part-clause-answers c =
    let refused = err_from_is_err_and c.from_residual.result c.from_residual.ensures.1 in
    refused-as c.from_residual.result refused.0 _ (part_fault c.args.self.now c.args.range.now c.args.version) _ _
    refused.1 refused.2 c.in_err-check_part.ensures
