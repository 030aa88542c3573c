-- The values that a transcript's operations leave.
use Rattle.std.proofs.Common.{◌≡◌, ◌∙◌, refl, ap, ℕ, List, [], ◌∷◌, fold, Option}
use Rattle.std.specs.FinMap.{get}
use Rattle.fdb_keys.specs.Points.{Point}
use Rattle.fdb_mutations.specs.Maps.{Map}
use Rattle.fdb_mutations.specs.Mutations.{value_after}
use Rattle.fdb_mutations.proofs.Exports.{at_every_point}
use Rattle.fdb_client.specs.declared.program.Op.{Op}
use Rattle.fdb_client.specs.declared.program.Op.TheVariants as op
use Rattle.fdb_client.specs.declared.program.Reply.{Reply}
use Rattle.fdb_client.specs.Programs.{program, copy}

-- what stands at a point after an operation, by what stood there
abbrev pub value_after_op : Point → Option (List ℕ) → Op × Reply → Option (List ℕ)
value_after_op x value (op.Get key snapshot, reply) = value
value_after_op x value (op.Range range limit is_reverse snapshot, reply) = value
value_after_op x value (op.Write mutation, reply) = value_after x value mutation
value_after_op x value (op.AddRead range, reply) = value
value_after_op x value (op.AddWrite range, reply) = value

-- a transcript's operations after earlier ones
abbrev after : List Op → List (Op × Reply) → List Op
after earlier ops = fold (λ (before : List Op) (done : Op × Reply). done.0 ∷ before) earlier ops

-- the same as `get-copy`, after earlier operations
get-after : (map : Map) (earlier : List Op) (ops : List (Op × Reply)) (x : Point)
    → get (copy map (after earlier ops)) x ≡ fold (value_after_op x) (get (copy map earlier) x) ops
get-after map earlier [] x = refl
get-after map earlier ((op.Get key snapshot, reply) ∷ ops) x = get-after map (op.Get key snapshot ∷ earlier) ops x
get-after map earlier ((op.Range range limit is_reverse snapshot, reply) ∷ ops) x =
    get-after map (op.Range range limit is_reverse snapshot ∷ earlier) ops x
get-after map earlier ((op.AddRead range, reply) ∷ ops) x = get-after map (op.AddRead range ∷ earlier) ops x
get-after map earlier ((op.AddWrite range, reply) ∷ ops) x = get-after map (op.AddWrite range ∷ earlier) ops x
get-after map earlier ((op.Write mutation, reply) ∷ ops) x =
    get-after map (op.Write mutation ∷ earlier) ops x
    ∙ ap (λ (value : Option (List ℕ)). fold (value_after_op x) value ops) (at_every_point (copy map earlier) mutation x)

-- a point of the copy after the operations, by what stood there
pub get-copy : (map : Map) (ops : List (Op × Reply)) (x : Point)
    → get (copy map (program ops)) x ≡ fold (value_after_op x) (get map x) ops
get-copy map ops x = get-after map [] ops x
