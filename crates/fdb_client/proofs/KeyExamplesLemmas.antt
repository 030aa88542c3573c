-- What programs that read keys are answered on the map of three pairs, and read.
use Rattle.std.proofs.Common.{◌≡◌, ◌∙◌, ap, refl, ℕ, Bool, true, false, List, [], ◌∷◌, Option}
use Rattle.std.specs.FinMap.{get}
use Rattle.fdb_keys.specs.Insertion.{inserted}
use Rattle.fdb_keys.specs.Points.{Point, point_lt}
use Rattle.fdb_mutations.specs.declared.mutation.Mutation.TheVariants.{Set, Clear}
use Rattle.fdb_mutations.specs.Examples.{one}
use Rattle.fdb_mutations.specs.Mutations.{value_after}
use Rattle.fdb_mutations.specs.PairExamples.{three, three_pairs}
use Rattle.fdb_mutations.proofs.Exports.{at_every_point, value_at, get-pairs}
use Rattle.fdb_client.specs.declared.program.Op.{Op}
use Rattle.fdb_client.specs.declared.program.Op.TheVariants.{Get, Write, AddRead, AddWrite}
use Rattle.fdb_client.specs.declared.program.Op.TheVariants as operation
use Rattle.fdb_client.specs.declared.program.Reply.TheVariants.{Value}
use Rattle.fdb_client.specs.KeyExamples.{WorkedKeyReads}
use Rattle.fdb_client.specs.Programs.{copy}
use Rattle.fdb_client.specs.ReadExamples.{replied, clears, adds}

-- what stands at a point after a program, since nothing can be computed with a map
abbrev pub there : List Op → Point → Option (List ℕ)
there [] x = value_at three_pairs x
there (Get key snapshot ∷ earlier) x = there earlier x
there (operation.Range range limit is_reverse snapshot ∷ earlier) x = there earlier x
there (Write mutation ∷ earlier) x = value_after x (there earlier x) mutation
there (AddRead range ∷ earlier) x = there earlier x
there (AddWrite range ∷ earlier) x = there earlier x

pub get-copy : (ops : List Op) (x : Point) → get (copy three ops) x ≡ there ops x
get-copy [] x = get-pairs three_pairs x
get-copy (Get key snapshot ∷ earlier) x = get-copy earlier x
get-copy (operation.Range range limit is_reverse snapshot ∷ earlier) x = get-copy earlier x
get-copy (Write mutation ∷ earlier) x =
    at_every_point (copy three earlier) mutation x
    ∙ ap (λ (old : Option (List ℕ)). value_after x old mutation) (get-copy earlier x)
get-copy (AddRead range ∷ earlier) x = get-copy earlier x
get-copy (AddWrite range ∷ earlier) x = get-copy earlier x

replies : (earlier : List Op) (key : Point) (snapshot : Bool)
    → replied (Get key snapshot ∷ earlier) ≡ Value (there earlier key) ∷ replied earlier
replies earlier key snapshot =
    ap (λ (value : Option (List ℕ)). Value value ∷ replied earlier) (get-copy earlier key)

pub worked_key_reads : WorkedKeyReads
unfolding point_lt inserted
worked_key_reads = (
  replies [] (one 1) false,
  refl,
  replies [] (one 4) false,
  refl,
  replies [] (one 1) true,
  refl,
  replies (Write (Set (one 2) (one 9)) ∷ []) (one 2) false,
  refl,
  replies (Write (Clear (one 2)) ∷ []) (one 2) false,
  refl,
  replies (clears ∷ []) (one 2) false,
  refl,
  replies (clears ∷ []) (one 3) false,
  refl,
  refl,
  replies (adds ∷ []) (one 2) false,
  replies (adds ∷ []) (one 2) true,
  refl,
  refl,
  refl,
  refl,
  refl,
  refl,
  refl,
  refl,
  refl,
  refl,
  replies (adds ∷ Write (Set (one 2) (one 9)) ∷ []) (one 2) false,
  refl,
  replies (Write (Set (one 2) (one 9)) ∷ adds ∷ []) (one 2) false,
  refl,
  refl,
  refl,
  refl,
  refl,
  refl,
  refl,
  refl,
  refl,
  refl,
  refl,
  refl,
  refl,
)
