-- `==` tells exactly whether two values are the same.
use Rattle.std.specs.Prelude.{Bool, ◌&&◌, nat_eq, List, ℕ, ◌≡◌, true, false, refl}
use Rattle.std.specs.Cmp.Lexicographic.{pointwise, bytes_decides}
use Rattle.std.proofs.lemmas.Bool.{and_parts, both_ways, and_from, eqb-true, eq-eqb}
use Rattle.std.proofs.Common.{◌∙◌, ap, subst}
use Rattle.std.specs.Bool.{Decides}
use Rattle.fdb_keys.specs.Equality.{key_eq}
use Rattle.fdb_keys.specs.declared.key.Key.{Key}
use Rattle.fdb_keys.proofs.Exports.{key_eq_decides, range_eq_decides}
use Rattle.fdb_mutations.specs.declared.mutation.Mutation.{Mutation}
use Rattle.fdb_mutations.specs.declared.mutation.Mutation.TheVariants.{Set, Clear, ClearRange, Add, And, Or, Xor, Max}
use Rattle.fdb_mutations.specs.declared.mutation.Mutation.TheVariants.{Min, ByteMin, ByteMax, CompareAndClear, Stamped}
use Rattle.fdb_mutations.specs.Equality.{mutation_eq}

-- `==` of two mutations of one kind
abbrev both_eq : Key → Key → List ℕ → List ℕ → Bool
both_eq a b v w = key_eq a b && pointwise nat_eq v w

same_kind : (kind : Key → List ℕ → Mutation) (a b : Key) (v w : List ℕ) → both_eq a b v w ≡ true → kind a v ≡ kind b w
same_kind kind a b v w equal =
    let parts : (key_eq a b ≡ true) × (pointwise nat_eq v w ≡ true) = and_parts _ _ equal in
    let keys = (key_eq_decides a b).0 parts.0 in
    let values = (bytes_decides v w).0 parts.1 in
    λ i. kind (keys i) (values i)

from_equal : (a b : Mutation) → mutation_eq a b ≡ true → a ≡ b
from_equal (Set a v) (Set b w) equal = same_kind Set a b v w equal
from_equal (Clear a) (Clear b) equal = ap Clear ((key_eq_decides a b).0 equal)
from_equal (ClearRange a) (ClearRange b) equal = ap ClearRange ((range_eq_decides a b).0 equal)
from_equal (Add a v) (Add b w) equal = same_kind Add a b v w equal
from_equal (And a v) (And b w) equal = same_kind And a b v w equal
from_equal (Or a v) (Or b w) equal = same_kind Or a b v w equal
from_equal (Xor a v) (Xor b w) equal = same_kind Xor a b v w equal
from_equal (Max a v) (Max b w) equal = same_kind Max a b v w equal
from_equal (Min a v) (Min b w) equal = same_kind Min a b v w equal
from_equal (ByteMin a v) (ByteMin b w) equal = same_kind ByteMin a b v w equal
from_equal (ByteMax a v) (ByteMax b w) equal = same_kind ByteMax a b v w equal
from_equal (CompareAndClear a v) (CompareAndClear b w) equal = same_kind CompareAndClear a b v w equal
from_equal (Stamped a v n) (Stamped b w m) equal =
    let parts : (key_eq a b ≡ true) × ((pointwise nat_eq v w && nat_eq n m) ≡ true) = and_parts _ _ equal in
    let rest : (pointwise nat_eq v w ≡ true) × (nat_eq n m ≡ true) = and_parts _ _ parts.1 in
    same_kind (λ key operand. Stamped key operand n) a b v w (and_from _ _ parts.0 rest.0)
    ∙ ap (Stamped b w) (eqb-true n m rest.1)
from_equal a b equal = absurd (both_ways false refl equal)

both_eq-itself : (a : Key) (v : List ℕ) → both_eq a a v v ≡ true
both_eq-itself a v = and_from (key_eq a a) (pointwise nat_eq v v) ((key_eq_decides a a).1 refl)
    ((bytes_decides v v).1 refl)

equals_itself : (a : Mutation) → mutation_eq a a ≡ true
equals_itself (Set a v) = both_eq-itself a v
equals_itself (Clear a) = (key_eq_decides a a).1 refl
equals_itself (ClearRange a) = (range_eq_decides a a).1 refl
equals_itself (Add a v) = both_eq-itself a v
equals_itself (And a v) = both_eq-itself a v
equals_itself (Or a v) = both_eq-itself a v
equals_itself (Xor a v) = both_eq-itself a v
equals_itself (Max a v) = both_eq-itself a v
equals_itself (Min a v) = both_eq-itself a v
equals_itself (ByteMin a v) = both_eq-itself a v
equals_itself (ByteMax a v) = both_eq-itself a v
equals_itself (CompareAndClear a v) = both_eq-itself a v
equals_itself (Stamped a v n) =
    and_from (key_eq a a) (pointwise nat_eq v v && nat_eq n n) ((key_eq_decides a a).1 refl)
    (and_from (pointwise nat_eq v v) (nat_eq n n) ((bytes_decides v v).1 refl) (eq-eqb n n refl))

pub mutation_eq_decides : (a b : Mutation) → Decides (mutation_eq a b) (a ≡ b)
mutation_eq_decides a b = (
  from_equal a b,
  λ same. subst (λ (c : Mutation). mutation_eq a c ≡ true) same (equals_itself a),
)
