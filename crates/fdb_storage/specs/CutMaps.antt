-- What messages change in a range.
use Rattle.std.specs.Prelude.{◌≡◌, ℕ, Bool, false, nat_le, List, fold, Option, Some, if◌then◌else◌}
use Rattle.std.specs.List.{list_any}
use Rattle.std.specs.FinMap.{get}
use Rattle.fdb_keys.specs.Points.{Point, point_eq}
use Rattle.fdb_keys.specs.Ranges.{Range, in_range}
use Rattle.fdb_mutations.specs.declared.mutation.Mutation.{Mutation}
use Rattle.fdb_mutations.specs.Maps.{Map}
use Rattle.fdb_mutations.specs.Mutations.{clipped_mutation, effect_of}
use Rattle.fdb_txn.specs.declared.tag_msg.TagMsg.{TagMsg}
use Rattle.fdb_txn.specs.rules.Messages.{mutations_in}

-- the map after what the mutation changes in the range
abbrev pub cut_effect : Range → Map → Mutation → Map
cut_effect range map mutation = effect_of map (clipped_mutation range mutation)

-- the map after what a message changes in the range, if it is of version at most v
abbrev pub cut_with : Range → ℕ → Map → TagMsg → Map
cut_with range v map message =
    if nat_le message.version v then fold (cut_effect range) map (mutations_in message.body) else map

-- outside the range a map has what the other one has
abbrev pub AreSameOutside : Range → Map → Map → Type 0
AreSameOutside range old new = (x : Point) → in_range range x ≡ false → get new x ≡ get old x

-- what stands at a point once the pairs were set, the first one first
abbrev pub set_by : List (Point × List ℕ) → Point → Option (List ℕ) → Option (List ℕ)
set_by pairs x before =
    fold (λ (value : Option (List ℕ)) (pair : Point × List ℕ). if point_eq x pair.0 then Some pair.1 else value) before
    pairs

abbrev pub has_key : Point → List (Point × List ℕ) → Bool
has_key x pairs = list_any (λ (pair : Point × List ℕ). point_eq x pair.0) pairs
