-- What a transaction's own writes leave at a point.
use Rattle.std.specs.Prelude.{ℕ, Bool, true, false, not, ◌&&◌, List, [], ◌∷◌, ◌++◌, fold, Option, Some, None}
use Rattle.std.specs.Prelude.{if◌then◌else◌}
use Rattle.std.specs.Ordering.{nat_cmp}
use Rattle.std.specs.Cmp.Lexicographic.{slice_cmp}
use Rattle.std.specs.BTreeMap.{is_at}
use Rattle.std.specs.BTreeMap.Range.{entries_between}
use Rattle.std.specs.declared.ops.Bound.TheVariants.{Included, Excluded}
use Rattle.std.specs.Map.{lookup, keys_of}
use Rattle.std.specs.Option.{option_copied}
use Rattle.fdb_keys.specs.Cutting.{range_behind, range_through}
use Rattle.fdb_keys.specs.Points.{Point}
use Rattle.fdb_keys.specs.Ranges.{Range, in_set}
use Rattle.fdb_mutations.specs.declared.mutation.Mutation.{Mutation}
use Rattle.fdb_mutations.specs.Mutations.{names, new_value, is_blind}
use Rattle.fdb_mutations.specs.Stamping.{is_stamped}
use Rattle.fdb_client.specs.declared.left.Left.{Left}
use Rattle.fdb_client.specs.declared.left.Left.TheVariants.{Value, Unreadable, Changes}
use Rattle.fdb_client.specs.declared.own_writes.LentLeft.{LentLeft}
use Rattle.fdb_client.specs.declared.own_writes.LentLeft.TheVariants as lent
use Rattle.fdb_client.specs.declared.program.Op.{Op}
use Rattle.fdb_client.specs.declared.program.Op.TheVariants.{Get, Write, AddRead, AddWrite}
use Rattle.fdb_client.specs.declared.program.Op.TheVariants as operation

-- what one more mutation makes of what earlier writes left at a point that it names
abbrev pub left_after : Left → Mutation → Left
left_after (Value value) mutation =
    if is_stamped mutation then Unreadable (new_value mutation value) else Value (new_value mutation value)
left_after (Unreadable value) mutation =
    if is_blind mutation && not (is_stamped mutation) then Value (new_value mutation value)
    else Unreadable (new_value mutation value)
left_after (Changes mutations) mutation =
    if is_stamped mutation then Unreadable (new_value mutation None)
    else (if is_blind mutation then Value (new_value mutation None) else Changes (mutations ++ mutation ∷ []))

-- what one more mutation leaves at a point
abbrev pub left_with : Point → Left → Mutation → Left
left_with x left mutation = if names mutation x then left_after left mutation else left

-- what one more operation leaves at a point
abbrev pub left_by : Point → Left → Op → Left
left_by x left (Get key snapshot) = left
left_by x left (operation.Range range limit is_reverse snapshot) = left
left_by x left (Write mutation) = left_with x left mutation
left_by x left (AddRead range) = left
left_by x left (AddWrite range) = left

-- what a program's writes leave at a point
abbrev pub left_by_ops : List Op → Point → Left
left_by_ops [] x = Changes []
left_by_ops (op ∷ earlier) x = left_by x (left_by_ops earlier x) op

-- what stands at a point after these writes, by what stood there
abbrev pub value_over : Left → Option (List ℕ) → Option (List ℕ)
value_over (Value value) old = value
value_over (Unreadable value) old = value
value_over (Changes mutations) old =
    fold (λ (value : Option (List ℕ)) (mutation : Mutation). new_value mutation value) old mutations

-- these writes decide the point
abbrev pub is_value : Left → Bool
is_value (Value value) = true
is_value (Unreadable value) = true
is_value (Changes mutations) = false

-- the point is unreadable
abbrev pub is_unreadable : Left → Bool
is_unreadable (Unreadable value) = true
is_unreadable (Value value) = false
is_unreadable (Changes mutations) = false

-- what is lent of it
abbrev pub as_left : LentLeft → Left
as_left (lent.Value value) = Value (option_copied value)
as_left (lent.Unreadable value) = Unreadable (option_copied value)
as_left (lent.Changes mutations) = Changes mutations.now

-- what is kept for a point: what is under its own key, else that nothing stands there where it was cleared with a range
abbrev pub kept_of : List Range → Point → Option Left → Left
kept_of cleared x None = if in_set cleared x then Value None else Changes []
kept_of cleared x (Some left) = left

abbrev pub kept_at : List (List ℕ × Left) → List Range → Point → Left
kept_at entries cleared x = kept_of cleared x (lookup (is_at (slice_cmp nat_cmp x)) entries)

-- the keys of a range that have an entry
abbrev pub keys_between : Range → List (List ℕ × Left) → List Point
keys_between range entries =
    keys_of (entries_between (slice_cmp nat_cmp) (Included range.begin) (Excluded range.end) entries)

-- what of the range an entry of the key doesn't decide, of all that comes before the key and of the key itself
abbrev pub part_by : Range → Point → Left → Range
part_by range key (Value value) = range_behind range true key
part_by range key (Unreadable value) = range_behind range true key
part_by range key (Changes mutations) = range_through range false key
