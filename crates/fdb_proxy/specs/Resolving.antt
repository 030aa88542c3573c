-- A batch that waits for verdicts.
use Rattle.std.specs.Prelude.{ℕ, suc, Bool, true, false, not, ◌&&◌, ◌==◌, List, [], ◌∷◌, length, slice_get, slice_set}
use Rattle.std.specs.Prelude.{Option, Some, None, if◌then◌else◌}
use Rattle.fdb_resolver.specs.declared.part.Item.{Item}
use Rattle.fdb_resolver.specs.declared.part.Part.{Part}
use Rattle.fdb_resolver.specs.declared.verdict.Verdicts.{Verdicts}
use Rattle.fdb_proxy.specs.Deciding.{Said}
use Rattle.fdb_proxy.specs.declared.resolving.Resolving.{Resolving}

-- the verdicts are on just these places, in their order
abbrev pub are_on : List Item → Said → Bool
are_on [] [] = true
are_on [] (one ∷ said) = false
are_on (item ∷ items) [] = false
are_on (item ∷ items) (one ∷ said) = (item.place == one.0) && are_on items said

-- the verdicts are on just the places of the part, if there is one
abbrev pub are_on_part : Option Part → Said → Bool
are_on_part None said = false
are_on_part (Some part) said = are_on part.items said

-- there is such a resolver, and its verdicts haven't come
abbrev pub has_not_come : Option (Option Said) → Bool
has_not_come None = false
has_not_come (Some None) = true
has_not_come (Some (Some said)) = false

-- the batch waits for these verdicts: they are on its entry, on just the places of which the resolver was asked, and
-- its first
abbrev pub is_awaited : Resolving → Verdicts → Bool
is_awaited batch verdicts =
    (verdicts.index == batch.position.index)
    && are_on_part (slice_get batch.parts verdicts.resolver) verdicts.answers
    && has_not_come (slice_get batch.verdicts verdicts.resolver)

-- once they came
abbrev pub with_verdicts : Resolving → Verdicts → Resolving
with_verdicts batch verdicts =
    record batch {
      verdicts = slice_set batch.verdicts verdicts.resolver (Some verdicts.answers);
      conflicts = slice_set batch.conflicts verdicts.resolver verdicts.conflicts;
    }

-- the resolver is asked about some place
abbrev pub asks : Part → Bool
asks part = not (length part.items == 0)

-- the least resolver, of those from n on, that is asked about some place and whose verdicts haven't come
abbrev pub first_missing : ℕ → List Part → List (Option Said) → Option ℕ
first_missing n [] verdicts = None
first_missing n (part ∷ parts) [] = None
first_missing n (part ∷ parts) (of ∷ verdicts) =
    if asks part && has_not_come (Some of) then Some n else first_missing (suc n) parts verdicts
