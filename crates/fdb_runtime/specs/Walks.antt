-- How a walk over a range goes on, page by page.
use Rattle.std.specs.Prelude.{◌≡◌, ◌-◌, ℕ, Bool, false, List, [], ◌∷◌, length, Option, Some, None, if◌then◌else◌}
use Rattle.std.specs.List.{slice_get}
use Rattle.fdb_keys.specs.Cutting.{range_behind}
use Rattle.fdb_keys.specs.Points.{Point}
use Rattle.fdb_keys.specs.Ranges.{Range}
use Rattle.fdb_mutations.specs.Pairs.{is_limit_reached}
use Rattle.fdb_client.specs.declared.program.Op.TheVariants as operation
use Rattle.fdb_client.specs.declared.program.Reply.TheVariants as answer
use Rattle.fdb_sections.specs.Reading.{HasRead}
use Rattle.fdb_sections.specs.Sessions.{Session}
use Rattle.fdb_runtime.specs.declared.pages.Pages.{Pages}

-- what of a range lies behind the last pair, if there is one
abbrev pub behind_last : Range → Option (Point × List ℕ) → Option Range
behind_last range None = None
behind_last range (Some last) = Some (range_behind range false last.0)

-- What is left of a range behind the pairs that a read of it was given: what lies behind the last one where the limit
-- ended the read, and nothing else.
abbrev pub rest_of : Range → ℕ → List (Point × List ℕ) → Option Range
rest_of range limit pairs =
    if is_limit_reached limit pairs then behind_last range (slice_get pairs (length pairs - 1)) else None

-- a page of the pairs, unless there is none
abbrev pub some_page : List (Point × List ℕ) → Option (List (Point × List ℕ))
some_page [] = None
some_page (pair ∷ pairs) = Some (pair ∷ pairs)

-- The session has read the range with the limit, forwards, and was given the pairs.
abbrev pub HasReadPage : List Point → Range → ℕ → Bool → Session → List (Point × List ℕ) → Session → Type 0
HasReadPage splits range limit snapshot before pairs after =
    HasRead splits before (operation.Range range limit false snapshot) (answer.Pairs pairs) after

-- It was given a page, which has a pair, or there is none in the range. The rest is what is left behind the page.
abbrev pub ReadsPage : List Point → Range → ℕ → Bool → Session → Option (List (Point × List ℕ)) → Session
    → Option Range → Type 0
ReadsPage splits range limit snapshot before None after rest =
    HasReadPage splits range limit snapshot before [] after × (rest ≡ None)
ReadsPage splits range limit snapshot before (Some page) after rest =
    HasReadPage splits range limit snapshot before page after × (page ≡ [] → ⊥) × (rest ≡ rest_of range limit page)

-- A walk whose rest this is gives its next page and goes on behind it, or has ended: then nothing is read.
abbrev pub WalksOn : List Point → Pages → Option Range → Session → Option (List (Point × List ℕ)) → Session → Pages
    → Type 0
WalksOn splits old None before page after new = (page ≡ None) × (after ≡ before) × (new ≡ old)
WalksOn splits old (Some range) before page after new =
    ReadsPage splits range old.limit old.snapshot before page after new.rest × (new ≡ record old { rest = new.rest })
