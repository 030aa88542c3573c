-- What a token of set cells owns.
use Rattle.std.specs.Prelude.{ℕ, List, [], ◌∷◌}
use base.Fml.{Fml, ftrue, fsep}
use denote.RattleType.{RattleType}
use Rattle.std.specs.declared.option.Option.TheVariants.{Some}
use Rattle.once_cell.specs.Once.{noted}

-- that each cell, by its name, holds its value for good
abbrev pub all_noted : (R : RattleType) → List (ℕ × R.Denot) → Fml
all_noted R [] = ftrue
all_noted R (known ∷ rest) = fsep (noted R known.0 (Some known.1)) (all_noted R rest)
