-- What is printed of a refusal.
use Rattle.std.specs.Prelude.{ℕ, List, [], ◌++◌, codes}
use Rattle.std.specs.Fmt.{decimal}
use Rattle.fdb_keys.specs.declared.refusal.Refusal.{Refusal}
use Rattle.fdb_keys.specs.declared.refusal.Refusal.TheVariants.{NotYet}
use Rattle.fdb_keys.specs.Refusals.{code_of, name_of}

-- what stands after the name: of `NotYet` the number of what has not come
abbrev pub awaited_text : Refusal → List ℕ
awaited_text (NotYet number) = codes " " ++ decimal number
awaited_text refusal = []

-- a refusal: its number, its name and what stands after that
abbrev pub refusal_text : Refusal → List ℕ
refusal_text refusal = codes "refused " ++ decimal (code_of refusal) ++ codes " " ++ name_of refusal
    ++ awaited_text refusal
