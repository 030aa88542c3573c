-- A clone of a resolver's part is that part, whose items it shares.
use Rattle.std.proofs.Common.{◌≡◌, List, rules}
use Rattle.std.specs.List.{AllZip}
use Rattle.std.proofs.lemmas.List.Elements.{same_from_all_zip}
use Rattle.fdb_resolver.specs.declared.part.Part.{Part}
use Rattle.fdb_resolver.specs.contracts.part.PartClone.TheImpl as of_parts

same_part : (a b : Part) → (of_parts.ghosts).is_clone a b → b ≡ a
same_part a b copied = search rules

pub same_parts : (xs ys : List Part) → AllZip (of_parts.ghosts).is_clone xs ys → ys ≡ xs
same_parts xs ys copied = same_from_all_zip (of_parts.ghosts).is_clone xs ys copied same_part
