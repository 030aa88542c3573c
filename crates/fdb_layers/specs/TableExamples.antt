-- The table, worked: which transactions are its own, which put would break its index, and what is found by a value.
use Rattle.std.specs.Prelude.{◌≡◌, ℕ, List, [], ◌∷◌, ◌++◌, codes, Option, Some, None}
use Rattle.std.specs.Cmp.Lexicographic.{slice_cmp}
use Rattle.std.specs.FinMap.{from_entries, get}
use Rattle.std.specs.Ordering.{nat_cmp}
use Rattle.fdb_keys.specs.Points.{Point}
use Rattle.fdb_mutations.specs.Maps.{Map}
use Rattle.fdb_mutations.specs.declared.mutation.Mutation.TheVariants.{Set, Clear}
use Rattle.fdb_client.specs.declared.program.Op.{Op}
use Rattle.fdb_client.specs.declared.program.Reply.{Reply}
use Rattle.fdb_client.specs.declared.program.Transcript.{Transcript}
use Rattle.fdb_roles.specs.Layers.{Keeps}
use Rattle.fdb_roles.specs.Spots.{AnsweredOn}
use Rattle.fdb_layers.specs.Finding.{AreFoundBy}
use Rattle.fdb_layers.specs.Operations.{reading, writing}
use Rattle.fdb_layers.specs.Table.{IsOfTable, AreIndexed, IsForgetfulPut}

-- the calls of a put of pink for ann, one after another, where her record held this
abbrev pub pink_for_ann : Option (List ℕ) → List (Op × Reply)
pink_for_ann None =
    (([] ++ reading (codes "t/ann") None ∷ []) ++ writing (Set (codes "t/ann") (codes "pink")) ∷ [])
    ++ writing (Set (codes "i/pinkann") []) ∷ []
pink_for_ann (Some old) =
    ((([] ++ reading (codes "t/ann") (Some old) ∷ []) ++ writing (Clear (codes "i/" ++ (old ++ codes "ann"))) ∷ [])
    ++ writing (Set (codes "t/ann") (codes "pink")) ∷ []) ++ writing (Set (codes "i/pinkann") []) ∷ []

-- whatever ann's record held, these calls are a transaction of the table, and answered as on a map that holds it
abbrev pub PinkIsPut : Type 0
PinkIsPut =
    (old : Option (List ℕ)) (transcript : Transcript) (map : Map) → transcript.ops ≡ pink_for_ann old
    → get map (codes "t/ann") ≡ old → IsOfTable transcript × AnsweredOn map transcript

-- who forgets to clear the entry of the old value doesn't keep the index
abbrev pub ForgetfulPutsFail : Type 0
ForgetfulPutsFail = Keeps IsForgetfulPut AreIndexed → ⊥

-- a table's pairs: ann and bob hold pink, and cid holds blue
abbrev pub three_pairs : List (Point × List ℕ)
three_pairs =
    (codes "i/bluecid", []) ∷ (codes "i/pinkann", []) ∷ (codes "i/pinkbob", []) ∷ (codes "t/ann", codes "pink")
    ∷ (codes "t/bob", codes "pink") ∷ (codes "t/cid", codes "blue") ∷ []

abbrev pub three_records : Map
three_records = from_entries {R = slice_cmp nat_cmp} three_pairs

-- pink finds ann and bob there, blue finds cid, and mint finds nobody
abbrev pub ValuesFindTheirRecords : Type 0
ValuesFindTheirRecords =
    AreFoundBy three_records (codes "pink") (codes "ann" ∷ codes "bob" ∷ [])
    × AreFoundBy three_records (codes "blue") (codes "cid" ∷ [])
    × AreFoundBy three_records (codes "mint") []

-- what is found by a value is one list alone
abbrev pub OneListIsFound : Type 0
OneListIsFound =
    (map : Map) (value : List ℕ) (ids others : List (List ℕ)) → AreFoundBy map value ids → AreFoundBy map value others
    → ids ≡ others
