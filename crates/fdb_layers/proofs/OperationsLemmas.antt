-- What holds of every layer's transactions.
use Rattle.std.proofs.Common.{◌≡◌, ◌∙◌, sym, ap, subst, refl, ℕ, true, false, List, Option, Some, None}
use Rattle.std.specs.Cmp.Lexicographic.{bytes_decides, slice_cmp}
use Rattle.std.specs.FinMap.{get, empty, get-empty}
use Rattle.std.specs.Ordering.{nat_cmp}
use Rattle.std.proofs.lemmas.Option.{same_Some}
use Rattle.fdb_keys.specs.Points.{Point, point_eq}
use Rattle.fdb_mutations.specs.Maps.{Map}
use Rattle.fdb_mutations.specs.Mutations.{effects}
use Rattle.fdb_mutations.specs.declared.mutation.Mutation.{Mutation}
use Rattle.fdb_txn.specs.rules.Stamped.{stamped_by}
use Rattle.fdb_client.specs.declared.program.Op.{Op}
use Rattle.fdb_client.specs.declared.program.Reply.{Reply}
use Rattle.fdb_client.specs.declared.program.Reply.TheVariants.{Value, Pairs, Done}
use Rattle.fdb_client.specs.declared.program.Transcript.{Transcript}
use Rattle.fdb_client.specs.ProgramLaws.{AgreeWhereOrdinary}
use Rattle.fdb_client.specs.Programs.{program, replies_of, exec, mutations_of}
use Rattle.fdb_roles.specs.Layers.{Keeps}
use Rattle.fdb_roles.specs.Spots.{AnsweredOn}
use Rattle.fdb_layers.specs.Operations.{WritesNoValue}

-- what these operations write, stamped so
abbrev pub written : ℕ → ℕ → List (Op × Reply) → List Mutation
written version place ops = stamped_by version place (mutations_of (program ops))

-- who writes no value keeps whatever holds
pub kept-unwritten : (holds : Map → Type 0) → Keeps WritesNoValue holds
kept-unwritten holds map transcript version place none answered before =
    subst (λ (mutations : List Mutation). holds (effects map (stamped_by version place mutations))) (sym none) before

-- what a transaction with these operations leaves, it leaves
pub left-by : (holds : Map → Type 0) (map : Map) (version place : ℕ) (transcript : Transcript) (ops : List (Op × Reply))
    → transcript.ops ≡ ops → holds (effects map (written version place ops))
    → holds (effects map (written version place transcript.ops))
left-by holds map version place transcript ops is after =
    subst (λ (ops : List (Op × Reply)). holds (effects map (written version place ops))) (sym is) after

-- the ordinary ones of these operations were answered as on the map
abbrev pub AgreeOn : Map → List (Op × Reply) → Type 0
AgreeOn map ops = AgreeWhereOrdinary (program ops) (replies_of ops) (exec map (program ops))

-- a transaction was answered as its operations were
pub answered-by : (map : Map) (transcript : Transcript) (ops : List (Op × Reply)) → transcript.ops ≡ ops
    → AnsweredOn map transcript → AgreeOn map ops
answered-by map transcript ops is answered = subst (λ (ops : List (Op × Reply)). AgreeOn map ops) is answered

-- and the other way round
pub answered-so : (map : Map) (transcript : Transcript) (ops : List (Op × Reply)) → transcript.ops ≡ ops
    → AgreeOn map ops → AnsweredOn map transcript
answered-so map transcript ops is agree = subst (λ (ops : List (Op × Reply)). AgreeOn map ops) (sym is) agree

-- session 0's transaction with these operations, at version 0
abbrev pub of_ops : List (Op × Reply) → Transcript
of_ops ops = record { id = record { session = 0; number = 0 }; read_version = 0; ops = ops }

-- the value that a reply shows
abbrev value-of : Reply → Option (List ℕ)
value-of (Value value) = value
value-of (Pairs pairs) = None
value-of Done = None

-- the same reply shows the same value
pub same-value : (a b : Option (List ℕ)) → Value a ≡ Value b → a ≡ b
same-value a b same = ap value-of same

-- a point is itself
pub itself : (x : Point) → point_eq x x ≡ true
itself x = (bytes_decides x x).1 refl

-- values that differ aren't the same
pub differ : (x y : List ℕ) → point_eq x y ≡ false → Some x ≡ Some y → ⊥
differ x y different same =
    let wrong : true ≡ false = sym ((bytes_decides x y).1 (same_Some x y same)) ∙ different in cc

-- the empty map
abbrev pub nowhere : Map
nowhere = empty

-- nothing stands in the empty map
pub nothing-at : (key : Point) → get nowhere key ≡ None
nothing-at key = get-empty {X = List ℕ} (slice_cmp nat_cmp) key
