-- What holds of programs on maps that agree.
use Rattle.std.specs.Prelude.{◌≡◌, ⊤, Bool, true, not, List, [], ◌∷◌, ◌++◌}
use Rattle.std.specs.FinMap.{get}
use Rattle.fdb_keys.specs.Points.{Point}
use Rattle.fdb_keys.specs.Ranges.{in_set}
use Rattle.fdb_mutations.specs.Maps.{Map}
use Rattle.fdb_mutations.specs.Mutations.{effects}
use Rattle.fdb_client.specs.declared.program.Op.{Op}
use Rattle.fdb_client.specs.declared.program.Op.TheVariants.{Get, Write, AddRead, AddWrite}
use Rattle.fdb_client.specs.declared.program.Op.TheVariants as operation
use Rattle.fdb_client.specs.declared.program.Reply.{Reply}
use Rattle.fdb_client.specs.declared.program.Transcript.{Transcript}
use Rattle.fdb_client.specs.Programs.{program, replies_of, exec, copy, reply_on, read_set, write_set, commit_request_of}

-- Every operation is an ordinary one but a snapshot read, which adds nothing to the read set.
abbrev pub is_ordinary : Op → Bool
is_ordinary (Get key snapshot) = not snapshot
is_ordinary (operation.Range range limit is_reverse snapshot) = not snapshot
is_ordinary (Write mutation) = true
is_ordinary (AddRead range) = true
is_ordinary (AddWrite range) = true

-- Each list has one reply for each operation, and an ordinary operation has the same reply in both.
abbrev pub AgreeWhereOrdinary : List Op → List Reply → List Reply → Type 0
AgreeWhereOrdinary [] [] [] = ⊤
AgreeWhereOrdinary (op ∷ earlier) (reply ∷ replies) (other ∷ others) =
    (is_ordinary op ≡ true → reply ≡ other) × AgreeWhereOrdinary earlier replies others
AgreeWhereOrdinary ops replies others = ⊥

-- the maps have the same at every point that the program reads on the first one
abbrev pub AgreeOnReads : Map → Map → List Op → Type 0
AgreeOnReads m n ops = (x : Point) → read_set m ops x ≡ true → get m x ≡ get n x

-- Programs agree: on maps that have the same at every point of a program's read set on one of them, the
-- program's ordinary replies are the same, and so is its read set.
abbrev pub ProgramsAgree : Type 0
ProgramsAgree =
    (m n : Map) (ops : List Op) → AgreeOnReads m n ops
    → AgreeWhereOrdinary ops (exec m ops) (exec n ops) × ((x : Point) → read_set m ops x ≡ read_set n ops x)

-- the transcript is the execution of its program on the map
abbrev pub IsExecuted : Map → List (Op × Reply) → Type 0
IsExecuted map ops = replies_of ops ≡ exec map (program ops)

-- The sealed ranges hold exactly the points of the program's write set, and of its read set on a map that it was
-- executed on, and the mutations leave a map as executing the program does.
abbrev pub CommitRequestsAreWhole : Type 0
CommitRequestsAreWhole =
    (transcript : Transcript) (map : Map) →
    let ops = program transcript.ops in
    let sealed = commit_request_of transcript in
    (IsExecuted map transcript.ops → (x : Point) → in_set sealed.reads x ≡ read_set map ops x)
    × ((x : Point) → in_set sealed.writes x ≡ write_set ops x)
    × (effects map sealed.mutations ≡ copy map ops)

-- A transcript that is the execution of its program on a map is so with one operation more, if that replies what the
-- program replies on the map.
abbrev pub OneMoreIsExecuted : Type 0
OneMoreIsExecuted =
    (map : Map) (ops : List (Op × Reply)) (op : Op) (reply : Reply) → IsExecuted map ops
    → reply ≡ reply_on (copy map (program ops)) op → IsExecuted map (ops ++ (op, reply) ∷ [])
