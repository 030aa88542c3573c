-- A transaction that wrote no value reads the map as it is, and reads on so.
use Rattle.std.proofs.Common.{◌≡◌, ◌∙◌, ap, subst, refl, ℕ, false, List, [], ◌∷◌, Option, Some, None}
use Rattle.std.specs.Prelude.{IfOk, IfSome, Result, Ok, Err}
use Rattle.std.proofs.Math.Logic.{inl}
use Rattle.fdb_keys.specs.Points.{Point}
use Rattle.fdb_keys.specs.Ranges.{Range}
use Rattle.fdb_keys.specs.declared.refusal.Refusal.{Refusal}
use Rattle.fdb_mutations.specs.Maps.{Map}
use Rattle.fdb_mutations.specs.Pairs.{pairs_in}
use Rattle.fdb_client.proofs.Exports.{program-push}
use Rattle.fdb_client.specs.Programs.{mutations_of, program}
use Rattle.fdb_client.specs.declared.program.Op.{Op}
use Rattle.fdb_client.specs.declared.program.Op.TheVariants as operation
use Rattle.fdb_client.specs.declared.program.Reply.{Reply}
use Rattle.fdb_client.specs.declared.program.Reply.TheVariants.{Pairs}
use Rattle.fdb_client.specs.declared.program.Transcript.{Transcript}
use Rattle.fdb_runtime.specs.Works.{IsStillOpen}
use Rattle.fdb_runtime.specs.declared.options.ReadOptions.{ReadOptions}
use Rattle.fdb_sections.specs.Reading.{HasRead}
use Rattle.fdb_sections.specs.Sessions.{Session}
use Rattle.fdb_layers.specs.Operations.{DoesMore, WritesNoValue, reading_range}
use Rattle.fdb_layers.specs.Table.{IsOfTable}
use Rattle.fdb_layers.proofs.CountingLemmas.{run}
use Rattle.fdb_layers.proofs.ReadsLemmas.{pairs_of, unwritten-copy}

-- what follows of the open transaction
by-open : (current : Option Transcript) (P Q : Transcript → Type 0) → ((transcript : Transcript) → P transcript
    → Q transcript) → IfSome current P → IfSome current Q
by-open None P Q so holds = tt
by-open (Some transcript) P Q so holds = so transcript holds

-- what a read of a range is given then are the pairs of the map
pub pairs-are : (splits : List Point) (range : Range) (pairs : List (Point × List ℕ)) (old new : Session)
    → HasRead splits old (operation.Range range 0 false false) (Pairs pairs) new
    → IfSome old.current (λ (transcript : Transcript). WritesNoValue transcript
    → pairs ≡ pairs_in (run splits old.front transcript) range false)
pairs-are splits range pairs old new reads = by-open old.current _
    (λ (transcript : Transcript). WritesNoValue transcript
    → pairs ≡ pairs_in (run splits old.front transcript) range false)
    (λ transcript read none. ap pairs_of (read.0
    ∙ ap (λ (map : Map). Pairs (pairs_in map range false))
    (unwritten-copy (run splits old.front transcript) (program transcript.ops) none)))
    reads

-- and it still wrote no value behind that
pub still-unwritten : (old new : Option Transcript) (range : Range) (pairs : List (Point × List ℕ))
    → IfSome old WritesNoValue → IsStillOpen old new → DoesMore old (reading_range range pairs ∷ []) new
    → IfSome new WritesNoValue
still-unwritten None new range pairs none stays does = absurd stays
still-unwritten (Some old) None range pairs none stays does = absurd stays
still-unwritten (Some old) (Some new) range pairs none stays does =
    ap (λ (ops : List (Op × Reply)). mutations_of (program ops)) (does old.ops refl)
    ∙ ap mutations_of (program-push old.ops (reading_range range pairs)) ∙ none

-- so it is one of the table's
pub of-table : (current : Option Transcript) → IfSome current WritesNoValue → IfSome current IsOfTable
of-table current none = by-open current WritesNoValue IsOfTable (λ transcript unwritten. inl unwritten) none

-- the same of a call that may be refused
pub given-are : (splits : List Point) (range : Range) (old new : Session) (options : ReadOptions)
    → options ≡ record { limit = 0; reverse = false; snapshot = false }
    → (result : Result (List (Point × List ℕ)) Refusal)
    → IfOk result (λ (pairs : List (Point × List ℕ)). HasRead splits old
    (operation.Range range options.limit options.reverse options.snapshot) (Pairs pairs) new)
    → IfOk result (λ (pairs : List (Point × List ℕ)). IfSome old.current (λ (transcript : Transcript).
    WritesNoValue transcript → pairs ≡ pairs_in (run splits old.front transcript) range false))
given-are splits range old new options all (Ok pairs) reads = pairs-are splits range pairs old new
    (subst (λ (own : ReadOptions). HasRead splits old (operation.Range range own.limit own.reverse own.snapshot)
    (Pairs pairs) new) all reads)
given-are splits range old new options all (Err why) reads = tt
