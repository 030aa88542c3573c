-- Each kind is one of twenty-three.
use Rattle.std.proofs.Common.{◌≢◌, ℕ, ◌<◌, List, [], ◌∷◌, get_or, arith}
use Rattle.fdb_play.specs.declared.script.step_line.Kind.{Kind}
use Rattle.fdb_play.specs.declared.script.step_line.Kind.TheVariants.{Ask, Grant, Get, SnapshotGet, Range}
use Rattle.fdb_play.specs.declared.script.step_line.Kind.TheVariants.{SnapshotRange}
use Rattle.fdb_play.specs.declared.script.step_line.Kind.TheVariants.{Write, AddRead, AddWrite, Submit, Seal, Resolve}
use Rattle.fdb_play.specs.declared.script.step_line.Kind.TheVariants.{Verdict, Decide, Push, Logged, Report, Answer}
use Rattle.fdb_play.specs.declared.script.step_line.Kind.TheVariants.{Pull, Forget, Pop, Move, Window}
use Rattle.fdb_play.specs.script.Kinds.{name_of}

abbrev kinds : List Kind
kinds = Ask ∷ Grant ∷ Get ∷ SnapshotGet ∷ Range ∷ SnapshotRange ∷ Write ∷ AddRead ∷ AddWrite ∷ Submit ∷ Seal
    ∷ Resolve ∷ Verdict ∷ Decide ∷ Push ∷ Logged ∷ Report ∷ Answer ∷ Pull ∷ Forget ∷ Pop ∷ Move ∷ Window ∷ []

-- a word that names none of the twenty-three names no kind
pub names_none : (word : List ℕ) → ((k : ℕ) → k < 23 → word ≢ name_of (get_or kinds k Ask)) → (kind : Kind)
    → word ≢ name_of kind
names_none word none Ask = none 0 (omega arith)
names_none word none Grant = none 1 (omega arith)
names_none word none Get = none 2 (omega arith)
names_none word none SnapshotGet = none 3 (omega arith)
names_none word none Range = none 4 (omega arith)
names_none word none SnapshotRange = none 5 (omega arith)
names_none word none Write = none 6 (omega arith)
names_none word none AddRead = none 7 (omega arith)
names_none word none AddWrite = none 8 (omega arith)
names_none word none Submit = none 9 (omega arith)
names_none word none Seal = none 10 (omega arith)
names_none word none Resolve = none 11 (omega arith)
names_none word none Verdict = none 12 (omega arith)
names_none word none Decide = none 13 (omega arith)
names_none word none Push = none 14 (omega arith)
names_none word none Logged = none 15 (omega arith)
names_none word none Report = none 16 (omega arith)
names_none word none Answer = none 17 (omega arith)
names_none word none Pull = none 18 (omega arith)
names_none word none Forget = none 19 (omega arith)
names_none word none Pop = none 20 (omega arith)
names_none word none Move = none 21 (omega arith)
names_none word none Window = none 22 (omega arith)
