-- The first words of lines.
use Rattle.std.specs.Prelude.{ℕ, List, codes}
use Rattle.fdb_play.specs.declared.script.step_line.Kind.{Kind}
use Rattle.fdb_play.specs.declared.script.step_line.Kind.TheVariants.{Ask, Grant, Get, SnapshotGet, Range}
use Rattle.fdb_play.specs.declared.script.step_line.Kind.TheVariants.{SnapshotRange}
use Rattle.fdb_play.specs.declared.script.step_line.Kind.TheVariants.{Write, AddRead, AddWrite, Submit, Seal, Resolve}
use Rattle.fdb_play.specs.declared.script.step_line.Kind.TheVariants.{Verdict, Decide, Push, Logged, Report, Answer}
use Rattle.fdb_play.specs.declared.script.step_line.Kind.TheVariants.{Pull, Forget, Pop, Move, Window}

-- the word that names the kind
abbrev pub name_of : Kind → List ℕ
name_of Ask = codes "ask"
name_of Grant = codes "grant"
name_of Get = codes "get"
name_of SnapshotGet = codes "sget"
name_of Range = codes "range"
name_of SnapshotRange = codes "srange"
name_of Write = codes "write"
name_of AddRead = codes "addread"
name_of AddWrite = codes "addwrite"
name_of Submit = codes "submit"
name_of Seal = codes "seal"
name_of Resolve = codes "resolve"
name_of Verdict = codes "verdict"
name_of Decide = codes "decide"
name_of Push = codes "push"
name_of Logged = codes "logged"
name_of Report = codes "report"
name_of Answer = codes "answer"
name_of Pull = codes "pull"
name_of Forget = codes "forget"
name_of Pop = codes "pop"
name_of Move = codes "move"
name_of Window = codes "window"
