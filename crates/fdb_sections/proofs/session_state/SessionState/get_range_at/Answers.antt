use Rattle.std.proofs.Common.{◌≡◌, ◌∙◌, ap, sym, ℕ, Bool, List, Option, Some, None, Result, Ok, Err, IfOk}
use Rattle.std.specs.Prelude.{⊤, IfSome}
use Rattle.fdb_keys.specs.Points.{Point}
use Rattle.fdb_keys.specs.Ranges.{Range}
use Rattle.fdb_keys.specs.declared.refusal.Refusal.{Refusal}
use Rattle.fdb_mutations.specs.PairLaws.{given_of}
use Rattle.fdb_txn.specs.declared.entry.Entry.{Entry}
use Rattle.fdb_proxy.specs.declared.config.Config.{Config}
use Rattle.fdb_client.specs.Programs.{program, copy, reply_on}
use Rattle.fdb_client.specs.TxnState.{with_op}
use Rattle.fdb_client.specs.declared.program.Op.TheVariants as operation
use Rattle.fdb_client.specs.declared.program.Reply.TheVariants as answer
use Rattle.fdb_client.specs.declared.program.Transcript.{Transcript}
use Rattle.fdb_roles.proofs.Exports.{given-fault}
use Rattle.fdb_roles.specs.Sessions.{OfOpen}
use Rattle.fdb_sections.specs.LentShards.{LentShards, lent_shards, lending_fault}
use Rattle.fdb_sections.specs.Sessions.{Session, with_current}
use Rattle.fdb_sections.specs.ShardViews.{run_of}
use Rattle.fdb_sections.proofs.ReadingLemmas.{lent-faults, range-refused}
use Rattle.fdb_sections.proofs.session_state.SessionState.get_range_at.Goals as goal

-- what was read of the open transaction's own writes over a map, at its read version and the session's front
has-read : (config : Config) (current : Option Transcript) (old new : Session) (own : List Entry)
    (shared : ℕ × List Entry) (result : Result (List (Point × List ℕ)) Refusal)
    (range : Range) (limit : ℕ) (reverse is_snapshot : Bool)
    → OfOpen {T = ℕ × List Entry} current (Ok shared) (λ transcript. shared ≡ (transcript.read_version, own))
    → IfOk result (λ pairs. IfSome current (λ transcript.
    (pairs ≡ given_of (copy (run_of config shared.0 shared.1) (program transcript.ops)) range limit reverse)
    × (new ≡ with_current old (Some (with_op transcript (operation.Range range limit reverse is_snapshot)
    (answer.Pairs pairs))))))
    → IfOk result (λ pairs. IfSome current (λ transcript.
    (answer.Pairs pairs ≡ reply_on (copy (run_of config transcript.read_version own) (program transcript.ops))
    (operation.Range range limit reverse is_snapshot))
    × (new ≡ with_current old (Some (with_op transcript (operation.Range range limit reverse is_snapshot)
    (answer.Pairs pairs))))))
has-read config current old new own shared (Err why) range limit reverse is_snapshot same given = tt
has-read config None old new own shared (Ok pairs) range limit reverse is_snapshot same given = tt
has-read config (Some transcript) old new own shared (Ok pairs) range limit reverse is_snapshot same given = (
  ap (λ (it : List (Point × List ℕ)). answer.Pairs it) (given.0
      ∙ ap (λ (it : ℕ × List Entry). given_of (copy (run_of config it.0 it.1) (program transcript.ops)) range limit
      reverse) same),
  given.1,
)

pub returns-clause-answered : goal.returns-clause-answered
returns-clause-answered g c =
    let shared : ℕ × List Entry = (c.in_ok-version.version, c.in_ok-version.front) in
    has-read g.B.DatabaseName.config c.args.self.now.current c.args.self.now c.get_range.new.self c.args.self.now.front
    shared c.get_range.result c.args.range.now c.args.limit c.args.reverse c.args.is_snapshot
    c.in_ok-version.ensures.answers
    (rw (c.in_ok-lent.ensures.value, c.new-reader.ensures.version, c.new-reader.ensures.front)
    at c.get_range.ensures.given)

pub returns-clause-fault : goal.returns-clause-fault
returns-clause-fault g c =
    let current = c.args.self.now.current in
    let range = c.args.range.now in
    let shards = lent_shards c.args.shards.now in
    let lent : LentShards = c.in_ok-lent.lent in
    let none : lending_fault c.in_ok-version.version range shards ≡ None =
    ap (λ (version : ℕ). lending_fault version range shards) (sym c.new-reader.ensures.version)
    ∙ (given-fault (lending_fault c.new-reader.result.version range shards) lent (λ _. ⊤)
    c.in_ok-lent.ensures.answers).0 in
    range-refused current c.get_range.result _ _ _ _ (λ transcript given. ⊤)
    (lent-faults g.B.DatabaseName.config current (c.in_ok-version.version, c.in_ok-version.front) c.args.self.now.front
    lent range shards c.args.limit c.args.reverse none
    (ap (λ (it : LentShards). it.range) c.in_ok-lent.ensures.value)
    (ap (λ (it : LentShards). it.version) c.in_ok-lent.ensures.value ∙ c.new-reader.ensures.version)
    (ap (λ (it : LentShards). it.front) c.in_ok-lent.ensures.value ∙ c.new-reader.ensures.front)
    c.in_ok-version.ensures.answers)
    c.get_range.ensures.fault
