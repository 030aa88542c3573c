use Rattle.std.proofs.Common.{◌≡◌, ◌∙◌, rules, sym, subst, ℕ, List, Some, None, Ok, Err, if◌then◌else◌}
use Rattle.std.specs.Prelude.{⊤}
use Rattle.fdb_keys.specs.Answers.{Answers}
use Rattle.fdb_keys.specs.Points.{Point}
use Rattle.fdb_keys.specs.declared.refusal.Refusal.TheVariants.{AccessedUnreadable}
use Rattle.fdb_mutations.specs.Pairs.{scanned}
use Rattle.fdb_mutations.specs.Maps.{Map}
use Rattle.fdb_client.specs.Programs.{program, copy}
use Rattle.fdb_client.specs.Unreadable.{scan_fault, unreadable_in}
use Rattle.fdb_client.proofs.FaultLemmas.{given, refused}
use Rattle.fdb_client.proofs.TxnStateLemmas.{left_at-value}
use Rattle.fdb_client.proofs.txn_state.TxnState.get_range.Goals as goal

pub pairs_of-requires-clause-copy : goal.pairs_of-requires-clause-copy
pairs_of-requires-clause-copy g c =
    let now = c.args.self.now in
    let map = g.S.Snapshot.map c.args.snapshot.now in (
      copy map (program now.transcript.ops),
      λ x. sym (left_at-value (program now.transcript.ops) now.own now.writes c.requires.written x map),
    )

pub note_range-requires-clause-given : goal.note_range-requires-clause-given
note_range-requires-clause-given g c =
    let now = c.args.self.now in
    let map = g.S.Snapshot.map c.args.snapshot.now in
    let after : Map = copy map (program now.transcript.ops) in
    let read = given c.in_ok-pairs.pairs (g.S.Snapshot.range_fault c.args.snapshot.now c.args.range.now) _
    c.in_ok-pairs.ensures in (
      after,
      read.1 after (λ x. sym (left_at-value (program now.transcript.ops) now.own now.writes c.requires.written
          x map)),
    )

pub check_readable-requires-clause-given : goal.check_readable-requires-clause-given
check_readable-requires-clause-given g c =
    let now = c.args.self.now in
    let map = g.S.Snapshot.map c.args.snapshot.now in
    let after : Map = copy map (program now.transcript.ops) in
    let read = given c.in_ok-pairs.pairs (g.S.Snapshot.range_fault c.args.snapshot.now c.args.range.now) _
    c.in_ok-pairs.ensures in (
      after,
      c.as_slice.ensures ∙ read.1 after (λ x. sym (left_at-value (program now.transcript.ops) now.own now.writes
          c.requires.written x map)),
    )

pub returns-in_err-check_readable-clause-answers : goal.returns-in_err-check_readable-clause-answers
returns-in_err-check_readable-clause-answers g c =
    let now = c.args.self.now in
    let map = g.S.Snapshot.map c.args.snapshot.now in
    let after : Map = copy map (program now.transcript.ops) in
    let why = c.in_err-check_readable.field-0.0 in
    let same : c.from_residual-in_err-check_readable.result ≡ Err why = search rules in
    let read = given c.in_ok-pairs.pairs (g.S.Snapshot.range_fault c.args.snapshot.now c.args.range.now) _
    c.in_ok-pairs.ensures in
    let has = c.as_slice.ensures ∙ read.1 after (λ x. sym (left_at-value (program now.transcript.ops) now.own now.writes
    c.requires.written x map)) in
    rw (same, read.0) (refused why _ _ _ (rw has at c.in_err-check_readable.ensures))

pub returns-clause-answers : goal.returns-clause-answers
returns-clause-answers g c =
    let now = c.args.self.now in
    let map = g.S.Snapshot.map c.args.snapshot.now in
    let after : Map = copy map (program now.transcript.ops) in
    let read = given c.in_ok-pairs.pairs (g.S.Snapshot.range_fault c.args.snapshot.now c.args.range.now) _
    c.in_ok-pairs.ensures in
    let has = read.1 after (λ x. sym (left_at-value (program now.transcript.ops) now.own now.writes
    c.requires.written x map)) in
    let readable = given c.in_ok-check_readable.field-0
    (scan_fault after (program now.transcript.ops) c.args.range.now c.args.limit c.args.reverse) (λ done. ⊤)
    (subst (λ (pairs : List (Point × List ℕ)).
    Answers (Ok c.in_ok-check_readable.field-0) (if unreadable_in (program now.transcript.ops)
    (scanned c.args.range.now c.args.limit c.args.reverse pairs) then Some AccessedUnreadable else None) (λ done. ⊤))
    (c.as_slice.ensures ∙ has) c.in_ok-check_readable.ensures) in
    rw (read.0, readable.0) has
