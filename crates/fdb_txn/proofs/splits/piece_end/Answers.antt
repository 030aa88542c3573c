use Rattle.std.proofs.Common.{◌≡◌, ◌∙◌, sym, subst, refl, true, [], length, arith}
use Rattle.std.proofs.lemmas.Option.{slice_get_read, slice_get_past}
use Rattle.fdb_keys.specs.Points.{Point}
use Rattle.fdb_keys.specs.Texts.{is_key}
use Rattle.fdb_keys.proofs.Exports.{is_bound-key}
use Rattle.fdb_txn.proofs.rules.SplitsLemmas.{end-is_bound, ends-at, last-ends}
use Rattle.fdb_txn.proofs.splits.piece_end.Goals as goal

pub returns-then-number-splits-clause-value : goal.returns-then-number-splits-clause-value
returns-then-number-splits-clause-value c =
    let last = c.if-number-splits.true in
    sym (last-ends [] c.args.splits.now c.args.number
    (slice_get_past c.args.splits.now c.args.number (omega (arith, last))))

pub returns-then-number-splits-clause-legal : goal.returns-then-number-splits-clause-legal
returns-then-number-splits-clause-legal c = end-is_bound

pub returns-clause-value : goal.returns-clause-value
returns-clause-value c =
    let within = c.requires in
    let other = c.if-number-splits.false in
    c.bytes.ensures.value
    ∙ sym (ends-at [] c.args.splits.now c.args.number c.index-splits-number.result
    (slice_get_read c.args.splits.now (length c.args.splits.now) c.args.number c.index-splits-number.result refl
    (omega (arith, within, other)) c.index-splits-number.is))

pub returns-clause-legal : goal.returns-clause-legal
returns-clause-legal c =
    is_bound-key c.bytes.result.now
    (subst (λ (text : Point). is_key text ≡ true) (sym c.bytes.ensures.value) c.bytes.ensures.legal)
