use Rattle.std.proofs.Common.{◌≡◌, ◌∙◌, sym, ap, subst, refl, ℕ, ◌-◌, true, length, arith}
use Rattle.std.proofs.lemmas.Option.{slice_get_read}
use Rattle.fdb_keys.specs.Points.{Point}
use Rattle.fdb_keys.specs.Texts.{is_key}
use Rattle.fdb_keys.proofs.Exports.{is_bound-key}
use Rattle.fdb_txn.specs.rules.Splits.{piece}
use Rattle.fdb_txn.proofs.rules.SplitsLemmas.{empty-is_bound, first-begins, later-begins}
use Rattle.fdb_txn.proofs.splits.piece_begin.Goals as goal

pub returns-then-number-eq0-clause-value : goal.returns-then-number-eq0-clause-value
returns-then-number-eq0-clause-value c =
    sym (ap (λ (n : ℕ). (piece c.args.splits.now n).begin) c.if-number-eq0.true ∙ first-begins c.args.splits.now)

pub returns-then-number-eq0-clause-legal : goal.returns-then-number-eq0-clause-legal
returns-then-number-eq0-clause-legal c = empty-is_bound

pub returns-clause-value : goal.returns-clause-value
returns-clause-value c =
    let some = c.if-number-eq0.false in
    let within = c.requires in
    c.bytes.ensures.value
    ∙ sym (later-begins c.args.splits.now c.args.number (c.args.number - 1) c.index-splits-number.result
    (omega (arith, some))
    (slice_get_read c.args.splits.now (length c.args.splits.now) (c.args.number - 1) c.index-splits-number.result refl
    (omega (arith, some, within)) c.index-splits-number.is))

pub returns-clause-legal : goal.returns-clause-legal
returns-clause-legal c =
    is_bound-key c.bytes.result.now
    (subst (λ (text : Point). is_key text ≡ true) (sym c.bytes.ensures.value) c.bytes.ensures.legal)
