use Rattle.std.proofs.Common.{◌∙◌, sym, subst, IsTrue}
use Rattle.fdb_txn.proofs.Exports.{sealed_eq_decides}
use Rattle.fdb_sections.proofs.session_state.submitted.Submitted.is_request.Goals as goal

pub returns : goal.returns
returns c =
    let same = sealed_eq_decides c.args.transaction.now c.args.self.now.request in
    let asked = c.args.self.now.asked in (
      λ equal. same.0 (subst IsTrue c.eq.ensures equal) ∙ asked,
      λ is. subst IsTrue (sym c.eq.ensures) (same.1 (is ∙ sym asked)),
    )
