use Rattle.std.proofs.Common.{◌≡◌, rules, refl, Err, Some}
use Rattle.fdb_keys.specs.declared.refusal.Refusal.TheVariants.{KeyOutsideLegalRange}
use Rattle.fdb_sections.proofs.ReadingLemmas.{open-ran-out, read-refused, refuses-each}
use Rattle.fdb_sections.proofs.session_state.SessionState.get_decided.Goals as goal

pub returns-in_err-version-clause-fault : goal.returns-in_err-version-clause-fault
returns-in_err-version-clause-fault g c =
    let same : c.from_residual.result ≡ Err c.in_err-version.field-0.0 = search rules in
    rw same (open-ran-out _ c.args.self.now.current c.in_err-version.field-0.0 _ c.in_err-version.ensures.answers)

pub returns-clause-fault : goal.returns-clause-fault
returns-clause-fault g c =
    read-refused c.args.self.now.current c.get.result _ _ _
    (refuses-each c.args.self.now.current c.args.key.now (Some KeyOutsideLegalRange) (Some KeyOutsideLegalRange) refl)
    c.get.ensures.answers
