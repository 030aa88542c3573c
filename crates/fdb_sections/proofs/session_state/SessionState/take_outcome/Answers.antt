use Rattle.std.proofs.Common.{◌≡◌, ◌∙◌, ap, sym, subst, ◌≤◌, suc, length, List, inl, inr, arith}
use Rattle.fdb_txn.specs.declared.entry.Entry.{Entry}
use Rattle.fdb_txn.specs.declared.spot.Spot.{Spot}
use Rattle.fdb_txn.specs.book.Book.{last_version}
use Rattle.fdb_roles.proofs.Exports.{given-fault, refused-fault}
use Rattle.fdb_sections.specs.Receipts.{OutcomeAtFront, IsReceipt, spot_told, settle_fault}
use Rattle.fdb_sections.specs.Sessions.{Session, IsOpenAt, seeing}
use Rattle.fdb_sections.proofs.SessionLemmas.{grown, stays-open}
use Rattle.fdb_sections.proofs.SettlingLemmas.{receipt-told, turned-down}
use Rattle.fdb_sections.proofs.session_state.SessionState.take_outcome.Goals as goal

pub invariant_of-self : goal.invariant_of-self
invariant_of-self g c =
    let splits = g.B.DatabaseName.config.resolver_splits in
    let own = c.self.inside in
    let front = c.in-Ok.front in
    let version : c.version.result ≡ last_version c.args.message.now.front =
    c.version.ensures ∙ ap (λ (told : OutcomeAtFront). last_version told.front) c.message.view_is in
    let mark : c.max-self-inside.result ≤ last_version front =
    omega (
      arith,
      c.max-self-inside.ensures,
      c.self.invariant.0,
      version,
      c.in-Ok.ensures.reaches.0,
      c.in-Ok.ensures.reaches.1,
    ) in
    grown splits (suc (length splits)) own.number own.next_number c.max-self-inside.result own.front front own.current
    c.know_entries.ensures c.in-Ok.ensures.begins.0 mark c.self.invariant.1

pub invariant_of-self-in-Err-told : goal.invariant_of-self-in-Err-told
invariant_of-self-in-Err-told g c =
    let splits = g.B.DatabaseName.config.resolver_splits in
    let own = c.self.inside in
    let front = c.in-Ok.front in
    let mark : own.mark ≤ last_version front = omega (arith, c.self.invariant.0, c.in-Ok.ensures.reaches.0) in
    grown splits (suc (length splits)) own.number own.next_number own.mark own.front front own.current
    c.know_entries.ensures c.in-Ok.ensures.begins.0 mark c.self.invariant.1

pub returns-in-Ok-told-clause-given : goal.returns-in-Ok-told-clause-given
returns-in-Ok-told-clause-given g c =
    let splits = g.B.DatabaseName.config.resolver_splits in
    let own = c.self.inside in
    let front = c.in-Ok.front in
    let told = c.args.message.now in
    let transcript = c.args.submitted.now.transaction in
    let before : IsOpenAt splits own.number own.next_number own.front transcript =
    subst (λ (it : Session). IsOpenAt splits it.number it.next_number it.front transcript) (sym c.self.view_is)
    c.requires in
    let opened =
    stays-open splits (suc (length splits)) own.number own.next_number own.front front transcript
    c.know_entries.ensures c.in-Ok.ensures.begins.0 before in
    let gave =
    given-fault (settle_fault told.outcome) c.in-Ok-told.spot (λ (spot : Spot). spot ≡ spot_told told)
    c.in-Ok-told.ensures.answers in
    let receipt =
    receipt-told splits front told transcript c.know_entries.ensures c.in-Ok.ensures.begins.1
    c.in-Ok-told.ensures.told c.in-Ok.ensures.told c.know_book.ensures.ids c.know_book.ensures.horizons
    own.number own.next_number opened gave.0 in
    subst (λ (spot : Spot). IsReceipt splits (record { front = c.in-Ok.share; spot = spot; transcript = transcript }))
    (sym gave.1)
    (subst (λ (shared : List Entry).
    IsReceipt splits (record { front = shared; spot = spot_told told; transcript = transcript }))
    (sym c.in-Ok.ensures.longer.1) receipt)

pub returns-in-Err-clause-answers : goal.returns-in-Err-clause-answers
returns-in-Err-clause-answers g c =
    let told = c.args.message.now in
    let own : Session = record {
      number = c.self.inside.number;
      next_number = c.self.inside.next_number;
      front = c.self.inside.front;
      mark = c.self.inside.mark;
      current = c.self.inside.current;
    } in
    inl (
      c.in-Ok.ensures.told,
      refused-fault (settle_fault told.outcome) c.in-Err.why (λ (spot : Spot). spot ≡ spot_told told)
          c.in-Err.ensures.answers,
      ap (λ (front : List Entry). record own { front = front }) c.in-Ok.ensures.longer.0
          ∙ ap (λ (it : Session). seeing it told.front) c.self.view_is,
    )

pub returns-in-Err-clause-turned : goal.returns-in-Err-clause-turned
returns-in-Err-clause-turned g c =
    let splits = g.B.DatabaseName.config.resolver_splits in
    let told = c.args.message.now in
    inr (turned-down splits c.in-Ok.front told c.args.submitted.now.transaction c.know_entries.ensures
    c.in-Ok.ensures.begins.1 c.in-Err.ensures.told c.in-Ok.ensures.told c.in-Err.why
    (refused-fault (settle_fault told.outcome) c.in-Err.why (λ (spot : Spot). spot ≡ spot_told told)
    c.in-Err.ensures.answers))
