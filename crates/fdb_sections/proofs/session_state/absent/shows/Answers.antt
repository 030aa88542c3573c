use Rattle.std.proofs.Common.{◌≡◌, ◌∙◌, sym, ap, subst, ◌-◌, ℕ, suc, drop, Some, None, arith}
use Rattle.std.specs.Option.{option_copied}
use Rattle.fdb_txn.specs.declared.entry.Entry.{Entry}
use Rattle.fdb_client.specs.Programs.{commit_request_of}
use Rattle.fdb_roles.proofs.Exports.{all-at, within-item}
use Rattle.fdb_sections.specs.Absent.{IsNotAmong, IsNowhere}
use Rattle.fdb_sections.proofs.AbsentLemmas.{nowhere-below, nowhere-from}
use Rattle.fdb_sections.proofs.session_state.absent.shows.Goals as goal

pub returns-then-entry-read_version-clause-absent : goal.returns-then-entry-read_version-clause-absent
returns-then-entry-read_version-clause-absent g c =
    let front = c.args.front.now in
    let t = commit_request_of c.args.submitted.now.transaction in
    let k = c.loop-left.left - 1 in
    let at = sym c.entry.ensures ∙ ap option_copied c.in-Some.is in
    let next : suc k ≡ c.loop-left.left = omega (arith, c.loop-left-test.true) in
    let later = subst (λ (n : ℕ). IsNowhere t (drop n front)) (sym next) c.loop-left.invariant.nowhere in
    λ same. nowhere-below _ t front c.know_entries.ensures k c.in-Some.entry.now at
    (omega (arith, c.if-entry-read_version.true, c.read_version-read_version.ensures)) later

pub returns-then-has_request-clause-present : goal.returns-then-has_request-clause-present
returns-then-has_request-clause-present g c =
    let front = c.args.front.now in
    let t = commit_request_of c.args.submitted.now.transaction in
    let at = sym c.entry.ensures ∙ ap option_copied c.in-Some.is in
    λ same. λ nowhere.
    c.has_request.ensures.present c.if-has_request.true
    (subst (IsNotAmong t) (sym c.as_slice.ensures.places)
    (all-at (λ (it : Entry). IsNotAmong t it.batch) front (c.loop-left.left - 1) c.in-Some.entry.now nowhere at))

pub loop-left-preserved-else-has_request : goal.loop-left-preserved-else-has_request
loop-left-preserved-else-has_request g c =
    let front = c.args.front.now in
    let t = commit_request_of c.args.submitted.now.transaction in
    let k = c.loop-left.left - 1 in
    let at = sym c.entry.ensures ∙ ap option_copied c.in-Some.is in
    let next : suc k ≡ c.loop-left.left = omega (arith, c.loop-left-test.true) in
    let later = subst (λ (n : ℕ). IsNowhere t (drop n front)) (sym next) c.loop-left.invariant.nowhere in
    record {
      within = omega (arith, c.loop-left.invariant.within);
      nowhere =
          nowhere-from t front k c.in-Some.entry.now at
          (subst (IsNotAmong t) c.as_slice.ensures.places (c.has_request.ensures.absent c.if-has_request.false)) later;
    }

pub loop-left-preserved : goal.loop-left-preserved
loop-left-preserved g c =
    let front = c.args.front.now in
    let k = c.loop-left.left - 1 in
    let none = sym c.entry.ensures ∙ ap option_copied c.in_default.is in
    absurd (let found = within-item front k (omega (arith, c.loop-left-test.true, c.loop-left.invariant.within)) in
    let wrong : Some found.0 ≡ None = sym found.1 ∙ none in cc)
