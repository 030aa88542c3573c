use Rattle.std.proofs.Common.{◌≡◌, ◌∙◌, refl, sym, ap, subst, ◌≤◌, max, length, map, slice_get, slice_set}
use Rattle.std.proofs.Common.{Some, Ok, ◌<◌, suc, true, false, arith, rules}
use Rattle.fdb_txn.specs.book.Book.{last_version}
use Rattle.fdb_sequencer.specs.Sequencer.{Sequencer}
use Rattle.fdb_core.specs.declared.roles.commit_proxy.CommitProxyRole.{CommitProxyRole}
use Rattle.fdb_machine.specs.declared.step.Answered.TheVariants as answered
use Rattle.fdb_machine.specs.declared.step.AnyStep.TheVariants as step
use Rattle.fdb_machine.specs.machine.Machine.{is_set}
use Rattle.fdb_core.specs.refinement.Cluster.{machine_of}
use Rattle.fdb_core.specs.refinement.Restoring.{failures_of, proxy_failed}
use Rattle.fdb_core.specs.refinement.commit_proxy.Ties.{known_to, ReadsWithin, seen_as}
use Rattle.fdb_machine.proofs.Exports.{unless, open-weaken}
use Rattle.fdb_roles.proofs.Exports.{one-item, read-there, below-last, entries-rising}
use Rattle.fdb_core.proofs.refinement.commit_proxy.Failing.{proxy-goes_on, proxy-was, reports-there}
use Rattle.fdb_core.proofs.refinement.commit_proxy.Reporting.{IsReporting, its, refuses, passes}
use Rattle.fdb_core.proofs.refinement.RestoringLemmas.{flag-at, restored}
use Rattle.fdb_core.proofs.refinement.StepLemmas as steps
use Rattle.fdb_core.proofs.refinement.StepLemmas.{fails, kept, left, refused-restored}
use Rattle.fdb_core.proofs.cluster.Cluster.report.Goals as goal
use Rattle.fdb_core.proofs.cluster.Cluster.report.Goals.{After-index-2, After-index-3, After-index-4}

-- a proxy that has failed reports nothing
pub returns-then-is_failed : goal.returns-then-is_failed
returns-then-is_failed c =
    let k = c.args.self.now in
    let role = c.index.result.now in
    let at : slice_get k.commit_proxies.items c.args.proxy ≡ Some role =
    read-there k.commit_proxies.items c.args.proxy role (search rules) c.index.ensures in
    let report = step.Report c.args.proxy in
    steps.refuses report
    (fails k report (flag-at proxy_failed k.commit_proxies.items c.args.proxy role at ∙ sym c.if-is_failed.ensures)
    (reports-there k c.requires c.args.proxy role at))
    (kept k c.requires)

-- the proxy, which works
module _ (c : After-index-2) where
  here : slice_get c.args.self.now.commit_proxies.items c.args.proxy ≡ Some c.index-2.result.now
  here = read-there c.args.self.now.commit_proxies.items c.args.proxy c.index-2.result.now (search rules)
      c.index-2.ensures

  working : proxy_failed c.index-2.result.now ≡ false
  working =
      ap proxy_failed (sym (one-item c.args.self.now.commit_proxies.items c.args.proxy c.index.result.now
      c.index-2.result.now (search rules) c.index.ensures here)) ∙ sym c.if-is_failed.ensures

  unused : is_set (failures_of c.args.self.now).commit_proxies c.args.proxy ≡ false
  unused = flag-at proxy_failed c.args.self.now.commit_proxies.items c.args.proxy c.index-2.result.now here ∙ working

  was : slice_get c.requires.roles.commit_proxies.items c.args.proxy ≡ Some c.index-2.result.now
  was = proxy-was c.args.self.now c.requires c.args.proxy c.index-2.result.now here working

-- where it may not report, the machine refuses, too
pub returns-in_err-check_logged : goal.returns-in_err-check_logged
returns-in_err-check_logged c =
    let k = c.args.self.now in
    let before = restored k c.requires in
    let report = step.Report c.args.proxy in
    let role = c.index-2.result.now in
    let why = c.in_err-check_logged.field-0.0 in
    let at = (goal.at.returns-in_err-check_logged c).After-index-2 in
    let ok = its before c.requires.refines c.args.proxy role (was at) in
    left k report c.from_residual.result _ why (search rules)
    (unless _ _ (refused-restored k report c.requires why (unused at)
    (refuses before c.requires.refines c.args.proxy role (was at) c.check_logged.result _
    (c.check_logged.ensures.wrong k.config k.book.items (known_to k.sequencer c.args.proxy) ok)
    (c.check_logged.ensures.answers k.config k.book.items (known_to k.sequencer c.args.proxy) ok) why
    c.in_err-check_logged.was))) (kept k c.requires)

-- the proxy is read again
again : (c : After-index-3) → slice_get c.args.self.now.commit_proxies.items c.args.proxy ≡ Some c.index-2.result.now
    → c.index-2.result.now ≡ c.index-3.result.now
again c at =
    sym (one-item c.args.self.now.commit_proxies.items c.args.proxy c.index-3.result.now c.index-2.result.now
    (search rules) c.index-3.ensures at)

-- else it may
reporting : (c : After-index-3)
    → slice_get c.requires.roles.commit_proxies.items c.args.proxy ≡ Some c.index-2.result.now
    → IsReporting (restored c.args.self.now c.requires) c.args.proxy c.index-2.result.now
reporting c before =
    let k = c.args.self.now in
    let ok = its (restored k c.requires) c.requires.refines c.args.proxy c.index-2.result.now before in
    passes (restored k c.requires) c.requires.refines c.args.proxy c.index-2.result.now before c.check_logged.result _
    (c.check_logged.ensures.wrong k.config k.book.items (known_to k.sequencer c.args.proxy) ok)
    (c.check_logged.ensures.answers k.config k.book.items (known_to k.sequencer c.args.proxy) ok)
    c.in_ok-check_logged.field-0 c.in_ok-check_logged.was

pub index-requires-4 : goal.index-requires-4
index-requires-4 c =
    let found = goal.at.index-requires-4 c in
    let same = again found.After-index-3 (here found.After-index-2) in
    let inside = (reporting found.After-index-3 (was found.After-index-2)).inside in
    let within = subst (λ (role : CommitProxyRole). role.entry < length c.args.self.now.book.items) same inside in
    search rules

-- what the batch's entry is, whose version is one that was issued
module _ (c : After-index-4)
    (at : slice_get c.args.self.now.commit_proxies.items c.args.proxy ≡ Some c.index-2.result.now)
    (same : c.index-2.result.now ≡ c.index-3.result.now)
    (may : IsReporting (restored c.args.self.now c.requires) c.args.proxy c.index-2.result.now) where
  entry-there : slice_get c.args.self.now.book.items c.index-2.result.now.entry ≡ Some c.index-4.result.now
  entry-there =
      read-there c.args.self.now.book.items c.index-2.result.now.entry c.index-4.result.now may.inside
      (rw same c.index-4.ensures)

  issued : c.index-4.result.now.version ≤ last_version c.args.self.now.book.items
  issued =
      let k = c.args.self.now in
      below-last k.book.items
      (entries-rising (suc (length k.config.resolver_splits)) k.book.items c.requires.refines.book.entries)
      c.index-2.result.now.entry c.index-4.result.now entry-there

pub take_report-requires : goal.take_report-requires
take_report-requires c =
    let found = goal.at.take_report-requires c in
    let at = here found.After-index-2 in
    rw c.requires.refines.sequencer.last (issued found.After-index-4 at (again found.After-index-3 at)
    (reporting found.After-index-3 (was found.After-index-2)))

-- the committed version is raised, and the proxy that was read has reported
pub returns : goal.returns
returns c =
    let k = c.args.self.now in
    let before = c.requires.refines in
    let proxies = c.requires.roles.commit_proxies.items in
    let found = goal.at.returns c in
    let role = c.index-2.result.now in
    let entry = c.index-4.result.now in
    let at = here found.After-index-2 in
    let same = again found.After-index-3 at in
    let may = reporting found.After-index-3 (was found.After-index-2) in
    let reported : c.report.new.self ≡ record role { is_reported = true } =
    c.report.ensures
    ∙ ap (λ (role : CommitProxyRole). record role { is_reported = true })
    (one-item k.commit_proxies.items c.args.proxy c.index_mut-commit_proxy.result.now role (search rules)
    c.index_mut-commit_proxy.ensures.value at) in
    let committed = max k.sequencer.committed entry.version in
    let above : k.sequencer.committed ≤ committed = omega arith in
    let below = issued found.After-index-4 at same may in
    let within : committed ≤ last_version k.book.items = omega (arith, below, before.sequencer.committed) in
    proxy-goes_on k c.requires (step.Report c.args.proxy) c.args.proxy role c.report.new.self _ _ at
    (working found.After-index-2) refl refl refl refl (unused found.After-index-2) (
      may.goes_on entry (entry-there found.After-index-4 at same may)
          ∙ (λ i. Ok (record {
            answer = answered.Version (sym (c.committed.ensures.value
                ∙ ap (λ (s : Sequencer). s.committed) c.take_report.ensures) i);
            next = record (machine_of (restored k c.requires)) {
              pending = (sym c.take_report.ensures i).pending;
              window = (sym c.take_report.ensures i).window;
              committed = (sym c.take_report.ensures i).committed;
              commit_proxies = map seen_as (slice_set proxies c.args.proxy (sym reported i));
            };
          })),
      rw c.take_report.ensures
          (record {
            legal = before.legal;
            room = before.room;
            sequencer = record {
              proxies = before.sequencer.proxies;
              accepted = before.sequencer.accepted;
              last = before.sequencer.last;
              committed = within;
              resolvers = before.sequencer.resolvers;
              count = before.sequencer.count;
              targets = before.sequencer.targets;
              made = before.sequencer.made;
              horizon = before.sequencer.horizon;
              window = before.sequencer.window;
            };
            book = before.book;
            parts = before.parts;
            resolvers = before.resolvers;
            logs = before.logs;
            shard_map = before.shard_map;
            commit_proxies = rw reported (may.tied committed above);
            grv_proxies = before.grv_proxies;
            opened = open-weaken (ReadsWithin k.sequencer.committed) (ReadsWithin committed)
                (λ transcript below. omega (arith, below, above)) k.sessions before.opened;
            conflicts = before.conflicts;
          }),
    )
