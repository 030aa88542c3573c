use Rattle.std.proofs.Common.{◌≡◌, ◌∙◌, sym, ◌<◌, ◌≤◌, length, Some, None, refl, arith, rules}
use Rattle.std.proofs.lemmas.Option.{slice_get_read}
use Rattle.std.proofs.lemmas.List.{length-map}
use Rattle.fdb_machine.specs.machine.CommitProxySteps.{taken_by_sender}
use Rattle.fdb_core.specs.refinement.Cluster.{machine_of}
use Rattle.fdb_core.specs.refinement.commit_proxy.Ties.{seen_as}
use Rattle.fdb_core.specs.refinement.Views.{sender_of}
use Rattle.fdb_core.proofs.refinement.commit_proxy.Receiving.{nobody, not-taken, no-entry, no-proxy}
use Rattle.fdb_core.proofs.cluster.Cluster.receiver.Goals as goal
use Rattle.fdb_core.proofs.cluster.Cluster.receiver.Goals.{then-taken-entry-via-then-taken-entry}
use Rattle.fdb_core.proofs.cluster.Cluster.receiver.Goals.{then-taken-entry-via-else-taken-entry+then-entry-len}

pub returns-in_default : goal.returns-in_default
returns-in_default c =
    let none : taken_by_sender (machine_of c.args.self.now) (sender_of c.args.sender) ≡ None = search rules in
    nobody (machine_of c.args.self.now) c.args.entry (sender_of c.args.sender) none

pub returns-then-taken-entry : goal.returns-then-taken-entry
returns-then-taken-entry c =
    let m = machine_of c.args.self.now in
    let took : taken_by_sender m (sender_of c.args.sender) ≡ Some c.in-Some.taken =
    sym c.taken_by.ensures ∙ c.in-Some.is in
    elim c.then-taken-entry.branch [
      | then-taken-entry-via-then-taken-entry w ↦
          not-taken m c.args.entry (sender_of c.args.sender) c.in-Some.taken took (omega (arith, w.if-taken-entry.true))
      | then-taken-entry-via-else-taken-entry+then-entry-len w ↦
          let past : length c.args.self.now.entry_proxies.items ≤ c.args.entry = search rules in
          no-entry m c.args.entry (sender_of c.args.sender) c.in-Some.taken took
          (omega (arith, w.if-taken-entry.false)) past
    ]

pub returns-then-at-len : goal.returns-then-at-len
returns-then-at-len c =
    let k = c.args.self.now in
    let took : taken_by_sender (machine_of k) (sender_of c.args.sender) ≡ Some c.in-Some.taken =
    sym c.taken_by.ensures ∙ c.in-Some.is in
    let inside : c.args.entry < length k.entry_proxies.items = search rules in
    let its = slice_get_read k.entry_proxies.items (length k.entry_proxies.items) c.args.entry c.index.result.now refl
    inside c.index.ensures in
    let past : length k.commit_proxies.items ≤ c.index.result.now = search rules in
    let count = length-map k.commit_proxies.items seen_as in
    no-proxy (machine_of k) c.args.entry (sender_of c.args.sender) c.in-Some.taken c.index.result.now took
    (omega (arith, c.if-taken-entry.false)) its (omega (arith, past, count))

pub returns : goal.returns
returns c =
    let k = c.args.self.now in
    let inside : c.args.entry < length k.entry_proxies.items = search rules in
    let there : c.index.result.now < length k.commit_proxies.items = search rules in
    let count = length-map k.commit_proxies.items seen_as in
    record {
      taken = c.in-Some.taken;
      took = sym c.taken_by.ensures ∙ c.in-Some.is;
      within = omega (arith, c.if-taken-entry.false);
      its = slice_get_read k.entry_proxies.items (length k.entry_proxies.items) c.args.entry c.index.result.now refl
          inside c.index.ensures;
      there = omega (arith, there, count);
    }
