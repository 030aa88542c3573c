use Rattle.std.proofs.Common.{◌≡◌, ◌∙◌, refl, rules, true, false}
use Rattle.fdb_keys.specs.Ranges.{Range}
use Rattle.fdb_mutations.specs.Pairs.{scanned}
use Rattle.fdb_client.specs.Programs.{program}
use Rattle.fdb_client.specs.Unreadable.{unreadable_in}
use Rattle.fdb_client.proofs.TxnStateLemmas.{scan-says}
use Rattle.fdb_client.proofs.txn_state.TxnState.check_readable.Goals as goal

pub returns-then-is_unreadable_in : goal.returns-then-is_unreadable_in
returns-then-is_unreadable_in c =
    let now = c.args.self.now in
    let ops = program now.transcript.ops in
    let range : Range = scanned c.args.range.now c.args.limit c.args.reverse c.args.pairs.now in
    let part : c.in_ok-part.part ≡ range = search rules in
    let says : unreadable_in ops range ≡ true =
    scan-says ops now.own now.writes c.requires.kept.written range c.in_ok-part.part part c.is_unreadable_in.result
    c.is_unreadable_in.ensures ∙ c.if-is_unreadable_in.true in
    rw says refl

pub returns : goal.returns
returns c =
    let now = c.args.self.now in
    let ops = program now.transcript.ops in
    let range : Range = scanned c.args.range.now c.args.limit c.args.reverse c.args.pairs.now in
    let part : c.in_ok-part.part ≡ range = search rules in
    let says : unreadable_in ops range ≡ false =
    scan-says ops now.own now.writes c.requires.kept.written range c.in_ok-part.part part c.is_unreadable_in.result
    c.is_unreadable_in.ensures ∙ c.if-is_unreadable_in.false in
    rw says tt
