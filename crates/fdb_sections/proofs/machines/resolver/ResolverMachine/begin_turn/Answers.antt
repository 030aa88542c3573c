use Rattle.std.proofs.Common.{◌≡◌, ◌∙◌, ap, ap₂, Some, rules}
use Rattle.std.specs.FinMap.{FinMap, get, remove}
use Rattle.std.specs.Option.{unwrap_or}
use Rattle.std.specs.Ordering.{nat_cmp}
use Rattle.fdb_txn.specs.book.Book.{last_version}
use Rattle.fdb_sections.specs.declared.machines.resolver.SentPart.{SentPart}
use Rattle.fdb_sections.proofs.ResolverMachineLemmas.{turn-now}
use Rattle.fdb_sections.proofs.machines.resolver.ResolverMachine.begin_turn.Goals as goal

pub returns : goal.returns
returns g c =
    let it = c.args.self.now in
    let version = last_version it.at.front in
    let others : c.ready.new.self ≡ remove it.early version =
    c.ready.ensures.others ∙ ap (remove it.early) c.version.ensures in
    let first : c.unwrap_or-first.result ≡ unwrap_or (get it.early version) c.args.sent = search rules in
    ap₂ (λ waiting turn. record it { early = waiting; turn = Some turn }) others first
    ∙ turn-now it c.args.sent c.requires.none c.requires.comes
