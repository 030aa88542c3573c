use Rattle.std.proofs.Common.{◌≡◌, refl, rules, []}
use Rattle.std.specs.Int.{to_be_bytes, w32}
use Rattle.fdb_keys.specs.Prefixes.{prefix_range}
use Rattle.fdb_layers.specs.Finding.{all_behind}
use Rattle.fdb_layers.specs.Table.{entry_key}
use Rattle.fdb_layers.proofs.FindingLemmas.{finds}
use Rattle.fdb_layers.proofs.UnwrittenLemmas.{of-table, still-unwritten}
use Rattle.fdb_layers.proofs.finding.find_by_value.Goals as goal

pub returns-clause-finds : goal.returns-clause-finds
returns-clause-finds g c =
    let start-is : c.in_ok-prefix.prefix ≡ entry_key (to_be_bytes w32 c.args.value) [] = search rules in
    let range-is : c.in_ok-range.range ≡ prefix_range c.in_ok-prefix.prefix = search rules in
    let ids-are : c.in_ok-ids.ids ≡ all_behind c.in_ok-prefix.prefix c.in_ok-pairs.pairs = search rules in
    finds g.B.ClusterName.config.resolver_splits c.args.session.now.front c.args.session.now.current
    (to_be_bytes w32 c.args.value) refl c.in_ok-prefix.prefix c.in_ok-range.range c.in_ok-pairs.pairs c.in_ok-ids.ids
    start-is range-is ids-are c.requires.begun c.in_ok-pairs.ensures.pairs c.know_layer.ensures

pub returns-clause-unwritten : goal.returns-clause-unwritten
returns-clause-unwritten g c = still-unwritten c.args.session.now.current c.read_range.new.session.current
    c.in_ok-range.range c.in_ok-pairs.pairs c.requires.begun c.in_ok-pairs.ensures.open c.in_ok-pairs.ensures.reads

pub returns-clause-allowed : goal.returns-clause-allowed
returns-clause-allowed g c = of-table c.read_range.new.session.current (returns-clause-unwritten g c)
