use Rattle.std.proofs.Common.{◌≡◌, refl, rules}
use Rattle.std.specs.BTreeMap.{insert_entry, is_at}
use Rattle.std.specs.Cmp.Lexicographic.{slice_cmp}
use Rattle.std.specs.Map.{lookup}
use Rattle.std.specs.Ordering.{nat_cmp}
use Rattle.fdb_keys.proofs.PutBackLemmas.{back_pushed-put, back_pushed-same}
use Rattle.fdb_keys.proofs.tree_joining.put.Goals as goal

pub returns-in_err-insert-clause-back : goal.returns-in_err-insert-clause-back
returns-in_err-insert-clause-back c =
    let key = c.in_ok-begin.begin in
    let entries = c.args.ranges.now.entries in
    let same : c.insert.new.self.entries ≡ entries = search rules in
    back_pushed-same c.args.held.now.items c.hold.new.held.items key
    (lookup (is_at (slice_cmp nat_cmp key)) entries) entries c.insert.new.self.entries c.in_ok-hold.ensures.ok refl
    c.insert.ensures.was_ordered same

pub returns-clause-back : goal.returns-clause-back
returns-clause-back c =
    let range = c.args.range.now in
    let key = c.in_ok-begin.begin in
    let entries = c.args.ranges.now.entries in
    let put : c.insert.new.self.entries ≡ insert_entry (slice_cmp nat_cmp) entries key range = search rules in
    back_pushed-put c.args.held.now.items c.hold.new.held.items key
    (lookup (is_at (slice_cmp nat_cmp key)) entries) entries c.insert.new.self.entries c.in_ok-hold.ensures.ok refl
    c.insert.ensures.was_ordered range put
