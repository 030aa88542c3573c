use Rattle.std.proofs.Common.{◌≡◌, ◌∙◌, rules}
use Rattle.std.specs.BTreeMap.{insert_entry, is_at}
use Rattle.std.specs.Cmp.Lexicographic.{slice_cmp}
use Rattle.std.specs.Map.{remove_entry}
use Rattle.std.specs.Ordering.{nat_cmp}
use Rattle.fdb_keys.proofs.RangeMapLemmas.{taken_back}
use Rattle.fdb_keys.proofs.range_map.replace_beside_new.Goals as goal

pub returns-in-Err-clause-second_err : goal.returns-in-Err-clause-second_err
returns-in-Err-clause-second_err c =
    let entries = c.args.second.now.entries in
    let begin = c.args.begin.now in
    let removed : c.remove.new.self.entries
    ≡ remove_entry (is_at (slice_cmp nat_cmp begin))
    (insert_entry (slice_cmp nat_cmp) entries begin c.args.second_range)
    = search rules in
    removed ∙ taken_back entries begin c.args.second_range c.requires.absent
