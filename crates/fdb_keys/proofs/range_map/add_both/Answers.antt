use Rattle.std.proofs.Common.{◌≡◌, ◌∙◌, ap}
use Rattle.std.specs.BTreeMap.{insert_entry}
use Rattle.std.specs.Cmp.Lexicographic.{slice_cmp}
use Rattle.std.specs.Ordering.{nat_cmp}
use Rattle.fdb_keys.specs.RangeMaps.{begins_within, without_points}
use Rattle.fdb_keys.proofs.RangeMapLemmas.{added-is}
use Rattle.fdb_keys.proofs.range_map.add_both.Goals as goal

pub returns-clause-first : goal.returns-clause-first
returns-clause-first c =
    let found = c.in_ok-first_joined in
    let joined = found.first_joined in
    let entries = c.args.first.now.entries in
    let others : c.as_slice.result.now ≡ begins_within joined entries =
    c.as_slice.ensures.value ∙ found.ensures.others in
    added-is c.args.range.now joined entries c.replace_in_both.new.first.entries c.requires.some c.requires.first_keyed
    c.requires.first_apart found.ensures.joined
    (c.in_ok-replace_in_both.ensures.first
    ∙ ap (λ keys. without_points keys (insert_entry (slice_cmp nat_cmp) entries joined.begin joined)) others)

pub returns-clause-second : goal.returns-clause-second
returns-clause-second c =
    let found = c.in_ok-second_joined in
    let joined = found.second_joined in
    let entries = c.args.second.now.entries in
    let others : c.as_slice-2.result.now ≡ begins_within joined entries =
    c.as_slice-2.ensures.value ∙ found.ensures.others in
    added-is c.args.range.now joined entries c.replace_in_both.new.second.entries c.requires.some
    c.requires.second_keyed c.requires.second_apart found.ensures.joined
    (c.in_ok-replace_in_both.ensures.second
    ∙ ap (λ keys. without_points keys (insert_entry (slice_cmp nat_cmp) entries joined.begin joined)) others)
