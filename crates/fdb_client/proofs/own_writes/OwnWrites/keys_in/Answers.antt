use Rattle.std.proofs.Common.{◌≡◌, ◌∙◌, sym, rules, true, false}
use Rattle.fdb_keys.specs.Ranges.{is_empty_range}
use Rattle.fdb_client.proofs.ClearedLemmas.{none_between, bounds-in_order}
use Rattle.fdb_client.proofs.own_writes.OwnWrites.keys_in.Goals as goal

pub returns-then-is_empty : goal.returns-then-is_empty
returns-then-is_empty c =
    let empty : is_empty_range c.args.range.now ≡ true = search rules in
    c.new-keys.ensures.items ∙ sym (none_between c.args.range.now c.args.self.now.keys.entries empty)

pub range-key-items-requires : goal.range-key-items-requires
range-key-items-requires c =
    let some : is_empty_range c.args.range.now ≡ false = search rules in
    rw (c.begin_text.ensures, c.end_text.ensures.value) (bounds-in_order c.args.range.now some)
