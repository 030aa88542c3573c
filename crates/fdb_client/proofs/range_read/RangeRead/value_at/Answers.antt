use Rattle.std.proofs.Common.{◌≡◌, ◌∙◌, sym, rules, None}
use Rattle.std.specs.Option.{option_copied}
use Rattle.fdb_client.specs.OwnWalk.{left_of, to_come}
use Rattle.fdb_client.proofs.OwnWalkLemmas.{key-entry}
use Rattle.fdb_client.proofs.range_read.RangeRead.value_at.Goals as goal

pub left_beside-requires : goal.left_beside-requires
left_beside-requires c =
    let reverse = c.args.self.now.reverse in
    let walk = c.args.walk.now in
    let none : option_copied c.left_at.result ≡ None = search rules in
    key-entry c.args.self.now.own.now (left_of reverse walk) reverse c.args.key.now c.requires.inside c.requires.first
    (to_come reverse walk) c.requires.at.entries
    ∙ sym (c.left_at.ensures reverse)
    ∙ none
