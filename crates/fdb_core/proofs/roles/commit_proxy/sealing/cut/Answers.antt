use Rattle.std.proofs.Common.{◌≤◌, ◌∙◌, sym, length, rules}
use Rattle.std.proofs.lemmas.List.{take_all, drop_all}
use Rattle.fdb_core.proofs.roles.commit_proxy.sealing.cut.Goals as goal

pub returns-then-len-le-PLACE_LIMIT-clause-rest : goal.returns-then-len-le-PLACE_LIMIT-clause-rest
returns-then-len-le-PLACE_LIMIT-clause-rest c =
    let few : length c.args.waiting.now.items ≤ 4096 = search rules in
    c.new.ensures.items ∙ sym (drop_all 4096 c.args.waiting.now.items few)

pub returns-then-len-le-PLACE_LIMIT-clause-first : goal.returns-then-len-le-PLACE_LIMIT-clause-first
returns-then-len-le-PLACE_LIMIT-clause-first c =
    let few : length c.args.waiting.now.items ≤ 4096 = search rules in
    sym (take_all 4096 c.args.waiting.now.items few)
