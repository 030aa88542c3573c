use Rattle.std.proofs.Common.{◌<◌, ◌%◌, length, rules}
use Rattle.std.proofs.lemmas.Result.{on_ok_weaker}
use Rattle.fdb_proxy.proofs.BodyLemmas.{given-one}
use Rattle.fdb_proxy.proofs.bodies.hand_out.Goals as goal

pub returns-in-Some-clause-given : goal.returns-in-Some-clause-given
returns-in-Some-clause-given c =
    let old = c.args.bodies.now.items in
    let within : c.in-Some.tag % c.args.logs < length old = search rules in
    on_ok_weaker c.move_to.result
    (given-one c.args.logs c.in-Some.tag c.args.sent old c.move_to.new.bodies.items c.in-Some.ensures within)
    c.move_to.ensures
