use Rattle.std.proofs.Common.{subst, false}
use Rattle.fdb_keys.specs.Points.{Point}
use Rattle.fdb_client.specs.declared.program.Op.TheVariants as op
use Rattle.fdb_client.specs.declared.program.Reply.TheVariants as reply
use Rattle.fdb_sections.specs.Reading.{HasRead}
use Rattle.fdb_layers.proofs.CountingLemmas.{given-open, reads-equal, reads-stand}
use Rattle.fdb_layers.proofs.counting.read_keys.Goals as goal

pub returns-clause-stands : goal.returns-clause-stands
returns-clause-stands g c =
    let splits = g.B.ClusterName.config.resolver_splits in
    reads-stand splits c.args.session.now c.get.new.self c.get-2.new.self c.in_ok-one.one c.in_ok-other.other
    c.requires.begun (given-open c.in_ok-one.one c.in_ok-one.ensures.none)
    (given-open c.in_ok-other.other c.in_ok-other.ensures.none)
    (subst (λ (key : Point). HasRead splits c.args.session.now (op.Get key false) (reply.Value c.in_ok-one.one)
    c.get.new.self) c.requires.first c.in_ok-one.ensures.answered)
    (subst (λ (key : Point). HasRead splits c.get.new.self (op.Get key false) (reply.Value c.in_ok-other.other)
    c.get-2.new.self) c.requires.second c.in_ok-other.ensures.answered)

pub returns-clause-equal : goal.returns-clause-equal
returns-clause-equal g c =
    let splits = g.B.ClusterName.config.resolver_splits in
    reads-equal splits c.args.session.now c.get.new.self c.get-2.new.self c.in_ok-one.one c.in_ok-other.other
    c.requires.begun (given-open c.in_ok-one.one c.in_ok-one.ensures.none)
    (given-open c.in_ok-other.other c.in_ok-other.ensures.none)
    (subst (λ (key : Point). HasRead splits c.args.session.now (op.Get key false) (reply.Value c.in_ok-one.one)
    c.get.new.self) c.requires.first c.in_ok-one.ensures.answered)
    (subst (λ (key : Point). HasRead splits c.get.new.self (op.Get key false) (reply.Value c.in_ok-other.other)
    c.get-2.new.self) c.requires.second c.in_ok-other.ensures.answered)
    c.know_layer.ensures
