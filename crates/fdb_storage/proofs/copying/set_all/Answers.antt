use Rattle.std.proofs.Common.{◌∙◌, ap, take, arith}
use Rattle.std.specs.FinMap.{get}
use Rattle.fdb_mutations.specs.Maps.{Map}
use Rattle.fdb_storage.proofs.CopiedLemmas.{set-more, set-absent, apart-take}
use Rattle.fdb_storage.proofs.copying.set_all.Goals as goal

pub loop-key-preserved : goal.loop-key-preserved
loop-key-preserved c x =
    set-more x c.args.pairs.now c.loop-key.key-index c.loop-key-item.result c.args.target.now c.loop-key.target
    c.set_pair.new.target (omega arith) c.loop-key-item.is (c.loop-key.invariant x) c.in_ok-set_pair.ensures.answers

pub returns-in_err-set_pair-clause-others : goal.returns-in_err-set_pair-clause-others
returns-in_err-set_pair-clause-others c x apart =
    ap (λ (map : Map). get map x) c.in_err-set_pair.ensures.refused
    ∙ c.loop-key.invariant x
    ∙ set-absent x (take c.loop-key.key-index c.args.pairs.now) (get c.args.target.now x)
    (apart-take x c.args.pairs.now c.loop-key.key-index apart)

pub returns-clause-others : goal.returns-clause-others
returns-clause-others c x apart =
    c.loop-key.invariant x
    ∙ set-absent x (take c.loop-key.key-index c.args.pairs.now) (get c.args.target.now x)
    (apart-take x c.args.pairs.now c.loop-key.key-index apart)
