use Rattle.std.proofs.Common.{◌≡◌, ◌∙◌, refl, sym, subst, ℕ, suc, ◌+◌, drop, length, arith}
use Rattle.std.specs.Prelude.{⊤}
use Rattle.std.proofs.lemmas.Option.{slice_get_read}
use Rattle.fdb_owners.specs.Ownership.{HasLearnt, learn_fault}
use Rattle.fdb_proxy.proofs.TicketLemmas.{AreAbove, rising-at, agrees-next, given-leaves}
use Rattle.fdb_proxy.proofs.ticketing.learn_all.Goals as goal
use Rattle.fdb_proxy.proofs.ticketing.learn_all.Goals.{In_ok-learn}

learnt-by : (c : In_ok-learn) → HasLearnt c.loop-one.owners c.one-item.result.version
    c.as_slice.result.now c.learn.new.self
learnt-by c =
    given-leaves {T = ⊤} (learn_fault c.loop-one.owners c.one-item.result.version) tt
    (λ (given : ⊤). HasLearnt c.loop-one.owners c.one-item.result.version c.as_slice.result.now c.learn.new.self)
    c.in_ok-learn.ensures.answers

pub loop-one-preserved : goal.loop-one-preserved
loop-one-preserved c =
    let there = slice_get_read c.args.dated.now (length c.args.dated.now) c.loop-one.one-index c.one-item.result refl
    c.loop-one-test.true c.one-item.is in
    let has = learnt-by c in
    let rising = rising-at c.args.version c.args.dated.now c.loop-one.one-index
    c.one-item.result c.requires.rising there
    in
    let last = has.last in
    let count : suc c.loop-one.one-index ≡ c.loop-one.one-index + 1 = omega arith in
    record {
      agrees = agrees-next c.args.dated.now c.loop-one.one-index c.one-item.result c.as_slice.result.now
          c.args.owners.now
          c.loop-one.owners c.learn.new.self there c.as_slice.ensures has c.loop-one.invariant.agrees;
      splits = has.splits ∙ c.loop-one.invariant.splits;
      floor = has.floor ∙ c.loop-one.invariant.floor;
      last = omega (arith, last, rising.0);
      above = subst (λ (version : ℕ). AreAbove version (drop (c.loop-one.one-index + 1) c.args.dated.now)) (sym last)
          (subst (λ (k : ℕ). AreAbove c.one-item.result.version (drop k c.args.dated.now)) count rising.1);
    }
