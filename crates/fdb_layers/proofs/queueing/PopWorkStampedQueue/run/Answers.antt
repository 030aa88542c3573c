use Rattle.std.proofs.Common.{◌≡◌, subst, List, ℕ, option_copied, rules}
use Rattle.fdb_keys.specs.Points.{Point}
use Rattle.fdb_layers.specs.Queue.{IsOldestIfAny}
use Rattle.fdb_layers.proofs.DoingLemmas.{on-ok}
use Rattle.fdb_layers.proofs.QueueingLemmas.{pop-allowed, pop-done}
use Rattle.fdb_layers.proofs.queueing.PopWorkStampedQueue.run.Goals as goal

pub returns-clause-allowed : goal.returns-clause-allowed
returns-clause-allowed g c =
    let there : c.as_slice.result.now ≡ c.in_ok-pairs.pairs = search rules in
    on-ok c.take.result _ _
    (λ takes. pop-allowed c.args.session.now.current c.read_all.new.session.current c.take.new.session.current
    c.in_ok-pairs.pairs (option_copied c.oldest-first.result) c.requires.begun c.in_ok-pairs.ensures.reads
    (subst (λ (pairs : List (Point × List ℕ)). IsOldestIfAny pairs (option_copied c.oldest-first.result)) there
    c.oldest-first.ensures) takes)
    c.take.ensures.takes

pub returns-clause-done : goal.returns-clause-done
returns-clause-done g c =
    let there : c.as_slice.result.now ≡ c.in_ok-pairs.pairs = search rules in
    on-ok c.take.result _ _
    (λ takes. pop-done c.args.session.now.current c.read_all.new.session.current c.take.new.session.current
    c.in_ok-pairs.pairs (option_copied c.oldest-first.result) c.requires.begun c.in_ok-pairs.ensures.reads
    (subst (λ (pairs : List (Point × List ℕ)). IsOldestIfAny pairs (option_copied c.oldest-first.result)) there
    c.oldest-first.ensures) takes c.in_ok-self.field-0 c.in_ok-self.ensures)
    c.take.ensures.takes
