use Rattle.std.proofs.Common.{◌≡◌, rules}
use Rattle.fdb_layers.specs.Operations.{DoesMore, HasDone}
use Rattle.fdb_layers.specs.Table.{clearing, removing}
use Rattle.fdb_layers.proofs.DoingLemmas.{on-ok, ops-are, removal-allowed, removal-done}
use Rattle.fdb_layers.proofs.records.RemoveRecordWorkIndexedTable.run.Given as given
use Rattle.fdb_layers.proofs.records.RemoveRecordWorkIndexedTable.run.Goals as goal

-- the whole removal is done, once the last part of it is
done : (g : given.Over) (c : goal.Joined-row-3 g)
    → DoesMore c.forget.new.session.current (clearing c.as_slice-3.result.now c.in_ok-self.field-0)
    c.remove.new.session.current
    → HasDone c.remove.new.session.current (removing c.args.self.now.id c.in_ok-self.field-0)
done g c removes =
    let first : c.as_slice.result.now ≡ c.args.self.now.id = search rules in
    let second : c.as_slice-2.result.now ≡ c.args.self.now.id = search rules in
    let third : c.as_slice-3.result.now ≡ c.args.self.now.id = search rules in
    removal-done c.args.session.now.current c.read.new.session.current c.forget.new.session.current
    c.in_ok-row.row c.as_slice.result.now c.as_slice-2.result.now c.args.self.now.id c.in_ok-self.field-0
    c.in_ok-row.ensures first second c.requires.begun c.in_ok-self.ensures.reads c.in_ok-forget.ensures.forgets
    c.remove.new.session.current c.as_slice-3.result.now third removes

pub returns-clause-allowed : goal.returns-clause-allowed
returns-clause-allowed g c =
    on-ok c.remove.result _ _
    (λ removes. removal-allowed c.remove.new.session.current c.args.self.now.id c.in_ok-self.field-0 (done g c removes))
    c.remove.ensures.removes

pub returns-clause-done : goal.returns-clause-done
returns-clause-done g c =
    on-ok c.remove.result _ _
    (λ removes. ops-are c.remove.new.session.current (removing c.args.self.now.id c.in_ok-self.field-0)
    (done g c removes))
    c.remove.ensures.removes
