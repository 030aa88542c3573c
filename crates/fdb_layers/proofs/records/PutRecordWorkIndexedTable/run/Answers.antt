use Rattle.std.proofs.Common.{◌≡◌, rules}
use Rattle.std.specs.Int.{to_be_bytes, w32}
use Rattle.fdb_layers.specs.Operations.{DoesMore, HasDone}
use Rattle.fdb_layers.specs.Table.{putting, setting}
use Rattle.fdb_layers.proofs.DoingLemmas.{on-ok, ops-are, put-allowed, put-done}
use Rattle.fdb_layers.proofs.records.PutRecordWorkIndexedTable.run.Given as given
use Rattle.fdb_layers.proofs.records.PutRecordWorkIndexedTable.run.Goals as goal

-- the whole put is done, once the last part of it is
done : (g : given.Over) (c : goal.Joined-row-3 g)
    → DoesMore c.forget.new.session.current (setting c.as_slice-3.result.now c.to_be_bytes.result)
    c.put.new.session.current
    → HasDone c.put.new.session.current
    (putting c.args.self.now.id c.in_ok-self.field-0 (to_be_bytes w32 c.args.self.now.value))
done g c puts =
    let first : c.as_slice.result.now ≡ c.args.self.now.id = search rules in
    let second : c.as_slice-2.result.now ≡ c.args.self.now.id = search rules in
    let third : c.as_slice-3.result.now ≡ c.args.self.now.id = search rules in
    let bytes : c.to_be_bytes.result ≡ to_be_bytes w32 c.args.self.now.value = search rules in
    put-done c.args.session.now.current c.read.new.session.current c.forget.new.session.current c.in_ok-row.row
    c.as_slice.result.now c.as_slice-2.result.now c.args.self.now.id c.in_ok-self.field-0 c.in_ok-row.ensures first
    second c.requires.begun c.in_ok-self.ensures.reads c.in_ok-forget.ensures.forgets c.put.new.session.current
    c.as_slice-3.result.now c.to_be_bytes.result (to_be_bytes w32 c.args.self.now.value) third bytes puts

pub returns-clause-allowed : goal.returns-clause-allowed
returns-clause-allowed g c =
    on-ok c.put.result _ _
    (λ puts. put-allowed c.put.new.session.current c.args.self.now.id c.args.self.now.value c.in_ok-self.field-0
    (done g c puts))
    c.put.ensures.puts

pub returns-clause-done : goal.returns-clause-done
returns-clause-done g c =
    on-ok c.put.result _ _
    (λ puts. ops-are c.put.new.session.current
    (putting c.args.self.now.id c.in_ok-self.field-0 (to_be_bytes w32 c.args.self.now.value)) (done g c puts))
    c.put.ensures.puts
