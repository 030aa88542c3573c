use Rattle.std.proofs.Common.{◌≡◌, ◌∙◌, sym, false, rules, None, if◌then◌else◌}
use Rattle.fdb_mutations.specs.Maps.{Map}
use Rattle.fdb_mutations.specs.PairLaws.{given_of}
use Rattle.fdb_client.specs.declared.program.Op.TheVariants.{Get}
use Rattle.fdb_client.specs.declared.program.Op.TheVariants as operation
use Rattle.fdb_client.specs.LeftAt.{left_at}
use Rattle.fdb_client.specs.OwnWrites.{is_value}
use Rattle.fdb_client.specs.Programs.{copy}
use Rattle.fdb_client.proofs.AnsweredLemmas.{answered-get, answered-range}
use Rattle.fdb_client.proofs.FaultLemmas.{given}
use Rattle.fdb_client.proofs.TxnStateLemmas.{left_at-value}
use Rattle.fdb_client.proofs.answered.Written.is_answered.Goals as goal

pub pairs_of-requires-clause-copy : goal.pairs_of-requires-clause-copy
pairs_of-requires-clause-copy c =
    let now = c.args.self.now in
    let map = c.args.snapshot.now.map.now in (
      copy map c.requires.0,
      λ x. sym (left_at-value c.requires.0 now.own now.writes c.requires.1 x map),
    )

pub returns-in_ok-value-in-Get-default-false : goal.returns-in_ok-value-in-Get-default-false
returns-in_ok-value-in-Get-default-false c = λ earlier are.
    let now = c.args.self.now in
    let map = c.args.snapshot.now.map.now in
    let key = c.in-Get-default-false.key in
    let value = c.in_ok-value-in-Get-default-false.value in
    let is : c.args.op.now ≡ Get key false = search rules in
    let read = given _ (if is_value (left_at now.own key) then None else None) _
    c.in_ok-value-in-Get-default-false.ensures.value in
    answered-get map earlier c.args.op.now c.args.reply.now key value c.is_value.result is
    (read.1 ∙ left_at-value earlier now.own now.writes are key map)
    (rw c.as_ref.ensures.value at c.is_value.ensures)

pub returns-in_ok-pairs-in-Range-default-default-default-false :
    goal.returns-in_ok-pairs-in-Range-default-default-default-false
returns-in_ok-pairs-in-Range-default-default-default-false c = λ earlier are.
    let now = c.args.self.now in
    let map = c.args.snapshot.now.map.now in
    let here = c.in-Range-default-default-default-false in
    let pairs = c.in_ok-pairs-in-Range-default-default-default-false.pairs in
    let is : c.args.op.now ≡ operation.Range here.range here.limit here.reverse false = search rules in
    let after : Map = copy map earlier in
    let has : pairs ≡ given_of after here.range here.limit here.reverse =
    c.in_ok-pairs-in-Range-default-default-default-false.ensures after
    (λ x. sym (left_at-value earlier now.own now.writes are x map)) in
    answered-range map earlier c.args.op.now c.args.reply.now here.range here.limit here.reverse pairs
    c.is_pairs.result is has c.is_pairs.ensures
