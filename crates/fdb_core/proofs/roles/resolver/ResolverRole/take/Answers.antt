use Rattle.std.proofs.Common.{◌≡◌, ◌∙◌, ap, ◌+◌, ◌++◌, [], ◌∷◌, List, ℕ, refl, Err, length, arith, rules}
use Rattle.fdb_resolver.specs.declared.part.Item.{Item}
use Rattle.fdb_resolver.specs.declared.verdict.Verdict.{Verdict}
use Rattle.fdb_resolver.specs.declared.verdict.Verdicts.{Verdicts}
use Rattle.fdb_resolver.specs.Resolvers.{HasFailed, IsAnswer, part_fault}
use Rattle.fdb_machine.proofs.Exports.{left-or-failed}
use Rattle.fdb_roles.proofs.Exports.{answers-fault}
use Rattle.fdb_core.proofs.refinement.resolver.Failing.{as-many}
use Rattle.fdb_core.proofs.refinement.resolver.Resolving.{lacks-memory-alone, takes-next}
use Rattle.fdb_core.proofs.roles.resolver.ResolverRole.take.Goals as goal

pub returns-in_err-verdicts-clause-takes : goal.returns-in_err-verdicts-clause-takes
returns-in_err-verdicts-clause-takes c splits before entry i index at entries risen of =
    let same : c.from_residual-in_err-verdicts.result ≡ Err c.in_err-verdicts.field-0.0 = search rules in
    rw same (lacks-memory-alone splits before entry i index c.args.self.now at entries risen c.args.part.now of
    (record c.args.self.now { state = c.take.new.self }) c.in_err-verdicts.field-0.0 c.in_err-verdicts.ensures.answers)

-- where its state refuses, it took and sent nothing
pub returns-in_err-verdicts-clause-left : goal.returns-in_err-verdicts-clause-left
returns-in_err-verdicts-clause-left c =
    let same : c.from_residual-in_err-verdicts.result ≡ Err c.in_err-verdicts.field-0.0 = search rules in
    rw same (record {
      taken = refl;
      sent = c.reserve.ensures.items;
      state = left-or-failed (part_fault c.args.self.now.state c.args.part.now) c.args.self.now.state c.take.new.self
          (HasFailed c.args.self.now.state c.take.new.self) c.in_err-verdicts.ensures.refused
          c.in_err-verdicts.ensures.failed;
    })

pub returns-clause-takes : goal.returns-clause-takes
returns-clause-takes c splits before entry i index at entries risen of =
    let same : c.from_vec.result ≡ c.in_ok-verdicts.verdicts.answers = search rules in
    takes-next splits before entry i index c.args.self.now at entries risen c.args.part.now of c.take.new.self
    c.in_ok-verdicts.verdicts c.from_vec.result
    (record { state = c.take.new.self; taken = c.args.self.now.taken + 1; sent = c.push_reserved.new.self })
    c.in_ok-verdicts.ensures.answers c.in_ok-verdicts.ensures.taken same refl refl
    (c.push_reserved.ensures.items
    ∙ ap (λ (sent : List Verdicts). sent ++ c.in_ok-verdicts.verdicts ∷ []) c.reserve.ensures.items)

pub copy_all-requires : goal.copy_all-requires
copy_all-requires c =
    let many = as-many c.args.part.now c.args.self.now.state c.in_ok-verdicts.verdicts
    (answers-fault (part_fault c.args.self.now.state c.args.part.now) c.in_ok-verdicts.verdicts
    (IsAnswer c.args.self.now.state c.args.part.now) c.in_ok-verdicts.ensures.answers).1 in
    let items : length c.as_slice.result.now ≡ length c.args.part.now.items =
    ap (λ (list : List Item). length list) c.as_slice.ensures in
    let answers : length c.as_slice-2.result.now ≡ length c.in_ok-verdicts.verdicts.answers =
    ap (λ (list : List (ℕ × Verdict)). length list) c.as_slice-2.ensures in
    let room = c.in_ok-answer.ensures.capacity in
    let none = c.in_ok-answer.ensures.len in
    omega (arith, many, items, answers, room, none)
