use Rattle.std.proofs.Common.{◌≡◌, ◌<◌, ◌∙◌, ◌-◌, sym, ap, refl, subst, rules, true, false, length, Some, Err}
use Rattle.std.proofs.Common.{slice_get, arith}
use Rattle.std.specs.Prelude.{slice_index_or}
use Rattle.std.proofs.lemmas.Bool.{cond-true, cond-false}
use Rattle.std.proofs.lemmas.Option.{slice_get_read}
use Rattle.fdb_keys.specs.declared.refusal.Refusal.TheVariants.{NoMemory}
use Rattle.fdb_mutations.specs.Pairs.{first_of}
use Rattle.fdb_core.specs.declared.roles.shard.ShardRole.{ShardRole}
use Rattle.fdb_core.specs.refinement.shard.Reads.{ShardReads, AreReadable}
use Rattle.fdb_roles.specs.Wanted.{AreFew}
use Rattle.fdb_core.proofs.refinement.shard.Pages.{read_next, pairs_read, pairs-none, pairs-all}
use Rattle.fdb_roles.proofs.Exports.{first-none, first-few}
use Rattle.fdb_core.proofs.refinement.shard.Pages.{first-read}
use Rattle.fdb_core.proofs.roles.shard_reads.ShardReads.first_pairs.Goals as goal
use Rattle.fdb_core.proofs.roles.shard_reads.ShardReads.first_pairs.Goals.{After-index-self-number, then-reverse}
use Rattle.fdb_core.proofs.roles.shard_reads.ShardReads.first_pairs.Goals.{else-reverse}

readable : (c : After-index-self-number) → AreReadable c.args.self.now
readable c = subst AreReadable c.self.view_is c.self.invariant.1

within : (c : After-index-self-number) → c.loop-step.step < length c.args.self.now.shards
within c =
    let count = ap (λ (it : ShardReads). length it.shards) c.self.view_is in
    omega (arith, c.loop-step-test.true, count)

-- the shard that is read next
number-is : (c : After-index-self-number)
    → c.if-reverse.number ≡ read_next c.args.self.now c.args.reverse c.loop-step.step
number-is c = elim c.if-reverse.branch [
  | then-reverse w ↦
      let backwards : c.args.reverse ≡ true = search rules in
      w.number-is
      ∙ ap (λ (it : ShardReads). length it.shards - 1 - c.loop-step.step) c.self.view_is
      ∙ sym (cond-true c.args.reverse _ _ backwards)
  | else-reverse w ↦
      let forwards : c.args.reverse ≡ false = search rules in
      w.number-is ∙ sym (cond-false c.args.reverse _ _ forwards)
]

number-within : (c : After-index-self-number) → c.if-reverse.number < length c.self.inside.shards.now
number-within c = elim c.if-reverse.branch [
  | then-reverse w ↦ omega (arith, w.number-is, c.loop-step-test.true)
  | else-reverse w ↦ omega (arith, w.number-is, c.loop-step-test.true)
]

there : (c : After-index-self-number)
    → slice_get c.args.self.now.shards c.if-reverse.number
    ≡ Some (slice_index_or c.self.inside.shards.now c.if-reverse.number c.index-self-number.result)
there c =
    (subst (λ (it : ShardReads). slice_get it.shards c.if-reverse.number ≡ Some c.index-self-number.result)
    c.self.view_is
    (slice_get_read c.self.inside.shards.now (length c.self.inside.shards.now) c.if-reverse.number
    c.index-self-number.result refl (number-within c) c.index-self-number.is))
    ∙ ap (λ (role : ShardRole). Some role) c.index-self-number.is

pub loop-step-init : goal.loop-step-init
loop-step-init c =
    c.new-pairs.ensures.items
    ∙ sym (ap (first_of c.args.wanted)
    (pairs-none c.args.self.now c.args.range.now c.args.reverse (subst AreReadable c.self.view_is c.self.invariant.1))
    ∙ first-none c.args.wanted)

pub add_pairs_of-requires-clause-few : goal.add_pairs_of-requires-clause-few
add_pairs_of-requires-clause-few c =
    subst (AreFew c.args.wanted) (sym c.loop-step.invariant) (first-few c.args.wanted _)

pub returns-in_err-add_pairs_of : goal.returns-in_err-add_pairs_of
returns-in_err-add_pairs_of c =
    let here = (goal.at.returns-in_err-add_pairs_of c).After-index-self-number in
    let why = c.in_err-add_pairs_of.field-0.0 in
    let same : c.from_residual.result ≡ Err why = search rules in
    let lacks : why ≡ NoMemory = c.in_err-add_pairs_of.ensures c.if-reverse.number (there here) in
    rw same lacks

pub loop-step-preserved : goal.loop-step-preserved
loop-step-preserved c =
    let here = (goal.at.loop-step-preserved c).After-index-self-number in
    c.in_ok-add_pairs_of.ensures c.if-reverse.number (there here)
    ∙ first-read c.args.self.now c.args.range.now c.args.reverse c.args.wanted c.loop-step.step c.if-reverse.number
    (readable here) c.requires.legal (within here) (number-is here) c.loop-step.pairs.items c.loop-step.invariant

pub returns : goal.returns
returns c =
    let count = ap (λ (it : ShardReads). length it.shards) c.self.view_is in
    let at_end : c.loop-step.step ≡ length c.args.self.now.shards =
    omega (arith, c.loop-step-test.false, c.loop-step.auto.step-end, count) in
    c.from_vec.ensures
    ∙ c.loop-step.invariant
    ∙ ap (first_of c.args.wanted)
    (ap (pairs_read c.args.self.now c.args.range.now c.args.reverse) at_end
    ∙ pairs-all c.args.self.now c.args.range.now c.args.reverse
    (subst AreReadable c.self.view_is c.self.invariant.1))
