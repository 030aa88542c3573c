use Rattle.std.proofs.Common.{◌≡◌, ◌∙◌, sym, ap, true, false, Option, Some, None, rules}
use Rattle.std.specs.FinMap.{get}
use Rattle.std.proofs.lemmas.Bool.{cond-true, cond-false}
use Rattle.fdb_keys.specs.Ranges.{in_range}
use Rattle.fdb_keys.specs.Clipping.{clipped_range}
use Rattle.fdb_mutations.specs.declared.mutation.Mutation.{Mutation}
use Rattle.fdb_mutations.specs.Naming.{OneKey, KeysIn}
use Rattle.fdb_mutations.specs.Mutations.{named, effect_of}
use Rattle.fdb_mutations.proofs.Effects.{effect-clipped, clipped-key, clipped-range, cleared_in}
use Rattle.fdb_mutations.proofs.mutation.Mutation.clip.Goals as goal

pub returns-in_ok-clipped-in-Key-clause-answers : goal.returns-in_ok-clipped-in-Key-clause-answers
returns-in_ok-clipped-in-Key-clause-answers c =
    let one : OneKey c.in-Key.key.now ≡ named c.args.self.now = c.in-Key.ensures in
    let same : c.in_ok-clipped-in-Key.clipped ≡ c.args.self.now = search rules in
    let inside : in_range c.args.range.now c.in-Key.key.now ≡ true = search rules in
    ap Some same
    ∙ sym (clipped-key c.args.range.now c.args.self.now c.in-Key.key.now one
    ∙ cond-true (in_range c.args.range.now c.in-Key.key.now) (Some c.args.self.now) None inside)

pub returns-in_ok-clipped-in-Key-clause-effect : goal.returns-in_ok-clipped-in-Key-clause-effect
returns-in_ok-clipped-in-Key-clause-effect c = λ map x.
    ap (λ (m : Option Mutation). get (effect_of map m) x) (returns-in_ok-clipped-in-Key-clause-answers c)
    ∙ effect-clipped c.args.range.now c.args.self.now map x

pub returns-else-contains-clause-answers : goal.returns-else-contains-clause-answers
returns-else-contains-clause-answers c =
    let one : OneKey c.in-Key.key.now ≡ named c.args.self.now = c.in-Key.ensures in
    let outside : in_range c.args.range.now c.in-Key.key.now ≡ false = search rules in
    sym (clipped-key c.args.range.now c.args.self.now c.in-Key.key.now one
    ∙ cond-false (in_range c.args.range.now c.in-Key.key.now) (Some c.args.self.now) None outside)

pub returns-else-contains-clause-effect : goal.returns-else-contains-clause-effect
returns-else-contains-clause-effect c = λ map x.
    ap (λ (m : Option Mutation). get (effect_of map m) x) (returns-else-contains-clause-answers c)
    ∙ effect-clipped c.args.range.now c.args.self.now map x

pub returns-in-Some-clause-answers : goal.returns-in-Some-clause-answers
returns-in-Some-clause-answers c =
    let one : KeysIn c.in-Range.cleared.now ≡ named c.args.self.now = c.in-Range.ensures in
    let left : Some c.in-Some.range ≡ clipped_range c.in-Range.cleared.now c.args.range.now = search rules in
    ap cleared_in left ∙ sym (clipped-range c.args.range.now c.args.self.now c.in-Range.cleared.now one)

pub returns-in-Some-clause-effect : goal.returns-in-Some-clause-effect
returns-in-Some-clause-effect c = λ map x.
    ap (λ (m : Option Mutation). get (effect_of map m) x) (returns-in-Some-clause-answers c)
    ∙ effect-clipped c.args.range.now c.args.self.now map x

pub returns-in-None-clause-answers : goal.returns-in-None-clause-answers
returns-in-None-clause-answers c =
    let one : KeysIn c.in-Range.cleared.now ≡ named c.args.self.now = c.in-Range.ensures in
    let left : None ≡ clipped_range c.in-Range.cleared.now c.args.range.now = search rules in
    ap cleared_in left ∙ sym (clipped-range c.args.range.now c.args.self.now c.in-Range.cleared.now one)

pub returns-in-None-clause-effect : goal.returns-in-None-clause-effect
returns-in-None-clause-effect c = λ map x.
    ap (λ (m : Option Mutation). get (effect_of map m) x) (returns-in-None-clause-answers c)
    ∙ effect-clipped c.args.range.now c.args.self.now map x
