use Rattle.std.proofs.Common.{◌∙◌, sym}
use Rattle.fdb_mutations.specs.Mutations.{value_after}
use Rattle.fdb_storage.proofs.ChangesLemmas.{changed-in, changed-mutation_key, changed-mutation_range, changed-outside}
use Rattle.fdb_storage.proofs.ChangesLemmas.{answers-then}
use Rattle.fdb_storage.proofs.applying.apply_mutation.Goals as goal

pub returns-in-Key-clause-changed : goal.returns-in-Key-clause-changed
returns-in-Key-clause-changed c =
    answers-then c.change.result _ _
    (λ changed. changed-in c.args.range.now c.args.version (λ x before. value_after x before c.args.mutation.now)
    c.args.map.now.keys.entries c.change.new.self.keys.entries
    (changed-mutation_key c.args.version c.in-Key.key.now c.args.mutation.now c.args.map.now.keys.entries
    c.change.new.self.keys.entries c.in-Key.ensures changed)) c.change.ensures.changed

pub returns-in-Key-2-clause-changed : goal.returns-in-Key-2-clause-changed
returns-in-Key-2-clause-changed c =
    changed-outside c.args.range.now c.args.version c.in-Key.key.now c.args.mutation.now c.args.map.now.keys.entries
    c.requires.ended c.requires.legal_keys c.in-Key.ensures (sym c.contains.ensures ∙ c.if-contains.false)

pub returns-in_ok-clear_range-in-Range-clause-changed : goal.returns-in_ok-clear_range-in-Range-clause-changed
returns-in_ok-clear_range-in-Range-clause-changed c =
    changed-in c.args.range.now c.args.version (λ x before. value_after x before c.args.mutation.now)
    c.args.map.now.keys.entries c.clear_range.new.map.keys.entries
    (changed-mutation_range c.args.version c.in-Range.cleared.now c.args.mutation.now c.args.map.now.keys.entries
    c.clear_range.new.map.keys.entries c.in-Range.ensures c.in_ok-clear_range-in-Range.ensures.changed)
