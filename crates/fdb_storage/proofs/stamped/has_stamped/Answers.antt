use Rattle.std.proofs.Common.{◌∙◌, ap, ℕ}
use Rattle.std.specs.List.{list_any}
use Rattle.fdb_mutations.specs.declared.mutation.Mutation.{Mutation}
use Rattle.fdb_mutations.specs.Stamping.{is_stamped}
use Rattle.fdb_txn.specs.rules.Messages.{Body}
use Rattle.fdb_storage.proofs.StampedLemmas.{any-mutations}
use Rattle.fdb_storage.proofs.stamped.has_stamped.Goals as goal

pub returns : goal.returns
returns c =
    c.any_is_stamped.ensures
    ∙ ap (λ (body : Body). list_any (λ (sent : ℕ × Mutation). is_stamped sent.1) body) c.as_slice.ensures
    ∙ any-mutations c.args.message.now.body
