use Rattle.std.proofs.Common.{◌≡◌, sym, subst, true, List, rules}
use Rattle.fdb_keys.specs.Ranges.{Range, in_set}
use Rattle.fdb_mutations.specs.declared.mutation.Mutation.{Mutation}
use Rattle.fdb_txn.specs.book.Transactions.{some_names}
use Rattle.fdb_client.specs.Programs.{program, mutations_of}
use Rattle.fdb_client.proofs.WriteSetLemmas.{commit_request_of-names}
use Rattle.fdb_client.proofs.sealing.sealed_of.Goals as goal

pub from_joined-requires-clause-named : goal.from_joined-requires-clause-named
from_joined-requires-clause-named c = λ x named.
    let transcript = c.args.transcript.now in
    let same : c.in_ok-mutations-2.mutations ≡ mutations_of (program transcript.ops) = search rules in
    subst (λ (writes : List Range). in_set writes x ≡ true) (sym c.requires.writes)
    (commit_request_of-names transcript x (subst (λ (all : List Mutation). some_names all x ≡ true) same named))
