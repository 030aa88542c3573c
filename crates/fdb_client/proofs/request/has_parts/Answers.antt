use Rattle.std.proofs.Common.{◌≡◌, ◌∙◌, sym, ap, refl, not}
use Rattle.std.proofs.lemmas.Bool.{both_ways, not-false}
use Rattle.fdb_keys.proofs.Exports.{range_set_eq_decides, items_eq_decides}
use Rattle.fdb_mutations.specs.Equality.{mutation_eq}
use Rattle.fdb_mutations.proofs.Exports.{mutation_eq_decides}
use Rattle.fdb_txn.proofs.Exports.{txn_id_eq_decides}
use Rattle.fdb_txn.specs.book.Transactions.{Transaction}
use Rattle.fdb_client.proofs.request.has_parts.Goals as goal

pub returns-then-ne-2 : goal.returns-then-ne-2
returns-then-ne-2 c = (
  λ never. absurd (both_ways _ refl never),
  λ same.
      let equal = (range_set_eq_decides c.reads.result.now c.args.reads.now).1
      (c.reads.ensures ∙ ap (λ (t : Transaction). t.reads) same) in
      absurd (both_ways _ (c.ne-2.ensures ∙ ap not equal) c.if-ne-2.true),
)

pub returns-then-ne-3 : goal.returns-then-ne-3
returns-then-ne-3 c = (
  λ never. absurd (both_ways _ refl never),
  λ same.
      let equal = (range_set_eq_decides c.writes.result.now c.args.writes.now).1
      (c.writes.ensures.value ∙ ap (λ (t : Transaction). t.writes) same) in
      absurd (both_ways _ (c.ne-3.ensures ∙ ap not equal) c.if-ne-3.true),
)

pub returns : goal.returns
returns c =
    let id = (txn_id_eq_decides c.id.result c.args.transcript.now.id).0
    (not-false _ (sym c.ne.ensures ∙ c.if-ne.false)) in
    let reads = (range_set_eq_decides c.reads.result.now c.args.reads.now).0
    (not-false _ (sym c.ne-2.ensures ∙ c.if-ne-2.false)) in
    let writes = (range_set_eq_decides c.writes.result.now c.args.writes.now).0
    (not-false _ (sym c.ne-3.ensures ∙ c.if-ne-3.false)) in
    let decides = items_eq_decides mutation_eq mutation_eq_decides c.mutations.result.now c.args.mutations.now in (
      λ equal.
          let mutations = sym c.mutations.ensures ∙ decides.0 (sym c.eq.ensures ∙ equal) in
          let named = sym c.id.ensures ∙ id in
          let read : c.args.transaction.now.read ≡ c.args.transcript.now.read_version =
          sym c.read_version.ensures ∙ c.if-read_version-transcript.false in
          let reading = sym c.reads.ensures ∙ reads in
          let writing = sym c.writes.ensures.value ∙ writes in
          λ i. record {
            id = named i;
            read = read i;
            reads = reading i;
            writes = writing i;
            mutations = mutations i;
          },
      λ same. c.eq.ensures ∙ decides.1 (c.mutations.ensures ∙ ap (λ (t : Transaction). t.mutations) same),
    )
