-- What a receipt tells of the run's map at its place.
use Rattle.std.proofs.Common.{◌≡◌, ◌∙◌, refl, ap, subst, ℕ, List, ◌∷◌, Some}
use Rattle.std.specs.Cmp.Lexicographic.{bytes_decides}
use Rattle.std.specs.FinMap.{get}
use Rattle.std.proofs.lemmas.Bool.{cond-true}
use Rattle.fdb_keys.specs.Points.{point_eq}
use Rattle.fdb_mutations.specs.Maps.{Map}
use Rattle.fdb_mutations.specs.declared.mutation.Mutation.TheVariants.{Set}
use Rattle.fdb_mutations.specs.Mutations.{effects}
use Rattle.fdb_mutations.proofs.Exports.{at_every_point}
use Rattle.fdb_txn.specs.book.Book.{Place}
use Rattle.fdb_txn.specs.book.Transactions.{Transaction}
use Rattle.fdb_txn.specs.rules.Admission.{committed}
use Rattle.fdb_txn.specs.rules.SerialMap.{serial_map}
use Rattle.fdb_txn.specs.rules.Stamped.{stamped_at, stamped_by}
use Rattle.fdb_client.specs.declared.program.Op.{Op}
use Rattle.fdb_client.specs.declared.program.Reply.{Reply}
use Rattle.fdb_client.specs.Programs.{program, mutations_of}
use Rattle.fdb_roles.specs.Spots.{IsSerializedAt, IsSerializedAtSpot}
use Rattle.fdb_sections.specs.ReceiptLaws.{ReceiptsTellTheMap}

pub receipts_tell_the_map : ReceiptsTellTheMap
receipts_tell_the_map splits receipt entry place version is spot-is =
    record {
      there = there;
      there_is = at.1;
      answered = at.5;
      after = left;
      set = λ key value ops.
          ap (λ (map : Map). get map key)
          (left ∙ ap (λ (all : List (Op × Reply)).
          effects before (stamped_by version there.0.number (mutations_of (program all)))) ops)
          ∙ at_every_point before (Set key value) key
          ∙ cond-true (point_eq key key) (Some value) (get before key) ((bytes_decides key key).1 refl);
    }
  where
    at : IsSerializedAt splits receipt.front receipt.transcript entry place version
    at = subst (IsSerializedAtSpot splits receipt.front receipt.transcript) spot-is is.serialized

    there : Place × List Place
    there = at.0

    before : Map
    before = serial_map splits there.1

    left : serial_map splits (there.0 ∷ there.1)
        ≡ effects before (stamped_by version there.0.number (mutations_of (program receipt.transcript.ops)))
    left =
        cond-true (committed splits there.1 there.0) (effects before (stamped_at there.0)) before at.4
        ∙ ap (λ (v : ℕ). effects before (stamped_by v there.0.number there.0.transaction.mutations)) at.2
        ∙ ap (λ (t : Transaction). effects before (stamped_by version there.0.number t.mutations)) at.3
