-- The table, worked.
use Rattle.std.proofs.Common.{◌≡◌, ◌∙◌, sym, ap, refl, ℕ, List, [], ◌∷◌, Some, None}
use Rattle.std.specs.Prelude.{codes}
use Rattle.std.specs.FinMap.{get}
use Rattle.std.proofs.Math.Logic.{inl, inr}
use Rattle.fdb_mutations.specs.Maps.{Map}
use Rattle.fdb_mutations.specs.Mutations.{effects}
use Rattle.fdb_txn.proofs.Exports.{get-effects}
use Rattle.fdb_client.specs.declared.program.Op.{Op}
use Rattle.fdb_client.specs.declared.program.Reply.{Reply}
use Rattle.fdb_client.specs.declared.program.Reply.TheVariants.{Value}
use Rattle.fdb_layers.specs.Operations.{reading}
use Rattle.fdb_layers.specs.Table.{record_key, entry_key, putting, setting, AreIndexed}
use Rattle.fdb_layers.specs.TableExamples.{pink_for_ann, PinkIsPut, ForgetfulPutsFail}
use Rattle.fdb_layers.proofs.OperationsLemmas.{written, nowhere, nothing-at, of_ops, AgreeOn, answered-so, differ}
use Rattle.fdb_layers.proofs.TableLemmas.{put-indexed, table_starts}

pub pink_is_put : PinkIsPut
pink_is_put None transcript map is read = (
  inr (inl (codes "ann", None, codes "pink", refl, is)),
  answered-so map transcript (pink_for_ann None) is
      ((λ ordinary. refl), ((λ ordinary. refl), ((λ ordinary. ap Value (sym read)), tt))),
)
pink_is_put (Some old) transcript map is read = (
  inr (inl (codes "ann", Some old, codes "pink", refl, is)),
  answered-so map transcript (pink_for_ann (Some old)) is
      ((λ ordinary. refl), ((λ ordinary. refl), ((λ ordinary. refl), ((λ ordinary. ap Value (sym read)), tt)))),
)

-- the first put of ann's record, and a second one that forgets it
abbrev first : List (Op × Reply)
first = putting (codes "ann") None (codes "blue")

abbrev second : List (Op × Reply)
second = reading (record_key (codes "ann")) (Some (codes "blue")) ∷ setting (codes "ann") (codes "pink")

-- the map after the first put
abbrev blue : Map
blue = effects nowhere (written 0 0 first)

abbrev blue_entry : List ℕ
blue_entry = entry_key (codes "blue") (codes "ann")

blue-indexed : AreIndexed blue
blue-indexed = put-indexed nowhere 0 0 table_starts (codes "ann") None (codes "blue") refl
    (nothing-at (record_key (codes "ann")))

blue-read : AgreeOn blue second
blue-read = (
  (λ ordinary. refl),
  (
    (λ ordinary. refl),
    ((λ ordinary. ap Value (sym (get-effects nowhere (written 0 0 first) (record_key (codes "ann"))))), tt),
  ),
)

pub forgetful_puts_fail : ForgetfulPutsFail
forgetful_puts_fail keeps =
    let after : AreIndexed (effects blue (written 0 0 second)) = keeps blue (of_ops second) 0 0
    (codes "ann", Some (codes "blue"), codes "pink", refl, refl) blue-read blue-indexed in
    let stands : get (effects blue (written 0 0 second)) blue_entry ≡ Some [] =
    get-effects blue (written 0 0 second) blue_entry ∙ get-effects nowhere (written 0 0 first) blue_entry in
    differ (codes "pink") (codes "blue") refl
    (sym (get-effects blue (written 0 0 second) (record_key (codes "ann")))
    ∙ after.finds (codes "ann") (codes "blue") [] refl stands)
