-- What operations that are done one after another come to.
use Rattle.std.proofs.Common.{◌≡◌, ◌∙◌, ap, subst, refl, ℕ, List, [], ◌∷◌, Option, Some, None, Result, Ok, Err}
use Rattle.std.specs.Prelude.{IfSome, OnOk}
use Rattle.std.specs.Int.{to_be_bytes, w32}
use Rattle.std.proofs.Math.Logic.{inl, inr}
use Rattle.fdb_keys.specs.Points.{Point}
use Rattle.fdb_client.specs.declared.program.Op.{Op}
use Rattle.fdb_client.specs.declared.program.Reply.{Reply}
use Rattle.fdb_client.specs.declared.program.Transcript.{Transcript}
use Rattle.fdb_runtime.specs.Works.{IsUntouched}
use Rattle.fdb_layers.specs.Operations.{DoesMore, HasDone, reading}
use Rattle.fdb_layers.specs.Table.{clearing, forgetting, putting, record_key, removing, setting, IsOfTable}

-- what holds of a call that isn't refused, and what follows of it
pub on-ok : {T E : Type 0} (result : Result T E) (P Q : Type 0) → (P → Q) → OnOk result P → OnOk result Q
on-ok (Ok given) P Q so holds = so holds
on-ok (Err why) P Q so holds = tt

pub begun-none : (current : Option Transcript) → IsUntouched current → HasDone current []
begun-none None begun = begun
begun-none (Some transcript) begun = begun

-- the transcript of a transaction that did just these
pub ops-are : (current : Option Transcript) (done : List (Op × Reply)) → HasDone current done
    → IfSome current (λ (transcript : Transcript). transcript.ops ≡ done)
ops-are None done has = absurd has
ops-are (Some transcript) done has = has

-- The record of the ID was read, and its entry forgotten, by a slice of the ID each.
module _ (a b c : Option Transcript) (key : Point) (first second id : List ℕ) (had : Option (List ℕ))
    (is : key ≡ record_key first) (first-is : first ≡ id) (second-is : second ≡ id) (begun : IsUntouched a)
    (reads : DoesMore a (reading key had ∷ []) b) (forgets : DoesMore b (forgetting second had) c) where
  forgotten : HasDone c (reading (record_key id) had ∷ forgetting id had)
  forgotten = subst (λ (text : List ℕ). DoesMore b (forgetting text had) c) second-is forgets
      (reading (record_key id) had ∷ [])
      (subst (λ (k : Point). HasDone b (reading k had ∷ [])) (is ∙ ap record_key first-is)
      (reads [] (begun-none a begun)))

  -- so a put is done, and is one of the table's transactions
  pub put-done : (d : Option Transcript) (third bytes value : List ℕ) → third ≡ id → bytes ≡ value
      → DoesMore c (setting third bytes) d → HasDone d (putting id had value)
  put-done d third bytes value third-is bytes-are puts =
      subst (λ (text : List ℕ). DoesMore c (setting id text) d) bytes-are
      (subst (λ (text : List ℕ). DoesMore c (setting text bytes) d) third-is puts)
      (reading (record_key id) had ∷ forgetting id had) forgotten

  -- and so is a removal
  pub removal-done : (d : Option Transcript) (third : List ℕ) → third ≡ id → DoesMore c (clearing third had) d
      → HasDone d (removing id had)
  removal-done d third third-is removes =
      subst (λ (text : List ℕ). DoesMore c (clearing text had) d) third-is removes
      (reading (record_key id) had ∷ forgetting id had) forgotten

pub put-allowed : (current : Option Transcript) (id : List ℕ) (value : ℕ) (had : Option (List ℕ))
    → HasDone current (putting id had (to_be_bytes w32 value)) → IfSome current IsOfTable
put-allowed None id value had done = absurd done
put-allowed (Some transcript) id value had done = inr (inl (id, had, to_be_bytes w32 value, refl, done))

pub removal-allowed : (current : Option Transcript) (id : List ℕ) (had : Option (List ℕ))
    → HasDone current (removing id had) → IfSome current IsOfTable
removal-allowed None id had done = absurd done
removal-allowed (Some transcript) id had done = inr (inr (id, had, done))
