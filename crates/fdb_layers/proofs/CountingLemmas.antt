-- What sessions of the counters read is equal.
use Rattle.std.proofs.Common.{◌≡◌, ◌∙◌, refl, sym, ap, subst, ℕ, List, [], ◌∷◌, ◌++◌, Option, Some, None, false}
use Rattle.std.specs.Prelude.{IfSome, Result, Ok, Err}
use Rattle.fdb_keys.specs.declared.refusal.Refusal.{Refusal}
use Rattle.fdb_keys.specs.declared.refusal.Refusal.TheVariants.{NoTransaction}
use Rattle.std.specs.Coded.{coded_option, coded_list, coded_ℕ}
use Rattle.std.specs.FinMap.{get}
use Rattle.std.proofs.Math.Logic.{∥∥₁_elim}
use Rattle.std.proofs.lemmas.Option.{same_Some}
use base.Stored.{Coded-set}
use Rattle.fdb_keys.specs.Points.{Point}
use Rattle.fdb_mutations.specs.Maps.{Map}
use Rattle.fdb_txn.specs.declared.entry.Entry.{Entry}
use Rattle.fdb_txn.specs.book.Book.{seen_of}
use Rattle.fdb_txn.specs.rules.SerialMap.{serial_map_at}
use Rattle.fdb_client.specs.TxnState.{with_op}
use Rattle.fdb_client.specs.Programs.{program, copy, reply_on}
use Rattle.fdb_client.specs.declared.program.Op.{Op}
use Rattle.fdb_client.specs.declared.program.Op.TheVariants as op
use Rattle.fdb_client.specs.declared.program.Reply.{Reply}
use Rattle.fdb_client.specs.declared.program.Reply.TheVariants as reply
use Rattle.fdb_client.specs.declared.program.Transcript.{Transcript}
use Rattle.fdb_sections.specs.Asking.{HoldsOnRun}
use Rattle.fdb_sections.specs.Reading.{HasRead}
use Rattle.fdb_sections.specs.Sessions.{Session, with_current}
use Rattle.fdb_layers.specs.Counters.{first_counter, second_counter, AreEqual}
use Rattle.fdb_layers.proofs.OperationsLemmas.{same-value}

-- the open transaction has done nothing
abbrev pub IsBegun : Session → Type 0
IsBegun it = IfSome it.current (λ (transcript : Transcript). transcript.ops ≡ [])

-- a call that is refused where nothing is open gives something only where something is
pub given-open : {T : Type 0} {current : Option Transcript} (given : T)
    → (let refused : Result T Refusal = Err NoTransaction in current ≡ None → Ok given ≡ refused) → current ≡ None → ⊥
given-open given refused is = let wrong = refused is in cc

-- the serial map of a front at the read version of a transcript
abbrev pub run : List Point → List Entry → Transcript → Map
run splits front transcript = serial_map_at splits transcript.read_version (seen_of front).places

-- a get was answered with the value in the open transaction, which noted it
abbrev Reads : List Point → Point → Option (List ℕ) → Session → Session → Transcript → Type 0
Reads splits key value old new transcript =
    (reply.Value value ≡ reply_on (copy (run splits old.front transcript) (program transcript.ops)) (op.Get key false))
    × (new ≡ with_current old (Some (with_op transcript (op.Get key false) (reply.Value value))))

-- what is open after a read that isn't refused for want of one
read-there : (splits : List Point) (key : Point) (value : Option (List ℕ)) (old new : Session)
    → (old.current ≡ None → ⊥) → HasRead splits old (op.Get key false) (reply.Value value) new
    → (transcript : Transcript) × (old.current ≡ Some transcript) × Reads splits key value old new transcript
read-there splits key value old new some reads = by_current old.current refl reads
  where
    by_current : (current : Option Transcript) → old.current ≡ current
        → IfSome current (Reads splits key value old new)
        → (transcript : Transcript) × (old.current ≡ Some transcript) × Reads splits key value old new transcript
    by_current None is given = absurd (some is)
    by_current (Some transcript) is given = (transcript, is, given)

-- Both counters, read one after another by a transaction that did nothing before.
module _ (splits : List Point) (old middle new : Session) (one other : Option (List ℕ)) (begun : IsBegun old)
    (some : old.current ≡ None → ⊥) (there : middle.current ≡ None → ⊥)
    (first : HasRead splits old (op.Get first_counter false) (reply.Value one) middle)
    (second : HasRead splits middle (op.Get second_counter false) (reply.Value other) new) where
  abbrev before : (transcript : Transcript) × (old.current ≡ Some transcript)
      × Reads splits first_counter one old middle transcript
  before = read-there splits first_counter one old middle some first

  abbrev after : (transcript : Transcript) × (middle.current ≡ Some transcript)
      × Reads splits second_counter other middle new transcript
  after = read-there splits second_counter other middle new there second

  abbrev t : Transcript
  t = before.0

  abbrev noted : Transcript
  noted = with_op t (op.Get first_counter false) (reply.Value one)

  abbrev map : Map
  map = run splits old.front t

  middle-front : middle.front ≡ old.front
  middle-front = ap (λ (it : Session). it.front) before.2.1

  fronts : new.front ≡ old.front
  fronts = ap (λ (it : Session). it.front) after.2.1 ∙ middle-front

  nothing : t.ops ≡ []
  nothing = subst (λ (current : Option Transcript). IfSome current (λ (own : Transcript). own.ops ≡ [])) before.1
      begun

  first-is : one ≡ get map first_counter
  first-is = same-value one (get map first_counter)
      (before.2.0
      ∙ ap (λ (ops : List (Op × Reply)). reply.Value (get (copy map (program ops)) first_counter)) nothing)

  its : after.0 ≡ noted
  its = same_Some after.0 noted (sym after.1 ∙ ap (λ (it : Session). it.current) before.2.1)

  asked : reply.Value other ≡ reply.Value (get (copy map (program noted.ops)) second_counter)
  asked = subst (λ (front : List Entry).
      reply.Value other ≡ reply.Value (get (copy (run splits front noted) (program noted.ops)) second_counter))
      middle-front
      (subst (λ (own : Transcript).
      reply.Value other ≡ reply.Value (get (copy (run splits middle.front own) (program own.ops)) second_counter))
      its after.2.0)

  second-is : other ≡ get map second_counter
  second-is = same-value other (get map second_counter)
      (asked
      ∙ ap (λ (ops : List (Op × Reply)). reply.Value
      (get (copy map (program (ops ++ (op.Get first_counter false, reply.Value one) ∷ []))) second_counter)) nothing)

  -- they are what stands there on the run
  pub reads-stand : IfSome old.current (λ (transcript : Transcript).
      (one ≡ get (run splits old.front transcript) first_counter)
      × (other ≡ get (run splits old.front transcript) second_counter))
  reads-stand = subst (λ (current : Option Transcript). IfSome current (λ (transcript : Transcript).
      (one ≡ get (run splits old.front transcript) first_counter)
      × (other ≡ get (run splits old.front transcript) second_counter))) (sym before.1) (first-is, second-is)

  -- and equal where the layer's property holds there
  pub reads-equal : HoldsOnRun AreEqual splits new.front → one ≡ other
  reads-equal holds =
      ∥∥₁_elim (subst (λ (front : List Entry). ∥ AreEqual (run splits front t) ∥₁) fronts (holds t.read_version))
      (Coded-set (coded_option (coded_list coded_ℕ)) one other)
      (λ equal. first-is ∙ equal ∙ sym second-is)
