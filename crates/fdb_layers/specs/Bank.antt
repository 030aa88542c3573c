-- A bank of a few accounts: what is paid is taken from one and given to another, so that the sum of all stays.
use Rattle.std.specs.Prelude.{◌≡◌, ◌⊎◌, ℕ, ◌+◌, ◌-◌, ◌*◌, ◌^◌, ◌<◌, ◌≤◌, Bool, true, false, List, [], ◌∷◌, length}
use Rattle.std.specs.Prelude.{codes, Option, Some, None}
use Rattle.std.specs.FinMap.{get}
use Rattle.std.specs.Int.{from_le_bytes, to_le_bytes, w64}
use Rattle.std.specs.List.{list_any, sum_by}
use Rattle.fdb_keys.specs.Points.{Point, point_eq}
use Rattle.fdb_mutations.specs.Maps.{Map}
use Rattle.fdb_mutations.specs.declared.mutation.Mutation.TheVariants.{Set}
use Rattle.fdb_client.specs.declared.program.Op.{Op}
use Rattle.fdb_client.specs.declared.program.Op.TheVariants as op
use Rattle.fdb_client.specs.declared.program.Reply.{Reply}
use Rattle.fdb_client.specs.declared.program.Reply.TheVariants as reply
use Rattle.fdb_client.specs.declared.program.Transcript.{Transcript}
use Rattle.fdb_layers.specs.Operations.{reading, writing, WritesNoValue}

-- the keys of the accounts
abbrev pub accounts : List Point
accounts = codes "bank/ann" ∷ codes "bank/bob" ∷ codes "bank/cid" ∷ []

-- the key is an account's
abbrev pub is_account : Point → Bool
is_account key = list_any (λ account. point_eq account key) accounts

-- what an account has from the start
abbrev pub opening : ℕ
opening = 100

-- the amount that stands at an account: eight bytes, the lowest one first, or what it has from the start
abbrev pub amount : Option (List ℕ) → ℕ
amount None = opening
amount (Some value) = from_le_bytes w64 value

-- the sum of all accounts
abbrev pub total : Map → ℕ
total map = sum_by (λ account. amount (get map account)) accounts

-- each amount that was set has eight bytes, and the sum of all accounts is what they had from the start
pub record IsBalanced (map : Map) : Type 0 where
  pub has_eight_bytes : (account value : List ℕ) → is_account account ≡ true → get map account ≡ Some value
      → length value ≡ 8
  pub sum_stays : total map ≡ length accounts * opening

-- a payment: both accounts are read, the payer's by a snapshot or not, and both are set
abbrev pub paying : Bool → (payer payee : Point) → (payer_had payee_had : Option (List ℕ)) → ℕ → List (Op × Reply)
paying snapshot payer payee payer_had payee_had paid =
    (op.Get payer snapshot, reply.Value payer_had) ∷ reading payee payee_had
    ∷ writing (Set payer (to_le_bytes w64 (amount payer_had - paid)))
    ∷ writing (Set payee (to_le_bytes w64 (amount payee_had + paid))) ∷ []

-- the transaction is a payment from one account to another one, of no more than the payer had; what both had fits into
-- eight bytes
pub record IsPayment (snapshot : Bool) (transcript : Transcript) : Type 0 where
  pub payer : Point
  pub payee : Point
  pub payer_had : Option (List ℕ)
  pub payee_had : Option (List ℕ)
  pub paid : ℕ
  pub payer_is : is_account payer ≡ true
  pub payee_is : is_account payee ≡ true
  pub are_two : point_eq payee payer ≡ false
  pub covered : paid ≤ amount payer_had
  pub fits : amount payer_had + amount payee_had < 2 ^ 64
  pub done : transcript.ops ≡ paying snapshot payer payee payer_had payee_had paid

-- a transaction of the bank: one that writes no value, or a payment that reads no snapshot
abbrev pub IsOfBank : Transcript → Type 0
IsOfBank transcript = WritesNoValue transcript ⊎ IsPayment false transcript
