-- What a transaction does that is asked to pay.
use Rattle.std.specs.Prelude.{◌≡◌, ◌⊎◌, ◌+◌, ◌-◌, ◌^◌, ◌<◌, ◌≤◌, ℕ, Bool, true, false, List, [], ◌∷◌, Option}
use Rattle.std.specs.Int.{to_le_bytes, w64}
use Rattle.fdb_mutations.specs.declared.mutation.Mutation.TheVariants.{Set}
use Rattle.fdb_client.specs.declared.program.Op.{Op}
use Rattle.fdb_client.specs.declared.program.Reply.{Reply}
use Rattle.fdb_client.specs.declared.program.Transcript.{Transcript}
use Rattle.fdb_layers.specs.Accounts.{account_key}
use Rattle.fdb_layers.specs.Bank.{amount, paying}
use Rattle.fdb_layers.specs.Operations.{DoesMore, reading, writing}
use Rattle.fdb_layers.specs.declared.accounts.Account.{Account}

-- It paid just what it was asked to: a payment from one account to another one, of no more than the payer had, that
-- reads no snapshot. What both had fits into eight bytes.
pub record HasPaid (payer payee : Account) (asked : ℕ) (transcript : Transcript) : Type 0 where
  pub payer_had : Option (List ℕ)
  pub payee_had : Option (List ℕ)
  pub are_two : payer ≡ payee → ⊥
  pub covered : asked ≤ amount payer_had
  pub fits : amount payer_had + amount payee_had < 2 ^ 64
  pub done : transcript.ops ≡ paying false (account_key payer) (account_key payee) payer_had payee_had asked

-- It read both accounts and did nothing else, since the payer is the payee, or had less than it was asked to pay.
pub record HasNotPaid (payer payee : Account) (asked : ℕ) (transcript : Transcript) : Type 0 where
  pub payer_had : Option (List ℕ)
  pub payee_had : Option (List ℕ)
  pub why : (payer ≡ payee) ⊎ (amount payer_had < asked)
  pub done : transcript.ops ≡ reading (account_key payer) payer_had ∷ reading (account_key payee) payee_had ∷ []

-- It says rightly whether it paid.
abbrev pub DoesPay : Account → Account → ℕ → Bool → Transcript → Type 0
DoesPay payer payee asked true transcript = HasPaid payer payee asked transcript
DoesPay payer payee asked false transcript = HasNotPaid payer payee asked transcript

-- the account is set to the amount
abbrev pub setting : Account → ℕ → Op × Reply
setting account left = writing (Set (account_key account) (to_le_bytes w64 left))

-- Both accounts, of which it is known what they had, are set, or there is a reason why nothing is done.
abbrev pub Settles : Account → Account → (asked payer_had payee_had : ℕ) → Option Transcript → Bool → Option Transcript
    → Type 0
Settles payer payee asked payer_had payee_had old true new =
    (payer ≡ payee → ⊥) × (asked ≤ payer_had)
    × DoesMore old (setting payer (payer_had - asked) ∷ setting payee (payee_had + asked) ∷ []) new
Settles payer payee asked payer_had payee_had old false new =
    ((payer ≡ payee) ⊎ (payer_had < asked)) × (new ≡ old)
