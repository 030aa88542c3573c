-- The bank, worked: which transaction is its own, and which payments would lose or make money.
use Rattle.std.specs.Prelude.{◌≡◌, true, List, [], ◌∷◌, ◌++◌, codes, None}
use Rattle.std.specs.FinMap.{get}
use Rattle.std.specs.Int.{to_le_bytes, w64}
use Rattle.fdb_mutations.specs.Maps.{Map}
use Rattle.fdb_mutations.specs.declared.mutation.Mutation.TheVariants.{Set}
use Rattle.fdb_client.specs.declared.program.Op.{Op}
use Rattle.fdb_client.specs.declared.program.Reply.{Reply}
use Rattle.fdb_client.specs.declared.program.Transcript.{Transcript}
use Rattle.fdb_roles.specs.Layers.{Keeps}
use Rattle.fdb_roles.specs.Spots.{AnsweredOn}
use Rattle.fdb_layers.specs.Operations.{reading, writing}
use Rattle.fdb_layers.specs.Bank.{IsOfBank, IsBalanced, IsPayment}
use Rattle.fdb_layers.specs.Paying.{HasNotPaid}
use Rattle.fdb_layers.specs.declared.accounts.Account.TheVariants.{Ann, Bob}

-- the calls of a payment of 30 from ann to bob, one after another, where neither account was set before
abbrev pub thirty_for_bob : List (Op × Reply)
thirty_for_bob =
    ((([] ++ reading (codes "bank/ann") None ∷ []) ++ reading (codes "bank/bob") None ∷ [])
    ++ writing (Set (codes "bank/ann") (to_le_bytes w64 70)) ∷ [])
    ++ writing (Set (codes "bank/bob") (to_le_bytes w64 130)) ∷ []

-- these calls are a transaction of the bank, and answered as on a map that has neither
abbrev pub ThirtyIsPayment : Type 0
ThirtyIsPayment =
    (transcript : Transcript) (map : Map) → transcript.ops ≡ thirty_for_bob → get map (codes "bank/ann") ≡ None
    → get map (codes "bank/bob") ≡ None → IsOfBank transcript × AnsweredOn map transcript

-- the payee's account alone is set
abbrev pub IsGift : Transcript → Type 0
IsGift transcript =
    transcript.ops ≡ reading (codes "bank/ann") None ∷ reading (codes "bank/bob") None
    ∷ writing (Set (codes "bank/bob") (to_le_bytes w64 130)) ∷ []

-- who reads the payer's account by a snapshot doesn't keep the sum of all, since the snapshot may be an old one
abbrev pub SnapshotPaymentsFail : Type 0
SnapshotPaymentsFail = Keeps (IsPayment true) IsBalanced → ⊥

-- nor does who sets one account alone
abbrev pub GiftsFail : Type 0
GiftsFail = Keeps IsGift IsBalanced → ⊥

-- Who reads both accounts, of which none was set before, and writes nothing, may say that 101 aren't paid, and not that
-- 100 aren't, which the payer has.
abbrev pub NoMoreIsRefused : Type 0
NoMoreIsRefused =
    (transcript : Transcript)
    → transcript.ops ≡ reading (codes "bank/ann") None ∷ reading (codes "bank/bob") None ∷ []
    → HasNotPaid Ann Bob 101 transcript × (HasNotPaid Ann Bob 100 transcript → ⊥)
