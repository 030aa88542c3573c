-- The queue, worked: which transactions are its own, and which push would leave what no pop can order.
use Rattle.std.specs.Prelude.{◌≡◌, ◌<◌, ◌^◌, ℕ, false, List, [], ◌∷◌, ◌++◌, codes, Some}
use Rattle.fdb_keys.specs.Points.{Point}
use Rattle.fdb_keys.specs.Prefixes.{prefix_range}
use Rattle.fdb_mutations.specs.Maps.{Map}
use Rattle.fdb_mutations.specs.Pairs.{pairs_in}
use Rattle.fdb_mutations.specs.Stamps.{stamp_bytes}
use Rattle.fdb_mutations.specs.declared.mutation.Mutation.TheVariants.{Clear, Stamped}
use Rattle.fdb_txn.specs.declared.txn_id.TxnId.{TxnId}
use Rattle.fdb_client.specs.declared.program.Op.{Op}
use Rattle.fdb_client.specs.declared.program.Reply.{Reply}
use Rattle.fdb_client.specs.declared.program.Transcript.{Transcript}
use Rattle.fdb_roles.specs.Layers.{Keeps}
use Rattle.fdb_roles.specs.Spots.{AnsweredOn}
use Rattle.fdb_layers.specs.Operations.{reading_range, writing}
use Rattle.fdb_layers.specs.Queue.{item_key, queue, AreStamped, FitsKey, IsOfQueue, IsOldest, IsUnstampedPush}
use Rattle.fdb_layers.specs.Queue.{PopsItem}

-- the call of a push of an item by transaction 5 of session 2
abbrev pub job_pushed : List (Op × Reply)
job_pushed =
    [] ++ writing (Stamped (codes "queue/" ++ (0 ∷ 0 ∷ 0 ∷ 2 ∷ 0 ∷ 0 ∷ 0 ∷ 0 ∷ 0 ∷ 0 ∷ 0 ∷ 5 ∷ []))
    (0 ∷ 0 ∷ 0 ∷ 0 ∷ 0 ∷ 0 ∷ 0 ∷ 0 ∷ 0 ∷ 0 ∷ codes "job") 0) ∷ []

-- that call is a transaction of the queue where it is of this id, and answered so on every map
abbrev pub JobIsPush : Type 0
JobIsPush =
    (transcript : Transcript) (map : Map) → transcript.id ≡ record { session = 2; number = 5 }
    → transcript.ops ≡ job_pushed → IsOfQueue transcript × AnsweredOn map transcript

-- two items that were pushed, the first one by key at version 200, and the second one at version 100
abbrev pub late : Point × List ℕ
late = (item_key (record { session = 0; number = 7 }), stamp_bytes 200 0 ++ codes "late")

abbrev pub early : Point × List ℕ
early = (item_key (record { session = 1; number = 3 }), stamp_bytes 100 1 ++ codes "early")

-- the calls of a pop where both stand in the queue, one after another
abbrev pub early_popped : List (Op × Reply)
early_popped =
    ([] ++ reading_range (prefix_range queue) (late ∷ early ∷ []) ∷ []) ++ writing (Clear early.0) ∷ []

-- these calls pop the item of version 100, whose key comes last, and are answered as on a map that has both
abbrev pub EarlyIsPopped : Type 0
EarlyIsPopped =
    (transcript : Transcript) (map : Map) → transcript.ops ≡ early_popped
    → pairs_in map (prefix_range queue) false ≡ late ∷ early ∷ []
    → PopsItem transcript (Some (codes "early")) × IsOfQueue transcript × AnsweredOn map transcript

-- the other one, whose key comes first, is not the oldest
abbrev pub LateIsNotOldest : Type 0
LateIsNotOldest = IsOldest (late ∷ early ∷ []) late → ⊥

-- two transactions of sessions push under different keys
abbrev pub PushesHaveOwnKeys : Type 0
PushesHaveOwnKeys =
    (one other : TxnId) → FitsKey one → FitsKey other → item_key one ≡ item_key other → one ≡ other

-- who sets an item with no stamp leaves what doesn't begin with one
abbrev pub UnstampedPushesFail : Type 0
UnstampedPushesFail = Keeps IsUnstampedPush AreStamped → ⊥
