-- Mutations with their stamps and their tags.
use Rattle.std.proofs.Common.{◌≡◌, ◌∙◌, sym, ap, ap₂, ℕ, List, filter}
use Rattle.fdb_keys.specs.Points.{Point}
use Rattle.fdb_keys.specs.Ranges.{ranges_meet}
use Rattle.fdb_mutations.specs.declared.mutation.Mutation.{Mutation}
use Rattle.fdb_mutations.specs.Naming.{NamedKeys, range_of}
use Rattle.fdb_mutations.specs.Stamping.{stamped}
use Rattle.fdb_mutations.proofs.Exports.{stamps_keep_names}
use Rattle.fdb_txn.specs.rules.Splits.{piece}
use Rattle.fdb_log.specs.declared.message.Tagged.{Tagged}
use Rattle.fdb_storage.specs.LogMessages.{tagged}
use Rattle.fdb_storage.specs.ShardMaps.{shards_of, tags_of}

-- the mutation with its stamp has the tags of the one without
pub tagged-stamped : (splits : List Point) (stamp : List ℕ) (place : ℕ) (mutation sent : Mutation) (tags : List ℕ)
    → tags ≡ tags_of splits mutation → sent ≡ stamped stamp mutation
    → ◌≡◌ {A = Tagged} (record { place = place; mutation = sent; tags = tags })
    (tagged splits (place, stamped stamp mutation))
tagged-stamped splits stamp place mutation sent tags told is =
    ap₂ (λ (one : Mutation) (its : List ℕ). record { place = place; mutation = one; tags = its }) is
    (told
    ∙ ap (λ (names : NamedKeys). filter (λ (tag : ℕ). ranges_meet (piece splits tag) (range_of names))
    (shards_of splits)) (sym (stamps_keep_names stamp mutation)))
