-- What messages leave in a range, point by point.
use Rattle.std.proofs.Common.{◌≡◌, ◌∙◌, sym, ap, refl, ℕ, Bool, true, false, if◌then◌else◌, nat_le, List, [], ◌∷◌, fold}
use Rattle.std.proofs.Common.{Option, None, ⊎_elim}
use Rattle.std.specs.Ordering.{nat_cmp}
use Rattle.std.specs.Cmp.Lexicographic.{slice_cmp}
use Rattle.std.specs.FinMap.{get, empty, get-empty}
use Rattle.std.proofs.lemmas.Bool.{cases_Bool, cond-true, cond-false}
use Rattle.fdb_keys.specs.Points.{Point}
use Rattle.fdb_keys.specs.Ranges.{Range, in_range}
use Rattle.fdb_mutations.specs.declared.mutation.Mutation.{Mutation}
use Rattle.fdb_mutations.specs.Maps.{Map}
use Rattle.fdb_mutations.specs.Mutations.{effect, value_after}
use Rattle.fdb_mutations.proofs.Exports.{at_every_point, effect-clipped}
use Rattle.fdb_txn.specs.declared.tag_msg.TagMsg.{TagMsg}
use Rattle.fdb_txn.specs.rules.Messages.{mutations_in, value_with, value_in}
use Rattle.fdb_storage.specs.CutMaps.{cut_effect, cut_with}

-- at a point of the range stands what the messages leave there
module _ (range : Range) (x : Point) (inside : in_range range x ≡ true) where
  inside-mutation : (map : Map) (mutation : Mutation)
      → get (cut_effect range map mutation) x ≡ value_after x (get map x) mutation
  inside-mutation map mutation =
      effect-clipped range mutation map x
      ∙ cond-true (in_range range x) (get (effect map mutation) x) (get map x) inside
      ∙ at_every_point map mutation x

  inside-body : (map : Map) (mutations : List Mutation)
      → get (fold (cut_effect range) map mutations) x ≡ fold (value_after x) (get map x) mutations
  inside-body map [] = refl
  inside-body map (mutation ∷ mutations) =
      inside-body (cut_effect range map mutation) mutations
      ∙ ap (λ (value : Option (List ℕ)). fold (value_after x) value mutations) (inside-mutation map mutation)

  inside-message : (v : ℕ) (map : Map) (message : TagMsg)
      → get (cut_with range v map message) x ≡ value_with v x (get map x) message
  inside-message v map message = by_case (nat_le message.version v)
    where
      by_case : (reached : Bool)
          → get (if reached then fold (cut_effect range) map (mutations_in message.body) else map) x
          ≡ (if reached then fold (value_after x) (get map x) (mutations_in message.body) else get map x)
      by_case true = inside-body map (mutations_in message.body)
      by_case false = refl

  inside-messages : (v : ℕ) (map : Map) (messages : List TagMsg)
      → get (fold (cut_with range v) map messages) x ≡ fold (value_with v x) (get map x) messages
  inside-messages v map [] = refl
  inside-messages v map (message ∷ messages) =
      inside-messages v (cut_with range v map message) messages
      ∙ ap (λ (value : Option (List ℕ)). fold (value_with v x) value messages) (inside-message v map message)

-- elsewhere they change nothing
module _ (range : Range) (x : Point) (outside : in_range range x ≡ false) where
  pub outside-body : (map : Map) (mutations : List Mutation) → get (fold (cut_effect range) map mutations) x ≡ get map x
  outside-body map [] = refl
  outside-body map (mutation ∷ mutations) =
      outside-body (cut_effect range map mutation) mutations
      ∙ effect-clipped range mutation map x
      ∙ cond-false (in_range range x) (get (effect map mutation) x) (get map x) outside

  pub outside-messages : (v : ℕ) (map : Map) (messages : List TagMsg)
      → get (fold (cut_with range v) map messages) x ≡ get map x
  outside-messages v map [] = refl
  outside-messages v map (message ∷ messages) =
      outside-messages v (cut_with range v map message) messages ∙ by_case (nat_le message.version v)
    where
      by_case : (reached : Bool)
          → get (if reached then fold (cut_effect range) map (mutations_in message.body) else map) x ≡ get map x
      by_case true = outside-body map (mutations_in message.body)
      by_case false = refl

-- the map that messages leave in a range, from the empty map
pub get-cut : (range : Range) (v : ℕ) (messages : List TagMsg) (x : Point)
    → get (fold (cut_with range v) empty messages) x
    ≡ (if in_range range x then value_in v x messages else None)
get-cut range v messages x = ⊎_elim
    (λ inside. inside-messages range x inside v empty messages
    ∙ ap (λ (value : Option (List ℕ)). fold (value_with v x) value messages)
    (get-empty {X = List ℕ} (slice_cmp nat_cmp) x)
    ∙ sym (cond-true (in_range range x) (value_in v x messages) None inside))
    (λ outside. outside-messages range x outside v empty messages
    ∙ get-empty {X = List ℕ} (slice_cmp nat_cmp) x
    ∙ sym (cond-false (in_range range x) (value_in v x messages) None outside))
    (cases_Bool (in_range range x))
