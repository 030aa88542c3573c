use Rattle.std.proofs.Common.{◌≡◌, ◌∙◌, sym, ap, refl, ℕ, List, [], ◌∷◌, ◌++◌}
use Rattle.std.specs.Cmp.Lexicographic.{bytes_decides}
use Rattle.fdb_keys.specs.Points.{Point, point_eq}
use Rattle.fdb_mutations.specs.Mutations.{names, named}
use Rattle.fdb_mutations.specs.Naming.{NamedKeys, OneKey, is_named}
use Rattle.fdb_storage.proofs.TagLemmas.{tags-of_key}
use Rattle.fdb_storage.proofs.shard_map.ShardMap.tags.Goals as goal

pub returns-in_ok-push-in-Key : goal.returns-in_ok-push-in-Key
returns-in_ok-push-in-Key c =
    let one : OneKey c.in-Key.key.now ≡ named c.args.mutation.now = c.in-Key.ensures in
    let names_as : (x : Point) → names c.args.mutation.now x ≡ point_eq x c.in-Key.key.now =
    λ x. ap (λ (keys : NamedKeys). is_named keys x) (sym one) in
    let key = c.in-Key.key.now in
    c.in_ok-push-in-Key.ensures.ok
    ∙ ap (λ (tags : List ℕ). tags ++ c.shard_of.result ∷ []) c.new-tags.ensures
    ∙ sym (tags-of_key c.args.self.now c.args.mutation.now key c.shard_of.result c.shard_of.ensures.within
    c.shard_of.ensures.held c.shard_of.ensures.alone
    (λ x names_x. (bytes_decides x key).0 (sym (names_as x) ∙ names_x))
    (names_as key ∙ (bytes_decides key key).1 refl))
