use Rattle.std.proofs.Common.{◌≡◌, ◌∙◌, sym, ap, Bool, Some, None}
use Rattle.fdb_keys.specs.Clipping.{clipped_range}
use Rattle.fdb_mutations.specs.Pairs.{first_of, pairs_in}
use Rattle.fdb_storage.specs.Shards.{read_fault}
use Rattle.fdb_roles.proofs.Exports.{answers-by, first-none}
use Rattle.fdb_sections.specs.ShardViews.{ShardView, range_fault, run_map, run_of}
use Rattle.fdb_sections.proofs.LentShardLemmas.{part-within, part-pairs, no-pairs}
use Rattle.fdb_sections.proofs.roles.shard.reader.Reader.pairs_of.Goals as goal

pub returns-in-Some : goal.returns-in-Some
returns-in-Some g c =
    let shard = c.args.at.now.shard in
    let range = c.args.range.now in
    let part = c.in-Some.part in
    let view = c.new-view.result in
    let config = g.B.DatabaseName.config in
    let clipped : clipped_range range shard.range ≡ Some part =
    ap (clipped_range range) (sym c.range.ensures) ∙ sym c.in_ok-part.ensures.answers ∙ c.in-Some.is in
    let none : range_fault view part ≡ None =
    ap (λ (it : ShardView). range_fault it part) c.new-view.ensures
    ∙ ap (λ (held : Bool). read_fault shard held c.args.self.now.version) (part-within range shard.range part clipped)
    ∙ c.requires in
    answers-by c.first_pairs.result (range_fault view part) None _ _ none
    (λ _ pairs is. is
    ∙ ap (λ (it : ShardView). first_of c.args.limit (pairs_in (run_map config it) part c.args.reverse))
    c.new-view.ensures
    ∙ ap (first_of c.args.limit) (part-pairs range shard.range part clipped
    (run_of config c.args.self.now.version c.args.self.now.front.now) c.args.reverse))
    c.first_pairs.ensures

pub returns-in-None : goal.returns-in-None
returns-in-None g c =
    let shard = c.args.at.now.shard in
    let range = c.args.range.now in
    let clipped : clipped_range range shard.range ≡ None =
    ap (clipped_range range) (sym c.range.ensures) ∙ sym c.in_ok-part.ensures.answers ∙ c.in-None.is in
    c.new.ensures.items
    ∙ sym (ap (first_of c.args.limit) (no-pairs range shard.range clipped
    (run_of g.B.DatabaseName.config c.args.self.now.version c.args.self.now.front.now) c.args.reverse)
    ∙ first-none c.args.limit)
