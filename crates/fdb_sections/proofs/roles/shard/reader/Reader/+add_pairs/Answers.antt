use Rattle.std.proofs.Common.{◌≡◌, ◌∙◌, refl, sym, ap, rules, ◌++◌, ◌-◌, ℕ, true, false, List, length, take, drop}
use Rattle.std.proofs.Common.{None, Bor}
use Rattle.fdb_keys.specs.Points.{Point}
use Rattle.fdb_mutations.specs.Maps.{Map}
use Rattle.fdb_mutations.specs.Pairs.{first_of}
use Rattle.fdb_roles.proofs.Exports.{answers-by}
use Rattle.fdb_sections.specs.LentShards.{lent_shards, pairs_at, pairs_held}
use Rattle.fdb_sections.specs.ShardsAtFronts.{ShardAtFront}
use Rattle.fdb_sections.specs.ShardViews.{run_of}
use Rattle.fdb_sections.proofs.LentShardLemmas.{lent-first, held-forward, held-backward, none-held, few-are-first}
use Rattle.fdb_sections.proofs.LentShardLemmas.{added-again}
use Rattle.fdb_sections.proofs.roles.shard.reader.Reader.+add_pairs.Goals as goal

-- what is lent behind the first shard
abbrev others_of : List (Bor ShardAtFront) → List ShardAtFront
others_of shards = lent_shards (take (length shards - 1) (drop 1 shards))

pub returns-in_default : goal.returns-in_default
returns-in_default g t c =
    let reader = c.args.self.now in
    let pairs = c.args.pairs.now.items in
    few-are-first c.args.wanted pairs c.requires.few
    ∙ ap (λ (none : List (Point × List ℕ)). first_of c.args.wanted (pairs ++ none)) (sym
    (none-held c.args.shards.now c.in_default.len_below
    (run_of g.B.DatabaseName.config reader.version reader.front.now) c.args.range.now c.args.reverse))

pub returns-then-reverse : goal.returns-then-reverse
returns-then-reverse g t c =
    let reader = c.args.self.now in
    let range = c.args.range.now in
    let reverse = c.args.reverse in
    let pairs = c.args.pairs.now.items in
    let run : Map = run_of g.B.DatabaseName.config reader.version reader.front.now in
    let at = c.first-item.result.now in
    let others = others_of c.args.shards.now in
    let backward : reverse ≡ true = search rules in
    let held = held-backward run range reader.version (lent_shards c.args.shards.now) at others
    (lent-first c.args.shards.now c.first-item.result c.in-len1-up.len_at_least c.first-item.is) c.requires.row reverse
    backward in
    answers-by c.add_pairs_of.result None None _ _ refl
    (λ _ done added.
    added-again c.args.wanted pairs (pairs_held run range reverse others) (pairs_at run range reverse at)
    c.add_pairs.new.pairs.items c.add_pairs_of.new.pairs.items c.in_ok-add_pairs.ensures added
    ∙ ap (λ (more : List (Point × List ℕ)). first_of c.args.wanted (pairs ++ more)) (sym held))
    c.add_pairs_of.ensures.answers

pub returns : goal.returns
returns g t c =
    let reader = c.args.self.now in
    let range = c.args.range.now in
    let reverse = c.args.reverse in
    let pairs = c.args.pairs.now.items in
    let run : Map = run_of g.B.DatabaseName.config reader.version reader.front.now in
    let at = c.first-item.result.now in
    let others = others_of c.args.shards.now in
    let forward : reverse ≡ false = search rules in
    let held = held-forward run range reader.version (lent_shards c.args.shards.now) at others
    (lent-first c.args.shards.now c.first-item.result c.in-len1-up.len_at_least c.first-item.is) c.requires.row reverse
    forward in
    answers-by c.add_pairs-2.result None None _ _ refl
    (λ _ done added.
    added-again c.args.wanted pairs (pairs_at run range reverse at) (pairs_held run range reverse others)
    c.add_pairs_of-2.new.pairs.items c.add_pairs-2.new.pairs.items c.in_ok-add_pairs_of.ensures.answers added
    ∙ ap (λ (more : List (Point × List ℕ)). first_of c.args.wanted (pairs ++ more)) (sym held))
    c.add_pairs-2.ensures
