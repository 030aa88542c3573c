use Rattle.std.proofs.Common.{◌≡◌, ◌∙◌, sym, rules, true}
use Rattle.fdb_mutations.specs.declared.page.Page.{Page}
use Rattle.fdb_sections.specs.LentShards.{LentShards, lent_shards}
use Rattle.fdb_sections.proofs.LentShardLemmas.{gives-page}
use Rattle.fdb_sections.proofs.roles.shard.lent_shards.LentShardsSnapshot.page.Goals as goal

pub returns : goal.returns
returns g c =
    let inside = c.self.inside in
    let own : LentShards =
    record { version = inside.reader.version; front = inside.reader.front.now; range = inside.range.now } in
    let page : Page = record { pairs = c.page_of-pairs.result.0; more = c.page_of-pairs.result.1 } in
    let within : c.is_within.result ≡ true = search rules in
    gives-page g.B.DatabaseName.config own c.args.self.now (lent_shards inside.shards.now) c.self.view_is
    c.self.invariant.1 c.args.range.now c.args.limit c.one_more.result c.args.reverse c.in_ok-found.found.items page
    (sym c.is_within.ensures.value ∙ within) c.one_more.ensures c.in_ok-found.ensures
    (λ all is. c.page_of-pairs.ensures all (c.from_vec.ensures ∙ is))
