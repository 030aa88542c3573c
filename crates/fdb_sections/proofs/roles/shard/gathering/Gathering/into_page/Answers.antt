use Rattle.std.proofs.Common.{◌≡◌, ◌∙◌, subst, rules, false, ℕ, List, length}
use Rattle.std.specs.Prelude.{nat_lt}
use Rattle.std.specs.Option.{is_some}
use Rattle.fdb_keys.specs.Points.{Point}
use Rattle.fdb_mutations.specs.Pairs.{first_of, wanted}
use Rattle.fdb_mutations.specs.declared.page.Page.{Page}
use Rattle.fdb_sections.specs.Gathering.{Gathering}
use Rattle.fdb_sections.proofs.GatheringLemmas.{gives-gathered}
use Rattle.fdb_sections.proofs.roles.shard.gathering.Gathering.into_page.Goals as goal

pub returns : goal.returns
returns g c =
    let inside = c.self.inside in
    let own : Gathering = record {
      version = inside.reader.version;
      front = inside.reader.front.now;
      range = inside.range.now;
      limit = inside.limit;
      is_reverse = inside.reverse;
      rest = inside.rest;
    } in
    let pairs = inside.pairs.items in
    let page : Page = record { pairs = c.page_of-pairs.result.0; more = c.page_of-pairs.result.1 } in
    let none : is_some inside.rest ≡ false = search rules in
    gives-gathered g.B.DatabaseName.config own c.args.self pairs page c.self.view_is none c.self.invariant
    (subst (λ (n : ℕ). (all : List (Point × List ℕ)) → pairs ≡ first_of (wanted n) all
    → (page.pairs ≡ first_of n all) × (page.more ≡ nat_lt (length page.pairs) (length all))) c.most_of.ensures
    (λ all is. c.page_of-pairs.ensures all (c.from_vec.ensures ∙ is)))
