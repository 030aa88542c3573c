use Rattle.std.proofs.Common.{◌≡◌, ◌∙◌, sym, ap, subst, ℕ, Bool, nat_lt, List, length, None}
use Rattle.std.proofs.lemmas.Result.{err_from_is_err_and}
use Rattle.fdb_keys.specs.Answers.{Answers}
use Rattle.fdb_keys.specs.Points.{Point}
use Rattle.fdb_keys.specs.Ranges.{is_within}
use Rattle.fdb_mutations.specs.Pairs.{first_of}
use Rattle.fdb_mutations.specs.declared.page.Page.{Page}
use Rattle.fdb_storage.specs.Shards.{Shard, IsPage, range_fault, read_fault, value_at}
use Rattle.fdb_storage.proofs.FaultLemmas.{none-of, given-also, refused-as, read_fault-none}
use Rattle.fdb_storage.proofs.PairsLemmas.{pairs-in_map}
use Rattle.fdb_storage.proofs.shard.Shard.page.Goals as goal

pub page_of-requires : goal.page_of-requires
page_of-requires c =
    c.self.invariant.legal_keys (ap (λ (shard : Shard). shard.is_failed) c.self.view_is
    ∙ read_fault-none c.args.self.now c.is_within.result c.args.version (none-of _ _ _ c.in_ok-check.ensures))

pub returns : goal.returns
returns c =
    let shard = c.args.self.now in
    let range = c.args.range.now in
    let held : c.is_within.result ≡ is_within range shard.range =
    c.is_within.ensures.value ∙ ap (λ (it : Shard). is_within range it.range) c.self.view_is in
    let none : range_fault shard range c.args.version ≡ None =
    sym (ap (λ (is_held : Bool). read_fault shard is_held c.args.version) held)
    ∙ none-of _ _ _ c.in_ok-check.ensures in
    let keys : c.self.inside.map.keys.entries ≡ shard.keys = ap (λ (it : Shard). it.keys) c.self.view_is in
    given-also c.page_of.result (range_fault shard range c.args.version) _
    (IsPage shard range c.args.version c.args.limit c.args.reverse) none
    (λ (page : Page) is map has.
    subst (λ (all : List (Point × List ℕ)).
    (page.pairs ≡ first_of c.args.limit all) × (page.more ≡ nat_lt (length page.pairs) (length all)))
    (pairs-in_map c.args.version range c.args.reverse c.self.inside.map.keys.entries map c.page_of.ensures.sorted
    (λ x inside. has x inside ∙ sym (ap (λ (it : Shard). value_at it c.args.version x) c.self.view_is)))
    is)
    c.page_of.ensures.page

pub returns-in_err-check : goal.returns-in_err-check
returns-in_err-check c =
    let shard = c.args.self.now in
    let refused = err_from_is_err_and c.from_residual.result c.from_residual.ensures.1 in
    let held : c.is_within.result ≡ is_within c.args.range.now shard.range =
    c.is_within.ensures.value ∙ ap (λ (it : Shard). is_within c.args.range.now it.range) c.self.view_is in
    subst (λ (is_held : Bool). Answers c.from_residual.result (read_fault shard is_held c.args.version)
    (IsPage shard c.args.range.now c.args.version c.args.limit c.args.reverse)) held
    (refused-as c.from_residual.result refused.0 _ (read_fault shard c.is_within.result c.args.version) _ _ refused.1
    refused.2 c.in_err-check.ensures)
