use Rattle.std.proofs.Common.{◌≡◌, ◌∙◌, sym, ap, ap₂, subst, ℕ, suc, ◌<◌, if◌then◌else◌, List, [], ◌∷◌, ◌++◌, map}
use Rattle.std.proofs.Common.{filter, length, get_or, arith}
use Rattle.std.specs.List.{range_with_len}
use Rattle.std.proofs.lemmas.List.FromFn.{get_or-map-range_with_len, length-map-range_with_len}
use Rattle.fdb_keys.specs.Points.{Point}
use Rattle.fdb_keys.specs.Ranges.{Range, ranges_meet}
use Rattle.fdb_txn.specs.rules.Splits.{piece}
use Rattle.fdb_storage.specs.ShardMaps.{shards_of}
use Rattle.fdb_storage.proofs.TagLemmas.{filter-more}
use Rattle.fdb_storage.proofs.shard_map.ShardMap.tags_met.Goals as goal
use Rattle.fdb_storage.proofs.shard_map.ShardMap.tags_met.Goals.{After-held-item}

-- the ranges are those of the shards
held : (c : After-held-item)
    → c.as_slice-held-items.result.now ≡ map (piece c.args.self.now) (shards_of c.args.self.now)
held c = c.as_slice-held-items.ensures ∙ c.self.invariant.ranges
    ∙ ap (λ (splits : List Point). map (piece splits) (shards_of splits)) c.self.view_is

few : (c : After-held-item) → c.loop-tag.tag < suc (length c.args.self.now)
few c =
    subst (λ (n : ℕ). c.loop-tag.tag < n)
    (ap (λ (ranges : List Range). length ranges) (held c)
    ∙ length-map-range_with_len (piece c.args.self.now) 0 (suc (length c.args.self.now))) c.loop-tag-test.true

pub overflow_cast-tag : goal.overflow_cast-tag
overflow_cast-tag c =
    let here = (goal.at.overflow_cast-tag c).After-held-item in
    let within : length c.args.self.now < 64 =
    subst (λ (splits : List Point). length splits < 64) c.self.view_is c.self.invariant.few in
    omega (arith, few here, within)

pub loop-tag-preserved : goal.loop-tag-preserved
loop-tag-preserved c =
    let here = (goal.at.loop-tag-preserved c).After-held-item in
    let range : c.held-item.result ≡ piece c.args.self.now c.loop-tag.tag =
    c.held-item.is ∙ ap (λ (ranges : List Range). get_or ranges c.loop-tag.tag c.held-item.result) (held here)
    ∙ get_or-map-range_with_len (piece c.args.self.now) 0 (suc (length c.args.self.now)) c.loop-tag.tag c.loop-tag.tag
    c.held-item.result (few here) (omega arith) in
    c.in_ok-add_met.ensures
    ∙ ap₂ (λ (tags : List ℕ) (held : Range). tags
    ++ (if ranges_meet held c.args.range.now then c.loop-tag.tag ∷ [] else [])) c.loop-tag.invariant range
    ∙ sym (filter-more (λ (tag : ℕ). ranges_meet (piece c.args.self.now tag) c.args.range.now) c.loop-tag.tag)

pub returns : goal.returns
returns c =
    let held_all : c.as_slice-held-items.result.now ≡ map (piece c.args.self.now) (shards_of c.args.self.now) =
    c.as_slice-held-items.ensures ∙ c.self.invariant.ranges
    ∙ ap (λ (splits : List Point). map (piece splits) (shards_of splits)) c.self.view_is in
    let long : length c.as_slice-held-items.result.now ≡ suc (length c.args.self.now) =
    ap (λ (ranges : List Range). length ranges) held_all
    ∙ length-map-range_with_len (piece c.args.self.now) 0 (suc (length c.args.self.now)) in
    let all : c.loop-tag.tag ≡ suc (length c.args.self.now) =
    omega (arith, long, c.loop-tag-test.false, c.loop-tag.auto.tag-end) in
    c.loop-tag.invariant
    ∙ ap (λ (n : ℕ). filter (λ (tag : ℕ). ranges_meet (piece c.args.self.now tag) c.args.range.now)
    (range_with_len 0 n)) all
