use Rattle.std.proofs.Common.{◌∙◌, sym, ap, Bool, List, [], ◌∷◌, ◌++◌, append_assoc}
use Rattle.std.specs.Prelude.{◌&&◌}
use Rattle.std.proofs.lemmas.List.{append-nil}
use Rattle.fdb_keys.specs.Points.{Point}
use Rattle.fdb_keys.specs.Ranges.{Range, in_range}
use Rattle.fdb_mutations.proofs.Exports.{forward-bounds}
use Rattle.fdb_storage.proofs.LiveLemmas.{set-between}
use Rattle.fdb_storage.proofs.version_map.VersionMap.live_in.Goals as goal

pub range-key-items-requires : goal.range-key-items-requires
range-key-items-requires c =
    forward-bounds c.begin.result.now c.end.result.now (rw (c.begin.ensures, c.end.ensures.value) c.end.ensures.order)

pub loop-key-preserved : goal.loop-key-preserved
loop-key-preserved c =
    ap (λ (keys : List Point). keys ++ c.next.new.self) c.in_ok-push.ensures.items
    ∙ append_assoc c.loop-key.keys.items (c.in_ok-clone.field-0 ∷ []) c.next.new.self
    ∙ ap (λ (key : Point). c.loop-key.keys.items ++ key ∷ c.next.new.self) c.in_ok-clone.ensures.cases
    ∙ ap (λ (rest : List Point). c.loop-key.keys.items ++ rest) (sym c.in-Some.ensures.steps)
    ∙ c.loop-key.invariant

pub returns : goal.returns
returns c x =
    set-between c.args.range.now c.begin.result.now c.end.result.now x c.args.self.now.live.keys
    c.loop-key.keys.items
    (c.begin.ensures ∙ ap (λ (range : Range). range.begin) c.in_ok-keyed.ensures)
    (c.end.ensures.value ∙ ap (λ (range : Range). range.end) c.in_ok-keyed.ensures)
    (sym (append-nil c.loop-key.keys.items)
    ∙ ap (λ (rest : List Point). c.loop-key.keys.items ++ rest) (sym c.in-None.ensures.steps.0)
    ∙ c.loop-key.invariant
    ∙ c.into_iter-key-iterator.ensures.into_iter_gives
    ∙ c.range-key-items.ensures.between tt)
    ∙ ap (λ (is_live : Bool). in_range c.args.range.now x && is_live) (c.requires x)
