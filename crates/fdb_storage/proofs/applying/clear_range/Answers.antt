use Rattle.std.proofs.Common.{◌≡◌, ◌∙◌, sym, ap, subst, List, [], ◌∷◌, ◌++◌, ◌+◌, take, arith}
use Rattle.std.proofs.lemmas.List.{take_more, take_all}
use Rattle.fdb_keys.specs.Points.{Point}
use Rattle.fdb_storage.specs.Changes.{HaveChanged, cleared_at}
use Rattle.fdb_storage.proofs.ChangesLemmas.{changed-cleared, changed-range, changed-none}
use Rattle.fdb_storage.proofs.applying.clear_range.Goals as goal

pub loop-key-init : goal.loop-key-init
loop-key-init c = record {
  changed = changed-none c.args.version c.args.map.now.keys.entries c.requires.ended c.requires.legal_keys;
  live = c.requires.live;
}

pub loop-key-preserved : goal.loop-key-preserved
loop-key-preserved c =
    let i = c.loop-key.key-index in
    let keys = c.deref-key-items.result.now in
    let more : take (i + 1) keys ≡ take i keys ++ c.key-item.result ∷ [] =
    take_more keys i c.key-item.result (omega arith)
    ∙ ap (λ (key : Point). take i keys ++ key ∷ []) (sym c.key-item.is) in
    record {
      changed =
          subst (λ (some : List Point). HaveChanged c.args.version (cleared_at some) c.args.map.now.keys.entries
          c.clear.new.self.keys.entries) (sym more)
          (changed-cleared c.args.version (take i keys) c.key-item.result c.args.map.now.keys.entries
          c.loop-key.map.keys.entries c.clear.new.self.keys.entries c.loop-key.invariant.changed
          c.in_ok-clear.ensures.changed);
      live = c.in_ok-clear.ensures.live;
    }

pub returns-clause-changed : goal.returns-clause-changed
returns-clause-changed c =
    let keys = c.deref-key-items.result.now in
    let all : take c.loop-key.key-index keys ≡ c.in_ok-keys.keys.items =
    take_all c.loop-key.key-index keys (omega arith) ∙ c.deref-key-items.ensures.value in
    changed-range c.args.version c.args.range.now c.in_ok-keys.keys.items c.args.map.now.keys.entries
    c.loop-key.map.keys.entries c.requires.ended c.in_ok-keys.ensures
    (subst (λ (some : List Point). HaveChanged c.args.version (cleared_at some) c.args.map.now.keys.entries
    c.loop-key.map.keys.entries) all c.loop-key.invariant.changed)
