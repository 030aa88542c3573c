use Rattle.std.proofs.Common.{◌≡◌, ◌∙◌, sym, ap, List, ◌∷◌, ◌++◌, [], arith, take, ◌+◌, None, cond}
use Rattle.std.specs.List.{list_any}
use Rattle.std.proofs.lemmas.List.{take_more}
use Rattle.fdb_keys.specs.Points.{Point, point_eq}
use Rattle.fdb_client.proofs.ClearedLemmas.{found-removed}
use Rattle.fdb_client.proofs.LeftAtLemmas.{found}
use Rattle.fdb_client.proofs.own_writes.OwnWrites.remove_all.Goals as goal

pub loop-key-preserved : goal.loop-key-preserved
loop-key-preserved c =
    let i = c.loop-key.key-index in
    let keys = c.args.keys.now in
    let more : take (i + 1) keys ≡ take i keys ++ c.key-item.result ∷ [] =
    take_more keys i c.key-item.result (omega arith)
    ∙ ap (λ (key : Point). take i keys ++ key ∷ []) (sym c.key-item.is) in (
      λ x. found-removed c.args.self.now.keys.entries c.loop-key.self.keys.entries c.remove.new.self.entries
          (take i keys) c.key-item.result x (c.loop-key.invariant.0 x) (c.remove.ensures.updates.0 x)
          ∙ ap (λ (named : List Point). cond (list_any (point_eq x) named) None (found c.args.self.now.keys.entries x))
          (sym more),
      c.loop-key.invariant.1,
    )
