use Rattle.std.proofs.Common.{◌≡◌, ◌∙◌, sym, ap, subst, List, ℕ, [], ◌∷◌, ◌++◌, ◌+◌, take, arith}
use Rattle.std.proofs.lemmas.List.{take_more, map-append}
use Rattle.fdb_mutations.specs.declared.mutation.Mutation.{Mutation}
use Rattle.fdb_txn.specs.rules.Messages.{mutations_in}
use Rattle.fdb_storage.specs.Changes.{HaveChangedIn, changed_by}
use Rattle.fdb_storage.proofs.ChangesLemmas.{changed-body, changed-in, changed-none}
use Rattle.fdb_storage.proofs.applying.apply_body.Goals as goal

pub loop-place-init : goal.loop-place-init
loop-place-init c = record {
  changed =
      changed-in c.args.range.now c.args.version (λ x before. before) c.args.map.now.keys.entries
      c.args.map.now.keys.entries
      (changed-none c.args.version c.args.map.now.keys.entries c.requires.ended c.requires.legal_keys);
  live = c.requires.live;
}

pub loop-place-preserved : goal.loop-place-preserved
loop-place-preserved c =
    let i = c.loop-place._place-index in
    let body = c.args.body.now in
    let sent : ℕ × Mutation = c.loop-place-item.result in
    let more : mutations_in (take (i + 1) body) ≡ mutations_in (take i body) ++ sent.1 ∷ [] =
    ap mutations_in (take_more body i sent (omega arith)
    ∙ ap (λ (one : ℕ × Mutation). take i body ++ one ∷ []) (sym c.loop-place-item.is))
    ∙ map-append (λ (one : ℕ × Mutation). one.1) (take i body) (sent ∷ []) in
    record {
      changed =
          subst (λ (some : List Mutation). HaveChangedIn c.args.range.now c.args.version (changed_by some)
          c.args.map.now.keys.entries c.apply_mutation.new.map.keys.entries) (sym more)
          (changed-body c.args.range.now c.args.version (mutations_in (take i body)) sent.1 c.args.map.now.keys.entries
          c.loop-place.map.keys.entries c.apply_mutation.new.map.keys.entries c.loop-place.invariant.changed
          c.in_ok-apply_mutation.ensures.changed);
      live = c.in_ok-apply_mutation.ensures.live;
    }
