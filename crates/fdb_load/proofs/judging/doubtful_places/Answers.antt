use Rattle.std.proofs.Common.{◌≡◌, ◌++◌, ◌∷◌, [], sym, subst, List, All, rules}
use Rattle.std.proofs.lemmas.List.Elements.{All-push}
use Rattle.fdb_load.specs.declared.run.Place.{Place}
use Rattle.fdb_load.specs.Judging.{IsCommittedBy}
use Rattle.fdb_load.proofs.judging.doubtful_places.Goals as goal
use Rattle.fdb_load.proofs.judging.doubtful_places.Goals.{in-Some+in_ok-push, in_default}

pub loop-transcript-preserved : goal.loop-transcript-preserved
loop-transcript-preserved c =
    let kept = c.args.kept.now in
    let P : Place → Type 0 = IsCommittedBy kept.config.now.resolver_splits kept.entries.now kept.committed in
    elim c.match-branch-2.branch [
      | in-Some+in_ok-push w ↦
          let there : P w.in-Some.place = rw w.in-Some.is at c.in_ok-place.ensures.committed in
          let pushed : c.match-branch-2.places.items
          ≡ c.loop-transcript.places.items ++ w.in-Some.place ∷ [] = search rules in
          subst (λ (l : List Place). All P l) (sym pushed) (All-push P _ _ c.loop-transcript.invariant there)
      | in_default w ↦
          let same : c.match-branch-2.places.items ≡ c.loop-transcript.places.items = search rules in
          subst (λ (l : List Place). All P l) (sym same) c.loop-transcript.invariant
    ]
