use Rattle.std.proofs.Common.{◌∙◌, sym, ap, subst, refl, ◌+◌, drop, List, arith}
use Rattle.std.proofs.lemmas.List.{drop_more}
use Rattle.fdb_owners.specs.declared.history.Change.{Change}
use Rattle.fdb_owners.specs.declared.parts.Owned.{Owned}
use Rattle.fdb_owners.specs.Parts.{AreRising, with_changes}
use Rattle.fdb_owners.proofs.PartsLemmas.{rising-with_part}
use Rattle.fdb_owners.proofs.parts.add_owners.Goals as goal

pub loop-change-init : goal.loop-change-init
loop-change-init c = record {
  rising = subst AreRising (sym c.in_ok-add_part.ensures)
      (rising-with_part c.owner_at.result c.args.piece.now c.args.parts.now.items c.requires.rising);
  same = refl;
}

pub loop-change-preserved : goal.loop-change-preserved
loop-change-preserved c = record {
  rising = subst AreRising (sym c.in_ok-add_part-2.ensures)
      (rising-with_part _ c.args.piece.now c.loop-change.parts.items c.loop-change.invariant.rising);
  same =
      let changes = c.changes_within-change-items.result.now in
      let some : Change = record { version = 0; owner = 0 } in
      ap (λ (parts : List Owned). with_changes c.args.piece.now parts (drop (c.loop-change.change-index + 1) changes))
      c.in_ok-add_part-2.ensures
      ∙ ap (λ (rest : List Change). with_changes c.args.piece.now c.loop-change.parts.items rest)
      (sym (drop_more changes c.loop-change.change-index some (omega arith)))
      ∙ c.loop-change.invariant.same;
}
