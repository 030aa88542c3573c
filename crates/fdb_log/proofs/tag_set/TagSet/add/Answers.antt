use Rattle.std.proofs.Common.{◌∙◌, ap, ℕ, List, ◌∷◌}
use Rattle.fdb_log.specs.TagSets.{is_among, tags_that}
use Rattle.fdb_log.proofs.TagSetLemmas.{bits-set}
use Rattle.fdb_log.proofs.tag_set.TagSet.add.Goals as goal

pub returns : goal.returns
returns c =
    bits-set c.self.inside.bits c.args.tag c.requires
    ∙ ap (λ (tags : List ℕ). tags_that (is_among (c.args.tag ∷ tags))) c.self.view_is
