use Rattle.std.proofs.Common.{◌∙◌, sym, ap, arith}
use Rattle.fdb_log.specs.TagSets.{tags_of_bits}
use Rattle.fdb_log.proofs.TagSetLemmas.{bits-none, bits-first, bits-once}
use Rattle.fdb_log.proofs.tag_set.TagSet.pop_first.Goals as goal

pub returns-then-self-eq0-clause-first : goal.returns-then-self-eq0-clause-first
returns-then-self-eq0-clause-first c = sym c.self.view_is ∙ ap tags_of_bits c.if-self-eq0.true ∙ bits-none

pub returns-clause-first : goal.returns-clause-first
returns-clause-first c = sym c.self.view_is ∙ bits-first c.self.inside.bits (omega arith) (omega arith)

pub returns-clause-once : goal.returns-clause-once
returns-clause-once c = bits-once c.self.inside.bits (omega arith) (omega arith)
