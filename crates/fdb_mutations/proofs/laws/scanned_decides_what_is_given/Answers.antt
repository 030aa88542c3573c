use Rattle.fdb_mutations.proofs.ScannedLemmas.{lies_in_the_range, has_what_was_given, decides_what_is_given}
use Rattle.fdb_mutations.proofs.laws.scanned_decides_what_is_given.Goals as goal

pub returns-clause-inside : goal.returns-clause-inside
returns-clause-inside c = lies_in_the_range

pub returns-clause-given : goal.returns-clause-given
returns-clause-given c = has_what_was_given

pub returns-clause-decided : goal.returns-clause-decided
returns-clause-decided c = decides_what_is_given
