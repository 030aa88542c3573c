-- The lemmas that proofs of other crates cite, and no others.
pub use Rattle.fdb_interval.proofs.BreaksLemmas.{absorbed, all-sift, all_imply, all_kept, at, at-is, before}
pub use Rattle.fdb_interval.proofs.BreaksLemmas.{before-last-none, before-last-some, beyond, cut_beyond, cut_from}
pub use Rattle.fdb_interval.proofs.BreaksLemmas.{cut_in_two, cut_within, five_parts, from, inside, inside-is}
pub use Rattle.fdb_interval.proofs.BreaksLemmas.{rising-sift, rising_from_sorted, sift, up_to, value-after}
pub use Rattle.fdb_interval.proofs.BreaksLemmas.{value-append, value-last-none, value-last-some, value-reached}
pub use Rattle.fdb_interval.proofs.PartsLemmas.{all_left, at_after, at_before, at_itself, at_same, equal_points}
pub use Rattle.fdb_interval.proofs.PartsLemmas.{found-at, greater_after, later_than_same, less_first, put, rising-put}
pub use Rattle.fdb_interval.proofs.PartsLemmas.{rising-taken, taken, taken-other, taken-passing}
pub use Rattle.fdb_interval.proofs.ThroughoutLemmas.{none-anywhere, none-at, none-inside, value-nowhere}
pub use Rattle.fdb_interval.proofs.ThroughoutLemmas.{value-throughout}
