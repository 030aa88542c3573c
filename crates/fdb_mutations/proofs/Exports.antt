-- The lemmas that proofs of other crates cite, and no others.
pub use Rattle.fdb_mutations.proofs.Effects.{at_every_point, blind_is_blind, effect-clipped, in_named_range}
pub use Rattle.fdb_mutations.proofs.Effects.{ranges_are_cleared}
pub use Rattle.fdb_mutations.proofs.EqualityLemmas.{mutation_eq_decides}
pub use Rattle.fdb_mutations.proofs.FirstPairLemmas.{first-inside, first-is, no_pairs, none-before}
pub use Rattle.fdb_mutations.proofs.MapsLemmas.{between-within, entries-sorted, forward-bounds, get-pairs}
pub use Rattle.fdb_mutations.proofs.MapsLemmas.{pairs-decide, some_kept, value_at}
pub use Rattle.fdb_mutations.proofs.OrderedLemmas.{all-passes, all-reverse, all_at, filter_all, filter_both}
pub use Rattle.fdb_mutations.proofs.OrderedLemmas.{filter_none, ordered-filter, parted}
pub use Rattle.fdb_mutations.proofs.PairsLemmas.{all_in-pairs_in, comes_before, find-within, no_values}
pub use Rattle.fdb_mutations.proofs.PairsLemmas.{ordered-pairs_in, pairs_from_a_key_on, pairs_in-part, same_values}
pub use Rattle.fdb_mutations.proofs.ScannedLemmas.{decides_what_is_given}
pub use Rattle.fdb_mutations.proofs.StampLemmas.{stamps_are_final, stamps_keep_names}
