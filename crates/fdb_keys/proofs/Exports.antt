-- The lemmas that proofs of other crates cite, and no others.
pub use Rattle.fdb_keys.proofs.ApartLemmas.{all_after, apart-with_range, apart-with_ranges, in_set-before}
pub use Rattle.fdb_keys.proofs.ApartLemmas.{in_with_range, in_with_ranges, same_list}
pub use Rattle.fdb_keys.proofs.BehindLemmas.{after_next, behind-inside, not_behind-itself}
pub use Rattle.fdb_keys.proofs.ClippingLemmas.{in_clipped-points, in_common}
pub use Rattle.fdb_keys.proofs.EqualityLemmas.{items_eq_decides, key_eq_decides, range_eq_decides, range_set_eq_decides}
pub use Rattle.fdb_keys.proofs.InsertionLemmas.{apart_parts, in_range-empty}
pub use Rattle.fdb_keys.proofs.OrderedLemmas.{all-append, all-filter, all-parts, all-weaken, ordered-back}
pub use Rattle.fdb_keys.proofs.OrderedLemmas.{ordered-before, ordered-front, ordered-parted, ordered-push}
pub use Rattle.fdb_keys.proofs.OrderedLemmas.{searched-parts}
pub use Rattle.fdb_keys.proofs.OutsideLemmas.{apart-outside, in_outside}
pub use Rattle.fdb_keys.proofs.PointOrder.{cmp_greater, cmp_less, le_chain, le_lt_chain, lt-itself, lt_chain}
pub use Rattle.fdb_keys.proofs.PointOrder.{lt_le_chain, lt_one_way, point_order}
pub use Rattle.fdb_keys.proofs.RangeMapLemmas.{not_past}
pub use Rattle.fdb_keys.proofs.RangesLemmas.{HaveCommonPoint, common_from_meet, in_range_from, in_range_parts}
pub use Rattle.fdb_keys.proofs.RangesLemmas.{meet_from_common}
pub use Rattle.fdb_keys.proofs.RemovalLemmas.{in_between}
pub use Rattle.fdb_keys.proofs.SingleLemmas.{below_next, in_range-single, next_after}
pub use Rattle.fdb_keys.proofs.TextsLemmas.{before_ff-key, is_bound-key}
pub use Rattle.fdb_keys.proofs.WithinLemmas.{within-points}
