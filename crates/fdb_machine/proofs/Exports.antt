-- The lemmas that proofs of other crates cite, and no others.
pub use Rattle.fdb_machine.proofs.common.FaultLemmas.{Unless, by_test-map, left-or-failed, never-refused, unless}
pub use Rattle.fdb_machine.proofs.common.FaultLemmas.{unless-fault, unless-lacked, unless-map}
pub use Rattle.fdb_machine.proofs.common.SumLemmas.{counted, sum-at}
pub use Rattle.fdb_machine.proofs.headline.HeadlineLaws.{serializable-step, sound-after, strictly_serializable}
pub use Rattle.fdb_machine.proofs.headline.RunsLemmas.{run-push}
pub use Rattle.fdb_machine.proofs.invariant.IdLemmas.{submits-unrepeated}
pub use Rattle.fdb_machine.proofs.invariant.LentLaws.{book-is}
pub use Rattle.fdb_machine.proofs.invariant.SoundLaws.{sound-start}
pub use Rattle.fdb_machine.proofs.invariant.SoundLemmas.{sessions-stand}
pub use Rattle.fdb_machine.proofs.machine.FinishLemmas.{finished-read_only, finished-to_commit, unfinished}
pub use Rattle.fdb_machine.proofs.machine.OpenLemmas.{answers-follow, anyhow, at-open, given-follows, of-open}
pub use Rattle.fdb_machine.proofs.machine.OpenLemmas.{open-given, open-known, open-none, open-refused, refused-follows}
pub use Rattle.fdb_machine.proofs.machine.OpenLemmas.{some-follows, state-kept, state-put}
pub use Rattle.fdb_machine.proofs.machine.RangeFaultLemmas.{begin-point, of-range, point-begin, served-range}
pub use Rattle.fdb_machine.proofs.machine.RangeFaultLemmas.{too-old-range}
pub use Rattle.fdb_machine.proofs.machine.Sealing.{length-sealed, sealed_entry, sealed_proxy, seals-transition}
pub use Rattle.fdb_machine.proofs.machine.SessionLemmas.{open-has, open-new, open-put, open-served, open-told}
pub use Rattle.fdb_machine.proofs.machine.SessionLemmas.{open-weaken}
pub use Rattle.fdb_machine.proofs.machine.SessionMaps.{acted-there, all_acted-put, all_known-put, put-there}
pub use Rattle.fdb_machine.proofs.machine.SessionMaps.{put_back-same, state-again}
pub use Rattle.fdb_machine.proofs.machine.Steps.{window-legal}
pub use Rattle.fdb_machine.proofs.machine.Transitions.{pushes-transition, reads-refused, reads-transition}
pub use Rattle.fdb_machine.proofs.machine.Transitions.{resolves-transition, submits-to_commit}
pub use Rattle.fdb_machine.proofs.readings.SessionLists.{item-after-set}
pub use Rattle.fdb_machine.proofs.readings.TraceReadings.{config-after}
