use Rattle.std.proofs.Common.{refl}
use Rattle.fdb_keys.specs.declared.refusal.Refusal.{Refusal}
use Rattle.fdb_keys.specs.declared.refusal.Refusal.TheVariants.{TransactionTooOld, FutureVersion, NotCommitted}
use Rattle.fdb_keys.specs.declared.refusal.Refusal.TheVariants.{CommitUnknownResult, AccessedUnreadable}
use Rattle.fdb_keys.specs.declared.refusal.Refusal.TheVariants.{KeyOutsideLegalRange}
use Rattle.fdb_keys.specs.declared.refusal.Refusal.TheVariants.{InvertedRange, TransactionTooLarge, KeyTooLarge}
use Rattle.fdb_keys.specs.declared.refusal.Refusal.TheVariants.{ValueTooLarge, NoMemory, NotYet, Stale, Failed}
use Rattle.fdb_keys.specs.declared.refusal.Refusal.TheVariants.{Exhausted, BookFull, Repeated, BadOperand, BadConfig}
use Rattle.fdb_keys.specs.declared.refusal.Refusal.TheVariants.{Chain, Taken, MovesFull, Closed, WrongState}
use Rattle.fdb_keys.specs.declared.refusal.Refusal.TheVariants.{NoTransaction, Unknown}
use Rattle.fdb_keys.specs.Examples.{RetriesByNumber}
use Rattle.fdb_keys.proofs.laws.refusals_that_may_be_tried_anew.Goals as goal

by_number : (why : Refusal) → RetriesByNumber why
by_number TransactionTooOld = (refl, refl)
by_number FutureVersion = (refl, refl)
by_number NotCommitted = (refl, refl)
by_number CommitUnknownResult = (refl, refl)
by_number AccessedUnreadable = (refl, refl)
by_number KeyOutsideLegalRange = (refl, refl)
by_number InvertedRange = (refl, refl)
by_number TransactionTooLarge = (refl, refl)
by_number KeyTooLarge = (refl, refl)
by_number ValueTooLarge = (refl, refl)
by_number NoMemory = (refl, refl)
by_number (NotYet number) = (refl, refl)
by_number Stale = (refl, refl)
by_number Failed = (refl, refl)
by_number Exhausted = (refl, refl)
by_number BookFull = (refl, refl)
by_number (Repeated place) = (refl, refl)
by_number BadOperand = (refl, refl)
by_number BadConfig = (refl, refl)
by_number Chain = (refl, refl)
by_number Taken = (refl, refl)
by_number MovesFull = (refl, refl)
by_number Closed = (refl, refl)
by_number WrongState = (refl, refl)
by_number NoTransaction = (refl, refl)
by_number Unknown = (refl, refl)

pub returns : goal.returns
returns c = by_number
