-- The refusals' numbers and names.
use Rattle.std.specs.Prelude.{ℕ, List, codes}
use Rattle.fdb_keys.specs.declared.refusal.Refusal.{Refusal}
use Rattle.fdb_keys.specs.declared.refusal.Refusal.TheVariants.{TransactionTooOld, FutureVersion, NotCommitted}
use Rattle.fdb_keys.specs.declared.refusal.Refusal.TheVariants.{CommitUnknownResult, AccessedUnreadable}
use Rattle.fdb_keys.specs.declared.refusal.Refusal.TheVariants.{KeyOutsideLegalRange}
use Rattle.fdb_keys.specs.declared.refusal.Refusal.TheVariants.{InvertedRange, TransactionTooLarge, KeyTooLarge}
use Rattle.fdb_keys.specs.declared.refusal.Refusal.TheVariants.{ValueTooLarge, NoMemory, NotYet, Stale, Failed}
use Rattle.fdb_keys.specs.declared.refusal.Refusal.TheVariants.{Exhausted, BookFull, Repeated, BadOperand, BadConfig}
use Rattle.fdb_keys.specs.declared.refusal.Refusal.TheVariants.{Chain, Taken, MovesFull, Closed, WrongState}
use Rattle.fdb_keys.specs.declared.refusal.Refusal.TheVariants.{NoTransaction, Unknown}

-- the number of a refusal
abbrev pub code_of : Refusal → ℕ
code_of TransactionTooOld = 1007
code_of FutureVersion = 1009
code_of NotCommitted = 1020
code_of CommitUnknownResult = 1021
code_of AccessedUnreadable = 1036
code_of KeyOutsideLegalRange = 2004
code_of InvertedRange = 2005
code_of TransactionTooLarge = 2101
code_of KeyTooLarge = 2102
code_of ValueTooLarge = 2103
code_of NoMemory = 9001
code_of (NotYet number) = 9002
code_of Stale = 9003
code_of Failed = 9004
code_of Exhausted = 9005
code_of BookFull = 9006
code_of (Repeated place) = 9007
code_of BadOperand = 9008
code_of BadConfig = 9009
code_of Chain = 9010
code_of Taken = 9011
code_of MovesFull = 9012
code_of Closed = 9013
code_of WrongState = 9014
code_of NoTransaction = 9015
code_of Unknown = 9016

-- the name of a refusal
abbrev pub name_of : Refusal → List ℕ
name_of TransactionTooOld = codes "TransactionTooOld"
name_of FutureVersion = codes "FutureVersion"
name_of NotCommitted = codes "NotCommitted"
name_of CommitUnknownResult = codes "CommitUnknownResult"
name_of AccessedUnreadable = codes "AccessedUnreadable"
name_of KeyOutsideLegalRange = codes "KeyOutsideLegalRange"
name_of InvertedRange = codes "InvertedRange"
name_of TransactionTooLarge = codes "TransactionTooLarge"
name_of KeyTooLarge = codes "KeyTooLarge"
name_of ValueTooLarge = codes "ValueTooLarge"
name_of NoMemory = codes "NoMemory"
name_of (NotYet number) = codes "NotYet"
name_of Stale = codes "Stale"
name_of Failed = codes "Failed"
name_of Exhausted = codes "Exhausted"
name_of BookFull = codes "BookFull"
name_of (Repeated place) = codes "Repeated"
name_of BadOperand = codes "BadOperand"
name_of BadConfig = codes "BadConfig"
name_of Chain = codes "Chain"
name_of Taken = codes "Taken"
name_of MovesFull = codes "MovesFull"
name_of Closed = codes "Closed"
name_of WrongState = codes "WrongState"
name_of NoTransaction = codes "NoTransaction"
name_of Unknown = codes "Unknown"
