-- Refusals and ranges of prefixes, computed.
use Rattle.std.specs.Prelude.{◌≡◌, ◌||◌, ℕ, true, false, List, [], ◌∷◌, length, codes, Some, None, nat_eq}
use Rattle.fdb_keys.specs.Limits.{key_limit, bound_limit}
use Rattle.fdb_keys.specs.Prefixes.{prefix_range}
use Rattle.fdb_keys.specs.Ranges.{in_range}
use Rattle.fdb_keys.specs.Refusals.{code_of, name_of}
use Rattle.fdb_keys.specs.Retries.{is_maybe_committed, is_retryable}
use Rattle.fdb_keys.specs.Texts.{key_fault, range_fault}
use Rattle.fdb_keys.specs.declared.refusal.Refusal.{Refusal}
use Rattle.fdb_keys.specs.declared.refusal.Refusal.TheVariants.{TransactionTooOld, FutureVersion, NotCommitted}
use Rattle.fdb_keys.specs.declared.refusal.Refusal.TheVariants.{CommitUnknownResult, AccessedUnreadable}
use Rattle.fdb_keys.specs.declared.refusal.Refusal.TheVariants.{KeyOutsideLegalRange}
use Rattle.fdb_keys.specs.declared.refusal.Refusal.TheVariants.{InvertedRange, TransactionTooLarge, KeyTooLarge}
use Rattle.fdb_keys.specs.declared.refusal.Refusal.TheVariants.{ValueTooLarge, NoMemory, NotYet, Stale, Failed}
use Rattle.fdb_keys.specs.declared.refusal.Refusal.TheVariants.{Exhausted, BookFull, Repeated, BadOperand, BadConfig}
use Rattle.fdb_keys.specs.declared.refusal.Refusal.TheVariants.{Chain, Taken, MovesFull, Closed, WrongState}
use Rattle.fdb_keys.specs.declared.refusal.Refusal.TheVariants.{NoTransaction, Unknown}

-- the number of each refusal
abbrev pub WorkedCodes : Type 0
WorkedCodes =
    (code_of TransactionTooOld ≡ 1007)
    × (code_of FutureVersion ≡ 1009)
    × (code_of NotCommitted ≡ 1020)
    × (code_of CommitUnknownResult ≡ 1021)
    × (code_of AccessedUnreadable ≡ 1036)
    × (code_of KeyOutsideLegalRange ≡ 2004)
    × (code_of InvertedRange ≡ 2005)
    × (code_of TransactionTooLarge ≡ 2101)
    × (code_of KeyTooLarge ≡ 2102)
    × (code_of ValueTooLarge ≡ 2103)
    × (code_of NoMemory ≡ 9001)
    × (code_of (NotYet 7) ≡ 9002)
    × (code_of Stale ≡ 9003)
    × (code_of Failed ≡ 9004)
    × (code_of Exhausted ≡ 9005)
    × (code_of BookFull ≡ 9006)
    × (code_of (Repeated 7) ≡ 9007)
    × (code_of BadOperand ≡ 9008)
    × (code_of BadConfig ≡ 9009)
    × (code_of Chain ≡ 9010)
    × (code_of Taken ≡ 9011)
    × (code_of MovesFull ≡ 9012)
    × (code_of Closed ≡ 9013)
    × (code_of WrongState ≡ 9014)
    × (code_of NoTransaction ≡ 9015)
    × (code_of Unknown ≡ 9016)

-- the name of each refusal
abbrev pub WorkedNames : Type 0
WorkedNames =
    (name_of TransactionTooOld ≡ codes "TransactionTooOld")
    × (name_of FutureVersion ≡ codes "FutureVersion")
    × (name_of NotCommitted ≡ codes "NotCommitted")
    × (name_of CommitUnknownResult ≡ codes "CommitUnknownResult")
    × (name_of AccessedUnreadable ≡ codes "AccessedUnreadable")
    × (name_of KeyOutsideLegalRange ≡ codes "KeyOutsideLegalRange")
    × (name_of InvertedRange ≡ codes "InvertedRange")
    × (name_of TransactionTooLarge ≡ codes "TransactionTooLarge")
    × (name_of KeyTooLarge ≡ codes "KeyTooLarge")
    × (name_of ValueTooLarge ≡ codes "ValueTooLarge")
    × (name_of NoMemory ≡ codes "NoMemory")
    × (name_of (NotYet 7) ≡ codes "NotYet")
    × (name_of Stale ≡ codes "Stale")
    × (name_of Failed ≡ codes "Failed")
    × (name_of Exhausted ≡ codes "Exhausted")
    × (name_of BookFull ≡ codes "BookFull")
    × (name_of (Repeated 7) ≡ codes "Repeated")
    × (name_of BadOperand ≡ codes "BadOperand")
    × (name_of BadConfig ≡ codes "BadConfig")
    × (name_of Chain ≡ codes "Chain")
    × (name_of Taken ≡ codes "Taken")
    × (name_of MovesFull ≡ codes "MovesFull")
    × (name_of Closed ≡ codes "Closed")
    × (name_of WrongState ≡ codes "WrongState")
    × (name_of NoTransaction ≡ codes "NoTransaction")
    × (name_of Unknown ≡ codes "Unknown")

-- By its number: what may be tried anew, and what may be committed already. No refusal is both.
abbrev pub RetriesByNumber : Refusal → Type 0
RetriesByNumber why =
    (is_retryable why ≡ (nat_eq (code_of why) 1007 || nat_eq (code_of why) 1009 || nat_eq (code_of why) 1020))
    × (is_maybe_committed why ≡ nat_eq (code_of why) 1021)

-- the most bytes of a key, and of a bound
abbrev pub WorkedLimits : Type 0
WorkedLimits =
    (key_limit ≡ 10000)
    × (bound_limit ≡ 10001)

-- Texts that are keys or not: a first byte FE is legal, FF isn't.
abbrev pub WorkedKeys : Type 0
WorkedKeys =
    (key_fault [] ≡ None)
    × (key_fault (254 ∷ []) ≡ None)
    × (key_fault (254 ∷ 255 ∷ []) ≡ None)
    × (key_fault (255 ∷ []) ≡ Some KeyOutsideLegalRange)
    × (key_fault (255 ∷ 0 ∷ []) ≡ Some KeyOutsideLegalRange)

-- Texts that are ranges or not: a bound may be the one byte FF, and what comes after that is refused before bounds in
-- the wrong order are.
abbrev pub WorkedRanges : Type 0
WorkedRanges =
    (range_fault (97 ∷ []) (255 ∷ []) ≡ None)
    × (range_fault (97 ∷ []) (97 ∷ []) ≡ None)
    × (range_fault (255 ∷ []) (255 ∷ []) ≡ None)
    × (range_fault (97 ∷ []) (255 ∷ 0 ∷ []) ≡ Some KeyOutsideLegalRange)
    × (range_fault (98 ∷ []) (97 ∷ []) ≡ Some InvertedRange)
    × (range_fault (255 ∷ 0 ∷ []) (97 ∷ []) ≡ Some KeyOutsideLegalRange)

-- A text may have as many bytes as its limit says and no more, and one that is too large as well as outside the legal
-- range is refused as too large. Of two bounds that holds also where one is too large and the other one is outside.
abbrev pub WorkedLengths : Type 0
WorkedLengths =
    ((text : List ℕ) → length text ≡ 9999 → key_fault (97 ∷ text) ≡ None)
    × ((text : List ℕ) → length text ≡ 10000 → key_fault (97 ∷ text) ≡ Some KeyTooLarge)
    × ((text : List ℕ) → length text ≡ 9999 → key_fault (255 ∷ text) ≡ Some KeyOutsideLegalRange)
    × ((text : List ℕ) → length text ≡ 10000 → key_fault (255 ∷ text) ≡ Some KeyTooLarge)
    × ((text : List ℕ) → length text ≡ 10000 → range_fault [] (97 ∷ text) ≡ None)
    × ((text : List ℕ) → length text ≡ 10001 → range_fault [] (97 ∷ text) ≡ Some KeyTooLarge)
    × ((text : List ℕ) → length text ≡ 9999 → range_fault [] (255 ∷ 0 ∷ text) ≡ Some KeyOutsideLegalRange)
    × ((text : List ℕ) → length text ≡ 10000 → range_fault [] (255 ∷ 0 ∷ text) ≡ Some KeyTooLarge)
    × ((text : List ℕ) → length text ≡ 10001 → range_fault (97 ∷ text) [] ≡ Some KeyTooLarge)
    × ((text : List ℕ) → length text ≡ 10001 → range_fault (255 ∷ 0 ∷ []) (97 ∷ text) ≡ Some KeyTooLarge)

-- Prefixes: where their ranges end, the bytes FF at the end of a prefix being dropped, and which keys lie in the range
-- of one that ends with FF.
abbrev pub WorkedPrefixes : Type 0
WorkedPrefixes =
    ((prefix_range []).end ≡ 255 ∷ [])
    × ((prefix_range (97 ∷ [])).end ≡ 98 ∷ [])
    × ((prefix_range (97 ∷ 255 ∷ [])).end ≡ 98 ∷ [])
    × ((prefix_range (97 ∷ 255 ∷ 98 ∷ [])).end ≡ 97 ∷ 255 ∷ 99 ∷ [])
    × ((prefix_range (254 ∷ 255 ∷ 255 ∷ [])).end ≡ 255 ∷ [])
    × (in_range (prefix_range (97 ∷ 255 ∷ [])) (97 ∷ 255 ∷ []) ≡ true)
    × (in_range (prefix_range (97 ∷ 255 ∷ [])) (97 ∷ 255 ∷ 0 ∷ []) ≡ true)
    × (in_range (prefix_range (97 ∷ 255 ∷ [])) (97 ∷ 254 ∷ 255 ∷ []) ≡ false)
    × (in_range (prefix_range (97 ∷ 255 ∷ [])) (98 ∷ []) ≡ false)
    × (in_range (prefix_range (97 ∷ 255 ∷ [])) (97 ∷ []) ≡ false)
