-- What becomes of a session that carries pairs over, what it has set, and what it has compared.
use Rattle.std.proofs.Common.{◌≡◌, ◌∙◌, sym, ap, subst, refl, ℕ, ◌+◌, ◌<◌, ◌≤◌, zero, suc, Bool}
use Rattle.std.proofs.Common.{true, false, List, [], ◌∷◌, ◌++◌, length, map, fold, take, drop, sum_by, get_or}
use Rattle.std.proofs.Common.{slice_get, not, Option, Some, None}
use Rattle.std.proofs.Common.{Result, Ok, Err, ⊎_elim, arith}
use Rattle.std.specs.Prelude.{◌↔◌, ◌||◌, ◌&&◌, ◌==◌, IfErr, IfSome, OnOk, if◌then◌else◌, nat_eq}
use Rattle.std.specs.Prelude.{nat_lt}
use Rattle.std.specs.Bool.{Decides}
use Rattle.std.specs.Cmp.Lexicographic.{bytes_decides, pointwise}
use Rattle.std.specs.List.{AllByRecursion, list_any, starts_with}
use Rattle.std.specs.Option.{is_some}
use Rattle.std.proofs.lemmas.Bool.{eqb-true, or_left, or_right, and_from, both_ways}
use Rattle.std.proofs.lemmas.Bool.Decides.{Decides-and}
use Rattle.std.proofs.lemmas.List.{append-nil, append_assoc, append_cancel_left, map-append, take-append-drop}
use Rattle.std.proofs.lemmas.List.{take-take, take_more}
use Rattle.std.proofs.lemmas.List.Sums.{sum_by-take-le, sum_by_more}
use Rattle.std.proofs.lemmas.List.Concat.{flat_map-append}
use Rattle.std.proofs.lemmas.Option.{get_or_from_slice_get, same_Some, slice_get_within}
use Rattle.std.proofs.lemmas.Slice.Eq.{starts_is}
use Rattle.fdb_keys.specs.Equality.{key_eq}
use Rattle.fdb_keys.specs.Points.{Point}
use Rattle.fdb_keys.specs.Ranges.{Range, in_set}
use Rattle.fdb_keys.specs.declared.refusal.Refusal.{Refusal}
use Rattle.fdb_keys.specs.declared.refusal.Refusal.TheVariants.{NoTransaction, NotCommitted, TransactionTooLarge}
use Rattle.fdb_keys.specs.declared.refusal.Refused.{Refused}
use Rattle.fdb_keys.proofs.Exports.{key_eq_decides}
use Rattle.fdb_mutations.specs.Maps.{Map}
use Rattle.fdb_mutations.specs.Pairs.{pairs_in}
use Rattle.fdb_mutations.specs.declared.mutation.Mutation.TheVariants.{Set}
use Rattle.fdb_book.specs.Fronts.{IsPrefix}
use Rattle.fdb_txn.specs.Limits.{size_limit}
use Rattle.fdb_txn.specs.book.Size.{size_fault, size_of}
use Rattle.fdb_txn.specs.book.Transactions.{Transaction}
use Rattle.fdb_txn.specs.book.Book.{Place}
use Rattle.fdb_txn.specs.rules.Admission.{admits, all_below, committed, has_points, is_fresh, no_conflict, overlaps_at}
use Rattle.fdb_txn.specs.rules.Owners.{corners, owner}
use Rattle.fdb_txn.specs.declared.entry.Entry.{Entry}
use Rattle.fdb_proxy.specs.declared.config.Config.{Config}
use Rattle.fdb_client.specs.Programs.{commit_request_of, is_read_only, program, read_ranges, replies_of}
use Rattle.fdb_client.specs.declared.program.Op.{Op}
use Rattle.fdb_client.specs.declared.program.Op.TheVariants as op
use Rattle.fdb_client.specs.declared.program.Reply.{Reply}
use Rattle.fdb_client.specs.declared.program.Reply.TheVariants as reply
use Rattle.fdb_client.specs.declared.program.Transcript.{Transcript}
use Rattle.fdb_roles.specs.Sessions.{submit_fault}
use Rattle.fdb_runtime.specs.Works.{IsSameSession}
use Rattle.fdb_sections.specs.Commits.{Back, CommitAnswers, HasReceipt, HasTranscript, open_fault, is_handed_back}
use Rattle.fdb_sections.specs.Receipts.{IsReceipt, ReceiptAtFront}
use Rattle.fdb_sections.specs.Records.{every_key}
use Rattle.fdb_sections.specs.Refusals.{is_of_begin, is_of_read}
use Rattle.fdb_sections.specs.Sessions.{Session, with_current}
use Rattle.fdb_sections.specs.ShardViews.{run_of}
use Rattle.fdb_layers.specs.Operations.{HasDone}
use Rattle.fdb_layers.specs.Reads.{pairs_left, run_at, run_read, HasOnlyRead}
use Rattle.fdb_layers.specs.Rolling.{pair_size, setting, AreSet, AreSetAtOnce, BeginWith, ComparesPage, GoesOn}
use Rattle.fdb_layers.specs.Rolling.{is_of_carrying, is_of_commit, is_of_set, is_unsubmitted}
use Rattle.fdb_layers.proofs.ReadsLemmas.{one-run}

abbrev Pair : Type 0
Pair = Point × List ℕ

-- ---- a session goes on
pub begins-itself : (front : List Entry) → IsPrefix front front
begins-itself front = ([], sym (append-nil front))

pub begins-further : (a b c : List Entry) → IsPrefix a b → IsPrefix b c → IsPrefix a c
begins-further a b c first second = (
  first.0 ++ second.0,
  second.1 ∙ ap (λ (front : List Entry). front ++ second.0) first.1 ∙ append_assoc a first.0 second.0,
)

pub goes-further : (a b c : Session) → GoesOn a b → GoesOn b c → GoesOn a c
goes-further a b c first second = record {
  number = second.number ∙ first.number;
  begun = omega (arith, first.begun, second.begun);
  seen = begins-further a.front b.front c.front first.seen second.seen;
}

-- it began nothing and has seen nothing more
pub stays : (old new : Session) → IsSameSession old new → new.front ≡ old.front → GoesOn old new
stays old new same seen = record {
  number = same.0;
  begun = omega (arith, same.1);
  seen = subst (IsPrefix old.front) (sym seen) (begins-itself old.front);
}

pub stays-same : (old new : Session) → new ≡ old → GoesOn old new
stays-same old new same = stays old new
    (ap (λ (it : Session). it.number) same, ap (λ (it : Session). it.next_number) same)
    (ap (λ (it : Session). it.front) same)

pub stays-but-open : (old new : Session) (current : Option Transcript) → new ≡ with_current old current → GoesOn old new
stays-but-open old new current is = stays old new
    (ap (λ (it : Session). it.number) is, ap (λ (it : Session). it.next_number) is)
    (ap (λ (it : Session). it.front) is)

-- it began a transaction
pub goes-begun : (old new : Session) (current : Option Transcript) → IsPrefix old.front new.front
    → new ≡ record old { next_number = suc old.next_number; front = new.front; current = current } → GoesOn old new
goes-begun old new current begins is = record {
  number = ap (λ (it : Session). it.number) is;
  begun = omega (arith, ap (λ (it : Session). it.next_number) is);
  seen = begins;
}

-- ---- a session commits
receipt-goes-on : (old new : Session) (receipt : ReceiptAtFront) (current : Option Transcript)
    → open_fault current ≡ None
    → IfSome current (λ (transcript : Transcript). HasReceipt old transcript receipt new) → GoesOn old new
receipt-goes-on old new receipt None fault has =
    absurd (let wrong : Some NoTransaction ≡ None = fault in cc)
receipt-goes-on old new receipt (Some transcript) fault has = record {
  number = ap (λ (it : Session). it.number) has.left;
  begun = omega (arith, ap (λ (it : Session). it.next_number) has.left);
  seen = subst (IsPrefix old.front) (sym (ap (λ (it : Session). it.front) has.left)) has.begins;
}

back-goes-on : (config : Config) (old new : Session) (refused : Refused Back) (current : Option Transcript)
    → open_fault current ≡ None
    → IfSome current (λ (transcript : Transcript). HasTranscript config old transcript refused new) → GoesOn old new
back-goes-on config old new refused None fault has =
    absurd (let wrong : Some NoTransaction ≡ None = fault in cc)
back-goes-on config old new refused (Some transcript) fault has = record {
  number = ap (λ (it : Session). it.number) has.left;
  begun = omega (arith, ap (λ (it : Session). it.next_number) has.left);
  seen = has.begins;
}

pub commit-goes-on : (config : Config) (old new : Session) (result : Result ReceiptAtFront (Refused Back))
    → CommitAnswers config old result new → GoesOn old new
commit-goes-on config old new (Ok receipt) answers =
    receipt-goes-on old new receipt old.current answers.0 answers.1
commit-goes-on config old new (Err refused) answers = ⊎_elim
    (λ kept. stays-same old new kept.1)
    (λ ended. back-goes-on config old new refused old.current ended.0 ended.1)
    answers

-- what it is refused as
size-listed : (transaction : Transaction) (why : Refusal) → size_fault transaction ≡ Some why
    → is_unsubmitted why ≡ true
size-listed transaction why fault = by_test (nat_lt size_limit (size_of transaction)) fault
  where
    by_test : (large : Bool) → (if large then Some TransactionTooLarge else None) ≡ Some why
        → is_unsubmitted why ≡ true
    by_test true is = ap is_unsubmitted (sym (same_Some TransactionTooLarge why is))
    by_test false is = absurd (let wrong : None ≡ Some why = is in cc)

submit-listed : (transcript : Transcript) (why : Refusal) → submit_fault transcript ≡ Some why
    → is_unsubmitted why ≡ true
submit-listed transcript why fault = by_test (is_read_only transcript) fault
  where
    by_test : (read_only : Bool) → (if read_only then None else size_fault (commit_request_of transcript)) ≡ Some why
        → is_unsubmitted why ≡ true
    by_test true is = absurd (let wrong : None ≡ Some why = is in cc)
    by_test false is = size-listed (commit_request_of transcript) why is

fault-listed : (current : Option Transcript) (why : Refusal) → open_fault current ≡ Some why → is_unsubmitted why ≡ true
fault-listed None why fault = ap is_unsubmitted (sym (same_Some NoTransaction why fault))
fault-listed (Some transcript) why fault = submit-listed transcript why fault

back-listed : (config : Config) (old new : Session) (refused : Refused Back) (current : Option Transcript)
    → open_fault current ≡ None
    → IfSome current (λ (transcript : Transcript). HasTranscript config old transcript refused new)
    → is_handed_back refused.why ≡ true
back-listed config old new refused None fault has =
    absurd (let wrong : Some NoTransaction ≡ None = fault in cc)
back-listed config old new refused (Some transcript) fault has = has.listed

pub commit-listed : (config : Config) (old new : Session) (refused : Refused Back)
    → CommitAnswers config old (Err refused) new → is_of_commit refused.why ≡ true
commit-listed config old new refused answers = ⊎_elim
    (λ kept. or_right (is_handed_back refused.why) (is_unsubmitted refused.why)
    (⊎_elim (λ memory. ap is_unsubmitted memory) (λ fault. fault-listed old.current refused.why fault) kept.2))
    (λ ended. or_left (is_handed_back refused.why) (is_unsubmitted refused.why)
    (back-listed config old new refused old.current ended.0 ended.1))
    answers

-- ---- the refusals of one that carries pairs over
pub begin-listed : (why : Refusal) → is_of_begin why ≡ true → is_of_carrying why ≡ true
begin-listed why listed = or_left (is_of_begin why) (is_of_set why || (is_of_commit why || is_of_read why)) listed

pub set-listed : (why : Refusal) → is_of_set why ≡ true → is_of_carrying why ≡ true
set-listed why listed = or_right (is_of_begin why) (is_of_set why || (is_of_commit why || is_of_read why))
    (or_left (is_of_set why) (is_of_commit why || is_of_read why) listed)

pub committing-listed : (why : Refusal) → is_of_commit why ≡ true → is_of_carrying why ≡ true
committing-listed why listed = or_right (is_of_begin why) (is_of_set why || (is_of_commit why || is_of_read why))
    (or_right (is_of_set why) (is_of_commit why || is_of_read why) (or_left (is_of_commit why) (is_of_read why) listed))

pub read-listed : (why : Refusal) → is_of_read why ≡ true → is_of_carrying why ≡ true
read-listed why listed = or_right (is_of_begin why) (is_of_set why || (is_of_commit why || is_of_read why))
    (or_right (is_of_set why) (is_of_commit why || is_of_read why)
    (or_right (is_of_commit why) (is_of_read why) listed))

-- ---- what was set
pub kept-on : (a b c : Session) → b ≡ with_current a b.current → c ≡ with_current b c.current
    → c ≡ with_current a c.current
kept-on a b c first second = second ∙ ap (λ (it : Session). with_current it c.current) first

pub set-one-more : (pairs : List Pair) (index : ℕ) (pair : Pair) (current : Option Transcript)
    → slice_get pairs index ≡ Some pair → HasDone current (map setting (take index pairs) ++ setting pair ∷ [])
    → HasDone current (map setting (take (index + 1) pairs))
set-one-more pairs index pair current there done = subst (HasDone current)
    (sym (ap (map setting) (take_more pairs index pair (slice_get_within pairs index pair there)
    ∙ ap (λ (it : Pair). take index pairs ++ it ∷ []) (get_or_from_slice_get pairs index pair pair there))
    ∙ map-append setting (take index pairs) (pair ∷ [])))
    done

set-by-receipt : (splits : List Point) (old new : Session) (receipt : ReceiptAtFront) → IsReceipt splits receipt
    → (pairs : List Pair) (current : Option Transcript) → open_fault current ≡ None
    → IfSome current (λ (transcript : Transcript). HasReceipt old transcript receipt new)
    → HasDone current (map setting pairs) → AreSetAtOnce splits new.front pairs
set-by-receipt splits old new receipt is pairs None fault has done = absurd done
set-by-receipt splits old new receipt is pairs (Some transcript) fault has done = record {
  receipt = receipt;
  committed = is;
  seen = subst (IsPrefix receipt.front) (sym (ap (λ (it : Session). it.front) has.left))
      (begins-itself receipt.front);
  done = ap (λ (it : Transcript). it.ops) has.its ∙ done;
}

pub set-by-commit : (config : Config) (old new : Session) (receipt : ReceiptAtFront)
    → CommitAnswers config old (Ok receipt) new → IsReceipt config.resolver_splits receipt → (pairs : List Pair)
    → HasDone old.current (map setting pairs) → AreSetAtOnce config.resolver_splits new.front pairs
set-by-commit config old new receipt answers is pairs done =
    set-by-receipt config.resolver_splits old new receipt is pairs old.current answers.0 answers.1 done

-- some pairs are set, and the others are left
pub record AreSetBut (splits : List Point) (front : List Entry) (pairs rest : List Pair) : Type 0 where
  pub first : List Pair
  pub whole : pairs ≡ first ++ rest
  pub set : AreSet splits front first

pub none-set : (splits : List Point) (front : List Entry) (pairs : List Pair) → AreSetBut splits front pairs pairs
none-set splits front pairs = record {
  first = [];
  whole = refl;
  set = record { parts = []; whole = refl; each = tt };
}

each-later : (splits : List Point) (short long : List Entry) → IsPrefix short long → (parts : List (List Pair))
    → AllByRecursion (AreSetAtOnce splits short) parts → AllByRecursion (AreSetAtOnce splits long) parts
each-later splits short long begins [] each = tt
each-later splits short long begins (part ∷ parts) each = (
  record {
    receipt = each.0.receipt;
    committed = each.0.committed;
    seen = begins-further each.0.receipt.front short long each.0.seen begins;
    done = each.0.done;
  },
  each-later splits short long begins parts each.1,
)

one-more : (splits : List Point) (front : List Entry) (parts : List (List Pair)) (part : List Pair)
    → AllByRecursion (AreSetAtOnce splits front) parts → AreSetAtOnce splits front part
    → AllByRecursion (AreSetAtOnce splits front) (parts ++ part ∷ [])
one-more splits front [] part each set = (set, tt)
one-more splits front (first ∷ parts) part each set = (each.0, one-more splits front parts part each.1 set)

pub more-set : (splits : List Point) (short long : List Entry) (pairs part others : List Pair) → IsPrefix short long
    → AreSetBut splits short pairs (part ++ others) → AreSetAtOnce splits long part
    → AreSetBut splits long pairs others
more-set splits short long pairs part others begins but set = record {
  first = but.first ++ part;
  whole = but.whole ∙ sym (append_assoc but.first part others);
  set = record {
    parts = but.set.parts ++ part ∷ [];
    whole = flat_map-append (λ (it : List Pair). it) but.set.parts (part ∷ [])
        ∙ ap (λ (front : List Pair). front ++ (part ++ [])) but.set.whole
        ∙ ap (λ (back : List Pair). but.first ++ back) (append-nil part);
    each = one-more splits long but.set.parts part (each-later splits short long begins but.set.parts but.set.each) set;
  };
}

pub split-whole : (rest part others : List Pair) (count : ℕ) → part ≡ take count rest → others ≡ drop count rest
    → rest ≡ part ++ others
split-whole rest part others count front back = sym (take-append-drop count rest)
    ∙ ap (λ (it : List Pair). it ++ drop count rest) (sym front) ∙ ap (λ (it : List Pair). part ++ it) (sym back)

pub no-items : (pairs : List Pair) → length pairs ≡ 0 → pairs ≡ []
no-items [] none = refl
no-items (pair ∷ pairs) none = absurd (omega (arith, none))

pub all-set : (splits : List Point) (front : List Entry) (pairs rest : List Pair) → rest ≡ []
    → AreSetBut splits front pairs rest → AreSet splits front pairs
all-set splits front pairs rest none but = subst (AreSet splits front)
    (sym (but.whole ∙ ap (λ (back : List Pair). but.first ++ back) none ∙ append-nil but.first)) but.set

pub set-later : (splits : List Point) (short long : List Entry) → IsPrefix short long → (pairs : List Pair)
    → AreSet splits short pairs → AreSet splits long pairs
set-later splits short long begins pairs set = record {
  parts = set.parts;
  whole = set.whole;
  each = each-later splits short long begins set.parts set.each;
}

-- what holds whatever is answered
pub on-ok-too : {T : Type 0} (result : Result T Refusal) (P : Type 0) → P → OnOk result P
on-ok-too (Ok given) P holds = holds
on-ok-too (Err why) P holds = tt

pub with-others : {T : Type 0} (result : Result T Refusal) (P Q : Type 0) → P
    → IfErr result (λ why. why ≡ NotCommitted → Q) → IfErr result (λ why. why ≡ NotCommitted → P × Q)
with-others (Ok given) P Q holds others = tt
with-others (Err why) P Q holds others = λ is. (holds, others is)

-- ---- what was compared
pub compared : (before page after pairs : List Pair) (count : Option ℕ) → before ≡ page ++ after
    → BeginWith pairs page count → ComparesPage before after pairs count
compared before page after pairs None are begins = λ same. begins after (same ∙ are)
compared before page after pairs (Some count) are begins = (
  begins.0,
  (
    λ rest. begins.1 ∙ ap (λ (back : List Pair). page ++ back) rest ∙ sym are,
    λ same. append_cancel_left page (drop count pairs) after (sym begins.1 ∙ same ∙ are),
  ),
)

-- `==` of two pairs says whether they are the same
abbrev pair_eq : Pair → Pair → Bool
pair_eq one other = key_eq one.0 other.0 && pointwise nat_eq one.1 other.1

pair_eq_decides : (one other : Pair) → Decides (pair_eq one other) (one ≡ other)
pair_eq_decides one other =
    let parts = Decides-and (key_eq one.0 other.0) (pointwise nat_eq one.1 other.1) (key_eq_decides one.0 other.0)
    (bytes_decides one.1 other.1) in (
      λ equal. let same = parts.0 equal in λ i. (same.0 i, same.1 i),
      λ same. parts.1 (ap (λ (pair : Pair). pair.0) same, ap (λ (pair : Pair). pair.1) same),
    )

pub begins-tested : (pairs page : List Pair) (tested : Bool) → tested ≡ starts_with pair_eq pairs page
    → (tested ≡ true → pairs ≡ page ++ drop (length page) pairs)
    × ((rest : List Pair) → pairs ≡ page ++ rest → tested ≡ true)
begins-tested pairs page tested is = starts_is pair_eq_decides pairs page tested is

-- ---- a walk over every key
pub walk-starts : (map : Map) (rest : Option Range) (pairs : List Pair) → rest ≡ Some every_key
    → (pairs ≡ pairs_left map rest) ↔ (pairs ≡ pairs_in map every_key false)
walk-starts map rest pairs whole = (
  λ same. same ∙ ap (pairs_left map) whole,
  λ same. same ∙ sym (ap (pairs_left map) whole),
)

pub walk-goes-on : (before after pairs rest : List Pair) (P : Type 0) (count : ℕ) → (rest ≡ before) ↔ P
    → ComparesPage before after rest (Some count) → (drop count rest ≡ after) ↔ P
walk-goes-on before after pairs rest P count so compares =
    (λ same. so.0 (compares.1.0 same), λ holds. compares.1.1 (so.1 holds))

pub walk-fails : (before after rest : List Pair) (P : Type 0) → (rest ≡ before) ↔ P
    → ComparesPage before after rest None → (false ≡ true) ↔ P
walk-fails before after rest P so differ = (
  λ wrong. absurd (let other : false ≡ true = wrong in cc),
  λ holds. absurd (differ (so.1 holds)),
)

pub walk-ends : (map : Map) (rest : Option Range) (left : List Pair) (P : Type 0) (empty : Bool) → is_some rest ≡ false
    → empty ≡ (length left == 0) → (left ≡ pairs_left map rest) ↔ P → (empty ≡ true) ↔ P
walk-ends map (Some rest) left P empty none is so = absurd (let wrong : true ≡ false = none in cc)
walk-ends map None left P empty none is so = (
  λ holds. so.0 (no-items left (eqb-true (length left) 0 (sym is ∙ holds))),
  λ holds. is ∙ ap (λ (pairs : List Pair). length pairs == 0) (so.1 holds),
)

-- what is compared is of the run that the first session of the walk reads
pub of-first : (splits : List Point) (old new : Session) (P : Map → Type 0) → HasOnlyRead old new
    → P (run_read splits new) → P (run_read splits old)
of-first splits old new P reads holds = subst P (one-run splits old new reads) holds

-- the run of a transaction that has just begun
pub run-begun : (config : Config) (it : Session) (transcript : Transcript) → it.current ≡ Some transcript
    → run_read config.resolver_splits it ≡ run_of config transcript.read_version it.front
run-begun config it transcript begun =
    ap (λ (current : Option Transcript). run_at config.resolver_splits it.front current) begun

-- ---- how many pairs fit
more-bytes : (pairs : List Pair) (fewer more : ℕ) → fewer ≤ more
    → sum_by pair_size (take fewer pairs) ≤ sum_by pair_size (take more pairs)
more-bytes pairs fewer more within =
    subst (λ (all : List Pair). sum_by pair_size all ≤ sum_by pair_size (take more pairs))
    (take-take fewer more pairs within) (sum_by-take-le pair_size (take more pairs) fewer)

-- one pair more is too many, also where the first one alone is
pub too-many : (pairs : List Pair) (index size room result : ℕ) (pair : Pair) → slice_get pairs index ≡ Some pair
    → size ≡ sum_by pair_size (take index pairs) → room < size + pair_size pair → index ≤ result
    → room < sum_by pair_size (take (suc result) pairs)
too-many pairs index size room result pair there summed over within =
    let next : sum_by pair_size (take (index + 1) pairs)
    ≡ sum_by pair_size (take index pairs) + pair_size (get_or pairs index pair) =
    sum_by_more pair_size pairs index pair (slice_get_within pairs index pair there) in
    let item : pair_size (get_or pairs index pair) ≡ pair_size pair =
    ap pair_size (get_or_from_slice_get pairs index pair pair there) in
    omega (arith, next, item, summed, over, more-bytes pairs (index + 1) (suc result) (omega (arith, within)))

-- ---- a transaction that sets pairs reads nothing, and so is never turned down for a conflict
reads-none : (earlier : List Op) (replies : List Reply) (pairs : List Pair) → read_ranges earlier replies ≡ []
    → read_ranges (fold (λ (before : List Op) (done : Op × Reply). done.0 ∷ before) earlier (map setting pairs))
    (fold (λ (before : List Reply) (done : Op × Reply). done.1 ∷ before) replies (map setting pairs)) ≡ []
reads-none earlier replies [] none = none
reads-none earlier replies (pair ∷ pairs) none =
    reads-none (op.Write (Set pair.0 pair.1) ∷ earlier) (reply.Done ∷ replies) pairs none

set-reads-none : (transcript : Transcript) (pairs : List Pair) → transcript.ops ≡ map setting pairs
    → (commit_request_of transcript).reads ≡ []
set-reads-none transcript pairs done =
    ap (λ (ops : List (Op × Reply)). read_ranges (program ops) (replies_of ops)) done ∙ reads-none [] [] pairs refl

none-between : (first last : Bool) → (first && false && last) ≡ false
none-between true last = refl
none-between false last = refl

none-at-points : (splits : List Point) (i : ℕ) (earlier later : Place) → later.transaction.reads ≡ []
    → (points : List Point) → list_any (overlaps_at splits i earlier later) points ≡ false
none-at-points splits i earlier later none [] = refl
none-at-points splits i earlier later none (x ∷ points) =
    ap (λ (reads : List Range).
    (in_set earlier.transaction.writes x && in_set reads x && (owner splits earlier.moves x earlier.version == i))
    || list_any (overlaps_at splits i earlier later) points) none
    ∙ ap (λ (here : Bool). here || list_any (overlaps_at splits i earlier later) points)
    (none-between (in_set earlier.transaction.writes x) (owner splits earlier.moves x earlier.version == i))
    ∙ none-at-points splits i earlier later none points

no-conflicts : (splits : List Point) (i : ℕ) (others : List Place) (place : Place) → place.transaction.reads ≡ []
    → no_conflict splits i others place ≡ true
no-conflicts splits i [] place none = refl
no-conflicts splits i (earlier ∷ others) place none = and_from _ (no_conflict splits i others place)
    (ap (λ (here : Bool). not (nat_lt place.transaction.read earlier.version && here
    && (is_fresh earlier && no_conflict splits i others earlier)))
    (none-at-points splits i earlier place none
    (corners splits earlier.moves (earlier.transaction.writes ++ place.transaction.reads)))
    ∙ ap not (none-between (nat_lt place.transaction.read earlier.version)
    (is_fresh earlier && no_conflict splits i others earlier)))
    (no-conflicts splits i others place none)

below-all : (n : ℕ) (test : ℕ → Bool) → ((i : ℕ) → test i ≡ true) → all_below n test ≡ true
below-all zero test all = refl
below-all (suc n) test all = and_from (test n) (all_below n test) (all n) (below-all n test all)

unread-committed : (splits : List Point) (earlier : List Place) (place : Place) → place.transaction.reads ≡ []
    → committed splits earlier place ≡ true
unread-committed splits earlier place none =
    below-all (suc (length splits)) (λ i. admits splits i earlier place)
    (λ i. and_from (is_fresh place) (no_conflict splits i earlier place)
    (ap (λ (reads : List Range). not (has_points reads && nat_lt place.transaction.read place.horizon)) none)
    (no-conflicts splits i earlier place none))

back-no-conflict : (config : Config) (old new : Session) (refused : Refused Back) (pairs : List Pair)
    (current : Option Transcript)
    → IfSome current (λ (transcript : Transcript). HasTranscript config old transcript refused new)
    → HasDone current (map setting pairs) → refused.why ≡ NotCommitted → ⊥
back-no-conflict config old new refused pairs None has done is = absurd done
back-no-conflict config old new refused pairs (Some transcript) has done is =
    let turned = has.tells.0 is in
    both_ways (committed config.resolver_splits turned.there.1 turned.there.0) turned.uncommitted
    (unread-committed config.resolver_splits turned.there.1 turned.there.0
    (ap (λ (it : Transaction). it.reads) turned.asked ∙ set-reads-none transcript pairs done))

pub commit-no-conflict : (config : Config) (old new : Session) (refused : Refused Back)
    → CommitAnswers config old (Err refused) new → (pairs : List Pair) → HasDone old.current (map setting pairs)
    → refused.why ≡ NotCommitted → ⊥
commit-no-conflict config old new refused answers pairs done is = ⊎_elim
    (λ kept. both_ways (is_unsubmitted refused.why) (ap is_unsubmitted is)
    (⊎_elim (λ memory. ap is_unsubmitted memory) (λ fault. fault-listed old.current refused.why fault) kept.2))
    (λ ended. back-no-conflict config old new refused pairs old.current ended.1 done is)
    answers

-- nor is it refused so as one that begins, sets or reads
pub not-of-begin : (why : Refusal) → is_of_begin why ≡ true → why ≡ NotCommitted → ⊥
not-of-begin why listed is = both_ways (is_of_begin why) (ap is_of_begin is) listed

pub not-of-set : (why : Refusal) → is_of_set why ≡ true → why ≡ NotCommitted → ⊥
not-of-set why listed is = both_ways (is_of_set why) (ap is_of_set is) listed

pub not-of-read : (why : Refusal) → is_of_read why ≡ true → why ≡ NotCommitted → ⊥
not-of-read why listed is = both_ways (is_of_read why) (ap is_of_read is) listed
