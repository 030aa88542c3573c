-- What a transaction reads that wrote no value is on the run.
use Rattle.std.proofs.Common.{◌≡◌, ◌∙◌, sym, ap, subst, refl, ℕ, Bool, false, List, [], ◌∷◌, ◌++◌, Option, Some, None}
use Rattle.std.specs.Prelude.{IfSome}
use Rattle.std.specs.FinMap.{get}
use Rattle.fdb_keys.specs.Points.{Point}
use Rattle.fdb_keys.specs.Ranges.{Range}
use Rattle.fdb_mutations.specs.Maps.{Map}
use Rattle.fdb_mutations.specs.PairLaws.{given_of}
use Rattle.fdb_mutations.specs.declared.mutation.Mutation.{Mutation}
use Rattle.fdb_txn.specs.declared.entry.Entry.{Entry}
use Rattle.fdb_txn.specs.book.Book.{seen_of}
use Rattle.fdb_txn.specs.rules.SerialMap.{serial_map_at}
use Rattle.fdb_client.proofs.Exports.{program-push}
use Rattle.fdb_client.specs.Programs.{program, copy, mutations_of, add_mutation, reply_on}
use Rattle.fdb_client.specs.TxnState.{with_op}
use Rattle.fdb_client.specs.declared.program.Op.{Op}
use Rattle.fdb_client.specs.declared.program.Op.TheVariants as op
use Rattle.fdb_client.specs.declared.program.Reply.{Reply}
use Rattle.fdb_client.specs.declared.program.Reply.TheVariants as reply
use Rattle.fdb_client.specs.declared.program.Transcript.{Transcript}
use Rattle.fdb_sections.specs.Reading.{HasRead}
use Rattle.fdb_sections.specs.Sessions.{Session, with_current}
use Rattle.fdb_runtime.specs.Walks.{HasReadPage}
use Rattle.fdb_runtime.specs.Works.{IsStillOpen, IsUntouched}
use Rattle.fdb_layers.specs.Operations.{DoesMore, HasDone, reading}
use Rattle.fdb_layers.specs.Reads.{run_at, run_read, HasOnlyRead, HasWrittenNone}
use Rattle.fdb_layers.proofs.OperationsLemmas.{same-value}

-- ---- what writes no value leaves the map as it is
one-more : (mutations : List Mutation) (mutation : Mutation) → mutations ++ mutation ∷ [] ≡ [] → ⊥
one-more [] mutation none = cc
one-more (first ∷ mutations) mutation none = cc

pub unwritten-copy : (map : Map) (ops : List Op) → mutations_of ops ≡ [] → copy map ops ≡ map
unwritten-copy map [] none = refl
unwritten-copy map (op.Get key snapshot ∷ earlier) none = unwritten-copy map earlier none
unwritten-copy map (op.Range range limit is_reverse snapshot ∷ earlier) none = unwritten-copy map earlier none
unwritten-copy map (op.Write mutation ∷ earlier) none = absurd (one-more (mutations_of earlier) mutation none)
unwritten-copy map (op.AddRead range ∷ earlier) none = unwritten-copy map earlier none
unwritten-copy map (op.AddWrite range ∷ earlier) none = unwritten-copy map earlier none

pub untouched-unwritten : (current : Option Transcript) → IsUntouched current → HasWrittenNone current
untouched-unwritten None untouched = untouched
untouched-unwritten (Some transcript) untouched =
    ap (λ (ops : List (Op × Reply)). mutations_of (program ops)) untouched

-- ---- a read
-- What is read by what is open: it is of the run, and is noted.
record IsRead (splits : List Point) (old : Session) (current : Option Transcript) (asked : Op) (given : Reply)
    (new : Session) : Type 0 where
  is_given : given ≡ reply_on (run_at splits old.front current) asked
  number : new.number ≡ old.number
  next_number : new.next_number ≡ old.next_number
  still_open : IsStillOpen current new.current
  seen : new.front ≡ old.front
  unwritten : HasWrittenNone new.current
  more : DoesMore current ((asked, given) ∷ []) new.current

-- an operation that reads has no mutation
abbrev Reads : Op → Type 0
Reads asked = (mutations : List Mutation) → add_mutation asked mutations ≡ mutations

read-by : (splits : List Point) (old new : Session) (asked : Op) (given : Reply) → Reads asked
    → (current : Option Transcript) → HasWrittenNone current
    → IfSome current (λ (transcript : Transcript).
    (given
    ≡ reply_on (copy (serial_map_at splits transcript.read_version (seen_of old.front).places)
    (program transcript.ops)) asked)
    × (new ≡ with_current old (Some (with_op transcript asked given))))
    → IsRead splits old current asked given new
read-by splits old new asked given reads None unwritten read = absurd unwritten
read-by splits old new asked given reads (Some transcript) unwritten read = record {
  is_given = read.0
      ∙ ap (λ (map : Map). reply_on map asked)
      (unwritten-copy (run_at splits old.front (Some transcript)) (program transcript.ops) unwritten);
  number = ap (λ (it : Session). it.number) read.1;
  next_number = ap (λ (it : Session). it.next_number) read.1;
  still_open = subst (IsStillOpen (Some transcript)) (sym now) (refl, refl);
  seen = ap (λ (it : Session). it.front) read.1;
  unwritten = subst HasWrittenNone (sym now)
      (ap mutations_of (program-push transcript.ops (asked, given))
      ∙ reads (mutations_of (program transcript.ops)) ∙ unwritten);
  more = λ before done. subst (λ (current : Option Transcript). HasDone current (before ++ (asked, given) ∷ []))
      (sym now) (ap (λ (ops : List (Op × Reply)). ops ++ (asked, given) ∷ []) done);
}
  where
    now : new.current ≡ Some (with_op transcript asked given)
    now = ap (λ (it : Session). it.current) read.1

read : (splits : List Point) (old new : Session) (asked : Op) (given : Reply) → Reads asked
    → HasWrittenNone old.current → HasRead splits old asked given new → IsRead splits old old.current asked given new
read splits old new asked given reads unwritten is =
    read-by splits old new asked given reads old.current unwritten is

only-read : (splits : List Point) (old new : Session) (asked : Op) (given : Reply)
    → IsRead splits old old.current asked given new → HasOnlyRead old new
only-read splits old new asked given is = record {
  same = (is.number, is.next_number);
  still_open = is.still_open;
  seen = is.seen;
  unwritten = is.unwritten;
}

-- ---- the value of a key
module _ (splits : List Point) (old new : Session) (key : Point) (value : Option (List ℕ))
    (unwritten : HasWrittenNone old.current)
    (is : HasRead splits old (op.Get key false) (reply.Value value) new) where
  one : IsRead splits old old.current (op.Get key false) (reply.Value value) new
  one = read splits old new (op.Get key false) (reply.Value value) (λ mutations. refl) unwritten is

  pub value-only-read : HasOnlyRead old new
  value-only-read = only-read splits old new (op.Get key false) (reply.Value value) one

  pub value-is : value ≡ get (run_read splits old) key
  value-is = same-value value (get (run_read splits old) key) one.is_given

  pub value-more : DoesMore old.current (reading key value ∷ []) new.current
  value-more = one.more

-- ---- a page of a range
abbrev pub pairs_of : Reply → List (Point × List ℕ)
pairs_of (reply.Pairs pairs) = pairs
pairs_of other = []

module _ (splits : List Point) (old new : Session) (range : Range) (limit : ℕ) (snapshot : Bool)
    (pairs : List (Point × List ℕ)) (unwritten : HasWrittenNone old.current)
    (is : HasReadPage splits range limit snapshot old pairs new) where
  page : IsRead splits old old.current (op.Range range limit false snapshot) (reply.Pairs pairs) new
  page = read splits old new (op.Range range limit false snapshot) (reply.Pairs pairs) (λ mutations. refl) unwritten is

  pub page-only-read : HasOnlyRead old new
  page-only-read = only-read splits old new (op.Range range limit false snapshot) (reply.Pairs pairs) page

  pub page-is : pairs ≡ given_of (run_read splits old) range limit false
  page-is = ap pairs_of page.is_given

-- ---- reads, one after another
pub unread : (it : Session) → HasWrittenNone it.current → HasOnlyRead it it
unread it unwritten = record {
  same = (refl, refl);
  still_open = stays it.current unwritten;
  seen = refl;
  unwritten = unwritten;
}
  where
    stays : (current : Option Transcript) → HasWrittenNone current → IsStillOpen current current
    stays None open_there = open_there
    stays (Some transcript) open_there = (refl, refl)

still-open : (a b c : Option Transcript) → IsStillOpen a b → IsStillOpen b c → IsStillOpen a c
still-open None b c first second = absurd first
still-open (Some a) None c first second = absurd first
still-open (Some a) (Some b) None first second = absurd second
still-open (Some a) (Some b) (Some c) first second = (second.0 ∙ first.0, second.1 ∙ first.1)

pub read-on : (a b c : Session) → HasOnlyRead a b → HasOnlyRead b c → HasOnlyRead a c
read-on a b c first second = record {
  same = (second.same.0 ∙ first.same.0, second.same.1 ∙ first.same.1);
  still_open = still-open a.current b.current c.current first.still_open second.still_open;
  seen = second.seen ∙ first.seen;
  unwritten = second.unwritten;
}

-- they are of one run
pub one-run : (splits : List Point) (old new : Session) → HasOnlyRead old new
    → run_read splits new ≡ run_read splits old
one-run splits old new reads =
    ap (λ (front : List Entry). run_at splits front new.current) reads.seen
    ∙ same_version old.current new.current reads.still_open
  where
    same_version : (before after : Option Transcript) → IsStillOpen before after
        → run_at splits old.front after ≡ run_at splits old.front before
    same_version None after open_there = absurd open_there
    same_version (Some before) None open_there = absurd open_there
    same_version (Some before) (Some after) open_there =
        ap (λ (version : ℕ). serial_map_at splits version (seen_of old.front).places) open_there.1
