-- What a read of a key adds to the read set, by whether earlier operations decide the key.
use Rattle.std.proofs.Common.{◌≡◌, ◌∙◌, sym, ap, ap₂, refl, ℕ, Bool, true, false, not, ◌&&◌, List, if◌then◌else◌}
use Rattle.std.proofs.Common.{◌≤◌, ◌+◌, take, Some, arith}
use Rattle.std.specs.List.{slice_get}
use Rattle.std.proofs.lemmas.Bool.{both_ways}
use Rattle.fdb_keys.specs.Insertion.{with_range}
use Rattle.fdb_keys.specs.Points.{Point}
use Rattle.fdb_keys.specs.Ranges.{Range, single_range, in_set}
use Rattle.fdb_client.specs.declared.program.Op.{Op}
use Rattle.fdb_client.specs.declared.program.Op.TheVariants.{Get, Write, AddRead, AddWrite}
use Rattle.fdb_client.specs.declared.program.Op.TheVariants as operation
use Rattle.fdb_client.specs.declared.program.Reply.TheVariants.{Value, Pairs, Done}
use Rattle.fdb_mutations.specs.Maps.{Map}
use Rattle.fdb_mutations.specs.PairLaws.{given_of}
use Rattle.fdb_client.specs.ProgramLaws.{is_ordinary}
use Rattle.fdb_client.specs.declared.program.Reply.{Reply}
use Rattle.fdb_client.specs.Programs.{decided, decided_ranges, add_reads, reply_on}
use Rattle.fdb_client.specs.Programs.{program, replies_of, read_ranges, is_ordinary_read}
use Rattle.fdb_client.proofs.AnsweredLemmas.{program-next, replies-next}
use Rattle.fdb_client.proofs.DecidedLemmas.{in_decided_ranges}

by_decided : (is_decided : Bool) (key : Point) (ranges : List Range) (held : Bool) → is_decided ≡ held
    → (if not false && not is_decided then with_range (single_range key) ranges else ranges)
    ≡ (if held then ranges else with_range (single_range key) ranges)
by_decided true key ranges true same = refl
by_decided false key ranges false same = refl
by_decided true key ranges false same = cc
by_decided false key ranges true same = cc

-- it adds nothing where they do, and else the key
pub reads-key : (earlier : List Op) (op : Op) (key : Point)
    (reply : Reply) (decided_now ranges : List Range) (held : Bool)
    → op ≡ Get key false → decided_now ≡ decided_ranges earlier → held ≡ in_set decided_now key
    → add_reads earlier op reply ranges ≡ (if held then ranges else with_range (single_range key) ranges)
reads-key earlier op key reply decided_now ranges held is same contains =
    ap (λ (read : Op). add_reads earlier read reply ranges) is
    ∙ by_decided (decided earlier key) key ranges held
    (sym (contains ∙ ap (λ (set : List Range). in_set set key) same ∙ in_decided_ranges earlier key))

-- the pairs that an ordinary read of a range was given are those of the map that it was answered as on
pub scanned-map : (op : Op) (reply : Reply) (range : Range) (limit : ℕ) (is_reverse : Bool)
    (pairs same : List (Point × List ℕ))
    → op ≡ operation.Range range limit is_reverse false → reply ≡ Pairs pairs → same ≡ pairs
    → (is_ordinary op ≡ true → (map : Map) × (reply ≡ reply_on map op))
    → (map : Map) × (same ≡ given_of map range limit is_reverse)
scanned-map op reply range limit is_reverse pairs same is told are answered =
    let given = answered (ap is_ordinary is) in
    let replied : Pairs pairs ≡ Pairs (given_of given.0 range limit is_reverse) =
    sym told ∙ given.1 ∙ ap (reply_on given.0) is in
    (given.0, are ∙ cc)

-- what an operation adds that is no ordinary read hangs on no earlier one
reads-unread : (some_ops ops : List Op) (op : Op) (reply : Reply) (ranges : List Range) → is_ordinary_read op ≡ false
    → add_reads some_ops op reply ranges ≡ add_reads ops op reply ranges
reads-unread some_ops ops (Get key true) reply ranges unread = refl
reads-unread some_ops ops (Get key false) reply ranges unread = absurd (both_ways _ unread refl)
reads-unread some_ops ops (operation.Range range limit is_reverse true) (Pairs pairs) ranges unread = refl
reads-unread some_ops ops (operation.Range range limit is_reverse true) (Value value) ranges unread = refl
reads-unread some_ops ops (operation.Range range limit is_reverse true) Done ranges unread = refl
reads-unread some_ops ops (operation.Range range limit is_reverse false) reply ranges unread =
    absurd (both_ways _ unread refl)
reads-unread some_ops ops (Write mutation) reply ranges unread = refl
reads-unread some_ops ops (AddRead range) reply ranges unread = refl
reads-unread some_ops ops (AddWrite range) reply ranges unread = refl

-- The ranges are what the first operations decide, and the one with the number adds by them what it adds: they have all
-- that the ones before it decide, or it is no ordinary read.
abbrev pub AreSettled : List (Op × Reply) → ℕ → Op × Reply → List Range → ℕ → Type 0
AreSettled ops number done held settled =
    (settled ≤ number)
    × (held ≡ decided_ranges (program (take settled ops)))
    × ((ranges : List Range) → add_reads (program (take settled ops)) done.0 done.1 ranges
    ≡ add_reads (program (take number ops)) done.0 done.1 ranges)

pub settled-read : (ops : List (Op × Reply)) (number : ℕ) (done : Op × Reply) (held : List Range)
    → held ≡ decided_ranges (program (take number ops)) → AreSettled ops number done held number
settled-read ops number done held are = (omega (arith), are, λ ranges. refl)

pub settled-unread : (ops : List (Op × Reply)) (number : ℕ) (done : Op × Reply) (held : List Range) (settled : ℕ)
    → is_ordinary_read done.0 ≡ false → settled ≤ number → held ≡ decided_ranges (program (take settled ops))
    → AreSettled ops number done held settled
settled-unread ops number done held settled unread earlier are = (
  earlier,
  are,
  λ ranges. reads-unread (program (take settled ops)) (program (take number ops)) done.0 done.1 ranges unread,
)

-- the read set of the first operations with one more
pub read-next : (ops : List (Op × Reply)) (i : ℕ) (done : Op × Reply) → slice_get ops i ≡ Some done
    → (reads : List Range) → reads ≡ read_ranges (program (take i ops)) (replies_of (take i ops))
    → add_reads (program (take i ops)) done.0 done.1 reads
    ≡ read_ranges (program (take (i + 1) ops)) (replies_of (take (i + 1) ops))
read-next ops i done there reads are =
    ap (add_reads (program (take i ops)) done.0 done.1) are
    ∙ ap₂ read_ranges (sym (program-next ops i done there)) (sym (replies-next ops i done there))
