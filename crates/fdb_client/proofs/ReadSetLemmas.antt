-- The read set of a program as ranges, and point by point.
use Rattle.std.proofs.Common.{◌≡◌, ◌∙◌, sym, ap, refl, Bool, true, false, not, ◌&&◌, ◌||◌, if◌then◌else◌, List, [], ◌∷◌}
use Rattle.std.proofs.Common.{⊎_elim}
use Rattle.std.specs.Cmp.Lexicographic.{bytes_decides}
use Rattle.std.proofs.lemmas.Bool.{cases_Bool, and_right}
use Rattle.std.proofs.Math.Bool.{and-true}
use Rattle.fdb_keys.specs.Points.{Point, point_eq}
use Rattle.fdb_keys.specs.Ranges.{Range, single_range, in_range, in_set}
use Rattle.fdb_keys.specs.Insertion.{with_range}
use Rattle.fdb_keys.specs.Removal.{outside}
use Rattle.fdb_keys.proofs.Exports.{in_with_range, in_with_ranges, in_outside, in_range-single}
use Rattle.fdb_mutations.specs.Maps.{Map}
use Rattle.fdb_mutations.specs.PairLaws.{scanned_of}
use Rattle.fdb_client.specs.declared.program.Op.{Op}
use Rattle.fdb_client.specs.declared.program.Op.TheVariants.{Get, Write, AddRead, AddWrite}
use Rattle.fdb_client.specs.declared.program.Op.TheVariants as operation
use Rattle.fdb_client.specs.declared.program.Reply.{Reply}
use Rattle.fdb_client.specs.ProgramLaws.{IsExecuted}
use Rattle.fdb_client.specs.Programs.{program, replies_of, decided, decided_ranges, read_set, read_ranges, copy, exec}
use Rattle.fdb_client.specs.Programs.{reply_on, reads_on, add_reads, add_scanned}
use Rattle.fdb_client.proofs.DecidedLemmas.{in_decided_ranges}

-- a read adds its key, if it is an ordinary one and the key isn't decided
in_key_read : (is_read is_decided : Bool) (key : Point) (ranges : List Range) (x : Point)
    → in_set (if is_read && not is_decided then with_range (single_range key) ranges else ranges) x
    ≡ (is_read && point_eq x key && not is_decided || in_set ranges x)
in_key_read false is_decided key ranges x = refl
in_key_read true true key ranges x = sym
    (ap (λ (here : Bool). here || in_set ranges x) (and_right (point_eq x key) false refl))
in_key_read true false key ranges x =
    in_with_range (single_range key) ranges x
    ∙ ap (λ (here : Bool). here || in_set ranges x) (in_range-single key x ∙ sym (and-true (point_eq x key)))

-- at the key itself it is the same to ask whether the key is decided, or the point
decided_there : (is_read : Bool) (earlier : List Op) (key x : Point)
    → (is_read && point_eq x key && not (decided earlier key)) ≡ (is_read && point_eq x key && not (decided earlier x))
decided_there false earlier key x = refl
decided_there true earlier key x = ⊎_elim
    (λ same. ap (λ (there : Point). point_eq x key && not (decided earlier there)) (sym ((bytes_decides x key).0 same)))
    (λ other. ap (λ (same : Bool). same && not (decided earlier key)) other
    ∙ sym (ap (λ (same : Bool). same && not (decided earlier x)) other))
    (cases_Bool (point_eq x key))

-- what was scanned adds its points that aren't decided
pub in_add_scanned : (earlier : List Op) (scanned : Range) (ranges : List Range) (x : Point)
    → in_set (add_scanned earlier scanned ranges) x
    ≡ (in_range scanned x && not (decided earlier x) || in_set ranges x)
in_add_scanned earlier scanned ranges x =
    in_with_ranges (outside (decided_ranges earlier) scanned) ranges x
    ∙ ap (λ (here : Bool). here || in_set ranges x)
    (in_outside (decided_ranges earlier) scanned x
    ∙ ap (λ (before : Bool). in_range scanned x && not before) (in_decided_ranges earlier x))

-- one operation more adds what it reads
in_add_reads : (map : Map) (earlier : List Op) (op : Op) (ranges : List Range) (x : Point)
    → in_set (add_reads earlier op (reply_on (copy map earlier) op) ranges) x
    ≡ (reads_on (copy map earlier) earlier op x || in_set ranges x)
in_add_reads map earlier (Get key snapshot) ranges x =
    in_key_read (not snapshot) (decided earlier key) key ranges x
    ∙ ap (λ (here : Bool). here || in_set ranges x) (decided_there (not snapshot) earlier key x)
in_add_reads map earlier (operation.Range range limit is_reverse true) ranges x = refl
in_add_reads map earlier (operation.Range range limit is_reverse false) ranges x =
    in_add_scanned earlier (scanned_of (copy map earlier) range limit is_reverse) ranges x
in_add_reads map earlier (Write mutation) ranges x = refl
in_add_reads map earlier (AddRead range) ranges x = in_with_range range ranges x
in_add_reads map earlier (AddWrite range) ranges x = refl

-- the ranges of a program's read set, by its replies on a map, hold just the points that it reads there
pub in_read_ranges : (map : Map) (ops : List Op) (x : Point)
    → in_set (read_ranges ops (exec map ops)) x ≡ read_set map ops x
in_read_ranges map [] x = refl
in_read_ranges map (op ∷ earlier) x =
    in_add_reads map earlier op (read_ranges earlier (exec map earlier)) x
    ∙ ap (λ (others : Bool). reads_on (copy map earlier) earlier op x || others) (in_read_ranges map earlier x)

-- and so do those of a transcript that was executed on the map
pub in_executed_ranges : (map : Map) (ops : List (Op × Reply)) → IsExecuted map ops → (x : Point)
    → in_set (read_ranges (program ops) (replies_of ops)) x ≡ read_set map (program ops) x
in_executed_ranges map ops executed x =
    ap (λ (replies : List Reply). in_set (read_ranges (program ops) replies) x) executed
    ∙ in_read_ranges map (program ops) x
