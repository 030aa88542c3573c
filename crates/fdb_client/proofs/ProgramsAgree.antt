-- A program on two maps that agree where it reads.
use Rattle.std.proofs.Common.{◌≡◌, ◌∙◌, sym, ap, ap₂, refl, ℕ, Bool, true, false, not, ◌&&◌, ◌||◌, if◌then◌else◌, List}
use Rattle.std.proofs.Common.{[], ◌∷◌, Option, ◌⊎◌, inl, inr, ⊎_elim}
use Rattle.std.specs.FinMap.{get}
use Rattle.std.specs.Cmp.Lexicographic.{bytes_decides}
use Rattle.std.proofs.lemmas.Bool.{cases_Bool, both_ways, or_cases, or_left, or_right, and_parts, and_from}
use Rattle.std.proofs.lemmas.Bool.{not_from_false, cond-true}
use Rattle.fdb_keys.specs.Points.{Point, point_eq}
use Rattle.fdb_keys.specs.Ranges.{Range, in_range}
use Rattle.fdb_mutations.specs.declared.mutation.Mutation.{Mutation}
use Rattle.fdb_mutations.specs.Maps.{Map}
use Rattle.fdb_mutations.specs.Mutations.{names, new_value, is_blind}
use Rattle.fdb_mutations.specs.Pairs.{scanned}
use Rattle.fdb_mutations.specs.PairLaws.{given_of, scanned_of}
use Rattle.fdb_mutations.proofs.Exports.{at_every_point, blind_is_blind, decides_what_is_given}
use Rattle.fdb_client.specs.declared.program.Op.{Op}
use Rattle.fdb_client.specs.declared.program.Op.TheVariants.{Get, Write, AddRead, AddWrite}
use Rattle.fdb_client.specs.declared.program.Op.TheVariants as operation
use Rattle.fdb_client.specs.declared.program.Reply.TheVariants.{Value, Pairs}
use Rattle.fdb_client.specs.Programs.{copy, decided, exec, read_set, reads_on, reply_on}
use Rattle.fdb_client.specs.ProgramLaws.{AgreeOnReads, AgreeWhereOrdinary, ProgramsAgree, is_ordinary}

-- what stands at a point after a mutation, by what stood there
abbrev value_after_message : Mutation → Point → Option (List ℕ) → Option (List ℕ)
value_after_message mutation x value = if names mutation x then new_value mutation value else value

-- a mutation that decides the point makes the same of any two values
decided-new_value : (mutation : Mutation) (x : Point) → (is_blind mutation && names mutation x) ≡ true
    → (v w : Option (List ℕ))
    → value_after_message mutation x v ≡ value_after_message mutation x w
decided-new_value mutation x decides v w =
    let parts = and_parts (is_blind mutation) (names mutation x) decides in
    cond-true (names mutation x) (new_value mutation v) v parts.1
    ∙ blind_is_blind mutation parts.0 v w
    ∙ sym (cond-true (names mutation x) (new_value mutation w) w parts.1)

-- one mutation more leaves the same at a point where the maps agree
agree-after : (m n : Map) (earlier : List Op) (mutation : Mutation) (x : Point)
    → value_after_message mutation x (get (copy m earlier) x) ≡ value_after_message mutation x (get (copy n earlier) x)
    → get (copy m (Write mutation ∷ earlier)) x ≡ get (copy n (Write mutation ∷ earlier)) x
agree-after m n earlier mutation x same =
    at_every_point (copy m earlier) mutation x ∙ same ∙ sym (at_every_point (copy n earlier) mutation x)

-- the copies agree at a point that the program decides, and where the maps do
pub copies-agree : (m n : Map) (ops : List Op) (x : Point) → (decided ops x ≡ true) ⊎ (get m x ≡ get n x)
    → get (copy m ops) x ≡ get (copy n ops) x
copies-agree m n [] x (inl decides) = absurd (both_ways false refl decides)
copies-agree m n [] x (inr same) = same
copies-agree m n (Get key snapshot ∷ earlier) x either = copies-agree m n earlier x either
copies-agree m n (operation.Range range limit is_reverse snapshot ∷ earlier) x either =
    copies-agree m n earlier x either
copies-agree m n (AddRead range ∷ earlier) x either = copies-agree m n earlier x either
copies-agree m n (AddWrite range ∷ earlier) x either = copies-agree m n earlier x either
copies-agree m n (Write mutation ∷ earlier) x (inr same) =
    agree-after m n earlier mutation x (ap (value_after_message mutation x) (copies-agree m n earlier x (inr same)))
copies-agree m n (Write mutation ∷ earlier) x (inl decides) = agree-after m n earlier mutation x (⊎_elim
    (λ here. decided-new_value mutation x here _ _)
    (λ before. ap (value_after_message mutation x) (copies-agree m n earlier x (inl before)))
    (or_cases (is_blind mutation && names mutation x) (decided earlier x) decides))

-- at a point that an operation reads unless it is decided the copies agree
read-agrees : (m n : Map) (op : Op) (earlier : List Op) (x : Point) → AgreeOnReads m n (op ∷ earlier)
    → (decided earlier x ≡ false → reads_on (copy m earlier) earlier op x ≡ true)
    → get (copy m earlier) x ≡ get (copy n earlier) x
read-agrees m n op earlier x agree is_read = ⊎_elim
    (λ decides. copies-agree m n earlier x (inl decides))
    (λ undecided. copies-agree m n earlier x (inr (agree x
    (or_left (reads_on (copy m earlier) earlier op x) (read_set m earlier x) (is_read undecided)))))
    (cases_Bool (decided earlier x))

-- at the key of an ordinary read
key-agrees : (m n : Map) (earlier : List Op) (key : Point) → AgreeOnReads m n (Get key false ∷ earlier)
    → get (copy m earlier) key ≡ get (copy n earlier) key
key-agrees m n earlier key agree = read-agrees m n (Get key false) earlier key agree (λ undecided.
    and_from (point_eq key key) (not (decided earlier key)) ((bytes_decides key key).1 refl)
    (not_from_false _ undecided))

-- and at each point that an ordinary read of a range scanned, so that both are given the same
given-agrees : (m n : Map) (earlier : List Op) (range : Range) (limit : ℕ) (is_reverse : Bool)
    → AgreeOnReads m n (operation.Range range limit is_reverse false ∷ earlier)
    → given_of (copy m earlier) range limit is_reverse ≡ given_of (copy n earlier) range limit is_reverse
given-agrees m n earlier range limit is_reverse agree =
    sym (decides_what_is_given (copy m earlier) (copy n earlier) range limit is_reverse (λ x inside.
    read-agrees m n (operation.Range range limit is_reverse false) earlier x agree (λ undecided.
    and_from (in_range (scanned_of (copy m earlier) range limit is_reverse) x) (not (decided earlier x)) inside
    (not_from_false _ undecided))))

-- an ordinary operation replies the same after the copies
reply-agrees : (m n : Map) (op : Op) (earlier : List Op) → AgreeOnReads m n (op ∷ earlier) → is_ordinary op ≡ true
    → reply_on (copy m earlier) op ≡ reply_on (copy n earlier) op
reply-agrees m n (Get key true) earlier agree ordinary = absurd (both_ways false refl ordinary)
reply-agrees m n (Get key false) earlier agree ordinary = ap Value (key-agrees m n earlier key agree)
reply-agrees m n (operation.Range range limit is_reverse true) earlier agree ordinary =
    absurd (both_ways false refl ordinary)
reply-agrees m n (operation.Range range limit is_reverse false) earlier agree ordinary =
    ap Pairs (given-agrees m n earlier range limit is_reverse agree)
reply-agrees m n (Write mutation) earlier agree ordinary = refl
reply-agrees m n (AddRead range) earlier agree ordinary = refl
reply-agrees m n (AddWrite range) earlier agree ordinary = refl

-- an operation reads the same points after the copies
reads-agree : (m n : Map) (op : Op) (earlier : List Op) (x : Point) → AgreeOnReads m n (op ∷ earlier)
    → reads_on (copy m earlier) earlier op x ≡ reads_on (copy n earlier) earlier op x
reads-agree m n (Get key snapshot) earlier x agree = refl
reads-agree m n (operation.Range range limit is_reverse true) earlier x agree = refl
reads-agree m n (operation.Range range limit is_reverse false) earlier x agree =
    ap (λ (given : List (Point × List ℕ)). in_range (scanned range limit is_reverse given) x && not (decided earlier x))
    (given-agrees m n earlier range limit is_reverse agree)
reads-agree m n (Write mutation) earlier x agree = refl
reads-agree m n (AddRead range) earlier x agree = refl
reads-agree m n (AddWrite range) earlier x agree = refl

-- maps that agree where a program reads agree where its earlier operations do
agree-earlier : (m n : Map) (op : Op) (earlier : List Op) → AgreeOnReads m n (op ∷ earlier) → AgreeOnReads m n earlier
agree-earlier m n op earlier agree x is_read = agree x
    (or_right (reads_on (copy m earlier) earlier op x) (read_set m earlier x) is_read)

-- on maps that agree where a program reads, its ordinary replies and its read sets are the same
pub programs_agree : ProgramsAgree
programs_agree m n [] agree = (tt, λ x. refl)
programs_agree m n (op ∷ earlier) agree =
    let before : AgreeWhereOrdinary earlier (exec m earlier) (exec n earlier)
    × ((x : Point) → read_set m earlier x ≡ read_set n earlier x) =
    programs_agree m n earlier (agree-earlier m n op earlier agree) in (
      (reply-agrees m n op earlier agree, before.0),
      λ x. ap₂ (λ (now others : Bool). now || others)
          (reads-agree m n op earlier x agree) (before.1 x),
    )
