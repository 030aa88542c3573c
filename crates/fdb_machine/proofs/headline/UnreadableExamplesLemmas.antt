-- What the machine answers reads of stamped keys, computed.
use Rattle.std.proofs.Common.{◌≡◌, ap, refl, sym, ℕ, Bool, true, false, List, [], ◌∷◌, Option, Some, None, codes}
use Rattle.std.specs.Prelude.{reverse, if◌then◌else◌}
use Rattle.std.specs.FinMap.{entries, from_entries}
use Rattle.std.specs.List.Sorted.{IsStrictlySortedBy}
use Rattle.std.proofs.lemmas.Bool.{both_ways}
use Rattle.fdb_keys.specs.declared.refusal.Refusal.{Refusal}
use Rattle.fdb_keys.specs.declared.refusal.Refusal.TheVariants.{AccessedUnreadable}
use Rattle.fdb_keys.specs.Points.{Point, point_lt}
use Rattle.fdb_mutations.specs.Maps.{Map}
use Rattle.fdb_mutations.specs.Mutations.{effect}
use Rattle.fdb_mutations.specs.Pairs.{first_of, pairs_within, scanned}
use Rattle.fdb_mutations.proofs.Exports.{entries-sorted}
use Rattle.fdb_client.specs.declared.program.Reply.TheVariants as reply
use Rattle.fdb_client.specs.declared.program.Transcript.{Transcript}
use Rattle.fdb_client.specs.Programs.{program}
use Rattle.fdb_client.specs.Unreadable.{unreadable, unreadable_in}
use Rattle.fdb_machine.specs.headline.UnreadableExamples.{UnreadableReadsAreRefused, PlaceholdersAreNoAnswers}
use Rattle.fdb_machine.specs.headline.UnreadableExamples.{both_keys, stamps_and_sets}

-- the pairs of the transaction's copy of the map
abbrev own_pairs : List (Point × List ℕ)
own_pairs = (codes "A", codes "1") ∷ (codes "a", codes "x0123456789y") ∷ []

abbrev own_map : Map
own_map = from_entries own_pairs

entries_of_own : entries own_map ≡ own_pairs
unfolding IsStrictlySortedBy
entries_of_own = entries-sorted own_pairs ((refl, tt), (tt, tt))

-- what is read of the range, by some pairs
abbrev given_by : ℕ → Bool → List (Point × List ℕ) → List (Point × List ℕ)
given_by limit is_reverse pairs =
    first_of limit (if is_reverse then reverse (pairs_within both_keys pairs) else pairs_within both_keys pairs)

-- why it is refused
abbrev fault_by : ℕ → Bool → List (Point × List ℕ) → Option Refusal
fault_by limit is_reverse pairs =
    if unreadable_in (program (stamps_and_sets 0).ops) (scanned both_keys limit is_reverse
    (given_by limit is_reverse pairs))
    then Some AccessedUnreadable else None

pub unreadable_reads_are_refused : UnreadableReadsAreRefused
unfolding point_lt effect
unreadable_reads_are_refused = (
  refl,
  refl,
  refl,
  refl,
  refl,
  refl,
  refl,
  refl,
  refl,
  ap (fault_by 1 true) entries_of_own,
  ap (fault_by 1 false) entries_of_own,
  ap (λ (pairs : List (Point × List ℕ)). reply.Pairs (given_by 1 false pairs)) entries_of_own,
)

-- the stamped key is unreadable after the first open transaction, and so is some key of the range
abbrev hidden_key : List Transcript → Bool
hidden_key [] = false
hidden_key (transcript ∷ others) = unreadable (program transcript.ops) (codes "a")

abbrev hidden_in : List Transcript → Bool
hidden_in [] = false
hidden_in (transcript ∷ others) = unreadable_in (program transcript.ops) both_keys

pub placeholders_are_no_answers : PlaceholdersAreNoAnswers
unfolding point_lt
placeholders_are_no_answers = (
  (λ is. both_ways _ is.2 (ap hidden_key (sym is.1))),
  (λ is. both_ways _ is.2 (ap hidden_key (sym is.1))),
  (λ is. both_ways _ is.2 (ap hidden_key (sym is.1))),
  (λ is. both_ways _ is.2.0 (ap hidden_in (sym is.1))),
  (λ is. both_ways _ is.2.0 (ap hidden_in (sym is.1))),
)
