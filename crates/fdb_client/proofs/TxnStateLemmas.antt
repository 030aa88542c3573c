-- One operation more of what a transaction keeps.
use Rattle.std.proofs.Common.{◌≡◌, ◌∙◌, ◌==◌, ◌↔◌, sym, ap, ap₂, subst, Bool, true, false, not, ◌&&◌, ◌||◌}
use Rattle.std.proofs.Common.{List, [], ◌∷◌, ◌++◌, length, None}
use Rattle.std.proofs.Math.Dec.{eqb-suc-zero}
use Rattle.std.proofs.lemmas.Bool.{or_parts}
use Rattle.std.specs.List.{AllByRecursion, list_any}
use Rattle.std.specs.FinMap.{get}
use Rattle.fdb_keys.specs.Points.{Point}
use Rattle.fdb_keys.specs.Ranges.{Range, in_range, in_set, is_apart}
use Rattle.fdb_keys.specs.Removal.{outside}
use Rattle.fdb_keys.proofs.Exports.{same_list, in_outside, apart-outside}
use Rattle.fdb_mutations.specs.declared.mutation.Mutation.{Mutation}
use Rattle.fdb_mutations.specs.Maps.{Map}
use Rattle.fdb_mutations.specs.Mutations.{mutation_fault}
use Rattle.fdb_mutations.specs.Stamping.{is_stamped}
use Rattle.fdb_client.specs.declared.left.Left.{Left}
use Rattle.fdb_client.specs.declared.own_writes.OwnWrites.{OwnWrites}
use Rattle.fdb_client.specs.declared.program.Op.{Op}
use Rattle.fdb_client.specs.declared.program.Op.TheVariants.{Write}
use Rattle.fdb_client.specs.declared.program.Reply.{Reply}
use Rattle.fdb_client.specs.LeftAt.{left_at, AreClearedDecided, HasLegalKeys, HasUnreadable}
use Rattle.fdb_client.specs.OwnWrites.{left_by, is_unreadable, is_value, value_over}
use Rattle.fdb_client.specs.TxnState.{AreOf, AreWritesOf, WritesNothing}
use Rattle.fdb_client.specs.Programs.{program, copy, decided, decided_ranges, add_reads, add_writes}
use Rattle.fdb_client.specs.Programs.{add_mutation, read_ranges, mutations_of}
use Rattle.fdb_client.specs.Unreadable.{add_stamped, stamped_keys, unreadable, unreadable_in}
use Rattle.fdb_client.proofs.DecidedLemmas.{in_decided_ranges}
use Rattle.fdb_client.proofs.OwnWritesLemmas.{decided-left, copy-left}
use Rattle.fdb_client.proofs.ProgramLemmas.{program-push, replies-push}
use Rattle.fdb_client.proofs.UnreadableLemmas.{kept-unreadable_in, unreadable-left, unstamped}

-- what is kept of a program's writes with one operation more: each part has what the operation adds to it
pub writes-push : (ops : List Op) (op : Op) (own after : OwnWrites) (writes new_writes : List Range)
    → AreWritesOf ops own writes
    → ((x : Point) → left_at after x ≡ left_by x (left_at own x) op)
    → HasLegalKeys after
    → AreClearedDecided after
    → new_writes ≡ add_writes op writes
    → AreWritesOf (op ∷ ops) after new_writes
writes-push ops op own after writes new_writes are there keys cleared written = record {
  left_there = λ x. there x ∙ ap (λ (before : Left). left_by x before op) (are.left_there x);
  legal_keys = keys;
  cleared_decided = cleared;
  are_written = written ∙ ap (add_writes op) are.are_written;
}

module _ (ops : List (Op × Reply)) (done : Op × Reply) where
  -- and so what is kept of the operations
  pub are-push : (own after : OwnWrites) (reads writes new_reads new_writes : List Range)
      (mutates now_mutates stamps now_stamps : Bool)
      → AreOf ops own reads writes mutates stamps
      → ((x : Point) → left_at after x ≡ left_by x (left_at own x) done.0)
      → HasLegalKeys after
      → AreClearedDecided after
      → new_reads ≡ add_reads (program ops) done.0 done.1 reads
      → new_writes ≡ add_writes done.0 writes
      → not now_mutates ≡ (length (add_mutation done.0 (mutations_of (program ops))) == 0)
      → (now_stamps ≡ false → add_stamped done.0 (stamped_keys (program ops)) ≡ [])
      → AllByRecursion (λ (mutation : Mutation). mutation_fault mutation ≡ None)
      (add_mutation done.0 (mutations_of (program ops)))
      → AreOf (ops ++ done ∷ []) after new_reads new_writes now_mutates now_stamps
  are-push own after reads writes new_reads new_writes mutates now_mutates stamps now_stamps are there keys cleared read
      written mutated unstamped legal =
      let pushed = sym (program-push ops done) in
      record {
        written = subst (λ (all : List Op). AreWritesOf all after new_writes) pushed
            (writes-push (program ops) done.0 own after writes new_writes are.written there keys cleared written);
        are_read = read ∙ ap (add_reads (program ops) done.0 done.1) are.are_read
            ∙ ap₂ read_ranges pushed (sym (replies-push ops done));
        unless_mutates = mutated ∙ ap (λ (all : List Op). length (mutations_of all) == 0) pushed;
        unless_stamps = λ none. ap stamped_keys (sym pushed) ∙ unstamped none;
        legal = subst (λ (all : List Op).
            AllByRecursion (λ (mutation : Mutation). mutation_fault mutation ≡ None) (mutations_of all)) pushed legal;
      }

  -- and with one that writes nothing, where the read set has what it reads
  pub are-noted : (own : OwnWrites) (reads writes new_reads : List Range) (mutates stamps : Bool)
      → AreOf ops own reads writes mutates stamps → WritesNothing done.0
      → new_reads ≡ add_reads (program ops) done.0 done.1 reads
      → AreOf (ops ++ done ∷ []) own new_reads writes mutates stamps
  are-noted own reads writes new_reads mutates stamps are nothing read =
      let same = sym (nothing.2 (mutations_of (program ops))) in
      are-push own own reads writes new_reads writes mutates mutates stamps stamps are
      (λ x. sym (nothing.0 x (left_at own x))) are.written.legal_keys are.written.cleared_decided read
      (sym (nothing.1 writes))
      (are.unless_mutates ∙ ap (λ (mutations : List Mutation). length mutations == 0) same)
      (λ none. nothing.3 (stamped_keys (program ops)) ∙ are.unless_stamps none)
      (subst (AllByRecursion (λ (mutation : Mutation). mutation_fault mutation ≡ None)) same are.legal)

module _ (ops : List Op) (own : OwnWrites) (writes : List Range) (are : AreWritesOf ops own writes) (key : Point) where
  -- the writes that are kept decide a key exactly where the operations do
  pub left_at-decides : is_value (left_at own key) ≡ decided ops key
  left_at-decides = ap is_value (are.left_there key) ∙ decided-left ops key

  -- leave it unreadable exactly where these do
  pub left_at-unreadable : is_unreadable (left_at own key) ≡ unreadable ops key
  left_at-unreadable = ap is_unreadable (are.left_there key) ∙ unreadable-left ops key

  -- and make of what a map has there what the operations make of it
  pub left_at-value : (map : Map) → value_over (left_at own key) (get map key) ≡ get (copy map ops) key
  left_at-value map =
      ap (λ (there : Left). value_over there (get map key)) (are.left_there key) ∙ sym (copy-left map ops key)

-- what of a range the writes that are kept don't decide is what lies outside of the ranges of what they decide
pub undecided-outside : (ops : List Op) (own : OwnWrites) (writes : List Range) → AreWritesOf ops own writes
    → (range : Range) (undecided : List Range) → is_apart undecided ≡ true
    → ((x : Point) → in_set undecided x ≡ (in_range range x && not (is_value (left_at own x))))
    → undecided ≡ outside (decided_ranges ops) range
undecided-outside ops own writes are range undecided apart points =
    same_list undecided (outside (decided_ranges ops) range) apart (apart-outside (decided_ranges ops) range) (λ x.
    points x
    ∙ ap (λ (decides : Bool). in_range range x && not decides)
    (left_at-decides ops own writes are x ∙ sym (in_decided_ranges ops x))
    ∙ sym (in_outside (decided_ranges ops) range x))

-- one more legal mutation
pub legal-push : (mutations : List Mutation) (mutation : Mutation)
    → AllByRecursion (λ (one : Mutation). mutation_fault one ≡ None) mutations → mutation_fault mutation ≡ None
    → AllByRecursion (λ (one : Mutation). mutation_fault one ≡ None) (mutations ++ mutation ∷ [])
legal-push [] mutation legal faultless = (faultless, tt)
legal-push (first ∷ mutations) mutation legal faultless = (legal.0, legal-push mutations mutation legal.1 faultless)

-- which then aren't none
pub pushed-not-empty : (mutations : List Mutation) (mutation : Mutation)
    → not true ≡ (length (mutations ++ mutation ∷ []) == 0)
pushed-not-empty [] mutation = sym (eqb-suc-zero 0)
pushed-not-empty (first ∷ mutations) mutation = sym (eqb-suc-zero (length (mutations ++ mutation ∷ [])))

-- and where none of them is a Stamped, none of them has the key of one
pub stamps-push : (mutation : Mutation) (keys : List Point) (stamps : Bool) → (stamps ≡ false → keys ≡ [])
    → (stamps || is_stamped mutation) ≡ false → add_stamped (Write mutation) keys ≡ []
stamps-push mutation keys stamps none other =
    let parts = or_parts stamps (is_stamped mutation) other in
    unstamped mutation keys parts.1 ∙ none parts.0

-- whether a key of a range is unreadable, by what is kept of the writes
pub scan-says : (ops : List Op) (own : OwnWrites) (writes : List Range) → AreWritesOf ops own writes
    → (range part : Range) → part ≡ range → (is : Bool) → (is ≡ true) ↔ HasUnreadable own part
    → unreadable_in ops range ≡ is
scan-says ops own writes are range part same is tied =
    ap (unreadable_in ops) (sym same) ∙ kept-unreadable_in ops own are.left_there part is tied

-- without the key of a Stamped none is
pub unstamped-scan : (ops : List Op) (range : Range) → stamped_keys ops ≡ [] → unreadable_in ops range ≡ false
unstamped-scan ops range none =
    ap (list_any (λ (key : Point). in_range range key && unreadable ops key)) none
