-- The write set of a program as ranges, and point by point; and its mutations.
use Rattle.std.proofs.Common.{◌≡◌, ◌∙◌, refl, sym, ap, ⊎_elim, Bool, true, false, ◌||◌, List, [], ◌∷◌, ◌++◌}
use Rattle.std.proofs.lemmas.Bool.{or_cases, or_left, or_right}
use Rattle.std.proofs.lemmas.List.Folds.{list_any-append}
use Rattle.fdb_keys.specs.Points.{Point}
use Rattle.fdb_keys.specs.Ranges.{Range, in_range, in_set}
use Rattle.fdb_keys.proofs.Exports.{in_with_range}
use Rattle.fdb_mutations.proofs.Exports.{in_named_range}
use Rattle.fdb_mutations.specs.Maps.{Map}
use Rattle.fdb_mutations.specs.declared.mutation.Mutation.{Mutation}
use Rattle.fdb_mutations.specs.Mutations.{names, named_range, effect, effects}
use Rattle.fdb_txn.specs.book.Transactions.{NamesWrites, some_names}
use Rattle.fdb_client.specs.declared.program.Op.{Op}
use Rattle.fdb_client.specs.declared.program.Op.TheVariants.{Get, Write, AddRead, AddWrite}
use Rattle.fdb_client.specs.declared.program.Op.TheVariants as operation
use Rattle.fdb_client.specs.declared.program.Transcript.{Transcript}
use Rattle.fdb_client.specs.ProgramLaws.{CommitRequestsAreWhole}
use Rattle.fdb_client.specs.Programs.{program, copy, mutations_of, write_set, writes_on, add_writes, write_ranges}
use Rattle.fdb_client.specs.Programs.{commit_request_of}
use Rattle.fdb_client.proofs.ReadSetLemmas.{in_executed_ranges}

-- one operation more adds what it writes
in_add_writes : (op : Op) (ranges : List Range) (x : Point)
    → in_set (add_writes op ranges) x ≡ (writes_on op x || in_set ranges x)
in_add_writes (Get key snapshot) ranges x = refl
in_add_writes (operation.Range range limit is_reverse snapshot) ranges x = refl
in_add_writes (Write mutation) ranges x =
    in_with_range (named_range mutation) ranges x
    ∙ ap (λ (here : Bool). here || in_set ranges x) (in_named_range mutation x)
in_add_writes (AddRead range) ranges x = refl
in_add_writes (AddWrite range) ranges x = in_with_range range ranges x

-- the ranges of a program's write set hold just the points that it writes
pub in_write_ranges : (ops : List Op) (x : Point) → in_set (write_ranges ops) x ≡ write_set ops x
in_write_ranges [] x = refl
in_write_ranges (op ∷ earlier) x =
    in_add_writes op (write_ranges earlier) x
    ∙ ap (λ (others : Bool). writes_on op x || others) (in_write_ranges earlier x)

-- what the mutations of a program name it writes
named-written : (ops : List Op) (x : Point) → some_names (mutations_of ops) x ≡ true → write_set ops x ≡ true
named-written [] x named = named
named-written (Get key snapshot ∷ earlier) x named = named-written earlier x named
named-written (operation.Range range limit is_reverse snapshot ∷ earlier) x named = named-written earlier x named
named-written (AddRead range ∷ earlier) x named = named-written earlier x named
named-written (AddWrite range ∷ earlier) x named =
    or_right (in_range range x) (write_set earlier x) (named-written earlier x named)
named-written (Write mutation ∷ earlier) x named = ⊎_elim
    (λ before. or_right (names mutation x) (write_set earlier x) (named-written earlier x before))
    (λ here. or_left (names mutation x) (write_set earlier x) (alone (names mutation x) here))
    (or_cases (some_names (mutations_of earlier) x) (names mutation x || false)
    (sym (list_any-append (λ (one : Mutation). names one x) (mutations_of earlier) (mutation ∷ [])) ∙ named))
  where
    alone : (b : Bool) → (b || false) ≡ true → b ≡ true
    alone true is = refl
    alone false is = is

-- what is submitted of a transcript has in its write set all that its mutations name
pub commit_request_of-names : (transcript : Transcript) → NamesWrites (commit_request_of transcript)
commit_request_of-names transcript x named =
    in_write_ranges (program transcript.ops) x ∙ named-written (program transcript.ops) x named

-- the mutations of a program leave a map as executing it does
effects-executed : (map : Map) (ops : List Op) → effects map (mutations_of ops) ≡ copy map ops
effects-executed map [] = refl
effects-executed map (Get key snapshot ∷ earlier) = effects-executed map earlier
effects-executed map (operation.Range range limit is_reverse snapshot ∷ earlier) = effects-executed map earlier
effects-executed map (AddRead range ∷ earlier) = effects-executed map earlier
effects-executed map (AddWrite range ∷ earlier) = effects-executed map earlier
effects-executed map (Write mutation ∷ earlier) =
    effects-push map (mutations_of earlier) mutation
    ∙ ap (λ (there : Map). effect there mutation) (effects-executed map earlier)
  where
    effects-push : (map : Map) (mutations : List Mutation) (last : Mutation)
        → effects map (mutations ++ last ∷ []) ≡ effect (effects map mutations) last
    effects-push map [] last = refl
    effects-push map (mutation ∷ mutations) last = effects-push (effect map mutation) mutations last

-- what is submitted of a transcript is all that its program reads and writes
pub commit_requests_are_whole : CommitRequestsAreWhole
commit_requests_are_whole transcript map = (
  λ executed x. in_executed_ranges map transcript.ops executed x,
  λ x. in_write_ranges (program transcript.ops) x,
  effects-executed map (program transcript.ops),
)
