-- What small books come to that are carried over.
use Rattle.std.proofs.Common.{◌≡◌, ◌∙◌, sym, ap, refl, false, [], ◌∷◌, Some, None, arith}
use Rattle.std.specs.Prelude.{codes}
use Rattle.std.specs.Cmp.Lexicographic.{slice_cmp}
use Rattle.std.specs.FinMap.{get}
use Rattle.std.specs.FinMap.Entries.{find}
use Rattle.std.specs.Ordering.{nat_cmp}
use Rattle.std.proofs.lemmas.Option.{none-some}
use Rattle.fdb_keys.specs.Insertion.{inserted}
use Rattle.fdb_keys.specs.Points.{point_lt}
use Rattle.fdb_mutations.specs.Maps.{Map}
use Rattle.fdb_mutations.specs.Mutations.{effects}
use Rattle.fdb_mutations.specs.Pairs.{pairs_in}
use Rattle.fdb_mutations.specs.declared.mutation.Mutation.TheVariants.{Set}
use Rattle.fdb_mutations.proofs.Exports.{find-within}
use Rattle.fdb_txn.proofs.Exports.{get-effects}
use Rattle.fdb_sections.specs.Records.{every_key}
use Rattle.fdb_sections.specs.ShardViews.{run_of}
use Rattle.fdb_layers.specs.RollingExamples.{closed_book, closed_config, losing_book, next_book, next_config}
use Rattle.fdb_layers.specs.RollingExamples.{BothArrive, EarlyIsNotThere, LostIsNotThere}
use Rattle.fdb_layers.proofs.OperationsLemmas.{nothing-at, nowhere}

-- a map where a was set, and one where b was set behind that
abbrev one : Map
one = effects nowhere (Set (codes "a") (1 ∷ []) ∷ [])

abbrev two : Map
two = effects one (Set (codes "b") (2 ∷ []) ∷ [])

-- where two maps have the same pairs, they have the same at b
same-at-b : (map other : Map) → pairs_in map every_key false ≡ pairs_in other every_key false
    → get map (codes "b") ≡ get other (codes "b")
unfolding point_lt
same-at-b map other same = sym (find-within map every_key (codes "b"))
    ∙ ap (find (slice_cmp nat_cmp) (codes "b")) same ∙ find-within other every_key (codes "b")

two-at-b : get two (codes "b") ≡ Some (2 ∷ [])
two-at-b = get-effects one (Set (codes "b") (2 ∷ []) ∷ []) (codes "b")

one-at-b : get one (codes "b") ≡ None
one-at-b = get-effects nowhere (Set (codes "a") (1 ∷ []) ∷ []) (codes "b") ∙ nothing-at (codes "b")

closed-run : run_of closed_config 200 closed_book ≡ two
unfolding point_lt inserted
closed-run = refl

next-run : run_of next_config 50 next_book ≡ two
unfolding point_lt inserted
next-run = refl

losing-run : run_of next_config 50 losing_book ≡ one
unfolding point_lt inserted
losing-run = refl

early-run : run_of next_config 49 next_book ≡ nowhere
early-run = refl

differ : (map : Map) → get map (codes "b") ≡ None → pairs_in map every_key false ≡ pairs_in two every_key false → ⊥
differ map none same = none-some (2 ∷ []) (sym none ∙ same-at-b map two same ∙ two-at-b)

pub both-arrive : BothArrive
both-arrive = record {
  reached = omega arith;
  pairs = ap (λ (map : Map). pairs_in map every_key false) (next-run ∙ sym closed-run);
  same_run = ap (λ (map : Map). pairs_in map every_key false) (next-run ∙ sym closed-run);
}

pub early-is-not-there : EarlyIsNotThere
early-is-not-there carried = differ nowhere (nothing-at (codes "b"))
    (ap (λ (map : Map). pairs_in map every_key false) (sym early-run) ∙ carried.pairs
    ∙ ap (λ (map : Map). pairs_in map every_key false) closed-run)

pub lost-is-not-there : LostIsNotThere
lost-is-not-there carried = differ one one-at-b
    (ap (λ (map : Map). pairs_in map every_key false) (sym losing-run) ∙ carried.pairs
    ∙ ap (λ (map : Map). pairs_in map every_key false) closed-run)
