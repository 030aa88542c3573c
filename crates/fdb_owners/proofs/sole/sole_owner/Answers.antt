use Rattle.std.proofs.Common.{◌≡◌, ◌∙◌, sym, ap, subst, List, Some, slice_get, ◌-◌, length, ◌<◌, ℕ, [], rules}
use Rattle.std.proofs.lemmas.Option.{IfSome_then}
use Rattle.fdb_keys.specs.Points.{Point}
use Rattle.fdb_keys.specs.Ranges.{Range}
use Rattle.fdb_interval.specs.Breakpoints.{breaks_inside}
use Rattle.fdb_owners.specs.declared.history.History.{History}
use Rattle.fdb_owners.specs.Histories.{AreFalling, owner_in}
use Rattle.fdb_owners.specs.Parts.{owned_from}
use Rattle.fdb_owners.specs.Pieces.{history_at}
use Rattle.fdb_owners.proofs.OwnersLemmas.{history-is, owner-known}
use Rattle.fdb_owners.proofs.SoleLemmas.{sole-order, sole-history}
use Rattle.fdb_owners.proofs.WalkLemmas.{falling-history_at}
use Rattle.fdb_owners.proofs.sole.sole_owner.Goals as goal

-- the item that a slice of the set's ranges has at an index is the set's
of_set : (set ranges : List Range) (i : ℕ) (range : Range) → ranges ≡ set → Some range ≡ slice_get ranges i
    → slice_get set i ≡ Some range
of_set set ranges i range same there = sym (there ∙ ap (λ (list : List Range). slice_get list i) same)

last_of_set : (set ranges : List Range) (range : Range) → ranges ≡ set
    → Some range ≡ slice_get ranges (length ranges - 1) → slice_get set (length set - 1) ≡ Some range
last_of_set set ranges range same there =
    sym (there ∙ ap (λ (list : List Range). slice_get list (length list - 1)) same)

pub history_between-requires : goal.history_between-requires
history_between-requires c =
    let set = c.args.set.now in
    let ranges = c.as_slice-ranges.result.now in
    let first = c.in-Some-Some.first.now in
    let last = c.in-Some-Some.last.now in
    let same : ranges ≡ set = c.as_slice-ranges.ensures.value ∙ c.iter.ensures.ranges in
    let begins : Some first ≡ slice_get ranges 0 = search rules in
    let ends : Some last ≡ slice_get ranges (length ranges - 1) = search rules in
    let end_is : c.in_ok-end.end ≡ last.end = c.in_ok-end.ensures ∙ c.end_text.ensures.value in
    rw (c.begin_text.ensures, end_is)
    (sole-order set first last c.iter.ensures.apart (of_set set ranges 0 first same begins)
    (last_of_set set ranges last same ends))

pub owner_throughout-requires : goal.owner_throughout-requires
owner_throughout-requires c =
    subst (λ (history : History). AreFalling history.changes) (sym c.in-Some.ensures.history)
    (falling-history_at c.requires.0 c.requires.1 c.args.pieces.now c.begin_text.result.now c.requires.2)

pub returns-in-Some-clause-within : goal.returns-in-Some-clause-within
returns-in-Some-clause-within c =
    IfSome_then c.owner_throughout.result c.owner_throughout.ensures.owner
    (λ sole is resolvers last known.
    subst (λ (owner : ℕ). owner < resolvers)
    (sym (is ∙ ap (λ (history : History). owner_in history c.args.span.since) c.in-Some.ensures.history))
    (owner-known resolvers last (history_at c.args.pieces.now c.begin_text.result.now) c.args.span.since
    (history-is resolvers last c.args.pieces.now known c.begin_text.result.now)))

pub returns-in-Some-clause-alone : goal.returns-in-Some-clause-alone
returns-in-Some-clause-alone c =
    let set = c.args.set.now in
    let ranges = c.as_slice-ranges.result.now in
    let first = c.in-Some-Some.first.now in
    let last = c.in-Some-Some.last.now in
    let entries = c.args.pieces.now.breaks.entries in
    let same : ranges ≡ set = c.as_slice-ranges.ensures.value ∙ c.iter.ensures.ranges in
    let begins : Some first ≡ slice_get ranges 0 = search rules in
    let ends : Some last ≡ slice_get ranges (length ranges - 1) = search rules in
    let end_is : c.in_ok-end.end ≡ last.end = c.in_ok-end.ensures ∙ c.end_text.ensures.value in
    let none : breaks_inside (record { begin = first.begin; end = last.end }) entries ≡ [] =
    (λ k. breaks_inside (record { begin = sym c.begin_text.ensures k; end = sym end_is k }) entries)
    ∙ c.in-Some.ensures.inside in
    let here : c.in-Some.history.now ≡ history_at c.args.pieces.now first.begin =
    c.in-Some.ensures.history
    ∙ ap (λ (x : Point). history_at c.args.pieces.now x) c.begin_text.ensures in
    IfSome_then c.owner_throughout.result c.owner_throughout.ensures.alone
    (λ sole alone i x inside.
    ap (λ (history : History). owned_from history i c.args.span.since c.args.span.through)
    (sole-history set first last c.iter.ensures.apart (of_set set ranges 0 first same begins)
    (last_of_set set ranges last same ends) c.args.pieces.now
    c.history_between.ensures.rising none x inside ∙ sym here)
    ∙ alone i)
