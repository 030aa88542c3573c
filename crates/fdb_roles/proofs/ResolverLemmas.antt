-- A resolver that took the entries before another one says of its part of that what the rule says, and has then taken
-- it, too.
use Rattle.std.proofs.Common.{◌≡◌, ◌∙◌, sym, ap, subst, ℕ, suc, ◌<◌, true, not, nat_lt, List, [], ◌∷◌, ◌++◌}
use Rattle.std.proofs.Common.{◌≤◌, length, Option, Some, None, ⊎_elim, arith}
use Rattle.std.specs.List.{All, AllByRecursion}
use Rattle.std.proofs.lemmas.Bool.{and_parts, cond-false, eq-eqb, le-ltb}
use Rattle.std.proofs.lemmas.List.Elements.{All-from_recursion}
use Rattle.std.proofs.lemmas.Option.{get_or_from_slice_get}
use Rattle.fdb_keys.specs.Points.{Point}
use Rattle.fdb_keys.proofs.Exports.{all-weaken}
use Rattle.fdb_interval.specs.Versions.{version_at}
use Rattle.fdb_txn.specs.declared.entry.Entry.{Entry}
use Rattle.fdb_txn.specs.declared.entry.Move.{Move}
use Rattle.fdb_txn.specs.book.Transactions.{Transaction, NamesWrites}
use Rattle.fdb_txn.specs.book.Book.{DatedMove, Head, Place, Seen, head_at, add_entry, head_of, seen_of}
use Rattle.fdb_txn.specs.book.Book.{last_horizon, last_version}
use Rattle.fdb_txn.specs.book.History.{IsHistory, AreEntries}
use Rattle.fdb_txn.specs.rules.Admission.{has_points}
use Rattle.fdb_txn.specs.rules.Resolvers.{AgreeFrom, IsStateOf}
use Rattle.fdb_txn.specs.laws.SerialMapLaws.{version_after}
use Rattle.fdb_txn.proofs.Exports.{places_are_history, seen_of-push, points_from-in_set, point_of-set}
use Rattle.fdb_txn.proofs.Exports.{state_forgets}
use Rattle.fdb_resolver.specs.declared.part.Item.{Item}
use Rattle.fdb_resolver.specs.declared.part.Part.{Part}
use Rattle.fdb_resolver.specs.Parts.{AreRising, IsPart}
use Rattle.fdb_resolver.specs.Resolvers.{Resolver, part_fault, IsNew}
use Rattle.fdb_resolver.specs.Rule.{versions_after}
use Rattle.fdb_proxy.specs.declared.position.Position.{Position}
use Rattle.fdb_proxy.specs.Deciding.{Said}
use Rattle.fdb_proxy.specs.Parting.{AreItems, IsPartOf, AreParts}
use Rattle.fdb_proxy.specs.Verdicts.{moves_through, verdicts_on}
use Rattle.fdb_proxy.proofs.Exports.{batches_are_found_by_the_rule, entries_are_judged_by_the_rule}
use Rattle.fdb_roles.specs.Judging.{MayFollow, HasSaid}
use Rattle.fdb_roles.specs.AtBook.{IsResolverAt}
use Rattle.fdb_roles.proofs.AllLemmas.{within-item}
use Rattle.fdb_roles.specs.ProxyStages.{AreFindsOn, position_in}
use Rattle.fdb_roles.proofs.BookLemmas.{last-push, last_horizon-push}

-- what is sent of a batch from place p on
module _ (splits : List Point) (head : Head) (i : ℕ) where
  items-after : (p : ℕ) (batch : List Transaction) (items : List Item) → AreItems splits head i p batch items
      → (q : ℕ) → q < p → AllByRecursion (λ (item : Item). q < item.place) items
  items-after p [] items are q lesser = subst (AllByRecursion (λ (item : Item). q < item.place)) (sym are) tt
  items-after p (t ∷ ts) items are q lesser = ⊎_elim
      (λ asked. let its = asked.1 in
      subst (AllByRecursion (λ (item : Item). q < item.place)) (sym its.2)
      (subst (λ (n : ℕ). q < n) (sym its.3) lesser, items-after (suc p) ts its.1 its.5 q (omega (arith, lesser))))
      (λ unasked. items-after (suc p) ts items unasked.1 q (omega (arith, lesser)))
      are

  items-rising : (p : ℕ) (batch : List Transaction) (items : List Item) → AreItems splits head i p batch items
      → AreRising items
  items-rising p [] items are = subst AreRising (sym are) tt
  items-rising p (t ∷ ts) items are = ⊎_elim
      (λ asked. let its = asked.1 in
      let number : its.0.place ≡ p = its.3 in
      subst AreRising (sym its.2)
      (items-after (suc p) ts its.1 its.5 its.0.place (omega (arith, number)), items-rising (suc p) ts its.1 its.5))
      (λ unasked. items-rising (suc p) ts items unasked.1)
      are

  -- who is sent reads of a transaction knows that it has some
  abbrev KnowsReads : Item → Type 0
  KnowsReads item = has_points item.reads ≡ true → item.has_reads ≡ true

  items-reads : (p : ℕ) (batch : List Transaction) (items : List Item) → AreItems splits head i p batch items
      → AllByRecursion KnowsReads items
  items-reads p [] items are = subst (AllByRecursion KnowsReads) (sym are) tt
  items-reads p (t ∷ ts) items are = ⊎_elim
      (λ asked. let its = asked.1 in
      subst (AllByRecursion KnowsReads) (sym its.2) (
        (λ some.
            let point = point_of-set its.0.reads some in
            its.4.has_reads
            ∙ points_from-in_set t.reads point.0 (and_parts _ _ (sym (its.4.reads point.0) ∙ point.1)).0),
        items-reads (suc p) ts its.1 its.5,
      ))
      (λ unasked. items-reads (suc p) ts items unasked.1)
      are

-- the same parts of the same batch
pub same-parts : (splits : List Point) (moves : List DatedMove) (position : Position) (batch given : List Transaction)
    (parts sent : List Part) → given ≡ batch → sent ≡ parts → AreParts splits moves position given parts
    → AreParts splits moves position batch sent
same-parts splits moves position batch given parts sent same_batch same_parts are =
    subst (AreParts splits moves position batch) (sym same_parts)
    (subst (λ (ts : List Transaction). AreParts splits moves position ts parts) same_batch are)

-- what a resolver is sent of an entry is a part
pub is-part : (splits : List Point) (moves : List DatedMove) (position : Position) (batch : List Transaction) (i : ℕ)
    (part : Part) → position.prev < position.version → IsPartOf splits moves position batch i part → IsPart part
is-part splits moves position batch i part later of = record {
  later = let prev = of.prev in let version = of.version in omega (arith, later, prev, version);
  rising = items-rising splits (head_at position.version position.horizon moves) i 0 batch part.items of.items;
  reads = items-reads splits (head_at position.version position.horizon moves) i 0 batch part.items of.items;
}

-- what is sent of an entry are parts
pub are-parts : (splits : List Point) (moves : List DatedMove) (position : Position) (batch : List Transaction)
    (parts : List Part) → position.prev < position.version → AreParts splits moves position batch parts
    → All IsPart parts
are-parts splits moves position batch parts later are k d within =
    let there = within-item parts k within in
    subst IsPart (sym (get_or_from_slice_get parts k there.0 d there.1))
    (is-part splits moves position batch k there.0 later (are.each k there.0 there.1))

-- entries after others follow on the last of those
pub entries-after : (resolvers last : ℕ) (before : List Entry) (entry : Entry)
    → AreEntries resolvers last (before ++ entry ∷ [])
    → AreEntries resolvers (version_after last before) (entry ∷ [])
entries-after resolvers last [] entry entries = entries
entries-after resolvers last (first ∷ before) entry entries =
    entries-after resolvers first.version before entry entries.4

-- The next entry of a book after these.
module _ (splits : List Point) (before : List Entry) (entry : Entry)
    (entries : AreEntries (suc (length splits)) 0 (before ++ entry ∷ [])) where
  pub follows : AreEntries (suc (length splits)) (last_version before) (entry ∷ [])
  follows = entries-after (suc (length splits)) 0 before entry entries

  pub may-follow : (last horizon : ℕ) → last ≡ last_version before → horizon ≤ entry.horizon
      → MayFollow last horizon (suc (length splits)) entry
  may-follow last horizon is rises = record {
    later = let above = follows.0 in omega (arith, is, above);
    linked = follows.1.0 ∙ sym is;
    moves = All-from_recursion (λ (move : Move). move.to < suc (length splits)) entry.moves follows.2;
    reads = All-from_recursion (λ (t : Transaction). t.read < entry.version) entry.batch
        (all-weaken (λ (t : Transaction). (t.read < entry.version) × NamesWrites t)
        (λ (t : Transaction). t.read < entry.version) (λ (t : Transaction) may. may.0) entry.batch follows.3);
    rises = rises;
    below = follows.1.1;
  }

  pub later : (seen_of (before ++ entry ∷ [])).places ≡ (add_entry (seen_of before) entry).places
  later = ap (λ (seen : Seen). seen.places) (seen_of-push before entry)

  pub history : IsHistory (suc (length splits)) (add_entry (seen_of before) entry).places
  history = subst (IsHistory (suc (length splits))) later
      (places_are_history (suc (length splits)) (before ++ entry ∷ []) entries)

  -- one resolver takes its part
  module _ (index i : ℕ) (old : Resolver) (part : Part) (at : IsResolverAt splits before i old)
      (of : IsPartOf splits (moves_through (seen_of before) entry) (position_in index entry) entry.batch i part) where
    pub may-take : part_fault old part ≡ None
    may-take =
        let same : part.prev ≡ old.last = of.prev ∙ follows.1.0 ∙ sym at.last in
        cond-false _ _ _ (ap not (eq-eqb part.resolver old.index (of.resolver ∙ sym at.index)))
        ∙ cond-false _ _ _ at.works
        ∙ cond-false _ _ _ (le-ltb part.prev old.last (omega (arith, same)))
        ∙ cond-false _ _ _ (le-ltb old.last part.prev (omega (arith, same)))

    -- what it says is the rule, and it has then taken the entry
    pub takes : last_horizon before ≤ entry.horizon → (new : Resolver) (one : Option Said)
        (has : HasSaid old part new one) → (one ≡ Some (verdicts_on splits i (seen_of before) entry))
        × IsResolverAt splits (before ++ entry ∷ []) i new
        × AreFindsOn splits i (seen_of before) entry has.verdicts.conflicts
    takes risen new one has =
        let answers = has.verdicts.answers in
        let after = (add_entry (seen_of before) entry).places in
        let judged = entries_are_judged_by_the_rule splits i (seen_of before) entry part.items answers
        (last_horizon before) (version_at old.versions) history at.state risen of.items
        (rw (of.version, of.horizon) at has.answer.answers) in
        let kept : AgreeFrom entry.horizon (version_at new.versions)
        (versions_after entry.version (version_at old.versions) part.items answers) =
        rw (of.version, of.horizon) at has.taken.versions in (
          has.said_them ∙ ap (λ (said : Said). Some said) judged.0,
          record {
            index = has.taken.index ∙ at.index;
            last = has.taken.last ∙ of.version ∙ sym (last-push before entry);
            works = has.taken.works;
            state = subst (λ (places : List Place). IsStateOf splits i places
                (last_horizon (before ++ entry ∷ [])) (version_at new.versions)) (sym later)
                (subst (λ (v : ℕ). IsStateOf splits i after v (version_at new.versions))
                (sym (last_horizon-push before entry))
                (state_forgets splits i after (last_horizon before) entry.horizon _
                (version_at new.versions) judged.1 risen kept));
          },
          batches_are_found_by_the_rule splits (head_of (seen_of before) entry) i entry.batch (seen_of before).places
              part.items answers has.verdicts.conflicts (last_horizon before) (version_at old.versions) history
              at.state risen of.items (rw (of.version, of.horizon) at has.answer.answers)
              (rw of.version at has.answer.conflicts),
        )

-- a new resolver took nothing
pub new-resolver : (splits : List Point) (i : ℕ) (new : Resolver) → IsNew i new → IsResolverAt splits [] i new
new-resolver splits i new is = record {
  index = is.index;
  last = is.last;
  works = is.works;
  state = λ x v reached. ap (λ (n : ℕ). nat_lt v n) (is.versions x);
}
