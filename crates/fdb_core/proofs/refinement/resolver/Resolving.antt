-- A resolver takes its part of the next entry.
use Rattle.std.proofs.Common.{◌≡◌, ◌∙◌, refl, sym, ap, subst, ℕ, suc, ◌+◌, ◌<◌, List, [], ◌∷◌, ◌++◌, length, take, ◌≤◌}
use Rattle.std.proofs.Common.{get_or, Some, None, Result, Ok, Err, slice_get, slice_set, ⊎_elim, arith}
use Rattle.std.specs.Vec.{with_item}
use Rattle.std.proofs.lemmas.Bool.{cases_lt}
use Rattle.std.proofs.lemmas.List.{length-append, length-set}
use Rattle.std.proofs.lemmas.Option.{same_Some, get_or_from_slice_get, slice_get_read, slice_get_within}
use Rattle.fdb_keys.specs.Answers.{Answers}
use Rattle.fdb_keys.specs.Points.{Point}
use Rattle.fdb_keys.specs.declared.refusal.Refusal.{Refusal}
use Rattle.fdb_keys.specs.declared.refusal.Refusal.TheVariants.{NoMemory}
use Rattle.fdb_txn.specs.declared.entry.Entry.{Entry}
use Rattle.fdb_txn.specs.book.Book.{seen_of, seen_before, last_horizon}
use Rattle.fdb_txn.specs.book.History.{AreEntries, HorizonsRise}
use Rattle.fdb_txn.specs.book.Places.{place_of}
use Rattle.fdb_resolver.specs.declared.part.Part.{Part}
use Rattle.fdb_resolver.specs.Parts.{IsPart}
use Rattle.fdb_resolver.specs.declared.verdict.Verdict.{Verdict}
use Rattle.fdb_resolver.specs.declared.verdict.Verdicts.{Verdicts}
use Rattle.fdb_resolver.specs.Resolvers.{Resolver, part_fault, IsAnswer, HasTaken}
use Rattle.fdb_resolver.specs.Rule.{finds}
use Rattle.fdb_proxy.specs.Parting.{IsPartOf}
use Rattle.fdb_proxy.specs.Verdicts.{moves_through, verdicts_on, found_at}
use Rattle.fdb_core.specs.declared.roles.resolver.ResolverRole.{ResolverRole}
use Rattle.fdb_core.specs.declared.cluster.Cluster.{Cluster}
use Rattle.fdb_machine.specs.declared.step.Answered.TheVariants as answered
use Rattle.fdb_machine.specs.machine.RoleSteps.{resolves}
use Rattle.fdb_core.specs.refinement.Cluster.{machine_of, Refines}
use Rattle.fdb_roles.specs.ProxyStages.{AreFindsOn, ArePartsOf, position_in}
use Rattle.fdb_core.specs.refinement.resolver.Resolving.{ResolverRefines, ResolversRefine, TakesNext, taken_by}
use Rattle.fdb_core.proofs.refinement.RolesLemmas.{roles_of, roles-refine}
use Rattle.fdb_roles.specs.AtBook.{IsResolverAt}
use Rattle.fdb_roles.proofs.Exports.{within-item, answers-fault, hands-on, each-set, front-at, last-at, map-at, map-set}
use Rattle.fdb_roles.proofs.Exports.{one-item, entries-take, last-risen, rise-take, take-next, follows, are-parts}
use Rattle.fdb_roles.proofs.Exports.{may-take, takes}
use Rattle.fdb_machine.proofs.Exports.{resolves-transition}

module _ (splits : List Point) (before : List Entry) (entry : Entry) (i index : ℕ) (old : ResolverRole)
    (at : IsResolverAt splits before i old.state) (entries : AreEntries (suc (length splits)) 0 (before ++ entry ∷ []))
    (risen : last_horizon before ≤ entry.horizon) (part : Part)
    (of : IsPartOf splits (moves_through (seen_of before) entry) (position_in index entry) entry.batch i part) where
  no-fault : part_fault old.state part ≡ None
  no-fault = may-take splits before entry entries index i old.state part at of

  -- it lacks memory alone
  pub lacks-memory-alone : (new : ResolverRole) (why : Refusal)
      → Answers {T = Verdicts} (Err why) (part_fault old.state part) (IsAnswer old.state part)
      → Answers {T = List (ℕ × Verdict)} (Err why) None (λ answer. TakesNext splits before entry i index old answer new)
  lacks-memory-alone new why answers = hands-on why (part_fault old.state part) None (IsAnswer old.state part)
      (λ (answer : List (ℕ × Verdict)). TakesNext splits before entry i index old answer new) no-fault answers

  -- it says what the rule says
  pub takes-next : (later : Resolver) (verdicts : Verdicts) (answer : List (ℕ × Verdict))
      (new : ResolverRole)
      → Answers (Ok verdicts) (part_fault old.state part) (IsAnswer old.state part)
      → HasTaken old.state part verdicts later → answer ≡ verdicts.answers
      → new.state ≡ later → new.taken ≡ old.taken + 1 → new.sent.items ≡ old.sent.items ++ verdicts ∷ []
      → TakesNext splits before entry i index old answer new
  takes-next later verdicts answer new said taken same core_is count added =
      let is = (answers-fault (part_fault old.state part) verdicts (IsAnswer old.state part) said).1 in
      let took = takes splits before entry entries index i old.state part at of risen later (Some verdicts.answers)
      (record { verdicts = verdicts; said_them = refl; answer = is; taken = taken }) in
      let rule : verdicts.answers ≡ verdicts_on splits i (seen_of before) entry = same-some verdicts.answers _ took.0 in
      record {
        rule = same ∙ rule;
        state = subst (IsResolverAt splits (before ++ entry ∷ []) i) (sym core_is) took.1;
        taken = count;
        verdicts = verdicts;
        sent = added;
        resolver = is.resolver ∙ at.index;
        number = is.index ∙ of.index;
        answers = sym same;
        found = took.2;
      }
    where
      same-some : (a b : List (ℕ × Verdict)) → Some a ≡ Some b → a ≡ b
      same-some a b is = cc

-- A resolver of a world takes its part of the entry that is next for it.
module _ (k : Cluster) (refines : Refines k) (i r : ℕ) (entry : Entry) (role : ResolverRole)
    (there : slice_get k.book.items i ≡ Some entry) (at : slice_get k.resolvers.items r ≡ Some role)
    (due : role.taken ≡ i) where
  abbrev splits : List Point
  splits = k.config.resolver_splits

  abbrev book : List Entry
  book = k.book.items

  front : take (suc i) book ≡ take i book ++ entry ∷ []
  front = take-next book i entry there

  entries-here : AreEntries (suc (length splits)) 0 (take i book ++ entry ∷ [])
  entries-here = subst (AreEntries (suc (length splits)) 0) front
      (entries-take (suc (length splits)) 0 (suc i) book refines.book.entries)

  risen-here : last_horizon (take i book) ≤ entry.horizon
  risen-here = last-risen (take i book) entry (subst (HorizonsRise 0) front
      (rise-take 0 (suc i) book refines.book.horizons))

  ok : ResolverRefines splits book r role
  ok = refines.resolvers.each r role at

  at-entry : IsResolverAt splits (take i book) r role.state
  at-entry = subst (λ (n : ℕ). IsResolverAt splits (take n book) r role.state) due ok.state

  -- its part in the pool
  pub parts-within : i < length k.parts.items
  parts-within =
      let inside = slice_get_within book i entry there in
      let count = refines.parts.count in omega (arith, inside, count)

  module _ (of : List Part) (its : slice_get k.parts.items i ≡ Some of) where
    all-parts : ArePartsOf splits book i entry of
    all-parts = refines.parts.each i entry of there its

    pub part-within : r < length of
    part-within =
        let inside = slice_get_within k.resolvers.items r role at in
        let count = refines.resolvers.count in
        let parts = all-parts.count in omega (arith, inside, count, parts)

    module _ (part : Part) (here : slice_get of r ≡ Some part) where
      pub part-of : IsPartOf splits (moves_through (seen_of (take i book)) entry)
          (position_in i entry) entry.batch r part
      part-of = all-parts.each r part here

      pub part-is : IsPart part
      part-is =
          let follows-on = follows splits (take i book) entry entries-here in
          let above = follows-on.0 in
          let on = follows-on.1 in
          subst IsPart (get_or_from_slice_get of r part part here)
          (are-parts splits (moves_through (seen_of (take i book)) entry)
          (position_in i entry) entry.batch of
          (omega (arith, above, on)) all-parts r part part-within)

  -- it has taken it
  module _ (answer : List (ℕ × Verdict)) (later : ResolverRole)
      (took : TakesNext splits (take i book) entry r i role answer later) where
    count-next : later.taken ≡ i + 1
    count-next = took.taken ∙ ap (λ (n : ℕ). n + 1) due

    resolver-next : ResolverRefines splits book r later
    resolver-next =
        let inside = slice_get_within book i entry there in
        let next = count-next in
        let old_count = ok.count in
        record {
          within = omega (arith, inside, next);
          state = subst (λ (n : ℕ). IsResolverAt splits (take n book) r later.state)
              (let same : suc i ≡ later.taken = omega (arith, next) in same)
              (subst (λ (all : List Entry). IsResolverAt splits all r later.state) (sym front) took.state);
          count = ap (λ (sent : List Verdicts). length sent) took.sent
              ∙ length-append role.sent.items (took.verdicts ∷ []) ∙ omega (arith, old_count, next, due);
          sent = record {
            resolver = λ j verdicts here. by_place j verdicts here
                (λ early was. ok.sent.resolver j verdicts was)
                (λ last same. (
                  ap (λ (v : Verdicts). v.resolver) (sym same) ∙ took.resolver,
                  ap (λ (v : Verdicts). v.index) (sym same) ∙ took.number ∙ sym last,
                ));
            rule = λ j verdicts other here entry_here. by_rule j verdicts other here entry_here;
            found = λ j verdicts other here entry_here. by_finds j verdicts other here entry_here;
          };
        }
      where
        -- it stands among those that were sent before, or is the last one
        by_place : {P : Type 0} (j : ℕ) (verdicts : Verdicts) → slice_get later.sent.items j ≡ Some verdicts
            → (j < length role.sent.items → slice_get role.sent.items j ≡ Some verdicts → P)
            → (j ≡ i → took.verdicts ≡ verdicts → P) → P
        by_place j verdicts here before after =
            let old_count = ok.count in
            let now : slice_get (role.sent.items ++ took.verdicts ∷ []) j ≡ Some verdicts =
            ap (λ (sent : List Verdicts). slice_get sent j) (sym took.sent) ∙ here in
            ⊎_elim
            (λ early. before early (sym (front-at role.sent.items (took.verdicts ∷ []) j early) ∙ now))
            (λ late.
            let within = slice_get_within (role.sent.items ++ took.verdicts ∷ []) j verdicts now in
            let last : j ≡ length role.sent.items =
            omega (arith, late, within, length-append role.sent.items (took.verdicts ∷ [])) in
            after (omega (arith, last, old_count, due)) (same_Some took.verdicts verdicts
            (sym (last-at role.sent.items took.verdicts)
            ∙ ap (slice_get (role.sent.items ++ took.verdicts ∷ [])) (sym last) ∙ now)))
            (cases_lt j (length role.sent.items))

        by_rule : (j : ℕ) (verdicts : Verdicts) (other : Entry) → slice_get later.sent.items j ≡ Some verdicts
            → slice_get book j ≡ Some other → verdicts.answers ≡ verdicts_on splits r (seen_before book j) other
        by_rule j verdicts other here entry_here = by_place j verdicts here
            (λ early was. ok.sent.rule j verdicts other was entry_here)
            (λ last same.
            let entry_is : entry ≡ other = same_Some entry other
            (sym there ∙ ap (slice_get book) (sym last) ∙ entry_here) in
            ap (λ (v : Verdicts). v.answers) (sym same) ∙ took.answers ∙ took.rule
            ∙ (λ j'. verdicts_on splits r (seen_before book (sym last j')) (entry_is j')))

        by_finds : (j : ℕ) (verdicts : Verdicts) (other : Entry) → slice_get later.sent.items j ≡ Some verdicts
            → slice_get book j ≡ Some other → AreFindsOn splits r (seen_before book j) other verdicts.conflicts
        by_finds j verdicts other here entry_here = by_place j verdicts here
            (λ early was. ok.sent.found j verdicts other was entry_here)
            (λ last same p x.
            let entry_is : entry ≡ other = same_Some entry other
            (sym there ∙ ap (slice_get book) (sym last) ∙ entry_here) in
            ap (λ (v : Verdicts). finds p v.conflicts x) (sym same) ∙ took.found p x
            ∙ (λ j'. found_at splits r (place_of (seen_before book (sym last j')) p (Some (entry_is j'))) x))

    pub resolvers-next : ResolversRefine splits book (slice_set k.resolvers.items r later)
    resolvers-next = record {
      count = length-set k.resolvers.items r later ∙ refines.resolvers.count;
      each = each-set (ResolverRefines splits book) k.resolvers.items r later refines.resolvers.each
          (λ within. resolver-next);
    }

    pub taken-next : taken_by (slice_set k.resolvers.items r later) ≡ slice_set (taken_by k.resolvers.items) r (i + 1)
    taken-next = map-set (λ (of : ResolverRole). of.taken) k.resolvers.items r later
        ∙ ap (slice_set (taken_by k.resolvers.items) r) count-next

    pub resolved : (resolves (machine_of k) i r ≡ Ok (record {
      answer = answered.Verdicts answer;
      next = machine_of (record k { resolvers = with_item k.resolvers r later });
    })) × Refines (record k { resolvers = with_item k.resolvers r later })
    resolved = (
      resolves-transition (machine_of k) i r entry there
          (map-at (λ (of : ResolverRole). of.taken) k.resolvers.items r role at ∙ ap (λ (n : ℕ). Some n) due)
          ∙ (λ j. Ok (record {
            answer = answered.Verdicts (sym took.rule j);
            next = record (machine_of k) { resolvers = sym taken-next j };
          })),
      roles-refine k refines (record (roles_of k) { resolvers = with_item k.resolvers r later })
          refines.commit_proxies resolvers-next refines.logs,
    )

-- What is found where a resolver is to take its part of an entry: the entry, the resolver, and the parts in the pool.
pub record ToResolve (k : Cluster) (i r : ℕ) (role : ResolverRole) (of : List Part) : Type 0 where
  pub entry : Entry
  pub there : slice_get k.book.items i ≡ Some entry
  pub at : slice_get k.resolvers.items r ≡ Some role
  pub due : role.taken ≡ i
  pub its : slice_get k.parts.items i ≡ Some of

pub to-resolve : (k : Cluster) → Refines k → (i r : ℕ) (read role : ResolverRole) (pool of : List Part)
    → i < length k.book.items → r < length k.resolvers.items
    → read ≡ get_or k.resolvers.items r read → role ≡ get_or k.resolvers.items r role
    → pool ≡ get_or k.parts.items i pool → of ≡ pool → read.taken ≡ i → ToResolve k i r role of
to-resolve k refines i r read role pool of within exists reads is parts copied due =
    let entry = within-item k.book.items i within in
    let at = slice_get_read k.resolvers.items (length k.resolvers.items) r role refl exists is in
    let same : read ≡ role = one-item k.resolvers.items r read role exists reads at in
    let count = refines.parts.count in
    record {
      entry = entry.0;
      there = entry.1;
      at = at;
      due = ap (λ (of : ResolverRole). of.taken) (sym same) ∙ due;
      its = slice_get_read k.parts.items (length k.parts.items) i pool refl (omega (arith, within, count)) parts
          ∙ ap (λ (all : List Part). Some all) (sym copied);
    }

module _ (k : Cluster) (refines : Refines k) (i r : ℕ) (role : ResolverRole) (of : List Part)
    (found : ToResolve k i r role of) where
  pub found-within : r < length of
  found-within = part-within k refines i r found.entry role found.there found.at found.due of found.its

  module _ (part : Part) (read : part ≡ get_or of r part) where
    here : slice_get of r ≡ Some part
    here = slice_get_read of (length of) r part refl found-within read

    pub found-part : IsPart part
    found-part = part-is k refines i r found.entry role found.there found.at found.due of found.its part here

    -- what the resolver answers, by the contract of its call
    abbrev Takes : (result : Result (List (ℕ × Verdict)) Refusal) → ResolverRole → Type 0
    Takes result later =
        (by : List Point) (before : List Entry) (entry : Entry) (n index : ℕ) → IsResolverAt by before n role.state
        → AreEntries (suc (length by)) 0 (before ++ entry ∷ []) → last_horizon before ≤ entry.horizon
        → IsPartOf by (moves_through (seen_of before) entry)
        (position_in index entry) entry.batch n part
        → Answers result None (λ answer. TakesNext by before entry n index role answer later)

    takes-here : (result : Result (List (ℕ × Verdict)) Refusal) (later : ResolverRole) → Takes result later
        → Answers result None
        (λ answer. TakesNext k.config.resolver_splits (take i k.book.items) found.entry r i role answer later)
    takes-here result later takes = takes k.config.resolver_splits (take i k.book.items) found.entry r i
        (at-entry k refines i r found.entry role found.there found.at found.due)
        (entries-here k refines i r found.entry role found.there found.at found.due)
        (risen-here k refines i r found.entry role found.there found.at found.due)
        (part-of k refines i r found.entry role found.there found.at found.due of found.its part here)

    pub found-lacks : (why : Refusal) (later : ResolverRole) → Takes (Err why) later → why ≡ NoMemory
    found-lacks why later takes = takes-here (Err why) later takes

    pub found-resolved : (answer : List (ℕ × Verdict)) (later : ResolverRole) → Takes (Ok answer) later
        → (resolves (machine_of k) i r ≡ Ok (record {
          answer = answered.Verdicts answer;
          next = machine_of (record k { resolvers = with_item k.resolvers r later });
        })) × Refines (record k { resolvers = with_item k.resolvers r later })
    found-resolved answer later takes =
        resolved k refines i r found.entry role found.there found.at found.due answer later
        (takes-here (Ok answer) later takes)
