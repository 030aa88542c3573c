-- What the peeks of a tag tell of the run.
use Rattle.std.proofs.Common.{◌≡◌, ◌∙◌, refl, sym, ap, subst, ⊎_elim, ℕ, suc, ◌+◌, ◌-◌, ◌≤◌, min, max, le_of_lt, List}
use Rattle.std.proofs.Common.{[], ◌∷◌, ◌++◌, length, take, drop, append-nil, append_assoc, arith}
use Rattle.std.specs.Prelude.{nat_le, nat_lt, Option, Some, None, if◌then◌else◌}
use Rattle.std.specs.List.{AllByRecursion}
use Rattle.std.specs.FinMap.{get}
use Rattle.std.specs.Option.{option_or}
use Rattle.std.proofs.lemmas.Bool.{cases_lt, cond-false, cond-true, le-leb, le-ltb}
use Rattle.std.proofs.lemmas.List.Sums.{fold-append}
use Rattle.std.proofs.Math.Seq.{take-add}
use Rattle.fdb_keys.specs.Points.{Point}
use Rattle.fdb_keys.specs.Ranges.{Range}
use Rattle.fdb_keys.specs.declared.refusal.Refusal.{Refusal}
use Rattle.fdb_keys.specs.declared.refusal.Refusal.TheVariants.{NotYet}
use Rattle.fdb_mutations.specs.Maps.{Map}
use Rattle.fdb_txn.specs.declared.entry.Entry.{Entry}
use Rattle.fdb_txn.specs.declared.tag_msg.TagMsg.{TagMsg}
use Rattle.fdb_txn.specs.book.Book.{nothing, last_version, seen_before}
use Rattle.fdb_txn.specs.book.History.{AreEntries}
use Rattle.fdb_txn.specs.laws.SerialMapLaws.{version_after}
use Rattle.fdb_txn.specs.rules.Messages.{messages_for, messages_after, value_in}
use Rattle.fdb_txn.proofs.Exports.{messages_go_on, shards_hold_the_run}
use Rattle.fdb_log.specs.declared.peek.Peek.{Peek}
use Rattle.fdb_log.specs.Messages.{above}
use Rattle.fdb_log.specs.Peeks.{through_after}
use Rattle.fdb_log.proofs.Exports.{above-higher}
use Rattle.fdb_storage.specs.Replays.{covered, covered_from, messages_of}
use Rattle.fdb_storage.specs.StampedMessages.{stamped_fault}
use Rattle.fdb_storage.proofs.Exports.{messages_above_a_version, no_stamped_is_sent}
use Rattle.fdb_roles.specs.Replays.{IsUnpopped, GoOnFrom, ReplaysTellTheRun, ReplaysAreNotRefused}
use Rattle.fdb_roles.specs.Entries.{IsRising}
use Rattle.fdb_roles.proofs.LogLemmas.{messages-take, through-messages}
use Rattle.fdb_roles.proofs.TakenLemmas.{take-both}
use Rattle.fdb_roles.proofs.BookLemmas.{entries-take}
use Rattle.fdb_roles.proofs.RunLaws.{entries-rising, serial-front, versions-ordered}

module _ (splits : List Point) (range : Range) (book : List Entry) (entries : AreEntries (suc (length splits)) 0 book)
  where
    rising : IsRising book
    rising = entries-rising (suc (length splits)) book entries

    -- of the messages of some first entries, those above the version of the last of the first n are those of the
    -- entries between
    above-first : (n taken : ℕ)
        → above (last_version (take n book)) (messages_for splits range (take taken book))
        ≡ messages_after splits range (seen_before book n) (take (taken - n) (drop n book))
    above-first n taken = ⊎_elim
        (λ fewer.
        let none : taken - n ≡ 0 = omega (arith, fewer) in
        let rest : taken + (n - taken) ≡ n = omega (arith, fewer) in
        none-of taken n (le_of_lt fewer)
        ∙ ap (λ (k : ℕ). messages_after splits range (seen_before book n) (take k (drop n book))) (sym none))
        (λ more.
        let all : n + (taken - n) ≡ taken = omega (arith, more) in
        let parts : take taken book ≡ take n book ++ take (taken - n) (drop n book) =
        ap (λ (k : ℕ). take k book) (sym all) ∙ take-add n (taken - n) book in
        ap (λ (front : List Entry). above (last_version (take n book)) (messages_for splits range front)) parts
        ∙ messages_above_a_version (suc (length splits)) splits range (take n book) (take (taken - n) (drop n book))
        (subst (AreEntries (suc (length splits)) 0) parts (entries-take (suc (length splits)) 0 taken book entries)))
        (cases_lt taken n)
      where
        none-of : (taken n : ℕ) → taken ≤ n
            → above (last_version (take n book)) (messages_for splits range (take taken book)) ≡ []
        none-of taken n fewer =
            let front = entries-take (suc (length splits)) 0 taken book entries in
            let whole : take taken book ≡ take taken book ++ [] = sym (append-nil (take taken book)) in
            sym (above-higher (last_version (take taken book)) (last_version (take n book))
            (messages_for splits range (take taken book)) (versions-ordered book rising taken n fewer))
            ∙ ap (above (last_version (take n book)))
            (ap (λ (front : List Entry). above (last_version (take taken book)) (messages_for splits range front)) whole
            ∙ messages_above_a_version (suc (length splits)) splits range (take taken book) []
            (subst (AreEntries (suc (length splits)) 0) whole front))

    -- a peek from the version of the last of the first n entries has the messages of some entries after these
    peek-is : (n : ℕ) (peek : Peek) (is : IsUnpopped splits range book peek) → peek.after ≡ last_version (take n book)
        → (k : ℕ) × (peek.messages ≡ messages_after splits range (seen_before book n) (take k (drop n book)))
        × (peek.through ≡ last_version (take (n + k) book))
    peek-is n peek is begins =
        let k = min is.limit (is.taken - n) in
        let messages : peek.messages ≡ messages_after splits range (seen_before book n) (take k (drop n book)) =
        ap (λ (it : Peek). it.messages) is.gives
        ∙ ap (λ (all : List TagMsg). take is.limit (above peek.after all)) is.keeps
        ∙ ap (take is.limit)
        (above-higher _ peek.after (messages_for splits range (take is.taken book)) (omega (arith, is.unpopped))
        ∙ ap (λ (version : ℕ). above version (messages_for splits range (take is.taken book))) begins
        ∙ above-first n is.taken)
        ∙ messages-take splits range (seen_before book n) is.limit (take (is.taken - n) (drop n book))
        ∙ ap (messages_after splits range (seen_before book n))
        (take-both is.limit (is.taken - n) (drop n book)) in (
          k,
          messages,
          ap (λ (it : Peek). it.through) is.gives
              ∙ ap (through_after peek.after) (sym (ap (λ (it : Peek). it.messages) is.gives) ∙ messages)
              ∙ through-messages splits range (seen_before book n) peek.after (take k (drop n book))
              ∙ ap (λ (version : ℕ). version_after version (take k (drop n book))) begins
              ∙ sym (fold-append (λ (before : ℕ) (entry : Entry). entry.version) 0 (take n book) (take k (drop n book)))
              ∙ ap last_version (sym (take-add n k book)),
        )

    -- and so have peeks that go on one after another
    peeks-are : (n : ℕ) (peeks : List Peek) → AllByRecursion (IsUnpopped splits range book) peeks
        → GoOnFrom (last_version (take n book)) peeks
        → (m : ℕ) × (messages_for splits range (take n book) ++ messages_of peeks
        ≡ messages_for splits range (take m book))
        × (covered_from (last_version (take n book)) peeks ≡ last_version (take m book))
    peeks-are n [] all go_on = (n, append-nil (messages_for splits range (take n book)), refl)
    peeks-are n (peek ∷ peeks) all go_on =
        let here = peek-is n peek all.0 go_on.0 in
        let others = peeks-are (n + here.0) peeks all.1
        (subst (λ (version : ℕ). GoOnFrom version peeks) here.2 go_on.1) in
        let ordered = versions-ordered book rising n (n + here.0) (omega arith) in
        let greater : max (last_version (take n book)) peek.through ≡ last_version (take (n + here.0) book) =
        omega (arith, here.2, ordered) in (
          others.0,
          sym (append_assoc (messages_for splits range (take n book)) peek.messages (messages_of peeks))
              ∙ ap (λ (front : List TagMsg). front ++ messages_of peeks)
              (ap (λ (those : List TagMsg). messages_for splits range (take n book) ++ those) here.1
              ∙ sym (messages_go_on splits range (take n book) (take here.0 (drop n book)))
              ∙ ap (messages_for splits range) (sym (take-add n here.0 book)))
              ∙ others.1,
          cond-true (nat_le peek.after (last_version (take n book)))
              (covered_from (max (last_version (take n book)) peek.through) peeks) (last_version (take n book))
              (le-leb peek.after (last_version (take n book)) (omega (arith, go_on.0)))
              ∙ ap (λ (version : ℕ). covered_from version peeks) greater ∙ others.2,
        )

pub replays_tell_the_run : ReplaysTellTheRun
replays_tell_the_run splits range book peeks entries all go_on v x reached inside =
    let are = peeks-are splits range book entries 0 peeks all go_on in
    let within : v ≤ last_version (take are.0 book) = subst (λ (version : ℕ). v ≤ version) are.2 reached in
    ap (value_in v x) are.1
    ∙ shards_hold_the_run (suc (length splits)) splits range (take are.0 book)
    (entries-take (suc (length splits)) 0 are.0 book entries) v x inside
    ∙ ap (λ (map : Map). get map x)
    (sym (serial-front splits book (entries-rising (suc (length splits)) book entries) are.0 v within))

pub replays_are_not_refused : ReplaysAreNotRefused
replays_are_not_refused splits range book peeks entries all go_on v reached =
    let are = peeks-are splits range book entries 0 peeks all go_on in
    ap (λ (fault : Option Refusal). option_or fault
    (if nat_lt (covered peeks) v then Some (NotYet (suc (covered peeks))) else None))
    (ap stamped_fault are.1 ∙ no_stamped_is_sent splits range nothing (take are.0 book))
    ∙ cond-false (nat_lt (covered peeks) v) _ None (le-ltb (covered peeks) v reached)
