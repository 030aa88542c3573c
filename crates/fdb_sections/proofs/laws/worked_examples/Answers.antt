use Rattle.std.proofs.Common.{◌≡◌, ◌∙◌, sym, ap, subst, refl, arith, inl, inr, ⊎_elim, ℕ, zero, suc, List, [], ◌∷◌}
use Rattle.std.proofs.Common.{Option, Some, None, length}
use Rattle.std.specs.Prelude.{◌⊎◌, ◌&&◌, ◌||◌, Bool, true, false, codes, if◌then◌else◌}
use Rattle.fdb_keys.specs.declared.refusal.Refusal.{Refusal}
use Rattle.fdb_keys.specs.declared.refusal.Refusal.TheVariants as refusal
use Rattle.fdb_keys.specs.declared.refusal.Refused.{Refused}
use Rattle.fdb_keys.specs.Points.{Point, point_lt}
use Rattle.fdb_keys.specs.Ranges.{Range, in_set}
use Rattle.fdb_keys.specs.Insertion as insertion
use Rattle.fdb_txn.specs.book.Transactions.{Transaction}
use Rattle.fdb_txn.specs.book.Book.{Place, head_at, placed}
use Rattle.fdb_txn.specs.book.Places.{place_at}
use Rattle.fdb_txn.specs.rules.Admission.{committed, is_fresh}
use Rattle.fdb_proxy.specs.Verdicts.{conflict_at}
use Rattle.fdb_client.specs.Programs.{commit_request_of}
use Rattle.fdb_client.specs.declared.program.Transcript.{Transcript}
use Rattle.fdb_roles.specs.SmallBooks.{reads_and_sets, two_in_one_entry}
use Rattle.fdb_sections.specs.Absent.{IsNowhere}
use Rattle.fdb_sections.specs.Commits.{Back}
use Rattle.fdb_sections.specs.Examples.{a_and_b, far, only_a, opened}
use Rattle.fdb_sections.specs.Receipts.{IsTurnedDown}
use Rattle.fdb_sections.specs.Sessions.{Session}
use Rattle.fdb_sections.proofs.laws.worked_examples.Goals as goal

pub returns-clause-sessions : goal.returns-clause-sessions
returns-clause-sessions c = (
  refl,
  refl,
  (λ same. let wrong : Some (opened 200) ≡ Some (opened 100) = ap (λ (it : Session). it.current) same in
      let versions : 200 ≡ 100 = ap version_of wrong in
      omega (arith, versions)),
  refl,
  refl,
  refl,
  refl,
  refl,
)
  where
    version_of : Option Transcript → ℕ
    version_of None = 0
    version_of (Some transcript) = transcript.read_version

-- the two places of the entry, and the place of the far one
abbrev first : Place
first = placed (head_at 100 0 []) 0 (commit_request_of (reads_and_sets 0 None))

abbrev second : Place
second = placed (head_at 100 0 []) 1 (commit_request_of (reads_and_sets 1 None))

abbrev late : Place
late = placed (head_at 5000001 1 []) 0 (commit_request_of (reads_and_sets 1 None))

-- there are no other places
of-two : (entry place : ℕ) (there : Place × List Place) → place_at two_in_one_entry entry place ≡ Some there
    → ((first, []) ≡ there) ⊎ ((second, first ∷ []) ≡ there)
of-two zero zero there is = inl (cc (is))
of-two zero (suc zero) there is = inr (cc (is))
of-two zero (suc (suc place)) there is = absurd cc
of-two (suc entry) place there is = absurd cc

of-far : (entry place : ℕ) (there : Place × List Place) → place_at far entry place ≡ Some there
    → (late, []) ≡ there
of-far zero zero there is = cc (is)
of-far zero (suc place) there is = absurd cc
of-far (suc entry) place there is = absurd cc

-- the session of who stands there
abbrev session_of : Place × List Place → ℕ
session_of there = there.0.transaction.id.session

-- what is in both sets of a range and itself is in the range
in-both : (b : Bool) → b ≡ ((b && b && true && true) || false)
in-both true = refl
in-both false = refl

second-down : IsTurnedDown [] two_in_one_entry (reads_and_sets 1 None) refusal.NotCommitted only_a
unfolding point_lt insertion.inserted
second-down = record {
  entry = 0;
  place = 1;
  there = (second, first ∷ []);
  there_is = refl;
  asked = refl;
  uncommitted = refl;
  why_is = refl;
  conflicts = λ x. in-both (in_set only_a x);
}

late-down : IsTurnedDown [] far (reads_and_sets 1 None) refusal.TransactionTooOld []
unfolding point_lt insertion.inserted
late-down = record {
  entry = 0;
  place = 0;
  there = (late, []);
  there_is = refl;
  asked = refl;
  uncommitted = refl;
  why_is = refl;
  conflicts = λ x. refl;
}

-- of which keys the second one is told
second-set : (why : Refusal) (conflict : List Range) (x : Point)
    → IsTurnedDown [] two_in_one_entry (reads_and_sets 1 None) why conflict
    → in_set conflict x ≡ conflict_at [] (Some (second, first ∷ [])) x
second-set why conflict x down = ⊎_elim
    (λ same. let wrong : 0 ≡ 1 =
    ap session_of same ∙ ap (λ (t : Transaction). t.id.session) down.asked in absurd (omega (arith, wrong)))
    (λ same. subst (λ (there : Place × List Place). in_set conflict x ≡ conflict_at [] (Some there) x) (sym same)
    (down.conflicts x))
    (of-two down.entry down.place down.there down.there_is)

pub returns-clause-conflicts : goal.returns-clause-conflicts
unfolding point_lt insertion.inserted
returns-clause-conflicts c = (
  (
    (λ same. second-down),
    (λ same. absurd cc),
    (λ same. absurd cc),
    (λ other. absurd (other refl)),
  ),
  (λ tells. let wrong : false ≡ true = second-set refusal.NotCommitted [] (codes "a") (tells.0 refl) in cc),
  (λ tells. let wrong : true ≡ false = second-set refusal.NotCommitted a_and_b (codes "b") (tells.0 refl) in cc),
  ((λ same. absurd cc), (λ same. late-down), (λ same. absurd cc), (λ other. refl)),
  (λ tells. let wrong : only_a ≡ [] = tells.3 (λ (same : refusal.TransactionTooOld ≡ refusal.NotCommitted). cc) in cc),
  ((λ same. absurd cc), (λ same. absurd cc), (λ same. absurd cc), (λ other. refl)),
  (λ tells. let wrong : only_a ≡ [] = tells.3 (λ (same : refusal.CommitUnknownResult ≡ refusal.NotCommitted). cc) in
      cc),
)

pub returns-clause-turned_down : goal.returns-clause-turned_down
unfolding point_lt insertion.inserted
returns-clause-turned_down c = (
  second-down,
  (λ down. ⊎_elim
      (λ same. let wrong : 0 ≡ 1 =
      ap session_of same ∙ ap (λ (t : Transaction). t.id.session) down.asked in omega (arith, wrong))
      (λ same. let wrong : refusal.TransactionTooOld ≡ refusal.NotCommitted =
      subst (λ (there : Place × List Place). refusal.TransactionTooOld
      ≡ (if is_fresh there.0 then refusal.NotCommitted else refusal.TransactionTooOld)) (sym same) down.why_is in cc)
      (of-two down.entry down.place down.there down.there_is)),
  (λ down. ⊎_elim
      (λ same. let wrong : true ≡ false =
      subst (λ (there : Place × List Place). committed [] there.1 there.0 ≡ false) (sym same) down.uncommitted in cc)
      (λ same. let wrong : 1 ≡ 0 =
      ap session_of same ∙ ap (λ (t : Transaction). t.id.session) down.asked in omega (arith, wrong))
      (of-two down.entry down.place down.there down.there_is)),
  (λ down. nowhere down.entry down.place down.there down.there_is),
  late-down,
  (λ down. let wrong : refusal.NotCommitted ≡ refusal.TransactionTooOld =
      subst (λ (there : Place × List Place). refusal.NotCommitted
      ≡ (if is_fresh there.0 then refusal.NotCommitted else refusal.TransactionTooOld))
      (sym (of-far down.entry down.place down.there down.there_is)) down.why_is in cc),
)
  where
    nowhere : (entry place : ℕ) (there : Place × List Place) → place_at [] entry place ≡ Some there → ⊥
    nowhere zero place there is = absurd cc
    nowhere (suc entry) place there is = absurd cc

pub returns-clause-reasons : goal.returns-clause-reasons
returns-clause-reasons c = (refl, refl, refl, refl, refl, refl, refl, refl, refl, refl)

-- session 3's transaction isn't in the entry of sessions 0 and 1, and that of session 1 is
opened-nowhere : IsNowhere (commit_request_of (opened 100)) two_in_one_entry
opened-nowhere = (
  (
    λ same. let wrong : 0 ≡ 3 = ap (λ (t : Transaction). t.id.session) same in omega (arith, wrong),
    (λ same. let wrong : 1 ≡ 3 = ap (λ (t : Transaction). t.id.session) same in omega (arith, wrong), tt),
  ),
  tt,
)

second-somewhere : IsNowhere (commit_request_of (reads_and_sets 1 None)) two_in_one_entry → ⊥
second-somewhere nowhere = nowhere.0.1.0 refl

pub returns-clause-places : goal.returns-clause-places
returns-clause-places c = (
  (λ told. ⊎_elim
      (λ seen. ⊎_elim (λ so. second-somewhere (so.1 refl)) (λ shown. cc (shown.0)) seen.1)
      (λ unknown. cc (unknown.1))
      told),
  inl (refl, inr (refl, second-somewhere)),
  (λ told. ⊎_elim
      (λ seen. ⊎_elim (λ so. cc (so.0)) (λ shown. shown.1 opened-nowhere) seen.1)
      (λ unknown. let wrong : 1 ≡ 0 = ap (λ (it : Session). length it.front) unknown.0 in omega (arith, wrong))
      told),
  (λ is. ⊎_elim (λ so. second-somewhere (so.1 refl)) (λ shown. cc (shown.0)) (is.1 refl).0),
  (λ wrong. absurd cc, λ is. (inr (refl, second-somewhere), refl)),
  (λ is. ⊎_elim (λ so. cc (so.0)) (λ shown. shown.1 opened-nowhere) (is.1 refl).0),
  (λ wrong. absurd cc, λ is. (inl (refl, λ without. opened-nowhere), refl)),
)

pub returns-clause-full_books : goal.returns-clause-full_books
returns-clause-full_books c = (
  inl (refl, inl (refl, λ is. opened-nowhere)),
  (λ told. ⊎_elim (λ seen. ⊎_elim (λ so. cc (so.0)) (λ shown. cc (shown.0)) seen.1) (λ unknown. cc (unknown.1)) told),
  (λ told. ⊎_elim
      (λ seen. let wrong : 0 ≡ 1 = ap (λ (it : Session). length it.front) seen.0 in omega (arith, wrong))
      (λ unknown. cc (unknown.1))
      told),
  (λ told. ⊎_elim (λ seen. ⊎_elim (λ so. cc (so.0)) (λ shown. cc (shown.0)) seen.1) (λ unknown. cc (unknown.1)) told),
  ((λ same. absurd cc), (λ same. absurd cc), (λ same. refl), (λ other. refl)),
  (λ tells. let wrong : 1 ≡ 2 = tells.2 refl in omega (arith, wrong)),
)

pub returns-clause-endings : goal.returns-clause-endings
returns-clause-endings c = (refl, refl, refl, refl, refl, refl, refl, refl)

pub returns-clause-untaken : goal.returns-clause-untaken
returns-clause-untaken c = (
  (λ is. (refl, refl), λ wrong. absurd cc),
  (λ is. let same : None ≡ Some (opened 100) = ap (λ (it : Session). it.current) (is.0 refl).1 in absurd cc),
  (λ is. let why : refusal.CommitUnknownResult ≡ refusal.NoMemory = ap (λ (it : Refused Back). it.why)
      (is.0 refl).0 in absurd cc),
  (λ wrong. absurd cc, λ is. (inl (refl, λ without. tt), refl)),
  (λ is. ⊎_elim (λ so. cc (so.0)) (λ shown. cc (shown.0)) (is.1 refl).0),
  (λ is. let same : Some (opened 100) ≡ None = ap (λ (it : Session). it.current) (is.1 refl).1 in absurd cc),
)

pub returns-clause-unreadable : goal.returns-clause-unreadable
returns-clause-unreadable c = (
  refl,
  (λ (same : true ≡ false). absurd (cc)),
  (λ same. refl),
  (λ told. let same : false ≡ true = told refl in absurd (cc)),
  (λ same. absurd (cc)),
  (λ same. absurd (cc)),
  (λ same. inl refl),
  (λ same. inr refl),
  (λ told. ⊎_elim (λ wrong. absurd (cc)) (λ wrong. absurd (cc)) (told refl)),
  (λ (same : false ≡ true). absurd (cc)),
  (λ told. ⊎_elim (λ wrong. absurd (cc)) (λ wrong. absurd (cc)) (told refl)),
  refl,
  refl,
  refl,
)

pub returns-clause-refusals : goal.returns-clause-refusals
returns-clause-refusals c = (
  refl,
  (λ (same : Some refusal.AccessedUnreadable ≡ None). absurd (cc)),
  inr refl,
  inl refl,
  inl refl,
  (λ told. ⊎_elim (λ wrong. absurd (cc)) (λ wrong. absurd (cc)) told),
  (λ told. ⊎_elim (λ wrong. absurd (cc)) (λ wrong. absurd (cc)) told),
  refl,
)
