-- A part whose turn has come as it comes.
use Rattle.std.proofs.Common.{◌≡◌, ◌∙◌, sym, ap, ap₂, refl, ℕ, Bool, true, false, Option, Some, None}
use Rattle.std.proofs.Common.{if◌then◌else◌}
use Rattle.std.proofs.Math.Bool.{cond}
use Rattle.std.proofs.lemmas.Bool.{cond-true, cond-false}
use Rattle.std.proofs.lemmas.Cmp.{nat_cmp_total, eq_by_cmp_equiv}
use Rattle.std.specs.FinMap.{FinMap, get, insert, remove, get-insert, get-remove}
use Rattle.std.specs.Option.{is_none, unwrap_or}
use Rattle.std.specs.Ordering.{nat_cmp, eq_by_cmp}
use Rattle.fdb_txn.specs.book.Book.{last_version}
use Rattle.fdb_txn.proofs.Exports.{same_maps}
use Rattle.fdb_sections.specs.declared.machines.resolver.ResolverMachine.{ResolverMachine}
use Rattle.fdb_sections.specs.declared.machines.resolver.SentPart.{SentPart}
use Rattle.fdb_sections.specs.ResolverMachines.{keeping, finding}

module _ {X : Type 0} (m : FinMap nat_cmp X) (number : ℕ) (item : X) where
  -- what is put there is there
  put-there : get (insert m number item) number ≡ Some item
  put-there =
      get-insert nat_cmp_total m number item number
      ∙ cond-true _ (Some item) (get m number) ((eq_by_cmp_equiv nat_cmp_total).refl number)

  -- and where it is taken out again, all others are as they were
  put-and-taken : remove (insert m number item) number ≡ remove m number
  put-and-taken = same_maps _ _ (λ other.
      get-remove nat_cmp_total (insert m number item) number other
      ∙ ap (λ (there : Option X). cond (eq_by_cmp nat_cmp other number) None there)
      (get-insert nat_cmp_total m number item other)
      ∙ unseen (eq_by_cmp nat_cmp other number) (get m other)
      ∙ sym (get-remove nat_cmp_total m number other))
    where
      unseen : (same : Bool) (there : Option X)
          → cond same None (cond same (Some item) there) ≡ cond same None there
      unseen true there = refl
      unseen false there = refl

module _ {B : Type 0} (it : ResolverMachine B) (sent : SentPart B) (none : it.turn ≡ None)
    (comes : sent.message.part.prev ≡ last_version it.at.front) where
  abbrev version : ℕ
  version = last_version it.at.front

  -- the parts that wait, with this one unless one with its number does
  abbrev early : FinMap nat_cmp (SentPart B)
  early =
      let prev = sent.message.part.prev in
      if is_none (get it.early prev) then insert it.early prev sent else it.early

  found : finding (keeping it sent) ≡ record it { early = remove early version; turn = get early version }
  found = cond-true (is_none it.turn) _ _ (ap is_none none)

  -- it is the first one there: it has the turn
  turn-first : get it.early version ≡ None
      → record it { early = remove it.early version; turn = Some sent } ≡ finding (keeping it sent)
  turn-first free =
      let put : early ≡ insert it.early version sent =
      cond-true _ (insert it.early sent.message.part.prev sent) it.early
      (ap (λ (number : ℕ). is_none (get it.early number)) comes ∙ ap is_none free)
      ∙ ap (λ (number : ℕ). insert it.early number sent) comes in
      ap₂ (λ (waiting : FinMap nat_cmp (SentPart B)) (turn : Option (SentPart B)). record it {
        early = waiting;
        turn = turn;
      })
      (sym (ap (λ (waiting : FinMap nat_cmp (SentPart B)). remove waiting version) put
      ∙ put-and-taken it.early version sent))
      (sym (ap (λ (waiting : FinMap nat_cmp (SentPart B)). get waiting version) put
      ∙ put-there it.early version sent))
      ∙ sym found

  -- another one came before: that has the turn
  turn-again : (first : SentPart B) → get it.early version ≡ Some first
      → record it { early = remove it.early version; turn = Some first } ≡ finding (keeping it sent)
  turn-again first waits =
      let kept : early ≡ it.early =
      cond-false _ (insert it.early sent.message.part.prev sent) it.early
      (ap (λ (number : ℕ). is_none (get it.early number)) comes ∙ ap is_none waits) in
      ap₂ (λ (waiting : FinMap nat_cmp (SentPart B)) (turn : Option (SentPart B)). record it {
        early = waiting;
        turn = turn;
      })
      (sym (ap (λ (waiting : FinMap nat_cmp (SentPart B)). remove waiting version) kept))
      (sym (ap (λ (waiting : FinMap nat_cmp (SentPart B)). get waiting version) kept ∙ waits))
      ∙ sym found

  -- so it is that of the first one that came
  pub turn-now : record it { early = remove it.early version; turn = Some (unwrap_or (get it.early version) sent) }
      ≡ finding (keeping it sent)
  turn-now = turned (get it.early version) refl
    where
      turned : (there : Option (SentPart B)) → get it.early version ≡ there
          → record it { early = remove it.early version; turn = Some (unwrap_or there sent) }
          ≡ finding (keeping it sent)
      turned None free = turn-first free
      turned (Some first) waits = turn-again first waits
