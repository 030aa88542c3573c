-- A resolver that takes its part of the next entry.
use Rattle.std.proofs.Common.{◌≡◌, ◌∙◌, ◌<◌, refl, sym, ap, subst, ℕ, suc, List, [], ◌∷◌, ◌++◌, length, Option, Some}
use Rattle.std.proofs.Common.{None, arith, Bool, true, false, not, inl, inr, ◌⊎◌, IsSome, IsNone, Err}
use Rattle.std.specs.Prelude.{◌==◌, if◌then◌else◌}
use Rattle.std.proofs.lemmas.Bool.{eqb-true, true≢false}
use Rattle.fdb_keys.specs.Points.{Point}
use Rattle.fdb_keys.specs.Answers.{Answers}
use Rattle.fdb_keys.specs.declared.refusal.Refusal.{Refusal}
use Rattle.fdb_keys.specs.declared.refusal.Refusal.TheVariants.{Unknown, Failed}
use Rattle.fdb_txn.specs.declared.entry.Entry.{Entry}
use Rattle.fdb_txn.specs.book.Book.{seen_of}
use Rattle.fdb_txn.specs.book.History.{AreEntries, HorizonsRise}
use Rattle.fdb_txn.specs.Turn.{turn_fault}
use Rattle.fdb_resolver.specs.Parts.{IsPart}
use Rattle.fdb_resolver.specs.declared.part.Part.{Part}
use Rattle.fdb_resolver.specs.declared.verdict.Verdicts.{Verdicts}
use Rattle.fdb_resolver.specs.Resolvers.{Resolver, part_fault, IsAnswer, HasTaken, HasFailed}
use Rattle.fdb_proxy.specs.Verdicts.{moves_through, verdicts_on}
use Rattle.fdb_roles.specs.AtBook.{IsResolverAt}
use Rattle.fdb_roles.specs.ProxyStages.{AreFindsOn}
use Rattle.fdb_roles.proofs.Exports.{resolver_goes_on, is-part, follows}
use Rattle.fdb_sections.specs.Messages.{PartAtFront, IsLastPart, VerdictsAtFront, AreLastVerdicts, position_after}
use Rattle.fdb_sections.specs.RolesAtFronts.{ResolverAtFront}
use Rattle.fdb_sections.specs.Turns.{front_fault, HasOneMore, AnswersInTurn}
use Rattle.fdb_sections.proofs.TurnLemmas.{same-front, refused-by-role}

-- what is known of a resolver at a front: it is there unless it has failed
abbrev pub IsThere : List Point → List Entry → Resolver → Type 0
IsThere splits front state =
    (state.index < suc (length splits)) × (state.is_failed ≡ false → IsResolverAt splits front state.index state)

module _ (splits : List Point) (sent : PartAtFront) (is : IsLastPart splits sent)
    (entries : AreEntries (suc (length splits)) 0 sent.front) where
  abbrev entries-here : AreEntries (suc (length splits)) 0 (is.before ++ is.entry ∷ [])
  entries-here = subst (AreEntries (suc (length splits)) 0) is.front_is entries

  -- what was sent is a part
  pub sent-part : IsPart sent.part
  sent-part =
      let after = follows splits is.before is.entry entries-here in
      let above = after.0 in let prev = after.1 in
      is-part splits (moves_through (seen_of is.before) is.entry) (position_after is.before is.entry) is.entry.batch
      sent.part.resolver sent.part (omega (arith, above, prev)) is.part_is

  -- A resolver at the front that has one entry less takes it, and says what the rule says.
  module _ (rise : HorizonsRise 0 sent.front) (own : List Entry) (more : HasOneMore own sent.front) (old : Resolver)
      (at : IsResolverAt splits own old.index old) (mine : sent.part.resolver ≡ old.index) where
    at-before : IsResolverAt splits is.before sent.part.resolver old
    at-before =
        subst (λ (front : List Entry). IsResolverAt splits front sent.part.resolver old)
        (sym (same-front is.before own is.entry more.0 (sym is.front_is ∙ more.1)))
        (subst (λ (i : ℕ). IsResolverAt splits own i old) (sym mine) at)

    pub goes-on : (verdicts : Verdicts) (new : Resolver) → IsAnswer old sent.part verdicts
        → HasTaken old sent.part verdicts new
        → (verdicts.answers ≡ verdicts_on splits sent.part.resolver (seen_of is.before) is.entry)
        × IsResolverAt splits (is.before ++ is.entry ∷ []) sent.part.resolver new
        × AreFindsOn splits sent.part.resolver (seen_of is.before) is.entry verdicts.conflicts
    goes-on = (resolver_goes_on splits is.before is.entry sent.part.resolver old sent.part entries-here
        (subst (HorizonsRise 0) is.front_is rise) at-before is.part_is).1

    pub says : (verdicts : Verdicts) (new : Resolver) → IsAnswer old sent.part verdicts
        → HasTaken old sent.part verdicts new → old.index < suc (length splits)
        → AreLastVerdicts splits (record { front = sent.front; verdicts = verdicts })
    says verdicts new answer taken within =
        let its : verdicts.resolver ≡ sent.part.resolver = answer.resolver ∙ sym mine in record {
          before = is.before;
          entry = is.entry;
          front_is = is.front_is;
          index = answer.index ∙ is.part_is.index;
          resolver = omega (arith, answer.resolver, within);
          answers = (goes-on verdicts new answer taken).0
              ∙ ap (λ (i : ℕ). verdicts_on splits i (seen_of is.before) is.entry) (sym its);
          found = subst (λ (i : ℕ). AreFindsOn splits i (seen_of is.before) is.entry verdicts.conflicts) (sym its)
              (goes-on verdicts new answer taken).2;
        }

    pub is-there : (verdicts : Verdicts) (new : Resolver) → IsAnswer old sent.part verdicts
        → HasTaken old sent.part verdicts new → old.index < suc (length splits) → IsThere splits sent.front new
    is-there verdicts new answer taken within = (
      subst (λ (i : ℕ). i < suc (length splits)) (sym taken.index) within,
      λ works. subst (λ (front : List Entry). IsResolverAt splits front new.index new) (sym is.front_is)
          (subst (λ (i : ℕ). IsResolverAt splits (is.before ++ is.entry ∷ []) i new) (mine ∙ sym taken.index)
          (goes-on verdicts new answer taken).1),
    )

-- one that is refused a part stays there, or has failed
pub stays : (splits : List Point) (front : List Entry) (old new : Resolver) (fault : Option Refusal)
    → (IsSome fault → new ≡ old) → (IsNone fault → HasFailed old new) → IsThere splits front old
    → IsThere splits front new × ((new ≡ old) ⊎ HasFailed old new)
stays splits front old new (Some why) same fails there =
    (subst (IsThere splits front) (sym (same refl)) there, inl (same refl))
stays splits front old new None same fails there =
    let failed = fails refl in (
      (
        subst (λ (i : ℕ). i < suc (length splits)) (sym failed.index) there.0,
        λ works. absurd (true≢false (sym failed.fails ∙ works)),
      ),
      inr failed,
    )

-- The resolver before the call, as it is within and as who calls sees it.
module _ (old now : ResolverAtFront) (same : old ≡ now) where
  -- a part in its turn that the state refuses is refused so
  pub refused-take : (sent there : PartAtFront) (why : Refusal) (P : VerdictsAtFront → Type 0) → sent ≡ there
      → front_fault old.front sent.front ≡ None
      → Answers (Err why) (part_fault old.state sent.part) (IsAnswer old.state sent.part)
      → AnswersInTurn (Err why) (front_fault now.front there.front) (part_fault now.state there.part) P
  refused-take sent there why P is next answers =
      subst (λ (at : ResolverAtFront). AnswersInTurn (Err why) (front_fault at.front there.front)
      (part_fault at.state there.part) P) same
      (subst (λ (message : PartAtFront). AnswersInTurn (Err why) (front_fault old.front message.front)
      (part_fault old.state message.part) P) is
      (refused-by-role (front_fault old.front sent.front) (part_fault old.state sent.part) P why
      (IsAnswer old.state sent.part) next answers))

  pub left-by-take : (new : Resolver) → ((new ≡ old.state) ⊎ HasFailed old.state new)
      → ((record { front = old.front; state = new } ≡ now) ⊎ ((old.front ≡ now.front) × HasFailed now.state new))
  left-by-take new (inl stays) =
      inl (ap (λ (state : Resolver). record { front = old.front; state = state }) stays ∙ same)
  left-by-take new (inr fails) = inr (
    ap (λ (at : ResolverAtFront). at.front) same,
    subst (λ (at : ResolverAtFront). HasFailed at.state new) same fails,
  )

-- one that isn't refused a part works, and the part is its own
pub takes-own : (old : Resolver) (part : Part) → part_fault old part ≡ None
    → (part.resolver ≡ old.index) × (old.is_failed ≡ false)
takes-own old part is = by_owner (part.resolver == old.index) old.is_failed refl refl is
  where
    by_owner : (own failed : Bool) → (part.resolver == old.index) ≡ own → old.is_failed ≡ failed
        → (if not own then Some Unknown else (if failed then Some Failed else turn_fault old.last part.prev)) ≡ None
        → (part.resolver ≡ old.index) × (old.is_failed ≡ false)
    by_owner true false it works clear = (eqb-true part.resolver old.index it, works)
    by_owner true true it fails clear = cc
    by_owner false failed it works clear = cc
