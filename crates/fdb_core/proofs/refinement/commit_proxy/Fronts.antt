-- What a commit proxy of the world has of the book, by the front that its state has.
use Rattle.std.proofs.Common.{◌≡◌, ◌∙◌, sym, ap, subst, inl, inr, ⊎_elim, arith, ℕ, suc, ◌<◌, le_of_lt, Bool, true}
use Rattle.std.proofs.Common.{false, List, [], ◌++◌, length, Some, None, slice_get}
use Rattle.fdb_keys.specs.Points.{Point}
use Rattle.fdb_txn.specs.declared.entry.Entry.{Entry}
use Rattle.fdb_txn.specs.book.Book.{Seen, seen_before}
use Rattle.fdb_txn.specs.book.History.{AreEntries}
use Rattle.fdb_txn.specs.book.Transactions.{Transaction}
use Rattle.fdb_txn.proofs.Exports.{entries-split}
use Rattle.fdb_resolver.specs.declared.verdict.Verdicts.{Verdicts}
use Rattle.fdb_proxy.specs.declared.config.Config.{Config}
use Rattle.fdb_proxy.specs.declared.logging.Logging.{Logging as Decided}
use Rattle.fdb_proxy.specs.declared.position.Position.{Position}
use Rattle.fdb_proxy.specs.declared.resolving.Resolving.{Resolving as Unheard}
use Rattle.fdb_proxy.specs.declared.stage.Stage.{Stage as CoreStage}
use Rattle.fdb_proxy.specs.declared.stage.Stage.TheVariants as stages
use Rattle.fdb_proxy.specs.Flags.{first_unset}
use Rattle.fdb_proxy.specs.Logging.{answers_by}
use Rattle.fdb_proxy.specs.Parting.{AreParts}
use Rattle.fdb_proxy.specs.Verdicts.{moves_through, verdicts_on, outcomes_on}
use Rattle.fdb_core.specs.declared.roles.commit_proxy.CommitProxyRole.{CommitProxyRole}
use Rattle.fdb_roles.specs.ProxyLaws.{IsLastEntry}
use Rattle.fdb_roles.specs.ProxyStages.{AreFindsOn, IsBatchOf, IsResolving, IsLogging, IsStageAt, IsSaid, position_in}
use Rattle.fdb_core.specs.refinement.commit_proxy.Ties.{CommitProxyRefines, Known, StageRefines}
use Rattle.fdb_roles.proofs.Exports.{front-at, seen-front}

-- the batch in flight, if there is one, is that of entry i of the book
abbrev pub StageTold : Config → List Entry → Bool → ℕ → List Transaction → CoreStage → Type 0
StageTold config book is_reported i batch stages.Idle = (batch ≡ []) × (is_reported ≡ false)
StageTold config book is_reported i batch stages.Sealed = ⊥
StageTold config book is_reported i batch stages.Entered = ⊥
StageTold config book is_reported i batch (stages.Resolving resolving) =
    (entry : Entry) × IsBatchOf book i batch resolving.position entry
    × IsResolving config.resolver_splits book i entry resolving × (is_reported ≡ false)
StageTold config book is_reported i batch (stages.Logging decided) =
    (entry : Entry) × IsBatchOf book i batch decided.position entry
    × IsLogging config book i entry decided × (is_reported ≡ true → first_unset 0 decided.acknowledged ≡ None)

-- An entry of a front is one of the whole, after the same ones.
module _ (front behind : List Entry) (i : ℕ) (entry : Entry) (within : i < length front) where
  seen-whole : seen_before front i ≡ seen_before (front ++ behind) i
  seen-whole = sym (seen-front front behind i (le_of_lt within))

  batch-whole : (batch : List Transaction) (position : Position) → IsBatchOf front i batch position entry
      → IsBatchOf (front ++ behind) i batch position entry
  batch-whole batch position its = record {
    there = front-at front behind i within ∙ its.there;
    index = its.index;
    version = its.version;
    prev = its.prev;
    horizon = its.horizon;
    places = its.places;
  }

  resolving-whole : (splits : List Point) (resolving : Unheard) → IsResolving splits front i entry resolving
      → IsResolving splits (front ++ behind) i entry resolving
  resolving-whole splits resolving is = record {
    parts = subst (λ (s : Seen). AreParts splits (moves_through s entry)
        (position_in i entry) entry.batch resolving.parts) seen-whole
        is.parts;
    count = is.count;
    came = λ r said there. is.came r said there ∙ ap (λ (s : Seen). verdicts_on splits r s entry) seen-whole;
    found_count = is.found_count;
    found = λ r of there. ⊎_elim
        (λ silent. inl silent)
        (λ found. inr (subst (λ (s : Seen). AreFindsOn splits r s entry of) seen-whole found))
        (is.found r of there);
  }

  logging-whole : (config : Config) (decided : Decided) → IsLogging config front i entry decided
      → IsLogging config (front ++ behind) i entry decided
  logging-whole config decided is = record {
    answers = is.answers
        ∙ ap (λ (s : Seen). answers_by entry.batch (outcomes_on config.resolver_splits s entry)) seen-whole;
    count = is.count;
  }

module _ (config : Config) (book : List Entry) (known : Known) (role : CommitProxyRole)
    (ok : CommitProxyRefines config book known role) where
  told-whole : (stage : CoreStage) → IsStageAt config ok.front role.state.proxy.batch stage
      → StageRefines role.is_reported role.entry stage
      → StageTold config (ok.front ++ ok.behind) role.is_reported role.entry role.state.proxy.batch stage
  told-whole stages.Idle at tied = (at, tied)
  told-whole stages.Sealed at tied = absurd tied
  told-whole stages.Entered at tied = absurd tied
  told-whole (stages.Resolving resolving) at tied =
      let i : ℕ = at.0 in
      let entry : Entry = at.1 in
      let count = at.2 in
      let within : i < length ok.front = omega (arith, count) in
      let same : i ≡ role.entry = sym at.3.index ∙ tied.0 in (
        entry,
        subst (λ (n : ℕ). IsBatchOf (ok.front ++ ok.behind) n role.state.proxy.batch resolving.position entry) same
            (batch-whole ok.front ok.behind i entry within role.state.proxy.batch resolving.position at.3),
        subst (λ (n : ℕ). IsResolving config.resolver_splits (ok.front ++ ok.behind) n entry resolving) same
            (resolving-whole ok.front ok.behind i entry within config.resolver_splits resolving at.4),
        tied.1,
      )
  told-whole (stages.Logging decided) at tied =
      let i : ℕ = at.0 in
      let entry : Entry = at.1 in
      let count = at.2 in
      let within : i < length ok.front = omega (arith, count) in
      let same : i ≡ role.entry = sym at.3.index ∙ tied.0 in (
        entry,
        subst (λ (n : ℕ). IsBatchOf (ok.front ++ ok.behind) n role.state.proxy.batch decided.position entry) same
            (batch-whole ok.front ok.behind i entry within role.state.proxy.batch decided.position at.3),
        subst (λ (n : ℕ). IsLogging config (ok.front ++ ok.behind) n entry decided) same
            (logging-whole ok.front ok.behind i entry within config decided at.4),
        tied.1,
      )

  pub stage-told : StageTold config book role.is_reported role.entry role.state.proxy.batch role.state.proxy.stage
  stage-told = subst (λ (all : List Entry). StageTold config all role.is_reported role.entry role.state.proxy.batch
      role.state.proxy.stage) ok.whole (told-whole role.state.proxy.stage ok.state.stage ok.stage)

  -- the entry of a batch that waits for verdicts is the front's last one
  pub last-told : (resolving : Unheard) (entry : Entry) → role.state.proxy.stage ≡ stages.Resolving resolving
      → slice_get book role.entry ≡ Some entry → IsLastEntry ok.front role.entry entry
  last-told resolving entry is there =
      let count = count-told (subst (IsStageAt config ok.front role.state.proxy.batch) is ok.state.stage)
      (subst (StageRefines role.is_reported role.entry) is ok.stage) in
      record {
        count = count;
        there = sym (front-at ok.front ok.behind role.entry (omega (arith, count)))
            ∙ ap (λ (all : List Entry). slice_get all role.entry) ok.whole ∙ there;
      }
    where
      count-told : IsStageAt config ok.front role.state.proxy.batch (stages.Resolving resolving)
          → StageRefines role.is_reported role.entry (stages.Resolving resolving) → length ok.front ≡ suc role.entry
      count-told at tied = at.2 ∙ ap suc (sym at.3.index ∙ tied.0)

  -- what is said of it is said of the front's
  pub said-front : (verdicts : Verdicts) (entry : Entry) → IsSaid config.resolver_splits book verdicts entry
      → verdicts.index < length ok.front → IsSaid config.resolver_splits ok.front verdicts entry
  said-front verdicts entry said within = record {
    there = sym (front-at ok.front ok.behind verdicts.index within) ∙ in-whole.there;
    exists = said.exists;
    answers = in-whole.answers
        ∙ ap (λ (s : Seen). verdicts_on config.resolver_splits verdicts.resolver s entry)
        (sym (seen-whole ok.front ok.behind verdicts.index entry within));
    found = subst (λ (s : Seen). AreFindsOn config.resolver_splits verdicts.resolver s entry verdicts.conflicts)
        (sym (seen-whole ok.front ok.behind verdicts.index entry within)) in-whole.found;
  }
    where
      in-whole : IsSaid config.resolver_splits (ok.front ++ ok.behind) verdicts entry
      in-whole = subst (λ (all : List Entry). IsSaid config.resolver_splits all verdicts entry) (sym ok.whole) said

  pub entries-front : AreEntries (suc (length config.resolver_splits)) 0 book
      → AreEntries (suc (length config.resolver_splits)) 0 ok.front
  entries-front entries = (entries-split (suc (length config.resolver_splits)) 0 ok.front ok.behind
      (subst (AreEntries (suc (length config.resolver_splits)) 0) (sym ok.whole) entries)).0
