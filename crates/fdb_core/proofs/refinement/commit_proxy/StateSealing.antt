-- A commit proxy whose first requests become a batch.
use Rattle.std.proofs.Common.{◌≡◌, ◌∙◌, refl, sym, ap, subst, ℕ, zero, suc, ◌<◌, Bool, true, false, List, [], ◌∷◌, ◌++◌}
use Rattle.std.proofs.Common.{length, map, take, drop, replicate, Option, None}
use Rattle.std.specs.List.{AllByRecursion}
use Rattle.std.specs.Option.{is_some}
use Rattle.std.proofs.lemmas.Bool.{true≢false}
use Rattle.std.proofs.lemmas.List.{append-nil, append_assoc}
use Rattle.fdb_txn.specs.Limits.{place_limit}
use Rattle.fdb_txn.specs.declared.entry.Entry.{Entry}
use Rattle.fdb_txn.specs.book.Book.{seen_of, last_version, last_horizon}
use Rattle.fdb_txn.specs.book.History.{AreEntries, HorizonsRise}
use Rattle.fdb_txn.specs.book.Transactions.{Transaction}
use Rattle.fdb_txn.proofs.Exports.{entries_go_on, horizons_part}
use Rattle.fdb_resolver.specs.declared.part.Part.{Part}
use Rattle.fdb_sequencer.specs.declared.ticket.Ticket.{Ticket}
use Rattle.fdb_sequencer.specs.declared.dated.Dated.{Dated}
use Rattle.fdb_sequencer.specs.Moves.{dated}
use Rattle.fdb_sequencer.specs.TicketLaws.{MayBeLearnt}
use Rattle.fdb_client.specs.Programs.{commit_request_of}
use Rattle.fdb_proxy.specs.declared.config.Config.{Config}
use Rattle.fdb_proxy.specs.declared.resolving.Resolving.{Resolving as Unheard}
use Rattle.fdb_proxy.specs.declared.stage.Stage.{Stage as CoreStage}
use Rattle.fdb_proxy.specs.declared.stage.Stage.TheVariants as stages
use Rattle.fdb_proxy.specs.CommitProxies.{CommitProxy as Core, seal_fault, learn_fault}
use Rattle.fdb_proxy.specs.CommitProxies.{IsTicketFor, HasLearntTicket, position_of, sealing, parts_in}
use Rattle.fdb_proxy.specs.Deciding.{Said}
use Rattle.fdb_proxy.specs.Parting.{AreParts}
use Rattle.fdb_proxy.specs.Verdicts.{moves_through}
use Rattle.fdb_core.specs.declared.roles.commit_proxy.CommitProxyRole.{CommitProxyRole}
use Rattle.fdb_machine.specs.machine.CommitProxySteps.{is_idle, with_batch}
use Rattle.fdb_machine.specs.machine.Roles.{Resolving}
use Rattle.fdb_roles.specs.Entries.{dated_moves, entry_of}
use Rattle.fdb_core.specs.refinement.commit_proxy.Ties.{CommitProxyRefines, Known, StageRefines, IsNextTicket}
use Rattle.fdb_core.specs.refinement.commit_proxy.Ties.{HasBatch, Seals, ReadsWithin, stage_of, seen_as}
use Rattle.fdb_roles.proofs.Exports.{all-take, all-drop, IsLearnt, is-learnt, ticket-fits, ticket-learns}
use Rattle.fdb_roles.proofs.Exports.{requests_come_and_go, dated_moves-append, dated_moves-push, entries-behind}
use Rattle.fdb_roles.proofs.Exports.{rise-lower, ticket-after}
use Rattle.fdb_core.proofs.refinement.commit_proxy.Ties.{idle-seen}

-- fronts and rests of what is made of a list
pub map-take : {A B : Type 0} (f : A → B) (n : ℕ) (xs : List A) → map f (take n xs) ≡ take n (map f xs)
map-take f zero [] = refl
map-take f (suc n) [] = refl
map-take f zero (x ∷ xs) = refl
map-take f (suc n) (x ∷ xs) = ap (λ rest. f x ∷ rest) (map-take f n xs)

pub map-drop : {A B : Type 0} (f : A → B) (n : ℕ) (xs : List A) → map f (drop n xs) ≡ drop n (map f xs)
map-drop f zero [] = refl
map-drop f (suc n) [] = refl
map-drop f zero (x ∷ xs) = refl
map-drop f (suc n) (x ∷ xs) = map-drop f n xs

flags-unset : (n : ℕ) → map (λ (of : Option Said). is_some of) (replicate n None) ≡ replicate n false
flags-unset zero = refl
flags-unset (suc n) = ap (λ rest. false ∷ rest) (flags-unset n)

module _ (config : Config) (book : List Entry) (known : Known) (role : CommitProxyRole)
    (ok : CommitProxyRefines config book known role)
    (idle : is_idle (stage_of role.is_reported role.state.proxy.stage) ≡ true) (ticket : Ticket)
    (next : IsNextTicket config book known ticket)
    (entries : AreEntries (suc (length config.resolver_splits)) 0 book) (rise : HorizonsRise 0 book) where
  -- an entry of the ticket, whatever its batch, comes after the book's
  abbrev empty : Entry
  empty = entry_of ticket []

  follows : AreEntries (suc (length config.resolver_splits)) 0 ((ok.front ++ ok.behind) ++ empty ∷ [])
  follows = subst (λ (all : List Entry). AreEntries (suc (length config.resolver_splits)) 0 (all ++ empty ∷ []))
      (sym ok.whole) (entries_go_on (suc (length config.resolver_splits)) 0 book empty entries
      (next.later, (next.prev, next.below), next.targets, tt, tt))

  -- horizons don't fall below what the proxy forgot
  abbrev floor : ℕ
  floor = role.state.proxy.owners.floor

  risen : HorizonsRise floor (ok.behind ++ empty ∷ [])
  risen = rise-lower floor (last_horizon ok.front) (ok.behind ++ empty ∷ []) ok.state.floor
      ((horizons_part 0 ok.front (ok.behind ++ empty ∷ [])).0
      (subst (HorizonsRise 0) (append_assoc ok.front ok.behind (empty ∷ []))
      (subst (λ (all : List Entry). HorizonsRise 0 (all ++ empty ∷ [])) (sym ok.whole)
      ((horizons_part 0 book (empty ∷ [])).1 (rise, (next.horizon, tt)))))).1

  -- so the ticket may be learnt
  may : MayBeLearnt (suc (length config.resolver_splits)) role.state.proxy.last floor ticket
  may = subst (λ (last : ℕ). MayBeLearnt (suc (length config.resolver_splits)) last floor ticket) (sym ok.state.last)
      (ticket-after (suc (length config.resolver_splits)) (last_version ok.front) floor ok.behind empty ticket
      (entries-behind (suc (length config.resolver_splits)) ok.front ok.behind empty follows) risen refl refl
      (next.moves ∙ ap (λ (moves : List Dated). moves ++ dated ticket.version ticket.pending) ok.unlearnt
      ∙ sym (dated_moves-push ok.behind empty)))

  -- where it is above what waits
  pub ticket-for : AllByRecursion (λ (t : Transaction). t.read < ticket.version) role.state.proxy.waiting
      → IsTicketFor (sealing role.state.proxy) ticket
  ticket-for later = ticket-fits config.resolver_splits (sealing role.state.proxy) ticket ok.state.splits may
      (all-take (λ (t : Transaction). t.read < ticket.version) place_limit role.state.proxy.waiting later)

  -- and isn't refused
  pub learns : learn_fault (sealing role.state.proxy) ticket ≡ None
  learns = ticket-learns config.resolver_splits (sealing role.state.proxy) ticket
      ok.state.splits may ok.state.works refl

  -- nor is the batch
  pub seals-unrefused : seal_fault role.state.proxy ≡ None
  seals-unrefused = rw (ok.state.works, idle-seen config book known role ok ∙ idle) refl

  -- the proxy was idle, and nothing is reported of it
  unreported : role.is_reported ≡ false
  unreported = by_stage role.state.proxy.stage refl ok.stage
    where
      by_stage : (stage : CoreStage) → role.state.proxy.stage ≡ stage
          → StageRefines role.is_reported role.entry stage → role.is_reported ≡ false
      by_stage stages.Idle is refines = refines
      by_stage stages.Sealed is refines = absurd refines
      by_stage stages.Entered is refines = absurd refines
      by_stage (stages.Resolving batch) is refines = refines.1
      by_stage (stages.Logging decided) is refines = by_flag role.is_reported refl
        where
          by_flag : (reported : Bool) → role.is_reported ≡ reported → role.is_reported ≡ false
          by_flag true flag = absurd (true≢false (sym (rw (is, flag) at idle)))
          by_flag false flag = flag

  module _ (later : CommitProxyRole) (learnt : HasLearntTicket (sealing role.state.proxy) ticket later.state.proxy)
      (parts : List Part) (parts_are : parts ≡ parts_in later.state.proxy.stage)
      (same : later ≡ record role {
        state = later.state;
        waiting = drop place_limit role.waiting;
        in_flight = take place_limit role.waiting;
        entry = ticket.index;
      }) where
    abbrev batch : List Transaction
    batch = take place_limit role.state.proxy.waiting

    abbrev entry : Entry
    entry = entry_of ticket batch

    abbrev grown : List Entry
    grown = book ++ entry ∷ []

    -- the moves of the front, and then the ticket's, are those of the book with the entry
    moves-grown : dated_moves ok.front ++ ticket.moves ≡ dated_moves grown
    moves-grown =
        let newest = dated ticket.version ticket.pending in
        ap (λ (moves : List Dated). dated_moves ok.front ++ moves) next.moves
        ∙ sym (append_assoc (dated_moves ok.front) known.unlearnt newest)
        ∙ ap (λ (moves : List Dated). moves ++ newest)
        (ap (λ (moves : List Dated). dated_moves ok.front ++ moves) ok.unlearnt
        ∙ sym (dated_moves-append ok.front ok.behind) ∙ ap dated_moves ok.whole)
        ∙ sym (dated_moves-push book entry)

    batch-requests : batch ≡ map commit_request_of (take place_limit role.waiting)
    batch-requests = ap (take place_limit) ok.waiting ∙ sym (map-take commit_request_of place_limit role.waiting)

    its : IsLearnt config book (sealing role.state.proxy) later.state.proxy ticket learnt.resolving
    its = is-learnt config ok.front book (sealing role.state.proxy) later.state.proxy ticket
        (requests_come_and_go config ok.front role.state.proxy ok.state).1 learnt next.index may.horizon moves-grown

    machine-is : seen_as later ≡ with_batch (seen_as role) ticket.index (suc (length config.resolver_splits))
    machine-is = ap seen_as same ∙ rw its.stage (λ i. record {
      waiting = drop place_limit role.waiting;
      in_flight = take place_limit role.waiting;
      stage = Resolving;
      entry = ticket.index;
      verdicts_received = (ap (λ (r : Unheard). map (λ (of : Option Said). is_some of) r.verdicts)
          learnt.without_verdicts.rest
          ∙ flags-unset (length learnt.resolving.parts)
          ∙ ap (λ (n : ℕ). replicate n false) its.parts.count) i;
      acknowledgements_received = [];
    })

    stage-refines : StageRefines later.is_reported later.entry later.state.proxy.stage
    stage-refines = subst (StageRefines later.is_reported later.entry) (sym its.stage) (
      ap (λ (r : Unheard). r.position.index) learnt.without_verdicts.rest
          ∙ sym (ap (λ (r : CommitProxyRole). r.entry) same),
      ap (λ (r : CommitProxyRole). r.is_reported) same ∙ unreported,
    )

    pub seals : Seals config book known ticket role batch parts later
    seals = record {
      batch_is = batch-requests;
      parts_are = subst (AreParts config.resolver_splits (moves_through (seen_of book) entry) (position_of ticket)
          batch) (sym (parts_are ∙ ap parts_in its.stage)) its.parts;
      machine = machine-is;
      refines = record {
        front = grown;
        behind = [];
        whole = append-nil grown;
        state = its.at;
        unlearnt = refl;
        waiting = ap (λ (p : Core). p.waiting) learnt.rest ∙ ap (drop place_limit) ok.waiting
            ∙ sym (map-drop commit_request_of place_limit role.waiting)
            ∙ ap (λ (r : CommitProxyRole). map commit_request_of r.waiting) (sym same);
        in_flight = ap (λ (p : Core). p.batch) learnt.rest ∙ batch-requests
            ∙ ap (λ (r : CommitProxyRole). map commit_request_of r.in_flight) (sym same);
        reads = subst (λ (r : CommitProxyRole). AllByRecursion (ReadsWithin known.committed) r.waiting) (sym same)
            (all-drop (ReadsWithin known.committed) place_limit role.waiting ok.reads);
        stage = stage-refines;
      };
    }

  -- by what the state gave
  pub seals-by : (later : CommitProxyRole) (given : List Transaction) (parts : List Part)
      → HasBatch role.state.proxy ticket given parts later.state.proxy
      → later ≡ record role {
        state = later.state;
        waiting = drop place_limit role.waiting;
        in_flight = take place_limit role.waiting;
        entry = ticket.index;
      }
      → Seals config book known ticket role given parts later
  seals-by later given parts has same =
      subst (λ (ts : List Transaction). Seals config book known ticket role ts parts later) (sym has.batch_is)
      (seals later has.learnt parts has.parts_are same)
