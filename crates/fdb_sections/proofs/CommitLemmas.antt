-- What a session that commits is answered, by what its transaction came to.
use Rattle.std.proofs.Common.{◌≡◌, ◌∙◌, refl, sym, ap, subst, inl, inr, ⊎_elim, Bool, true, false, List, []}
use Rattle.std.proofs.Common.{Option, Some, None, if◌then◌else◌}
use Rattle.std.specs.Prelude.{◌⊎◌, ◌&&◌, max, Result, Ok, Err, IfSome}
use Rattle.fdb_keys.specs.Points.{Point}
use Rattle.fdb_keys.specs.Ranges.{Range}
use Rattle.fdb_keys.specs.declared.refusal.Refusal.{Refusal}
use Rattle.fdb_keys.specs.declared.refusal.Refusal.TheVariants as refusal
use Rattle.fdb_keys.specs.declared.refusal.Refused.{Refused}
use Rattle.fdb_txn.specs.declared.entry.Entry.{Entry}
use Rattle.fdb_txn.specs.rules.Admission.{is_fresh}
use Rattle.fdb_txn.specs.rules.Conflicts.{in_conflict}
use Rattle.fdb_book.specs.Fronts.{IsPrefix}
use Rattle.fdb_proxy.specs.declared.config.Config.{Config}
use Rattle.fdb_client.specs.declared.program.Transcript.{Transcript}
use Rattle.fdb_client.specs.Programs.{is_read_only}
use Rattle.fdb_roles.specs.Spots.{spot_version}
use Rattle.fdb_roles.specs.Sessions.{OfOpen}
use Rattle.fdb_sections.specs.Commits.{Back, HasReceipt, HasTranscript, CommitEnds, CommitAnswers, open_fault}
use Rattle.fdb_sections.specs.Commits.{is_handed_back, is_read_only_spot, is_without_place}
use Rattle.fdb_sections.specs.Endings.{Ends, IsEnded}
use Rattle.fdb_sections.specs.Receipts.{ReceiptAtFront, OutcomeAtFront, IsTurnedDown, read_only_receipt}
use Rattle.fdb_sections.specs.Sessions.{Session, Settles, longer, with_current}
use Rattle.fdb_sections.specs.declared.session_state.settling.Ended.{Ended}
use Rattle.fdb_sections.specs.declared.session_state.settling.Ended.TheVariants.{Acknowledged}
use Rattle.fdb_sections.proofs.SessionLemmas.{begins-itself}

-- A transaction that wrote nothing has its receipt.
pub acknowledged : {B : Type 0} (config : Config) (old middle new : Session) (receipt : ReceiptAtFront)
    (ended : Ended B) → ended ≡ Acknowledged receipt → OfOpen old.current (Ok ended) (Ends old.front (Ok ended))
    → middle ≡ with_current old None
    → new ≡ record middle { mark = max middle.mark (spot_version receipt.spot) }
    → CommitAnswers config old (Ok receipt) new
acknowledged {B} config old middle new receipt ended its of middle-is new-is = by_current old.current of
  where
    left-is : receipt.front ≡ old.front → new ≡ record old {
      front = receipt.front;
      mark = max old.mark (spot_version receipt.spot);
      current = None;
    }
    left-is front-is =
        new-is
        ∙ ap (λ (it : Session). record it { mark = max it.mark (spot_version receipt.spot) }) middle-is
        ∙ ap (λ (front : List Entry). record old {
          front = front;
          mark = max old.mark (spot_version receipt.spot);
          current = None;
        }) (sym front-is)

    has : (transcript : Transcript) → is_read_only transcript ≡ true → receipt ≡ read_only_receipt old.front transcript
        → HasReceipt old transcript receipt new
    has transcript kind same =
        let front-is : receipt.front ≡ old.front = ap (λ (it : ReceiptAtFront). it.front) same in
        record {
          its = ap (λ (it : ReceiptAtFront). it.transcript) same;
          read_only = ap (λ (it : ReceiptAtFront). is_read_only_spot it.spot) same ∙ sym kind;
          begins = subst (IsPrefix old.front) (sym front-is) (begins-itself old.front);
          left = left-is front-is;
        }

    by_current : (current : Option Transcript) → OfOpen current (Ok ended) (Ends old.front (Ok ended))
        → (open_fault current ≡ None) × IfSome current (λ transcript. HasReceipt old transcript receipt new)
    by_current None is = absurd cc
    by_current (Some transcript) is =
        let given = subst (IsEnded old.front transcript) its is.0 in
        (is.1, has transcript given.0 given.1)

-- a transaction that is turned down as too old conflicts nowhere
down-old : (splits : List Point) (front : List Entry) (transcript : Transcript) (conflict : List Range)
    → IsTurnedDown splits front transcript refusal.TransactionTooOld conflict
    → IsTurnedDown splits front transcript refusal.TransactionTooOld []
down-old splits front transcript conflict down = record {
  entry = down.entry;
  place = down.place;
  there = down.there;
  there_is = down.there_is;
  asked = down.asked;
  uncommitted = down.uncommitted;
  why_is = down.why_is;
  conflicts = λ x. sym (ap (λ (fresh : Bool). fresh && in_conflict splits down.there.1 down.there.0 x)
      (by_fresh (is_fresh down.there.0) refl down.why_is));
}
  where
    by_fresh : (fresh : Bool) → is_fresh down.there.0 ≡ fresh
        → refusal.TransactionTooOld ≡ (if fresh then refusal.NotCommitted else refusal.TransactionTooOld)
        → is_fresh down.there.0 ≡ false
    by_fresh true is why = cc
    by_fresh false is why = is

-- What a session was told of a transaction that has no receipt, it hands on with the transcript, and with the points at
-- which it conflicts where it is refused so.
pub turned-back : (config : Config) (old new : Session) (told : OutcomeAtFront) (transcript : Transcript)
    (refused : Refused Transcript) (conflict : List Range) → old.current ≡ None → IsPrefix old.front new.front
    → Settles old told transcript (Err refused) new
    → (refused.why ≡ refusal.CommitUnknownResult)
    ⊎ IsTurnedDown config.resolver_splits new.front transcript refused.why told.conflict
    → (refused.why ≡ refusal.NotCommitted → conflict ≡ told.conflict)
    → ((refused.why ≡ refusal.NotCommitted → ⊥) → conflict ≡ [])
    → HasTranscript config old transcript (record { why = refused.why; back = Some (refused.back, conflict) }) new
turned-back config old new told transcript refused conflict none begins settles turned its nowhere = record {
  conflict = conflict;
  back = ap (λ (it : Transcript). Some (it, conflict)) settles.0;
  listed = ⊎_elim
      (λ unknown. subst (λ (why : Refusal). is_handed_back why ≡ true) (sym unknown) refl)
      (λ is-down. subst (λ (why : Refusal). is_handed_back why ≡ true) (sym is-down.why_is)
      (of-down (is_fresh is-down.there.0)))
      turned;
  tells = (
    λ is. subst (IsTurnedDown splits new.front transcript refusal.NotCommitted) (sym (its is))
        (down refusal.NotCommitted (λ same. absurd cc) is),
    λ is. subst (IsTurnedDown splits new.front transcript refusal.TransactionTooOld)
        (sym (nowhere (λ same. not-both (sym is ∙ same))))
        (down-old splits new.front transcript told.conflict (down refusal.TransactionTooOld (λ same. absurd cc) is)),
    (λ is. absurd (not-full is)),
    nowhere,
  );
  begins = begins;
  left = ⊎_elim (λ taken. left (longer old.front told.front) taken.2) (λ unknown. left old.front unknown.1) settles.1;
  absent = λ is. absurd (has-place is);
}
  where
    splits : List Point
    splits = config.resolver_splits

    not-both : refusal.TransactionTooOld ≡ refusal.NotCommitted → ⊥
    not-both same = cc

    of-down : (fresh : Bool)
        → is_handed_back (if fresh then refusal.NotCommitted else refusal.TransactionTooOld) ≡ true
    of-down true = refl
    of-down false = refl

    down : (why : Refusal) → (refusal.CommitUnknownResult ≡ why → ⊥) → refused.why ≡ why
        → IsTurnedDown config.resolver_splits new.front transcript why told.conflict
    down why other is = ⊎_elim
        (λ unknown. absurd (other (sym unknown ∙ is)))
        (λ is-down. subst (λ (it : Refusal).
        IsTurnedDown config.resolver_splits new.front transcript it told.conflict) is is-down)
        turned

    no-reason : (fresh : Bool)
        → refusal.BookFull ≡ (if fresh then refusal.NotCommitted else refusal.TransactionTooOld) → ⊥
    no-reason true same = absurd cc
    no-reason false same = absurd cc

    not-full : refused.why ≡ refusal.BookFull → ⊥
    not-full is = ⊎_elim
        (λ unknown. absurd (let wrong : refusal.CommitUnknownResult ≡ refusal.BookFull = sym unknown ∙ is in cc))
        (λ is-down. no-reason (is_fresh is-down.there.0) (sym is ∙ is-down.why_is))
        turned

    placed : (fresh : Bool)
        → is_without_place (if fresh then refusal.NotCommitted else refusal.TransactionTooOld) ≡ true → ⊥
    placed true same = absurd cc
    placed false same = absurd cc

    has-place : is_without_place refused.why ≡ true → ⊥
    has-place is = ⊎_elim
        (λ unknown. absurd (let wrong : false ≡ true =
        subst (λ (why : Refusal). is_without_place why ≡ true) unknown is in cc))
        (λ is-down. placed (is_fresh is-down.there.0)
        (subst (λ (why : Refusal). is_without_place why ≡ true) is-down.why_is is))
        turned

    left : (front : List Entry) → new ≡ record old { front = front }
        → new ≡ record old { front = new.front; current = None }
    left front is =
        is
        ∙ ap (λ (it : List Entry). record old { front = it; current = old.current })
        (sym (ap (λ (it : Session). it.front) is))
        ∙ ap (λ (it : Option Transcript). record old { front = new.front; current = it }) none

-- What becomes of what was open is what the session is answered.
pub ended-open : (config : Config) (old new : Session) (transcript : Transcript)
    (result : Result ReceiptAtFront (Refused Back)) → old.current ≡ Some transcript
    → open_fault old.current ≡ None → CommitEnds config (with_current old None) transcript result new
    → CommitAnswers config old result new
ended-open config old new transcript result own may = by_result result
  where
    some : (P : Transcript → Type 0) → P transcript → IfSome old.current P
    some P holds = subst (λ (current : Option Transcript). IfSome current P) (sym own) holds

    by_result : (r : Result ReceiptAtFront (Refused Back))
        → CommitEnds config (with_current old None) transcript r new → CommitAnswers config old r new
    by_result (Ok receipt) is = (
      may,
      some (λ (it : Transcript). HasReceipt old it receipt new)
          (record { its = is.its; read_only = is.read_only; begins = is.begins; left = is.left }),
    )
    by_result (Err refused) (inl is) = inr (
      may,
      some (λ (it : Transcript). HasTranscript config old it refused new)
          (record {
            conflict = is.conflict;
            back = is.back;
            listed = is.listed;
            tells = is.tells;
            begins = is.begins;
            left = is.left;
            absent = is.absent;
          }),
    )
    by_result (Err refused) (inr is) = inl (
      ap (λ (it : Refused Back). it.back) is.0,
      is.1 ∙ ap (λ (current : Option Transcript). record old { current = current }) (sym own),
      inl (ap (λ (it : Refused Back). it.why) is.0),
    )
