-- What the clients of a batch are told is what became of their transactions by the rule.
use Rattle.std.proofs.Common.{◌≡◌, ◌∙◌, refl, sym, ap, subst, arith, ℕ, zero, suc, ◌+◌, true, List, [], ◌∷◌, ◌++◌, map}
use Rattle.std.proofs.Common.{length, Some}
use Rattle.std.specs.List.{AllByRecursion, Contains, slice_get}
use Rattle.std.specs.Option.{option_map}
use Rattle.std.proofs.lemmas.List.Elements.{Contains-append_right}
use Rattle.std.proofs.lemmas.List.{length-map}
use Rattle.std.proofs.lemmas.Option.{same_Some, slice_get-map}
use Rattle.fdb_keys.specs.Points.{Point}
use Rattle.fdb_txn.specs.declared.entry.Entry.{Entry}
use Rattle.fdb_txn.specs.declared.spot.Spot.TheVariants as spot
use Rattle.fdb_txn.specs.book.Transactions.{Transaction}
use Rattle.fdb_txn.specs.book.Book.{Place, Seen, head_of, placed, seen_before}
use Rattle.fdb_txn.specs.book.Places.{place_in, place_of, place_at}
use Rattle.fdb_txn.specs.rules.Admission.{committed}
use Rattle.fdb_proxy.specs.declared.outcome.Outcome.{Outcome}
use Rattle.fdb_proxy.specs.declared.outcome.Outcome.TheVariants as outcome
use Rattle.fdb_proxy.specs.Verdicts.{outcome_at, outcomes_on}
use Rattle.fdb_client.specs.declared.program.Transcript.{Transcript}
use Rattle.fdb_client.specs.Programs.{commit_request_of}
use Rattle.fdb_roles.specs.Outcomes.{IsByRule}
use Rattle.fdb_roles.specs.Spots.{IsSerialized, IsSerializedAt}
use Rattle.fdb_roles.specs.declared.placed.Placed.{Placed}
use Rattle.fdb_roles.proofs.Exports.{length-outcomes_on, place-found, outcome-by-rule, all-at, contains-item}
use Rattle.fdb_roles.proofs.Exports.{item-contained}
use Rattle.fdb_machine.specs.headline.Answers.{IsReply, AreReplies}
use Rattle.fdb_machine.specs.headline.Readings.{SealedBatch}
use Rattle.fdb_machine.specs.machine.CommitProxySteps.{placed_from, replies_from}
use Rattle.fdb_machine.proofs.readings.AnswerReadings.{OneEach}

-- there are as many replies as outcomes
replies-all : (transcripts : List Transcript) (outcomes : List Outcome) → length outcomes ≡ length transcripts
    → length (replies_from transcripts outcomes) ≡ length transcripts
replies-all [] outcomes same = refl
replies-all (transcript ∷ transcripts) [] same = cc
replies-all (transcript ∷ transcripts) (first ∷ outcomes) same =
    let others : length outcomes ≡ length transcripts = cc in ap suc (replies-all transcripts outcomes others)

-- the reply at a place is the outcome there
reply-at : (transcripts : List Transcript) (outcomes : List Outcome) (p : ℕ) (transcript : Transcript)
    (became : Outcome)
    → slice_get transcripts p ≡ Some transcript → slice_get outcomes p ≡ Some became
    → slice_get (replies_from transcripts outcomes) p ≡ Some (transcript.id.session, became)
reply-at [] outcomes p transcript became at there = cc
reply-at (first ∷ transcripts) [] p transcript became at there = cc
reply-at (first ∷ transcripts) (one ∷ outcomes) zero transcript became at there =
    let same : first ≡ transcript = cc in
    let is : one ≡ became = cc in λ k. Some ((same k).id.session, is k)
reply-at (first ∷ transcripts) (one ∷ outcomes) (suc p) transcript became at there =
    reply-at transcripts outcomes p transcript became at there

-- one that commits is placed
placed-there : (index : ℕ) (transcripts : List Transcript) (outcomes : List Outcome) (p : ℕ) (transcript : Transcript)
    (version place : ℕ)
    → slice_get transcripts p ≡ Some transcript → slice_get outcomes p ≡ Some (outcome.Commit version place)
    → (k : ℕ) × (slice_get (placed_from index transcripts outcomes) k ≡ Some
    (record { spot = spot.Entry index place version; transcript = transcript }))
placed-there index [] outcomes p transcript version place at there = cc
placed-there index (first ∷ transcripts) [] p transcript version place at there = cc
placed-there index (first ∷ transcripts) (one ∷ outcomes) zero transcript version place at there =
    let same : first ≡ transcript = cc in
    let is : outcome.Commit version place ≡ one = cc in
    subst (λ (o : Outcome). (k : ℕ) × (slice_get (placed_from index (first ∷ transcripts) (o ∷ outcomes)) k ≡ Some
    (record { spot = spot.Entry index place version; transcript = transcript }))) is
    (0, ap (λ (t : Transcript). Some (record { spot = spot.Entry index place version; transcript = t })) same)
placed-there index (first ∷ transcripts) (outcome.Commit at_version at_place ∷ outcomes) (suc p) transcript version
    place at there =
    let rest = placed-there index transcripts outcomes p transcript version place at there in (suc rest.0, rest.1)
placed-there index (first ∷ transcripts) (outcome.Conflict ∷ outcomes) (suc p) transcript version place at there =
    placed-there index transcripts outcomes p transcript version place at there
placed-there index (first ∷ transcripts) (outcome.Old ∷ outcomes) (suc p) transcript version place at there =
    placed-there index transcripts outcomes p transcript version place at there

module _ (splits : List Point) (book : List Entry) (index : ℕ) (entry : Entry) (transcripts : List Transcript)
    (acknowledged : List Placed) (there : slice_get book index ≡ Some entry)
    (all : entry.batch ≡ map commit_request_of transcripts) where
  abbrev before : Seen
  before = seen_before book index

  abbrev outcomes : List Outcome
  outcomes = outcomes_on splits before entry

  abbrev after : List Placed
  after = acknowledged ++ placed_from index transcripts outcomes

  abbrev batch : SealedBatch
  batch = record { entry = index; version = entry.version; transcripts = transcripts }

  module _ (p : ℕ) (transcript : Transcript) (at : slice_get transcripts p ≡ Some transcript) where
    abbrev place : Place
    place = placed (head_of before entry) (0 + p) (commit_request_of transcript)

    abbrev spotted : Placed
    spotted = record { spot = spot.Entry index p entry.version; transcript = transcript }

    asks : slice_get entry.batch p ≡ Some (commit_request_of transcript)
    asks = ap (λ (ts : List Transaction). slice_get ts p) all ∙ slice_get-map commit_request_of transcripts p
        ∙ ap (option_map commit_request_of) at

    -- the place is there, after earlier ones, and its outcome is by the rule
    found : (earlier : List Place)
        × (place_in (head_of before entry) 0 entry.batch before.places p ≡ Some (place, earlier))
        × (slice_get outcomes p ≡ Some (outcome_at splits earlier place (0 + p)))
    found = place-found splits (head_of before entry) entry.batch before.places 0 p (commit_request_of transcript) asks

    outcome-is : slice_get outcomes p ≡ Some (outcome_at splits found.0 place p)
    outcome-is =
        let number : 0 + p ≡ p = omega arith in
        found.2 ∙ ap (λ (k : ℕ). Some (outcome_at splits found.0 place k)) number

    here-is : place_at book index p ≡ Some (place, found.0)
    here-is = ap (place_of before p) there ∙ found.1

    rule : IsByRule splits (place, found.0) p (outcome_at splits found.0 place p)
    rule = outcome-by-rule splits found.0 place p

    serialized : AllByRecursion (IsSerialized splits book) after → Contains after spotted
        → committed splits found.0 place ≡ true
    serialized serial has =
        let item = item-contained after spotted has in
        let stands : IsSerializedAt splits book transcript index p entry.version
        = all-at (IsSerialized splits book) after item.0 spotted serial item.1 in
        let same : stands.0 ≡ (place, found.0) = same_Some stands.0 (place, found.0) (sym stands.1 ∙ here-is) in
        subst (λ (one : Place × List Place). committed splits one.1 one.0 ≡ true) same stands.4

    acknowledges : committed splits found.0 place ≡ true → Contains after spotted
    acknowledges commits =
        let item = placed-there index transcripts outcomes p transcript entry.version p at
        (outcome-is ∙ ap Some (rule.commits.1 commits)) in
        Contains-append_right acknowledged (placed_from index transcripts outcomes) spotted
        (contains-item (placed_from index transcripts outcomes) item.0 spotted item.1)

    -- where those that are acknowledged are serialized, what the client is told is so
    reply-of : AllByRecursion (IsSerialized splits book) after
        → IsReply splits book batch (replies_from transcripts outcomes) after p transcript
    reply-of serial = record {
      there = (place, found.0);
      there_is = here-is;
      asked = refl;
      became = outcome_at splits found.0 place p;
      by_rule = rule;
      told_so = reply-at transcripts outcomes p transcript (outcome_at splits found.0 place p) at
          outcome-is;
      acknowledged_there = (serialized serial, acknowledges);
    }

  -- and so all are told
  pub replies-of : OneEach transcripts → AllByRecursion (IsSerialized splits book) after
      → AreReplies splits book batch (replies_from transcripts outcomes) after
  replies-of one serial = record {
    entry = entry;
    entry_is = there;
    all_places = all;
    one_each = one;
    each_once = replies-all transcripts outcomes (length-outcomes_on splits before entry ∙ ap length all
        ∙ length-map transcripts commit_request_of);
    replies = λ p transcript at. reply-of p transcript at serial;
  }
