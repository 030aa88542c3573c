-- What owners say, by the pieces inside them.
use Rattle.std.proofs.Common.{◌≡◌, ◌∙◌, sym, ap, subst, refl, ℕ, suc, ◌+◌, ◌<◌, ◌≤◌, Bool, ◌&&◌, ◌==◌, nat_le, List}
use Rattle.std.proofs.Common.{length, [], ◌∷◌, max, true, Option, Some, None, Result, Ok, IfOk, if◌then◌else◌, arith}
use Rattle.std.specs.List.{AllByRecursion}
use Rattle.std.proofs.lemmas.Bool.{cond-true, cond-false, le-leb, lt-leb, eq-eqb}
use Rattle.fdb_keys.specs.Answers.{Answers}
use Rattle.fdb_keys.specs.Points.{Point}
use Rattle.fdb_keys.specs.Ranges.{Range, in_range, in_set}
use Rattle.fdb_keys.specs.declared.refusal.Refusal.{Refusal}
use Rattle.fdb_keys.specs.declared.refusal.Refusal.TheVariants.{BadConfig}
use Rattle.fdb_txn.specs.declared.entry.Move.{Move}
use Rattle.fdb_txn.specs.rules.Owners.{first_owner}
use Rattle.fdb_txn.specs.rules.Splits.{are_splits}
use Rattle.fdb_txn.specs.Limits.{resolver_limit}
use Rattle.fdb_interval.specs.Breakpoints.{AreRising}
use Rattle.fdb_owners.specs.declared.history.Change.{Change}
use Rattle.fdb_owners.specs.declared.history.History.{History}
use Rattle.fdb_owners.specs.declared.parts.Owned.{Owned}
use Rattle.fdb_owners.specs.declared.pieces.Pieces.{Pieces}
use Rattle.fdb_txn.specs.Versions.{count_between}
use Rattle.fdb_owners.specs.Histories.{owner_in, AreUpTo, IsHistory, changes_at, any_between}
use Rattle.fdb_owners.specs.Ownership.{Ownership, owner_at, resolvers_of, owned_between, changes_of, target_after}
use Rattle.fdb_owners.specs.Ownership.{owners_fault, learn_fault, IsNew, HasLearnt, HasExpired}
use Rattle.fdb_owners.specs.Parts.{ArePartsOf, owned_from}
use Rattle.fdb_owners.specs.Pieces.{history_at, joined, IsPieces, AgreeFrom}
use Rattle.fdb_owners.proofs.AnswersLemmas.{answers-also}
use Rattle.fdb_owners.proofs.ChangesLemmas.{owner-below}
use Rattle.fdb_owners.proofs.HistoryLemmas.{owner-through, up_to-weaken}
use Rattle.fdb_owners.proofs.JoinedLemmas.{value-joined}
use Rattle.fdb_owners.proofs.OwnedFromLemmas.{between-owned_from, owned_from-one}
use Rattle.fdb_owners.proofs.PartsLemmas.{parts-alike}
use Rattle.fdb_owners.proofs.SplitLemmas.{value-holds}
use Rattle.fdb_interval.proofs.Exports.{all_imply}

-- what owners with these pieces inside say
abbrev pub seen_as : List Point → Pieces → ℕ → ℕ → Ownership
seen_as splits pieces last floor =
    record { splits = splits; lowest = pieces.lowest; breaks = joined pieces; last = last; floor = floor }

-- ---- one history
pub history-is : (resolvers last : ℕ) (pieces : Pieces) → IsPieces resolvers last pieces → (x : Point)
    → IsHistory resolvers last (history_at pieces x)
history-is resolvers last pieces are x =
    value-holds (IsHistory resolvers last) pieces.lowest pieces.breaks.entries x are.lowest
    (all_imply _ (λ piece. IsHistory resolvers last piece.1) (λ piece holds. holds.1) pieces.breaks.entries are.breaks)

known-through : (resolvers last : ℕ) (changes : List Change)
    → AllByRecursion (λ (change : Change). (change.owner < resolvers) × (change.version ≤ last)) changes
    → AreUpTo last changes
known-through resolvers last [] all = tt
known-through resolvers last (change ∷ older) all = (all.0.1, known-through resolvers last older all.1)

pub through-last : (resolvers last : ℕ) (history : History) → IsHistory resolvers last history
    → AreUpTo last history.changes
through-last resolvers last history is = known-through resolvers last history.changes is.changes

owners-within : (resolvers last : ℕ) (changes : List Change)
    → AllByRecursion (λ (change : Change). (change.owner < resolvers) × (change.version ≤ last)) changes
    → AllByRecursion (λ (change : Change). change.owner < resolvers) changes
owners-within resolvers last [] all = tt
owners-within resolvers last (change ∷ older) all = (all.0.0, owners-within resolvers last older all.1)

-- and the owner at each version exists
pub owner-known : (resolvers last : ℕ) (history : History) (v : ℕ) → IsHistory resolvers last history
    → owner_in history v < resolvers
owner-known resolvers last history v is =
    owner-below resolvers history.first v history.changes is.first
    (owners-within resolvers last history.changes is.changes)

-- from the last version on, the owner stays
settled-in : (resolvers last : ℕ) (history : History) (v : ℕ) → IsHistory resolvers last history → last ≤ v
    → owner_in history v ≡ owner_in history last
settled-in resolvers last history v is from =
    let through = through-last resolvers last history is in
    owner-through history.first history.changes v (up_to-weaken last v history.changes from through)
    ∙ sym (owner-through history.first history.changes last through)

-- ---- all owners
-- a point's owner is the one by the history of its piece
seen-is : (splits : List Point) (pieces : Pieces) (last floor : ℕ) → AreRising pieces.breaks.entries
    → (x : Point) (v : ℕ)
    → owner_at (seen_as splits pieces last floor) x v ≡ owner_in (history_at pieces x) v
seen-is splits pieces last floor rising x v =
    ap (λ (history : History). owner_in history v) (value-joined pieces.lowest pieces.breaks.entries x rising)

module _ (splits : List Point) (pieces : Pieces) (last floor : ℕ) (are : IsPieces (suc (length splits)) last pieces)
    (rising : AreRising pieces.breaks.entries) where
  owner-seen : (x : Point) (v : ℕ)
      → owner_at (seen_as splits pieces last floor) x v ≡ owner_in (history_at pieces x) v
  owner-seen = seen-is splits pieces last floor rising

  pub settled-seen : (self : Ownership) → seen_as splits pieces last floor ≡ self → (x : Point) (v : ℕ) → self.last ≤ v
      → owner_at self x v ≡ owner_at self x self.last
  settled-seen self seen =
      subst
      (λ (owners : Ownership). (x : Point) (v : ℕ) → owners.last ≤ v
      → owner_at owners x v ≡ owner_at owners x owners.last) seen
      (λ x v from.
      owner-seen x v
      ∙ settled-in (suc (length splits)) last (history_at pieces x) v (history-is
      (suc (length splits)) last pieces are x)
      from
      ∙ sym (owner-seen x last))

  pub owner-answers : (self : Ownership) → seen_as splits pieces last floor ≡ self → (key : Point) (history : History)
      (result : ℕ) → history ≡ history_at pieces key
      → ((v : ℕ) → AreUpTo v history.changes → result ≡ owner_in history v)
      → (result ≡ owner_at self key self.last) × (result < resolvers_of self)
  owner-answers self seen key history result is says =
      let kept = subst (IsHistory (suc (length splits)) last) (sym is) (history-is
      (suc (length splits)) last pieces are key)
      in
      let there = says last (through-last (suc (length splits)) last history kept) in (
        subst (λ (owners : Ownership). result ≡ owner_at owners key owners.last) seen
            (there ∙ ap (λ (one : History). owner_in one last) is ∙ sym (owner-seen key last)),
        subst (λ (owners : Ownership). result < resolvers_of owners) seen
            (subst (λ (owner : ℕ). owner < suc (length splits)) (sym there)
            (owner-below (suc (length splits)) history.first last history.changes kept.first
            (owners-within (suc (length splits)) last history.changes kept.changes))),
      )

  pub changes-answers : (self : Ownership) → seen_as splits pieces last floor ≡ self → (key : Point) (history : History)
      (result : ℕ) → history ≡ history_at pieces key
      → ((v : ℕ) → AreUpTo v history.changes
      → result ≡ count_between (changes_at (owner_in history)) floor v)
      → result ≡ changes_of self key
  changes-answers self seen key history result is says =
      let kept = subst (IsHistory (suc (length splits)) last) (sym is) (history-is
      (suc (length splits)) last pieces are key)
      in
      subst (λ (owners : Ownership). result ≡ changes_of owners key) seen
      (says last (through-last (suc (length splits)) last history kept)
      ∙ ap (λ (one : History). count_between (changes_at (owner_in one)) floor last)
      (is ∙ sym (value-joined pieces.lowest pieces.breaks.entries key rising)))

  -- of the points inside, whichever they are, the writers' parts hold those that each one owns
  pub writers-answers : (self : Ownership) → seen_as splits pieces last floor ≡ self → (inside : Point → Bool)
      (result : Result (List Owned) Refusal)
      → Answers result None (λ parts. (resolvers known : ℕ) → IsPieces resolvers known pieces
      → ArePartsOf resolvers (λ i x. inside x && owned_from (history_at pieces x) i last last) parts)
      → Answers result None (λ parts. (version : ℕ) → self.last ≤ version
      → ArePartsOf (resolvers_of self) (λ i x. inside x && (owner_at self x version == i)) parts)
  writers-answers self seen inside result answered =
      subst
      (λ (owners : Ownership). Answers result None (λ parts. (version : ℕ) → owners.last ≤ version
      → ArePartsOf (resolvers_of owners) (λ i x. inside x && (owner_at owners x version == i)) parts)) seen
      (answers-also result None _ _
      (λ parts are_parts version from.
      parts-alike (suc (length splits)) _ _ parts (are_parts (suc (length splits)) last are)
      (λ i x. ap (λ (owned : Bool). inside x && owned)
      (owned_from-one (history_at pieces x) i last
      ∙ ap (λ (owner : ℕ). owner == i)
      (sym (owner-seen x last)
      ∙ sym (settled-seen (seen_as splits pieces last floor) refl x version from)))))
      answered)

  -- who owned a point at some version of a span
  owned-seen : (i from since version : ℕ) (x : Point) → since ≡ suc from → from < version
      → owned_from (history_at pieces x) i since version
      ≡ owned_between (seen_as splits pieces last floor) i x from version
  owned-seen i from since version x is order =
      ap (λ (first : ℕ). owned_from (history_at pieces x) i first version) is
      ∙ sym (between-owned_from (history_at pieces x) i from version
      (history-is (suc (length splits)) last pieces are x).falling order)
      ∙ ap (λ (one : History). any_between (λ v. owner_in one v == i) from version)
      (sym (value-joined pieces.lowest pieces.breaks.entries x rising))

  pub readers-answers : (self : Ownership) → seen_as splits pieces last floor ≡ self → (inside : Point → Bool)
      (from since version : ℕ) → since ≡ suc from → from < version → (result : Result (List Owned) Refusal)
      → Answers result None (λ parts. (resolvers known : ℕ) → IsPieces resolvers known pieces
      → ArePartsOf resolvers (λ i x. inside x && owned_from (history_at pieces x) i since version) parts)
      → Answers result None
      (ArePartsOf (resolvers_of self) (λ i x. inside x && owned_between self i x from version))
  readers-answers self seen inside from since version is order result answered =
      subst
      (λ (owners : Ownership). Answers result None
      (ArePartsOf (resolvers_of owners) (λ i x. inside x && owned_between owners i x from version))) seen
      (answers-also result None _ _
      (λ parts are_parts.
      parts-alike (suc (length splits)) _ _ parts (are_parts (suc (length splits)) last are)
      (λ i x. ap (λ (owned : Bool). inside x && owned)
      (owned-seen i from since version x is order)))
      answered)

-- ---- what calls leave
pub new-answers : (splits : List Point) (resolvers : ℕ) (pieces : Pieces) → suc (length splits) ≡ resolvers
    → resolvers ≤ resolver_limit → are_splits splits ≡ true → AreRising pieces.breaks.entries
    → ((x : Point) (v : ℕ) → owner_in (history_at pieces x) v ≡ first_owner splits x)
    → Answers (Ok (seen_as splits pieces 0 0)) (owners_fault resolvers splits) (IsNew splits)
new-answers splits resolvers pieces count few rise rising owners =
    subst (λ (fault : Option Refusal). Answers (Ok (seen_as splits pieces 0 0)) fault (IsNew splits)) (sym no_fault)
    (record {
      splits_are = refl;
      last = refl;
      floor = refl;
      first = λ x v. seen-is splits pieces 0 0 rising x v ∙ owners x v;
    })
  where
    no_fault : owners_fault resolvers splits ≡ None
    no_fault =
        ap (λ (t : Bool). if t && nat_le resolvers resolver_limit && are_splits splits then None else Some BadConfig)
        (eq-eqb (suc (length splits)) resolvers count)
        ∙ ap (λ (t : Bool). if t && are_splits splits then None else Some BadConfig)
        (le-leb resolvers resolver_limit few)
        ∙ ap (λ (t : Bool). if t then None else Some BadConfig) rise

pub learn-has : (splits : List Point) (pieces others : Pieces) (last floor version : ℕ) (moves : List Move)
    → IsPieces (suc (length splits)) last pieces → AreRising pieces.breaks.entries → AreRising others.breaks.entries
    → last < version
    → ((x : Point) (v : ℕ) → owner_in (history_at others x) v
    ≡ (if nat_le version v then target_after moves x (owner_in (history_at pieces x) v)
    else owner_in (history_at pieces x) v))
    → HasLearnt (seen_as splits pieces last floor) version moves (seen_as splits others version floor)
learn-has splits pieces others last floor version moves are rising others_rising later owners = record {
  splits = refl;
  last = refl;
  floor = refl;
  before = λ x v known below. new_seen x v ∙ owners x v ∙ cond-false _ _ _ (lt-leb version v below) ∙ sym (seen x v);
  since = λ x v known reached.
      new_seen x v
      ∙ owners x v
      ∙ cond-true _ _ _ (le-leb version v reached)
      ∙ ap (target_after moves x) (sym (seen x v));
  now = λ x.
      new_seen x version
      ∙ owners x version
      ∙ cond-true _ _ _ (le-leb version version (omega arith))
      ∙ ap (target_after moves x)
      (settled-in (suc (length splits)) last (history_at pieces x) version
      (history-is (suc (length splits)) last pieces are x) (omega (arith, later))
      ∙ sym (seen x last));
}
  where
    seen : (x : Point) (v : ℕ) → owner_at (seen_as splits pieces last floor) x v ≡ owner_in (history_at pieces x) v
    seen = seen-is splits pieces last floor rising

    new_seen : (x : Point) (v : ℕ)
        → owner_at (seen_as splits others version floor) x v ≡ owner_in (history_at others x) v
    new_seen = seen-is splits others version floor others_rising

pub expire-has : (splits : List Point) (pieces others : Pieces) (last floor version greater : ℕ)
    → IsPieces (suc (length splits)) last pieces → IsPieces (suc (length splits)) last others
    → AreRising pieces.breaks.entries → AreRising others.breaks.entries → greater ≡ max floor version
    → AgreeFrom greater pieces others
    → HasExpired (seen_as splits pieces last floor) version (seen_as splits others last greater)
expire-has splits pieces others last floor version greater are others_are rising others_rising is agree = record {
  splits = refl;
  last = refl;
  floor = is;
  kept = λ x v from. new_seen x v ∙ agree x v from ∙ sym (seen x v);
  now = λ x.
      let later = greater + last in
      new_seen x last
      ∙ sym (settled-in (suc (length splits)) last (history_at others x) later
      (history-is (suc (length splits)) last others others_are x) (omega arith))
      ∙ agree x later (omega arith)
      ∙ settled-in (suc (length splits)) last (history_at pieces x) later
      (history-is (suc (length splits)) last pieces are x) (omega arith)
      ∙ sym (seen x last);
}
  where
    seen : (x : Point) (v : ℕ) → owner_at (seen_as splits pieces last floor) x v ≡ owner_in (history_at pieces x) v
    seen = seen-is splits pieces last floor rising

    new_seen : (x : Point) (v : ℕ)
        → owner_at (seen_as splits others last greater) x v ≡ owner_in (history_at others x) v
    new_seen = seen-is splits others last greater others_rising

pub learn-answers : (splits : List Point) (pieces others : Pieces) (last floor version : ℕ) (moves : List Move)
    (self : Ownership) (done : Unit {0}) → seen_as splits pieces last floor ≡ self → last < version
    → HasLearnt (seen_as splits pieces last floor) version moves (seen_as splits others version floor)
    → Answers (Ok done) (learn_fault self version)
    (λ _. HasLearnt self version moves (seen_as splits others version floor))
learn-answers splits pieces others last floor version moves self done seen later has =
    subst
    (λ (old : Ownership). Answers (Ok done) (learn_fault old version)
    (λ _. HasLearnt old version moves (seen_as splits others version floor))) seen
    (subst
    (λ (fault : Option Refusal). Answers (Ok done) fault
    (λ _. HasLearnt (seen_as splits pieces last floor) version moves (seen_as splits others version floor)))
    (sym (cond-false _ _ _ (lt-leb version last later))) has)
