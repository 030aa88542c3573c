-- What one resolver says of a place, by the last versions at which it admitted writes.
use Rattle.std.proofs.Common.{◌≡◌, ◌∙◌, ◌↔◌, sym, ap, refl, ℕ, ◌<◌, ◌≤◌, max, Bool, true, false, not, ◌&&◌, ◌==◌}
use Rattle.std.proofs.Common.{nat_lt, List, [], ◌∷◌, if◌then◌else◌, ⊎_elim, arith}
use Rattle.std.specs.List.{AllByRecursion}
use Rattle.std.proofs.lemmas.Bool.{cases_lt, and_parts, and_from, both_ways, not-true, not_from_false}
use Rattle.std.proofs.lemmas.Bool.{false_from_ne_true, ltb-true, ltb-false, lt-ltb, le-ltb, eqb-true, cond-true}
use Rattle.std.proofs.lemmas.Bool.{cond_both}
use Rattle.fdb_keys.specs.Points.{Point}
use Rattle.fdb_keys.specs.Ranges.{in_set}
use Rattle.fdb_txn.specs.book.Book.{Place}
use Rattle.fdb_txn.specs.rules.Owners.{owner, span_begin}
use Rattle.fdb_txn.specs.rules.Admission.{is_fresh, overlaps, no_conflict, admits}
use Rattle.fdb_txn.specs.book.History.{Follows}
use Rattle.fdb_txn.specs.rules.Resolvers.{part_writes, part_reads, last_commit_version, IsAdmittedBy}
use Rattle.fdb_txn.specs.laws.ResolverLaws.{LastVersionsDecide, OnePlaceMore, StateDecides, StateTakesPlace}
use Rattle.fdb_txn.specs.laws.ResolverLaws.{StateForgets, ForgottenAgree}
use Rattle.fdb_txn.proofs.rules.AskedLemmas.{one_owner_where_follows, fresh-within}
use Rattle.fdb_txn.proofs.rules.CornersLemmas.{overlaps_at_some_point, owned_at_some_version}

-- What a fresh place reads, and a resolver owned at the version of an earlier place above the read version,
-- is of the resolver's part.
pub part_reads-earlier : (splits : List Point) (i : ℕ) (place u : Place) (x : Point) → Follows place u
    → is_fresh place ≡ true
    → place.transaction.read < u.version → in_set place.transaction.reads x ≡ true
    → owner splits u.moves x u.version ≡ i
    → part_reads splits i place x ≡ true
part_reads-earlier splits i place u x follows fresh above is_read owner_is =
    let within = fresh-within place x fresh is_read in
    and_from _ _ is_read
    ((owned_at_some_version splits i place.moves x (span_begin place) place.version).1
    (u.version, omega (arith, within, above), follows.0, one_owner_where_follows splits place u x follows ∙ owner_is))

-- u, after the places us, keeps resolver i from admitting the place
abbrev is_against : List Point → ℕ → Place → List Place → Place → Bool
is_against splits i place us u = nat_lt place.transaction.read
    u.version && overlaps splits i u place && admits splits i us u

module _ (splits : List Point) (i : ℕ) where
  -- one place more lowers no last version
  pub last-grows : (u : Place) (us : List Place) (x : Point)
      → last_commit_version splits i us x ≤ last_commit_version splits i (u ∷ us) x
  last-grows u us x = cond_both (admits splits i us u && part_writes splits i u x) _ _
      (λ n. last_commit_version splits i us x ≤ n) (λ added. omega arith) (λ kept. omega arith)

  -- a last version is at least that of a place that is admitted and writes the resolver's point
  pub last-reaches : (u : Place) (us : List Place) (x : Point) → admits splits i us u ≡ true
      → part_writes splits i u x ≡ true
      → u.version ≤ last_commit_version splits i (u ∷ us) x
  last-reaches u us x admitted written =
      let is = cond-true _ (max u.version (last_commit_version splits i us x)) (last_commit_version splits i us x)
      (and_from _ _ admitted written) in
      omega (arith, is)

  -- no last version is above that of a place after all
  last-below : (place : Place) (us : List Place) (x : Point) → AllByRecursion (Follows place) us
      → last_commit_version splits i us x ≤ place.version
  last-below place [] x follows = omega arith
  last-below place (u ∷ us) x follows =
      let rest = last-below place us x follows.1 in
      cond_both (admits splits i us u && part_writes splits i u x) _ _
      (λ n. n ≤ place.version) (λ added. omega (arith, rest, follows.0.0)) (λ kept. rest)

  -- An admitted place that wrote, above the read version, what is read and was the resolver's is against the place.
  against-at_point : (place u : Place) (us : List Place) (x : Point) → in_set place.transaction.reads x ≡ true
      → place.transaction.read < u.version → admits splits i us u ≡ true → part_writes splits i u x ≡ true
      → is_against splits i place us u ≡ true
  against-at_point place u us x is_read above admitted written =
      let parts = and_parts (in_set u.transaction.writes x) _ written in
      let meet = (overlaps_at_some_point splits i u place).1 (x, and_from _ _ (and_from _ _ parts.0 is_read) parts.1) in
      and_from _ _ (and_from _ _ (lt-ltb _ _ above) meet) admitted

  -- what is against a fresh place wrote a point of the resolver's part of its read set above its read version
  last-against : (place u : Place) (us : List Place) → Follows place u → is_fresh place ≡ true
      → is_against splits i place us u ≡ true
      → (x : Point) × (part_reads splits i place x ≡ true)
      × (place.transaction.read < last_commit_version splits i (u ∷ us) x)
  last-against place u us follows fresh against =
      let parts = and_parts _ (admits splits i us u) against in
      let meet = and_parts (nat_lt place.transaction.read u.version) _ parts.0 in
      let above = ltb-true _ _ meet.0 in
      let found = (overlaps_at_some_point splits i u place).0 meet.1 in
      let point = and_parts _ (owner splits u.moves found.0 u.version == i) found.1 in
      let sets = and_parts (in_set u.transaction.writes found.0) _ point.0 in
      let reached = last-reaches u us found.0 parts.1 (and_from _ _ sets.0 point.1) in (
        found.0,
        part_reads-earlier splits i place u found.0 follows fresh above sets.1 (eqb-true _ _ point.1),
        omega
            (arith, above, reached),
      )

  -- where nothing is against a place, no last version of a point that it reads is above its read version
  last-of_no_conflict : (place : Place) (us : List Place) (x : Point) → in_set place.transaction.reads x ≡ true
      → no_conflict splits i us place ≡ true → last_commit_version splits i us x ≤ place.transaction.read
  last-of_no_conflict place [] x is_read none = omega arith
  last-of_no_conflict place (u ∷ us) x is_read none =
      let parts = and_parts (not (is_against splits i place us u)) _ none in
      let rest = last-of_no_conflict place us x is_read parts.1 in
      cond_both (admits splits i us u && part_writes splits i u x) _ _ (λ n. n ≤ place.transaction.read)
      (λ added. let written = and_parts (admits splits i us u) _ added in ⊎_elim
      (λ above. absurd
      (both_ways _ (not-true _ parts.0) (against-at_point place u us x is_read above written.0 written.1)))
      (λ below. omega (arith, rest, below))
      (cases_lt place.transaction.read u.version))
      (λ kept. rest)

  -- Where no last version of the resolver's part of its read set is above its read version, nothing is against a
  -- fresh place.
  no_conflict-from_last : (place : Place) (us : List Place) → AllByRecursion (Follows place) us → is_fresh place ≡ true
      → ((x : Point) → part_reads splits i place x ≡ true → last_commit_version splits i us x ≤ place.transaction.read)
      → no_conflict splits i us place ≡ true
  no_conflict-from_last place [] follows fresh below = refl
  no_conflict-from_last place (u ∷ us) follows fresh below = and_from _ _
      (not_from_false _ (false_from_ne_true _ (λ against.
      let found = last-against place u us follows.0 fresh against in
      let bounded = below found.0 found.1 in omega (arith, bounded, found.2))))
      (no_conflict-from_last place us follows.1 fresh
      (λ x of_part. let grown = last-grows u us x in let bounded = below x of_part in omega (arith, grown, bounded)))

-- one version for each point decides
pub last_versions_decide : LastVersionsDecide
last_versions_decide splits i place earlier history = (
  (λ admitted. let parts = and_parts (is_fresh place) _ admitted in (
    parts.0,
    λ x of_part. last-of_no_conflict splits i place earlier x
        (and_parts (in_set place.transaction.reads x) _ of_part).0 parts.1,
  )),
  (λ free. and_from _ _ free.0 (no_conflict-from_last splits i place earlier history.1 free.0 free.1)),
)

-- one place more is one step
pub one_place_more : OnePlaceMore
one_place_more splits i place earlier x history =
    let below = last-below splits i place earlier x history.1 in
    let greater : max place.version (last_commit_version splits i earlier x) ≡ place.version = omega (arith, below) in
    ap (λ (n : ℕ). if admits splits i earlier place && part_writes splits i place x then n else last_commit_version
    splits i earlier x) greater

-- versions that say alike whether they are above a bound are both at most it, or neither
below-as_other : (v a b : ℕ) → nat_lt v a ≡ nat_lt v b → a ≤ v → b ≤ v
below-as_other v a b alike below = ltb-false _ _ (sym alike ∙ le-ltb _ _ below)

-- a state of a floor that isn't above the horizon decides as the rule
pub state_decides : StateDecides
state_decides splits i place earlier floor f history state in_window = (
  (λ admitted. let free = rule.0 admitted in (
    free.0,
    λ x of_part. below-as_other place.transaction.read (last_commit_version splits i earlier x) (f x)
        (sym (at x free.0 of_part)) (free.1 x of_part),
  )),
  (λ free. rule.1 (
    free.0,
    λ x of_part. below-as_other place.transaction.read (f x) (last_commit_version splits i earlier x)
        (at x free.0 of_part) (free.1 x of_part),
  )),
)
  where
    rule : (admits splits i earlier place ≡ true) ↔ IsAdmittedBy splits i (last_commit_version splits i earlier) place
    rule = last_versions_decide splits i place earlier history

    -- the read version is not below the floor
    at : (x : Point) → is_fresh place ≡ true → part_reads splits i place x ≡ true
        → nat_lt place.transaction.read (f x) ≡ nat_lt place.transaction.read (last_commit_version splits i earlier x)
    at x fresh of_part =
        let within = fresh-within place x fresh (and_parts (in_set place.transaction.reads x) _ of_part).0 in
        state x place.transaction.read (omega (arith, in_window, within))

-- versions put in at the same points leave the others alike
alike-put : (admitted : Bool) (v version a b : ℕ) → nat_lt v a ≡ nat_lt v b
    → nat_lt v (if admitted then version else a) ≡ nat_lt v (if admitted then version else b)
alike-put true v version a b alike = refl
alike-put false v version a b alike = alike

-- a state takes a place in
pub state_takes_place : StateTakesPlace
state_takes_place splits i place earlier floor f history state x v reached =
    alike-put (admits splits i earlier place && part_writes splits i place x) v place.version (f x)
    (last_commit_version splits i earlier x) (state x v reached)
    ∙ ap (λ (n : ℕ). nat_lt v n) (sym (one_place_more splits i place earlier x history))

-- a state may forget what is below a greater floor
pub state_forgets : StateForgets
state_forgets splits i places floor higher f g state more agree x v reached = agree x v reached
    ∙ state x v (omega (arith, more, reached))

-- versions at or below the floor may be any
pub forgotten_agree : ForgottenAgree
forgotten_agree floor f g kept x v reached = ⊎_elim
    (λ same. ap (λ (n : ℕ). nat_lt v n) same)
    (λ forgotten. le-ltb v (g x) (omega (arith, forgotten.1, reached))
    ∙ sym (le-ltb v (f x) (omega (arith, forgotten.0, reached))))
    (kept x)
