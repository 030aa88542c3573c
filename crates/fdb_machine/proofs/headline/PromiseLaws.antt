-- What follows from the answer of one step.
use Rattle.std.proofs.Common.{◌≡◌, ◌<◌, ◌∙◌, ⊎_elim, sym, ap, refl, subst, arith, ℕ, suc, Bool, true, false, List, []}
use Rattle.std.proofs.Common.{length}
use Rattle.std.proofs.Common.{Option, Some, None, Ok, Err, map, if◌then◌else◌}
use Rattle.std.specs.Prelude.{◌↔◌, nat_lt}
use Rattle.std.specs.List.{slice_get, list_any}
use Rattle.std.specs.Option.{option_or}
use Rattle.std.proofs.lemmas.Bool.{both_ways, cond-true}
use Rattle.std.proofs.lemmas.Option.{slice_get_cases}
use Rattle.fdb_keys.specs.declared.refusal.Refusal.{Refusal}
use Rattle.fdb_keys.specs.declared.refusal.Refusal.TheVariants.{TransactionTooOld, FutureVersion, AccessedUnreadable}
use Rattle.fdb_keys.specs.declared.refusal.Refusal.TheVariants.{Exhausted}
use Rattle.fdb_keys.specs.Points.{Point}
use Rattle.fdb_keys.specs.Ranges.{Range, in_range}
use Rattle.fdb_keys.proofs.Exports.{in_range-empty}
use Rattle.fdb_txn.specs.rules.Owners.{first_owner}
use Rattle.fdb_txn.proofs.Exports.{owner-exists}
use Rattle.fdb_client.specs.declared.program.Op.{Op}
use Rattle.fdb_client.specs.declared.program.Op.TheVariants as op
use Rattle.fdb_client.specs.declared.program.Transcript.{Transcript}
use Rattle.fdb_client.specs.Programs.{program, copy, decided}
use Rattle.fdb_client.specs.Unreadable.{unreadable, unreadable_in}
use Rattle.fdb_client.proofs.Exports.{unreadable-decided}
use Rattle.fdb_machine.specs.machine.Roles.{ShardProgress}
use Rattle.fdb_machine.specs.machine.ClientSteps.{reads, answered_by, point_fault, range_fault, fault_after}
use Rattle.fdb_machine.specs.machine.ClientSteps.{map_read, reply_after}
use Rattle.fdb_machine.specs.machine.GrvProxySteps.{grants, has_no_number}
use Rattle.fdb_machine.specs.machine.RoleSteps.{shard_fault, version_of_shard}
use Rattle.fdb_machine.specs.machine.Machine.{Machine, Transition}
use Rattle.fdb_machine.specs.machine.Sessions.{open_at}
use Rattle.fdb_machine.specs.headline.Promises.{RefusalsChangeNothing, GrantsCommitted, GetsFromTheRun, GetsRefused}
use Rattle.fdb_machine.specs.headline.Promises.{RangeReadsFromTheRun, RangeReadsRefused, Lags, Forgot, Serves}
use Rattle.fdb_machine.specs.headline.Promises.{AtSomePoint, AtEachPoint, UnreadableKeysAskNoShard, scanned_by}
use Rattle.fdb_machine.specs.machine.Steps.{after}
use Rattle.fdb_machine.proofs.machine.RangeFaultLemmas.{of-range, too-old-range, served-range}
use Rattle.fdb_machine.proofs.machine.Transitions.{reads-transition, reads-refused}
use Rattle.fdb_machine.proofs.machine.UnreadableLemmas.{some-unreadable, none-unreadable}
use Rattle.fdb_machine.proofs.machine.UnreadableLemmas.{scanned-empty}
use Rattle.fdb_machine.proofs.machine.AcceptedTransitions.{of-accepted, past-found, past-test, past-fault, past-open}
use Rattle.fdb_machine.specs.declared.step.Answered.TheVariants as answered

-- a refused step changes nothing
pub refusals_change_nothing : RefusalsChangeNothing
refusals_change_nothing m step refusal refused = ap (after m) refused

-- a grant tells each session that asks there the committed version
pub grants_committed : GrantsCommitted
unfolding grants
grants_committed m proxy transition accepted =
    of-accepted Told (grants m proxy) transition accepted
    (past-found Told (slice_get m.grv_proxies proxy) _ (λ there at.
    past-test Told (list_any (has_no_number m.sessions) there) Exhausted _ (λ _. (there, at, refl))))
  where
    Told : Transition → Type 0
    Told given =
        (there : List ℕ) × (slice_get m.grv_proxies proxy ≡ Some there)
        × (given.answer ≡ answered.Granted (map (λ (session : ℕ). (session, m.committed)) there))

-- a read is answered as its operation is replied on the map at the read version
read-answers : (m : Machine) (session : ℕ) (operation : Op) (transition : Transition)
    → reads m session operation ≡ Ok transition
    → (transcript : Transcript) × (open_at m.sessions session ≡ Some transcript)
    × (transition.answer ≡ answered_by (reply_after m transcript operation))
unfolding reads
read-answers m session operation transition accepted =
    of-accepted Read (reads m session operation) transition accepted
    (past-open Read (open_at m.sessions session) _ (λ transcript opened.
    past-fault Read (fault_after m transcript operation) _ (λ _. (transcript, opened, refl))))
  where
    Read : Transition → Type 0
    Read given =
        (transcript : Transcript) × (open_at m.sessions session ≡ Some transcript)
        × (given.answer ≡ answered_by (reply_after m transcript operation))

-- so is a read of a key, and one of a range
pub gets_from_the_run : GetsFromTheRun
gets_from_the_run m session key snapshot = read-answers m session (op.Get key snapshot)

pub range_reads_from_the_run : RangeReadsFromTheRun
range_reads_from_the_run m session range limit is_reverse snapshot =
    read-answers m session (op.Range range limit is_reverse snapshot)

-- a shard is ahead of a version exactly where it has it and is not there yet
shard-after : (m : Machine) (version : ℕ) (there : Option ShardProgress)
    → (shard_fault m.book version there ≡ Some FutureVersion)
    ↔ ((progress : ShardProgress) × (there ≡ Some progress) × (nat_lt version progress.floor ≡ false)
    × (nat_lt (version_of_shard m.book progress) version ≡ true))
shard-after m version None = ((λ faulty. cc), (λ after. let h = after.1 in cc))
shard-after m version (Some progress) = (
  (λ faulty. let tests = (by_tests _ _).0 faulty in (progress, refl, tests.0, tests.1)),
  (λ after. let same : after.0 ≡ progress = cc (after.1) in
      (by_tests _ _).1 (
        ap (λ (r : ShardProgress). nat_lt version r.floor) (sym same)
            ∙ after.2,
        ap (λ (r : ShardProgress). nat_lt (version_of_shard m.book r) version) (sym same) ∙ after.3,
      )),
)
  where
    by_tests : (old late : Bool)
        → ((if old then Some TransactionTooOld else (if late then Some FutureVersion else None)) ≡ Some FutureVersion) ↔
        ((old ≡ false) × (late ≡ true))
    by_tests true late = ((λ faulty. cc), (λ tests. let h = tests.0 in cc))
    by_tests false true = ((λ faulty. (refl, refl)), (λ tests. refl))
    by_tests false false = ((λ faulty. cc), (λ tests. let h = tests.1 in cc))

-- and has forgotten a version exactly where it has it and its floor is above that
shard-forgot : (m : Machine) (version : ℕ) (there : Option ShardProgress)
    → (shard_fault m.book version there ≡ Some TransactionTooOld)
    ↔ ((progress : ShardProgress) × (there ≡ Some progress) × (nat_lt version progress.floor ≡ true))
shard-forgot m version None = ((λ faulty. cc), (λ forgot. let h = forgot.1 in cc))
shard-forgot m version (Some progress) = (
  (λ faulty. (progress, refl, (by_tests _ _).0 faulty)),
  (λ forgot. let same : forgot.0 ≡ progress = cc (forgot.1) in
      (by_tests _ _).1 (ap (λ (r : ShardProgress). nat_lt version r.floor) (sym same) ∙ forgot.2)),
)
  where
    by_tests : (old late : Bool)
        → ((if old then Some TransactionTooOld else (if late then Some FutureVersion else None))
        ≡ Some TransactionTooOld) ↔ (old ≡ true)
    by_tests true late = ((λ faulty. refl), (λ test. refl))
    by_tests false true = ((λ faulty. cc), (λ test. cc))
    by_tests false false = ((λ faulty. cc), (λ test. cc))

-- and serves a version exactly where it has it and is there
shard-serves : (m : Machine) (version : ℕ) (there : Option ShardProgress)
    → (shard_fault m.book version there ≡ None)
    ↔ ((progress : ShardProgress) × (there ≡ Some progress) × (nat_lt version progress.floor ≡ false)
    × (nat_lt (version_of_shard m.book progress) version ≡ false))
shard-serves m version None = ((λ faultless. cc), (λ serves. let h = serves.1 in cc))
shard-serves m version (Some progress) = (
  (λ faultless. let tests = (by_tests _ _).0 faultless in (progress, refl, tests.0, tests.1)),
  (λ serves. let same : serves.0 ≡ progress = cc (serves.1) in
      (by_tests _ _).1 (
        ap (λ (r : ShardProgress). nat_lt version r.floor) (sym same)
            ∙ serves.2,
        ap (λ (r : ShardProgress). nat_lt (version_of_shard m.book r) version) (sym same) ∙ serves.3,
      )),
)
  where
    by_tests : (old late : Bool)
        → ((if old then Some TransactionTooOld else (if late then Some FutureVersion else None)) ≡ None) ↔
        ((old ≡ false) × (late ≡ false))
    by_tests true late = ((λ faultless. cc), (λ tests. let h = tests.0 in cc))
    by_tests false true = ((λ faultless. cc), (λ tests. let h = tests.1 in cc))
    by_tests false false = ((λ faultless. (refl, refl)), (λ tests. refl))

-- a shard that is there, and has not forgotten the version, has no fault but that it isn't there yet
only-after : (m : Machine) (version : ℕ) (there : Option ShardProgress) (progress : ShardProgress)
    → there ≡ Some progress → (why : Refusal) → shard_fault m.book version there ≡ Some why
    → (¬ (shard_fault m.book version there ≡ Some TransactionTooOld)) → Some why ≡ Some FutureVersion
only-after m version None progress at why faulty not_old = cc
only-after m version (Some shard) progress at why faulty not_old = by_tests _ _ faulty not_old
  where
    by_tests : (old late : Bool)
        → (if old then Some TransactionTooOld else (if late then Some FutureVersion else None)) ≡ Some why
        → (¬ ((if old then Some TransactionTooOld else (if late then Some FutureVersion else None))
        ≡ Some TransactionTooOld))
        → Some why ≡ Some FutureVersion
    by_tests true late faulty not_old = absurd (not_old refl)
    by_tests false true faulty not_old = sym faulty
    by_tests false false faulty not_old = cc

-- where there is a shard for each piece between the splits, the one that holds a point is there
holder-there : (m : Machine) → length m.shards ≡ suc (length m.config.shard_splits) → (x : Point)
    → (progress : ShardProgress) × (slice_get m.shards (first_owner m.config.shard_splits x) ≡ Some progress)
holder-there m whole x = ⊎_elim
    (λ found. (found.0, found.2))
    (λ past. absurd (omega (arith, past.0, whole, inside)))
    (slice_get_cases m.shards (first_owner m.config.shard_splits x)).1
  where
    inside : first_owner m.config.shard_splits x < suc (length m.config.shard_splits)
    inside = owner-exists m.config.shard_splits 0 [] x 0 tt

-- a fault that a test may take away
unless-own : (own : Bool) (fault : Option Refusal) (why : Refusal) (P : Type 0) → (fault ≡ Some why) ↔ P
    → ((if own then None else fault) ≡ Some why) ↔ ((own ≡ false) × P)
unless-own true fault why P same = ((λ faulty. cc), (λ holds. let h = holds.0 in cc))
unless-own false fault why P same = ((λ faulty. (refl, same.0 faulty)), (λ holds. same.1 holds.1))

-- one thing holds exactly where the other does, and that where a third does
both-ways : (P Q R : Type 0) → P ↔ Q → Q ↔ R → P ↔ R
both-ways P Q R first second = ((λ holds. second.0 (first.0 holds)), (λ holds. first.1 (second.1 holds)))

-- no shard refuses so
readable-shard : (m : Machine) (version : ℕ) (there : Option ShardProgress)
    → shard_fault m.book version there ≡ Some AccessedUnreadable → ⊥
readable-shard m version None faulty = cc
readable-shard m version (Some progress) faulty = by_tests _ _ faulty
  where
    by_tests : (old late : Bool)
        → (if old then Some TransactionTooOld else (if late then Some FutureVersion else None))
        ≡ Some AccessedUnreadable → ⊥
    by_tests true late faulty = cc
    by_tests false true faulty = cc
    by_tests false false faulty = cc

-- A read of an open transaction is refused as in the future exactly where the key's shard lags, as too old exactly
-- where it has forgotten, as unreadable exactly where the key is so, and not at all where the key is else decided.
pub gets_refused : GetsRefused
gets_refused m session key snapshot transcript opened = (
  as_the_shard FutureVersion (λ same. cc) (Lags m version key) (shard-after m version there),
  as_the_shard TransactionTooOld (λ same. cc) (Forgot m version key) (shard-forgot m version there),
  both-ways _ _ _ (reads-refused m session operation transcript opened AccessedUnreadable)
      (where_unreadable _ _ _ (readable-shard m version there)),
  λ is_decided readable. (_, reads-transition m session operation transcript opened (rw (readable, is_decided) refl)),
)
  where
    operation : Op
    operation = op.Get key snapshot

    version : ℕ
    version = transcript.read_version

    there : Option ShardProgress
    there = slice_get m.shards (first_owner m.config.shard_splits key)

    ops : List Op
    ops = program transcript.ops

    where_unreadable : (hidden own : Bool) (fault : Option Refusal) → (fault ≡ Some AccessedUnreadable → ⊥)
        → ((if hidden then Some AccessedUnreadable else (if own then None else fault)) ≡ Some AccessedUnreadable)
        ↔ (hidden ≡ true)
    where_unreadable true own fault never = ((λ faulty. refl), (λ is. refl))
    where_unreadable false true fault never = ((λ faulty. cc), (λ is. cc))
    where_unreadable false false fault never = ((λ faulty. absurd (never faulty)), (λ is. cc))

    unless_unreadable : (why : Refusal) → (why ≡ AccessedUnreadable → ⊥) → (hidden own : Bool) (fault : Option Refusal)
        → (hidden ≡ true → own ≡ true)
        → ((if hidden then Some AccessedUnreadable else (if own then None else fault)) ≡ Some why)
        ↔ ((if own then None else fault) ≡ Some why)
    unless_unreadable why other true true fault decides =
        ((λ faulty. absurd (other (cc faulty))), (λ faulty. cc))
    unless_unreadable why other true false fault decides = absurd (both_ways false refl (decides refl))
    unless_unreadable why other false own fault decides = ((λ faulty. faulty), (λ faulty. faulty))

    as_the_shard : (why : Refusal) → (why ≡ AccessedUnreadable → ⊥) → (P : Type 0)
        → (shard_fault m.book version there ≡ Some why) ↔ P
        → (reads m session operation ≡ Err why) ↔ ((decided ops key ≡ false) × P)
    as_the_shard why other P same = both-ways _ _ _ (reads-refused m session operation transcript opened why)
        (both-ways _ _ _ (unless_unreadable why other (unreadable ops key) (decided ops key)
        (shard_fault m.book version there) (unreadable-decided ops key))
        (unless-own (decided ops key) (shard_fault m.book version there) why P same))

-- such a refusal asks no shard
pub unreadable_keys_ask_no_shard : UnreadableKeysAskNoShard
unreadable_keys_ask_no_shard state session key snapshot transcript opened is =
    let own = unreadable-decided (program transcript.ops) key is in
    let refused = (reads-refused state.machine session (op.Get key snapshot) transcript opened AccessedUnreadable).1
    (cond-true _ _ _ is) in
    (own, rw (opened, own) refused)

-- two points that one shard holds have one fault
held-alike : (m : Machine) (version : ℕ) (x y : Point)
    → first_owner m.config.shard_splits x ≡ first_owner m.config.shard_splits y
    → point_fault m version x ≡ point_fault m version y
held-alike m version x y same = ap (λ (owner : ℕ). shard_fault m.book version (slice_get m.shards owner)) same

-- Why a range is refused, by its points.
module _ (m : Machine) (version : ℕ) (range : Range) where
  -- the shard that holds a point, if it is there
  abbrev holder : Point → Option ShardProgress
  holder x = slice_get m.shards (first_owner m.config.shard_splits x)

  -- what it is refused as, one of its points is
  faulty-point : (why : Refusal) → range_fault m version range ≡ Some why
      → AtSomePoint range (λ x. point_fault m version x ≡ Some why)
  faulty-point = of-range m.config.shard_splits range (point_fault m version) (held-alike m version)

  -- and none of them is where it isn't
  served-point : AtEachPoint range (λ x. range_fault m version range ≡ None → point_fault m version x ≡ None)
  served-point = served-range m.config.shard_splits range (point_fault m version) (held-alike m version)

  range-forgot : (range_fault m version range ≡ Some TransactionTooOld) ↔ AtSomePoint range (Forgot m version)
  range-forgot = (
    (λ refused. let one = faulty-point TransactionTooOld refused in
        (one.0, one.1, (shard-forgot m version (holder one.0)).0 one.2)),
    (λ some. too-old-range m.config.shard_splits range (point_fault m version) (held-alike m version) some.0 some.1
        ((shard-forgot m version (holder some.0)).1 some.2)),
  )

  range-serves : (range_fault m version range ≡ None) ↔ AtEachPoint range (Serves m version)
  range-serves = (
    (λ faultless x inside. (shard-serves m version (holder x)).0 (served-point x inside faultless)),
    (λ each. by_fault each (range_fault m version range) refl),
  )
    where
      by_fault : AtEachPoint range (Serves m version) → (fault : Option Refusal)
          → range_fault m version range ≡ fault → fault ≡ None
      by_fault each None is = refl
      by_fault each (Some why) is =
          let one = faulty-point why is in
          let faulty = one.2 in
          let faultless = (shard-serves m version (holder one.0)).1 (each one.0 one.1) in
          cc

  range-lags : length m.shards ≡ suc (length m.config.shard_splits)
      → (range_fault m version range ≡ Some FutureVersion)
      ↔ ((¬ AtSomePoint range (Forgot m version)) × AtSomePoint range (Lags m version))
  range-lags whole = (
    (λ refused.
        let one = faulty-point FutureVersion refused in (
          (λ some. let too_old = range-forgot.1 some in cc),
          (one.0, one.1, (shard-after m version (holder one.0)).0 one.2),
        )),
    (λ both. by_fault both (range_fault m version range) refl),
  )
    where
      by_fault : (¬ AtSomePoint range (Forgot m version)) × AtSomePoint range (Lags m version)
          → (fault : Option Refusal) → range_fault m version range ≡ fault → fault ≡ Some FutureVersion
      by_fault both None is =
          let late = both.1 in
          let faulty = (shard-after m version (holder late.0)).1 late.2 in
          let faultless = served-point late.0 late.1 is in
          cc
      by_fault both (Some why) is =
          let one = faulty-point why is in
          let there = holder-there m whole one.0 in
          only-after m version (holder one.0) there.0 there.1 why one.2
          (λ too_old. both.0 (one.0, one.1, (shard-forgot m version (holder one.0)).0 too_old))

-- A read of a range is refused as too old where one of its points is forgotten, as in the future where none is and one
-- lags, as unreadable where each of them is served and what was scanned has an unreadable one, and not at all where it
-- has none.
pub range_reads_refused : RangeReadsRefused
range_reads_refused m session range limit is_reverse snapshot transcript opened = (
  as_shards TransactionTooOld (λ same. cc) _ (range-forgot m version range),
  λ whole. as_shards FutureVersion (λ same. cc) _ (range-lags m version range whole),
  both-ways _ _ _ (reads-refused m session operation transcript opened AccessedUnreadable)
      (both-ways _ _ _ (where_hidden hidden (range_fault m version range) readable)
      (both-parts _ _ _ _ (range-serves m version range) (some-unreadable ops scanned))),
  both-ways _ _ _ answered_where (both-ways _ _ _ (where_open hidden (range_fault m version range))
      (both-parts _ _ _ _ (range-serves m version range) (none-unreadable ops scanned))),
  λ empty. answered_where.1 ((where_open hidden (range_fault m version range)).1 (
    (range-serves m version range).1 (λ x inside. absurd (both_ways _ (in_range-empty range x empty) inside)),
    (none-unreadable ops scanned).1 (λ x inside. absurd (both_ways _ (in_range-empty range x empty)
        (subst (λ (part : Range). in_range part x ≡ true)
        (scanned-empty (copy (map_read m transcript) ops) range limit is_reverse empty) inside))),
  )),
)
  where
    operation : Op
    operation = op.Range range limit is_reverse snapshot

    version : ℕ
    version = transcript.read_version

    ops : List Op
    ops = program transcript.ops

    scanned : Range
    scanned = scanned_by m transcript range limit is_reverse

    hidden : Bool
    hidden = unreadable_in ops scanned

    readable : range_fault m version range ≡ Some AccessedUnreadable → ⊥
    readable refused =
        let one = faulty-point m version range AccessedUnreadable refused in
        readable-shard m version (holder m version range one.0) one.2

    scan : Bool → Option Refusal
    scan there = if there then Some AccessedUnreadable else None

    both-parts : (P Q R S : Type 0) → P ↔ R → Q ↔ S → (P × Q) ↔ (R × S)
    both-parts P Q R S first second =
        ((λ both. (first.0 both.0, second.0 both.1)), (λ both. (first.1 both.0, second.1 both.1)))

    where_hidden : (there : Bool) (fault : Option Refusal) → (fault ≡ Some AccessedUnreadable → ⊥)
        → (option_or fault (scan there) ≡ Some AccessedUnreadable) ↔ ((fault ≡ None) × (there ≡ true))
    where_hidden true None never = ((λ faulty. (refl, refl)), (λ both. refl))
    where_hidden false None never = ((λ faulty. cc), (λ both. let h = both.1 in cc))
    where_hidden there (Some why) never = ((λ faulty. absurd (never faulty)), (λ both. let h = both.0 in cc))

    where_open : (there : Bool) (fault : Option Refusal)
        → (option_or fault (scan there) ≡ None) ↔ ((fault ≡ None) × (there ≡ false))
    where_open true None = ((λ faultless. cc), (λ both. let h = both.1 in cc))
    where_open false None = ((λ faultless. (refl, refl)), (λ both. refl))
    where_open there (Some why) = ((λ faultless. cc), (λ both. let h = both.0 in cc))

    unless_hidden : (why : Refusal) → (why ≡ AccessedUnreadable → ⊥) → (there : Bool) (fault : Option Refusal)
        → (option_or fault (scan there) ≡ Some why) ↔ (fault ≡ Some why)
    unless_hidden why other true None = ((λ faulty. absurd (other (cc faulty))), (λ faulty. cc))
    unless_hidden why other false None = ((λ faulty. faulty), (λ faulty. faulty))
    unless_hidden why other there (Some first) = ((λ faulty. faulty), (λ faulty. faulty))

    as_shards : (why : Refusal) → (why ≡ AccessedUnreadable → ⊥) → (P : Type 0)
        → (range_fault m version range ≡ Some why) ↔ P → (reads m session operation ≡ Err why) ↔ P
    as_shards why other P same = both-ways _ _ _ (reads-refused m session operation transcript opened why)
        (both-ways _ _ _ (unless_hidden why other hidden (range_fault m version range)) same)

    answered_where : ((transition : Transition) × (reads m session operation ≡ Ok transition))
        ↔ (fault_after m transcript operation ≡ None)
    answered_where = (
      (λ accepted. by_fault accepted (fault_after m transcript operation) refl),
      (λ faultless. (_, reads-transition m session operation transcript opened faultless)),
    )
      where
        by_fault : (transition : Transition) × (reads m session operation ≡ Ok transition)
            → (fault : Option Refusal) → fault_after m transcript operation ≡ fault → fault ≡ None
        by_fault accepted None is = refl
        by_fault accepted (Some why) is =
            let refused = (reads-refused m session operation transcript opened why).1 is in
            let ok = accepted.1 in cc
