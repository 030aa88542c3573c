-- What the headline's own words refuse, computed.
use Rattle.std.proofs.Common.{◌≡◌, ◌∙◌, ◌≤◌, sym, ap, refl, subst, arith, ℕ, zero, suc, Bool, true, false, List}
use Rattle.std.proofs.Common.{[], ◌∷◌, Option, Some, None, length, slice_get}
use Rattle.std.specs.Prelude.{codes, ◌==◌, ◌-◌}
use Rattle.std.specs.List.{count_by}
use Rattle.std.proofs.lemmas.Bool.{eqb-true}
use Rattle.std.specs.FinMap.{get, empty, get-empty}
use Rattle.std.specs.Ordering.{nat_cmp}
use Rattle.std.specs.Cmp.Lexicographic.{slice_cmp}
use Rattle.fdb_keys.specs.Points.{point_lt}
use Rattle.fdb_keys.specs.Insertion as insertion
use Rattle.fdb_keys.specs.Ranges.{Range}
use Rattle.fdb_txn.specs.Limits.{window}
use Rattle.fdb_mutations.specs.declared.mutation.Mutation.{Mutation}
use Rattle.fdb_mutations.specs.declared.mutation.Mutation.TheVariants.{Set}
use Rattle.fdb_txn.specs.book.Book.{Place, head_at, placed}
use Rattle.fdb_txn.specs.book.Transactions.{Transaction}
use Rattle.fdb_txn.specs.rules.Admission.{committed}
use Rattle.fdb_storage.specs.Shards.{Shard}
use Rattle.fdb_client.specs.declared.program.Reply.TheVariants as reply
use Rattle.fdb_client.specs.Programs.{commit_request_of}
use Rattle.fdb_roles.specs.SmallBooks.{reads_and_sets}
use Rattle.fdb_roles.specs.Serving.{ShardServes}
use Rattle.fdb_roles.specs.Spots.{spot_version, IsAfterVersion}
use Rattle.fdb_roles.specs.declared.placed.Placed.{Placed}
use Rattle.fdb_machine.specs.headline.Books.{AnswersOnce}
use Rattle.fdb_machine.specs.headline.Examples.{read_alone, two_sessions, one_commits}
use Rattle.fdb_machine.specs.headline.FailureExamples.{parted}
use Rattle.fdb_machine.specs.headline.HeadlineExamples.{OnlyTheCommittedAreSerialized, OnlyTheAskedForIsSerialized}
use Rattle.fdb_machine.specs.headline.HeadlineExamples.{LaterWritersAreAfter, wrote, EachLogCounts, NobodyIsToldTwice}
use Rattle.fdb_machine.specs.headline.HeadlineExamples.{SessionsAreAtOnePlace, EachShardServes, shard_with}
use Rattle.fdb_machine.specs.headline.HeadlineExamples.{something_at_z}
use Rattle.fdb_machine.specs.headline.Readings.{nothing_read, readings_of}
use Rattle.fdb_machine.specs.headline.RealTime.{AreAfterEarlier}
use Rattle.fdb_machine.specs.headline.Serving.{AllServe}
use Rattle.fdb_machine.specs.machine.Sessions.{Idle, Asking, Waiting}

-- the place of the first transaction in an entry at the version
abbrev first_at : ℕ → Place
first_at version = placed (head_at version (version - window) []) 0 (commit_request_of (reads_and_sets 0 None))

-- the empty map has nothing at a key
pub nothing_at : (key : List ℕ) → get {X = List ℕ} {R = slice_cmp nat_cmp} empty key ≡ None
nothing_at key = get-empty {X = List ℕ} (slice_cmp nat_cmp) key

pub only_the_committed_are_serialized : OnlyTheCommittedAreSerialized
unfolding point_lt insertion.inserted
only_the_committed_are_serialized = (
  (
    (first_at 5000000, []),
    refl,
    refl,
    refl,
    refl,
    ((λ write. refl), ((λ read. ap reply.Value (sym (nothing_at (codes "a")))), tt)),
  ),
  (λ stands.
      let same : Path (Place × List Place) (first_at 5000001, []) stands.0 = cc (stands.1) in
      let wrong : false ≡ true = subst (λ (found : Place × List Place). committed [] found.1 found.0 ≡ true) (sym same)
      stands.4 in cc),
)

-- the first code of a text, of the value that the first mutation sets, and of the point at which the first range begins
abbrev pub code_of : List ℕ → ℕ
code_of [] = 0
code_of (code ∷ others) = code

abbrev value_code : List Mutation → ℕ
value_code (Set key value ∷ mutations) = code_of value
value_code mutations = 0

abbrev begin_code : List Range → ℕ
begin_code [] = 0
begin_code (range ∷ ranges) = code_of range.begin

pub only_the_asked_for_is_serialized : OnlyTheAskedForIsSerialized
unfolding point_lt insertion.inserted
only_the_asked_for_is_serialized = (
  (
    (first_at 100, []),
    refl,
    refl,
    refl,
    refl,
    ((λ write. refl), ((λ read. ap reply.Value (sym (nothing_at (codes "a")))), tt)),
  ),
  (λ stands. let wrong : 49 ≡ 50 = by (λ t. value_code t.mutations) stands.0 stands.1 _ stands.3 in
      omega (arith, wrong)),
  (λ stands. let wrong : 97 ≡ 98 = by (λ t. begin_code t.reads) stands.0 stands.1 _ stands.3 in omega (arith, wrong)),
  (λ stands. let wrong : 1 ≡ 2 = by (λ t. length t.writes) stands.0 stands.1 _ stands.3 in omega (arith, wrong)),
  (λ stands. let wrong : 0 ≡ 1 = by (λ t. t.read) stands.0 stands.1 _ stands.3 in omega (arith, wrong)),
)
  where
    -- the transaction at the place is the first one
    by : (of : Transaction → ℕ) (there : Place × List Place)
        → Path (Option (Place × List Place)) (Some (first_at 100, [])) (Some there)
        → (asked : Transaction) → there.0.transaction ≡ asked → of (first_at 100).transaction ≡ of asked
    by of there is asked same =
        let found : Path (Place × List Place) (first_at 100, []) there = cc is in
        ap (λ (at : Place × List Place). of at.0.transaction) found ∙ ap of same

pub later_writers_are_after : LaterWritersAreAfter
later_writers_are_after = (
  later,
  (λ after. let reads = (after 0 1 (read_alone 5 100) (wrote 6 99 200) refl refl (λ begun. omega (arith, begun))).0 in
      omega (arith, reads)),
  (λ after. let stands = (after 0 1 (read_alone 5 100) (wrote 6 100 100) refl refl (λ begun. omega (arith, begun))).1 in
      omega (arith, stands)),
)
  where
    both : (one other later : Placed) → read_alone 5 100 ≡ one → later ≡ other
        → (100 ≤ later.transcript.read_version) × IsAfterVersion 100 later.spot
        → (spot_version one.spot ≤ other.transcript.read_version) × IsAfterVersion (spot_version one.spot) other.spot
    both one other later first second is =
        subst (λ (p : Placed). (spot_version p.spot ≤ other.transcript.read_version)
        × IsAfterVersion (spot_version p.spot) other.spot) first
        (subst (λ (p : Placed). (100 ≤ p.transcript.read_version) × IsAfterVersion 100 p.spot) second is)

    later : AreAfterEarlier (record nothing_read { acknowledged = read_alone 5 100 ∷ [] })
        (record nothing_read { acknowledged = read_alone 5 100 ∷ wrote 6 100 200 ∷ [] })
    later zero zero one other at_one at_other fresh =
        let first : read_alone 5 100 ≡ one = cc in
        let second : read_alone 5 100 ≡ other = cc in
        both one other (read_alone 5 100) first second (omega arith, omega arith)
    later zero (suc zero) one other at_one at_other fresh =
        let first : read_alone 5 100 ≡ one = cc in
        let second : wrote 6 100 200 ≡ other = cc in
        both one other (wrote 6 100 200) first second (omega arith, omega arith)
    later zero (suc (suc j)) one other at_one at_other fresh = cc
    later (suc i) j one other at_one at_other fresh = cc

pub each_log_counts : EachLogCounts
each_log_counts = (
  (omega arith, (omega arith, tt)),
  (λ all. let wrong = all.1.0 in omega (arith, wrong)),
  (λ all. let wrong = all.0 in omega (arith, wrong)),
  (λ all. let wrong = all.0 in omega (arith, wrong)),
  tt,
)

pub nobody_is_told_twice : NobodyIsToldTwice
nobody_is_told_twice = (
  once,
  (λ once. let wrong = once 0 in omega (arith, wrong)),
  each_once,
  (λ once. let wrong = once 1 in omega (arith, wrong)),
)
  where
    once : AnswersOnce (readings_of two_sessions one_commits)
    once entry = by_test (0 == entry) refl
      where
        by_test : (is : Bool) → (0 == entry) ≡ is → count_by (λ (other : ℕ). other == entry) (0 ∷ []) ≤ 1
        by_test true at = rw at (omega arith)
        by_test false at = rw at (omega arith)

    each_once : AnswersOnce (record nothing_read { answered = 1 ∷ 0 ∷ [] })
    each_once entry = by_test (1 == entry) (0 == entry) refl refl
      where
        by_test : (one zero : Bool) → (1 == entry) ≡ one → (0 == entry) ≡ zero
            → count_by (λ (other : ℕ). other == entry) (1 ∷ 0 ∷ []) ≤ 1
        by_test true true at_one at_zero =
            absurd (omega (arith, eqb-true 1 entry at_one, eqb-true 0 entry at_zero))
        by_test true false at_one at_zero = rw at_one (rw at_zero (omega arith))
        by_test false true at_one at_zero = rw at_one (rw at_zero (omega arith))
        by_test false false at_one at_zero = rw at_one (rw at_zero (omega arith))

pub sessions_are_at_one_place : SessionsAreAtOnePlace
sessions_are_at_one_place = (
  record {
    asks = ((λ is. refl), (λ is. refl));
    waits = ((λ is. cc), (λ is. cc));
    once = omega arith;
  },
  record {
    asks = ((λ is. cc), (λ is. cc));
    waits = ((λ is. refl), (λ is. refl));
    once = omega arith;
  },
  record {
    asks = ((λ is. cc), (λ is. cc));
    waits = ((λ is. refl), (λ is. refl));
    once = omega arith;
  },
  record {
    asks = ((λ is. cc), (λ is. cc));
    waits = ((λ is. cc), (λ is. cc));
    once = omega arith;
  },
  (λ is. let wrong = is.once in omega (arith, wrong)),
  (λ is. let wrong = is.once in omega (arith, wrong)),
  (λ is. let wrong = is.once in omega (arith, wrong)),
  (λ is. let wrong = is.once in omega (arith, wrong)),
  (λ is. let wrong = is.once in omega (arith, wrong)),
  (λ is. let wrong : Idle ≡ Asking = is.asks.1 refl in cc),
  (λ is. let wrong : Idle ≡ Waiting = is.waits.1 refl in cc),
  (λ is. let wrong : false ≡ true = is.asks.0 refl in cc),
  (λ is. let wrong : false ≡ true = is.waits.0 refl in cc),
)

pub each_shard_serves : EachShardServes
unfolding point_lt
each_shard_serves = (
  (refl, served),
  refuses,
  (λ all. let wrong : 1 ≡ 2 = all.0 in omega (arith, wrong)),
  (λ system shows is. refuses (subst (λ (shards : List Shard). AllServe parted [] shards) shows is.served)),
)
  where
    nothing : (i : ℕ) → ShardServes parted [] i (shard_with i [])
    nothing i works v x from until inside = sym (nothing_at x)

    served : (i : ℕ) (shard : Shard) → slice_get (shard_with 0 [] ∷ shard_with 1 [] ∷ []) i ≡ Some shard
        → ShardServes parted [] i shard
    served zero shard at =
        let same : shard_with 0 [] ≡ shard = cc in subst (λ (s : Shard). ShardServes parted [] 0 s) same (nothing 0)
    served (suc zero) shard at =
        let same : shard_with 1 [] ≡ shard = cc in subst (λ (s : Shard). ShardServes parted [] 1 s) same (nothing 1)
    served (suc (suc i)) shard at = cc

    refuses : AllServe parted [] (shard_with 0 [] ∷ shard_with 1 something_at_z ∷ []) → ⊥
    refuses all =
        let serves = all.1 1 (shard_with 1 something_at_z) refl in
        let something = serves refl 0 (codes "z") (omega arith) (omega arith) refl in
        let wrong : Some (codes "1") ≡ None = something ∙ nothing_at (codes "z") in cc
