-- The examples compute.
use Rattle.std.proofs.Common.{◌≡◌, ◌∙◌, ◌≤◌, sym, ap, refl, subst, arith, ⊎_elim, inl, ℕ, zero, suc, true, false, List}
use Rattle.std.proofs.Common.{[], ◌∷◌, Some, None, Result, Ok, length}
use Rattle.std.specs.Prelude.{codes}
use Rattle.std.specs.FinMap.{get, empty, get-empty}
use Rattle.std.specs.Ordering.{nat_cmp}
use Rattle.std.specs.Cmp.Lexicographic.{slice_cmp}
use Rattle.fdb_keys.specs.declared.refusal.Refusal.{Refusal}
use Rattle.fdb_keys.specs.Points.{point_lt}
use Rattle.fdb_keys.specs.Insertion as insertion
use Rattle.fdb_keys.specs.Ranges.{Range}
use Rattle.fdb_mutations.specs.Maps.{Map}
use Rattle.fdb_mutations.specs.Mutations.{effects}
use Rattle.fdb_mutations.specs.Pairs.{first_of}
use Rattle.fdb_mutations.specs.PairLaws.{given_of}
use Rattle.fdb_mutations.specs.declared.mutation.Mutation.{Mutation}
use Rattle.fdb_mutations.specs.declared.mutation.Mutation.TheVariants.{Clear}
use Rattle.fdb_mutations.proofs.Exports.{no_values}
use Rattle.fdb_txn.specs.declared.tag_msg.TagMsg.{TagMsg}
use Rattle.fdb_txn.specs.book.Transactions.{Transaction}
use Rattle.fdb_txn.specs.book.Book.{Place, head_at, placed}
use Rattle.fdb_txn.specs.rules.SerialMap.{serial_map}
use Rattle.fdb_txn.specs.rules.Splits.{piece}
use Rattle.fdb_txn.specs.rules.Admission.{committed}
use Rattle.fdb_txn.proofs.Exports.{get-effects}
use Rattle.fdb_client.specs.declared.program.Reply.TheVariants as reply
use Rattle.fdb_client.specs.Programs.{commit_request_of}
use Rattle.fdb_roles.specs.SmallBooks.{reads_and_sets, plain, set_and_cleared, from_to}
use Rattle.fdb_roles.specs.Spots.{spot_version, IsAfterVersion, AnsweredOn}
use Rattle.fdb_roles.specs.Serving.{ShardServes}
use Rattle.fdb_roles.specs.declared.placed.Placed.{Placed}
use Rattle.fdb_machine.specs.headline.Examples.{OnlyTheFirstIsSerialized, ReadOnlyAtItsVersion, AfterAVersion}
use Rattle.fdb_machine.specs.headline.Examples.{OnlyOrdinaryReadsCount, BegunByServing, ForgetfulRolesDoNotKeep}
use Rattle.fdb_machine.specs.headline.Examples.{empty_part, ReadOffTheTrace, one_asks, Traced, ShardsGoOnAndForget}
use Rattle.fdb_machine.specs.headline.Examples.{EachServedVersionCounts, read_alone}
use Rattle.fdb_machine.specs.headline.ReadingExamples.{EachOperationIsNoted, ReadAtTwoProxies, ReadOffTheRoles}
use Rattle.fdb_machine.specs.headline.Readings.{nothing_read}
use Rattle.fdb_machine.specs.headline.RealTime.{AreAfterEarlier}
use Rattle.fdb_machine.specs.machine.GrvProxySteps.{asks, grants}
use Rattle.fdb_machine.specs.machine.Failures.{none_failed}
use Rattle.fdb_machine.specs.machine.Machine.{Transition}
use Rattle.fdb_machine.specs.machine.RoleSteps.{pulls, forgets, pops}
use Rattle.fdb_machine.specs.machine.Sessions.{Session}
use Rattle.fdb_machine.specs.machine.Steps.{answer_of, after}
use Rattle.fdb_machine.specs.machine.Worlds.{start}
use Rattle.fdb_machine.specs.declared.step.Answered.TheVariants as answered

-- the two places of the entry
abbrev first : Place
first = placed (head_at 100 0 []) 0 (commit_request_of (reads_and_sets 0 None))

abbrev second : Place
second = placed (head_at 100 0 []) 1 (commit_request_of (reads_and_sets 1 None))

-- the empty map has nothing at a key
nothing_there : get {X = List ℕ} {R = slice_cmp nat_cmp} empty (codes "a") ≡ None
nothing_there = get-empty {X = List ℕ} (slice_cmp nat_cmp) (codes "a")

-- a value is not none
different : reply.Value (Some (codes "1")) ≡ reply.Value None → ⊥
different told = cc

pub only_the_first_is_serialized : OnlyTheFirstIsSerialized
unfolding point_lt insertion.inserted
only_the_first_is_serialized = (
  ((first, []), refl, refl, refl, refl, ((λ write. refl), ((λ read. ap reply.Value (sym nothing_there)), tt))),
  (λ stands.
      let same : Path (Place × List Place) (second, first ∷ []) stands.0 = cc (stands.1) in
      omega (
        arith,
        ap (λ (found : Place × List Place). found.0.transaction.id.session) same
            ∙ ap (λ (t : Transaction). t.id.session) stands.3,
      )),
  (λ stands.
      let same : Path (Place × List Place) (first, []) stands.0 = cc (stands.1) in
      omega (arith, ap (λ (found : Place × List Place). found.0.version) same ∙ stands.2)),
  (λ stands.
      let same : Path (Place × List Place) (first, []) stands.0 = cc (stands.1) in
      let answers = subst
      (λ (found : Place × List Place). AnsweredOn (serial_map [] found.1) (reads_and_sets 0 (Some (codes "1"))))
      (sym same) stands.5 in
      let told : reply.Value (Some (codes "1")) ≡ reply.Value None = answers.1.0 refl
      ∙ ap reply.Value nothing_there in different told),
  (λ stands.
      let same : Path (Place × List Place) (second, first ∷ []) stands.0 = cc (stands.1) in
      let wrong : false ≡ true = subst (λ (found : Place × List Place). committed [] found.1 found.0 ≡ true) (sym same)
      stands.4 in cc),
)

pub read_only_at_its_version : ReadOnlyAtItsVersion
unfolding point_lt insertion.inserted
read_only_at_its_version = (
  (refl, (refl, refl), tt),
  (λ stands. omega (arith, stands.0)),
  (refl, (refl, refl), tt),
  (λ all. let reached = all.0.1 in omega (arith, reached)),
  (λ stands. cc (stands.1.0)),
  (λ stands. let wrong : 1 ≡ 0 = ap (λ (ranges : List Range). length ranges) stands.1.1 in omega (arith, wrong)),
  (λ stands. omega (arith, stands.0)),
  (refl, (refl, refl), ((λ read. ap reply.Value (sym nothing_there)), tt)),
  (λ stands. let told : reply.Value (Some (codes "1")) ≡ reply.Value None = stands.2.0 refl
      ∙ ap reply.Value nothing_there in
      different told),
)

pub only_ordinary_reads_count : OnlyOrdinaryReadsCount
only_ordinary_reads_count = (
  ((λ snapshot. cc), tt),
  ((λ read. ap reply.Value (sym nothing_there)), tt),
  (λ answers. let told : reply.Value (Some (codes "1")) ≡ reply.Value None = answers.0 refl
      ∙ ap reply.Value nothing_there in
      different told),
  ((λ snapshot. cc), tt),
  ((λ read. ap reply.Pairs (sym no_pairs)), tt),
  (λ answers. let told : reply.Pairs ((codes "b", codes "1") ∷ []) ≡ reply.Pairs [] = answers.0 refl
      ∙ ap reply.Pairs no_pairs in
      some_pairs told),
)
  where
    -- the empty map has nothing in the range
    no_pairs : given_of empty (from_to (codes "a") (codes "c")) 9 false ≡ []
    no_pairs = ap (first_of 9)
        (no_values empty (from_to (codes "a") (codes "c")) false
        (λ x inside. get-empty {X = List ℕ} (slice_cmp nat_cmp) x))

    some_pairs : reply.Pairs ((codes "b", codes "1") ∷ []) ≡ reply.Pairs [] → ⊥
    some_pairs told = cc

pub begun_by_serving : BegunByServing
begun_by_serving = (omega arith, (λ begun. omega (arith, begun)), (λ begun. omega (arith, begun)))

pub forgetful_roles_do_not_keep : ForgetfulRolesDoNotKeep
unfolding point_lt insertion.inserted
forgetful_roles_do_not_keep = (
  (λ state. let never : false ≡ true = state (codes "a") 0 (omega arith) in cc),
  (λ keeps. let wrong : 0 ≡ 1 = keeps.0 in omega (arith, wrong)),
  (λ keeps.
      let part = (keeps.1 0 _ _ refl refl).each 0 empty_part refl in
      ⊎_elim (λ asked. cc (asked.1.2)) (λ unasked. let wrong : true ≡ false = unasked.0 in cc) part.items),
  (λ keeps. let wrong : 0 ≡ 1 = ap sent_of ((keeps refl).kept 0 refl) in omega (arith, wrong)),
)
  where
    sent_of : List TagMsg → ℕ
    sent_of [] = 0
    sent_of (message ∷ messages) = length message.body

pub each_operation_is_noted : EachOperationIsNoted
each_operation_is_noted = refl

pub read_at_two_proxies : ReadAtTwoProxies
read_at_two_proxies = (refl, refl, refl, refl, refl, refl, refl, refl, refl, refl, refl, refl, refl)

pub read_off_the_trace : ReadOffTheTrace
read_off_the_trace = (refl, refl, refl, refl, refl, refl)

pub after_a_version : AfterAVersion
after_a_version = (
  (λ after. omega (arith, after)),
  omega arith,
  (λ after. omega (arith, after)),
  omega arith,
  later_at_100,
  (λ after. let reads = (after 0 1 (read_alone 5 100) (read_alone 6 99) refl refl (λ begun. omega (arith, begun))).0 in
      omega (arith, reads)),
)
  where
    both_at_100 : (session : ℕ) (one other : Placed) → read_alone 5 100 ≡ one → read_alone session 100 ≡ other
        → (spot_version one.spot ≤ other.transcript.read_version) × IsAfterVersion (spot_version one.spot) other.spot
    both_at_100 session one other first second =
        subst (λ (p : Placed). (spot_version p.spot ≤ other.transcript.read_version)
        × IsAfterVersion (spot_version p.spot) other.spot) first
        (subst (λ (p : Placed). (100 ≤ p.transcript.read_version) × IsAfterVersion 100 p.spot) second
        (omega arith, omega arith))

    later_at_100 : AreAfterEarlier (record nothing_read { acknowledged = read_alone 5 100 ∷ [] })
        (record nothing_read { acknowledged = read_alone 5 100 ∷ read_alone 6 100 ∷ [] })
    later_at_100 zero zero one other at_one at_other fresh =
        let first : read_alone 5 100 ≡ one = cc in
        let second : read_alone 5 100 ≡ other = cc in
        both_at_100 5 one other first second
    later_at_100 zero (suc zero) one other at_one at_other fresh =
        let first : read_alone 5 100 ≡ one = cc in
        let second : read_alone 6 100 ≡ other = cc in
        both_at_100 6 one other first second
    later_at_100 zero (suc (suc j)) one other at_one at_other fresh = cc
    later_at_100 (suc i) j one other at_one at_other fresh = cc

pub each_served_version_counts : EachServedVersionCounts
unfolding point_lt insertion.inserted
each_served_version_counts = (cleared, still_serves)
  where
    sets : Map
    sets = effects empty (commit_request_of (reads_and_sets 0 None)).mutations

    clears : List Mutation
    clears = Clear (codes "a") ∷ []

    cleared : None ≡ get (effects sets clears) (codes "a")
    cleared = sym (get-effects sets clears (codes "a"))

    still_serves : ShardServes plain set_and_cleared 0 (record {
      tag = 0;
      range = piece [] 0;
      version = 200;
      floor = 100;
      is_failed = false;
      keys = [];
    }) → ⊥
    still_serves serves =
        let nothing = serves refl 100 (codes "a") (omega arith) (omega arith) refl in
        let something : get sets (codes "a") ≡ Some (codes "1") =
        get-effects empty (commit_request_of (reads_and_sets 0 None)).mutations (codes "a") in
        let wrong : None ≡ Some (codes "1") = nothing ∙ something in cc

-- a session that began nothing yet asks
one-asks : asks (start plain) 5 0 ≡ Ok (record { answer = answered.Done; next = one_asks })
unfolding asks
one-asks = rw (get-empty {X = Session} nat_cmp 5) refl

pub traced : Traced
unfolding grants
traced = (
  refl,
  ap (after (start plain)) one-asks,
  (
    _,
    inl (
      sym (ap answer_of one-asks),
      ap (λ (result : Result Transition Refusal). record
          { machine = after (start plain) result; failed = none_failed plain }) (sym one-asks),
    ),
    refl,
  ),
  (λ world stands. ⊎_elim (λ went. let wrong = went.0 in cc) (λ lacked. let wrong = lacked.0 in cc) stands.1),
  (λ world stands. ⊎_elim (λ went. let wrong = went.0 in cc) (λ lacked. let wrong = lacked.0 in cc) stands.1),
)

pub shards_go_on_and_forget : ShardsGoOnAndForget
unfolding pulls forgets pops
shards_go_on_and_forget = (refl, refl, refl, refl, refl, refl, refl, refl)

pub read_off_the_roles : ReadOffTheRoles
read_off_the_roles = (
  refl,
  refl,
  refl,
  refl,
  refl,
  refl,
  refl,
  refl,
  refl,
  refl,
  refl,
  refl,
  refl,
  refl,
  refl,
  refl,
  refl,
  refl,
  refl,
  refl,
  refl,
  refl,
  refl,
  refl,
  refl,
  refl,
  refl,
  refl,
  refl,
  refl,
)
