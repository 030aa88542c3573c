-- Which sequencers, logs and shards are at which entries, computed.
use Rattle.std.proofs.Common.{◌≡◌, ◌∙◌, refl, arith, Some, None, sym, ap, ℕ, zero, suc, ◌+◌, ◌<◌, ◌≤◌, le_refl, List}
use Rattle.std.proofs.Common.{[], ◌∷◌, length, length-append, true}
use Rattle.std.specs.Prelude.{codes}
use Rattle.std.specs.FinMap.{get, empty}
use Rattle.fdb_keys.specs.Points.{point_lt}
use Rattle.fdb_keys.specs.Insertion as insertion
use Rattle.fdb_mutations.specs.Mutations.{effects}
use Rattle.fdb_txn.specs.declared.tag_msg.TagMsg.{TagMsg}
use Rattle.fdb_txn.specs.rules.Messages.{messages_for}
use Rattle.fdb_txn.specs.rules.Splits.{piece}
use Rattle.fdb_txn.proofs.Exports.{get-effects}
use Rattle.fdb_sequencer.specs.declared.dated.Dated.{Dated}
use Rattle.fdb_log.specs.Logs.{keeps, kept, popped_through}
use Rattle.fdb_log.specs.Messages.{above}
use Rattle.fdb_client.specs.Programs.{commit_request_of}
use Rattle.fdb_roles.specs.SmallBooks.{reads_and_sets, plain, two_in_one_entry}
use Rattle.fdb_roles.specs.RoleExamples.{AnEmptyShardDoesNotServe, OtherSequencersAreElsewhere, OtherLogsAreElsewhere}
use Rattle.fdb_roles.specs.RoleExamples.{OtherShardsAreElsewhere, to_one, popped_to}
use Rattle.fdb_roles.proofs.LogLemmas.{new-shard}
use Rattle.fdb_roles.proofs.TakenLemmas.{kept-tag}
use Rattle.fdb_roles.proofs.StartLemmas.{none-unlearnt}

pub an_empty_shard_does_not_serve : AnEmptyShardDoesNotServe
unfolding point_lt insertion.inserted
an_empty_shard_does_not_serve serves =
    let nothing = serves refl 100 (codes "a") (omega arith) (omega arith) refl in
    let something : get (effects empty (commit_request_of (reads_and_sets 0 None)).mutations) (codes "a") ≡ Some
    (codes "1") =
    get-effects empty (commit_request_of (reads_and_sets 0 None)).mutations (codes "a") in
    let wrong : None ≡ Some (codes "1") = nothing ∙ something in cc

pub other_sequencers_are_elsewhere : OtherSequencersAreElsewhere
other_sequencers_are_elsewhere = (
  record {
    accepted = refl;
    last = refl;
    committed = le_refl 0;
    targets = (omega arith, tt);
    unlearnt = λ proxy. ([], none-unlearnt 1 proxy);
    horizon = refl;
    window = omega arith;
  },
  (λ at. let wrong : 0 ≡ 1 = at.accepted in omega (arith, wrong)),
  (λ at. let wrong : 1 ≤ 0 = at.committed in omega (arith, wrong)),
  (λ at. let wrong = at.targets.0 in omega (arith, wrong)),
  (λ at.
      let last = at.unlearnt 0 in
      let none : length last.0 + 1 ≡ 0 =
      sym (length-append last.0 (record { version = 1; moves = to_one ∷ [] } ∷ []))
      ∙ ap (λ (moves : List Dated). length moves) last.1 in
      omega (arith, none)),
  (λ at. let wrong : 1 ≡ 0 = at.horizon in omega (arith, wrong)),
  (λ at. let wrong : 1 ≤ 0 = at.window in omega (arith, wrong)),
  record {
    accepted = refl;
    last = refl;
    committed = le_refl 0;
    targets = tt;
    unlearnt = λ proxy. ([], none-unlearnt 1 proxy);
    horizon = refl;
    window = le_refl 1;
  },
)

pub other_logs_are_elsewhere : OtherLogsAreElsewhere
unfolding point_lt insertion.inserted
other_logs_are_elsewhere = (
  record {
    number = refl;
    logs = refl;
    tags = refl;
    works = refl;
    last = refl;
    popped = through;
    kept = none;
  },
  (λ at. let wrong : 101 ≤ 100 = at.popped 0 in omega (arith, wrong)),
  (λ at. let wrong : 0 ≡ 1 = ap sent_of (at.kept 0 refl) in omega (arith, wrong)),
)
  where
    sent_of : List TagMsg → ℕ
    sent_of [] = 0
    sent_of (message ∷ messages) = length message.body

    none : (tag : ℕ) → keeps (popped_to 100) tag ≡ true
        → kept (popped_to 100) tag ≡ above (popped_through (popped_to 100) tag)
        (messages_for plain.resolver_splits (piece plain.shard_splits tag) two_in_one_entry)
    none zero keeps_it = refl
    none (suc tag) keeps_it =
        let there : suc tag < 1 = (kept-tag (popped_to 100) (suc tag) keeps_it).0 in
        absurd (omega (arith, there))

    through : (tag : ℕ) → popped_through (popped_to 100) tag ≤ 100
    through zero = le_refl 100
    through (suc tag) = omega arith

pub other_shards_are_elsewhere : OtherShardsAreElsewhere
other_shards_are_elsewhere = (
  new-shard plain 0 _ (record {
    tag = refl;
    range = refl;
    version = refl;
    floor = refl;
    works = refl;
    empty = λ v x. refl;
  }),
  (λ at. let wrong : 1 ≤ 0 = at.serving in omega (arith, wrong)),
  (λ at. an_empty_shard_does_not_serve (λ _. at.serves)),
  (λ at. let wrong : 0 ≡ 100 = at.version in omega (arith, wrong)),
)
