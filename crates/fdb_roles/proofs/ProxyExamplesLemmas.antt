-- Which commit proxies have which entries, computed.
use Rattle.std.proofs.Common.{◌≡◌, ◌∙◌, refl, sym, ap, ap₂, arith, ℕ, suc, le_refl, Bool, true, false, List, [], ◌∷◌}
use Rattle.std.proofs.Common.{slice_get, ◌≤◌}
use Rattle.std.specs.Prelude.{codes}
use Rattle.std.proofs.lemmas.Bool.{true≢false}
use Rattle.std.proofs.lemmas.Option.{same_Some}
use Rattle.fdb_keys.specs.Points.{point_lt}
use Rattle.fdb_keys.specs.Insertion as insertion
use Rattle.fdb_txn.specs.book.Book.{seen_before}
use Rattle.fdb_txn.specs.declared.entry.Entry.{Entry}
use Rattle.fdb_txn.specs.declared.txn_id.TxnId.{TxnId}
use Rattle.fdb_proxy.specs.declared.outcome.Outcome.{Outcome}
use Rattle.fdb_proxy.specs.Logging.{answers_by, is_commit}
use Rattle.fdb_proxy.specs.Verdicts.{outcomes_on}
use Rattle.fdb_roles.specs.SmallBooks.{two_in_one_entry}
use Rattle.fdb_roles.specs.ProxyExamples.{OtherProxiesAreElsewhere, both}

the_entry : Entry
the_entry = record { version = 100; prev = 0; horizon = 0; moves = []; batch = both }

commits_second : List (TxnId × Outcome) → Bool
commits_second [] = false
commits_second (first ∷ []) = false
commits_second (first ∷ second ∷ others) = is_commit second.1

pub other_proxies_are_elsewhere : OtherProxiesAreElsewhere
unfolding point_lt insertion.inserted the_entry commits_second
other_proxies_are_elsewhere = (
  record {
    works = refl;
    logs = refl;
    shard_splits = refl;
    splits = refl;
    owners = λ x v from. refl;
    last = refl;
    stage = refl;
    floor = le_refl 0;
  },
  record {
    works = refl;
    logs = refl;
    shard_splits = refl;
    splits = refl;
    owners = λ x v from. refl;
    last = refl;
    stage = refl;
    floor = le_refl 0;
  },
  (λ at. let wrong : 100 ≡ 0 = at.last in omega (arith, wrong)),
  (λ at. let wrong : 0 ≡ 100 = at.last in omega (arith, wrong)),
  (λ at. true≢false at.works),
  (λ at. let wrong : 1 ≡ 0 = at.owners (codes "a") 0 (le_refl 0) in omega (arith, wrong)),
  (λ at. let wrong : 1 ≤ 0 = at.floor in omega (arith, wrong)),
  record {
    works = refl;
    logs = refl;
    shard_splits = refl;
    splits = refl;
    owners = λ x v from. refl;
    last = refl;
    stage = (
      0,
      the_entry,
      refl,
      record { there = refl; index = refl; version = refl; prev = refl; places = refl; horizon = refl },
      record { answers = refl; count = refl },
    );
    floor = le_refl 0;
  },
  (λ at.
      let first : 0 ≡ at.stage.0 = at.stage.3.index in
      let same : the_entry ≡ at.stage.1 = same_Some the_entry at.stage.1
      (ap (slice_get two_in_one_entry) first ∙ at.stage.3.there) in
      let wrong : true ≡ false = ap commits_second at.stage.4.answers
      ∙ ap₂ (λ (i : ℕ) (e : Entry). commits_second (answers_by e.batch
      (outcomes_on [] (seen_before two_in_one_entry i) e))) (sym first) (sym same) in
      true≢false wrong),
  (λ at.
      let first : 0 ≡ at.stage.0 = at.stage.3.index in
      let count : 2 ≡ suc at.stage.0 = at.stage.2 in
      omega (arith, first, count)),
)
