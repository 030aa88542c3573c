use Rattle.fdb_machine.proofs.headline.HeadlineExamplesLemmas.{each_log_counts, each_shard_serves}
use Rattle.fdb_machine.proofs.headline.HeadlineExamplesLemmas.{later_writers_are_after}
use Rattle.fdb_machine.proofs.headline.HeadlineExamplesLemmas.{nobody_is_told_twice, only_the_asked_for_is_serialized}
use Rattle.fdb_machine.proofs.headline.HeadlineExamplesLemmas.{only_the_committed_are_serialized}
use Rattle.fdb_machine.proofs.headline.HeadlineExamplesLemmas.{sessions_are_at_one_place}
use Rattle.fdb_machine.proofs.laws.worked_headline.Goals as goal

pub returns : goal.returns
returns c = record {
  committed = only_the_committed_are_serialized;
  asked_for = only_the_asked_for_is_serialized;
  after = later_writers_are_after;
  logged = each_log_counts;
  told = nobody_is_told_twice;
  places = sessions_are_at_one_place;
  shards = each_shard_serves;
}
