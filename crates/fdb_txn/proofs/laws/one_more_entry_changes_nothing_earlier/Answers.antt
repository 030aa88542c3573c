use Rattle.fdb_txn.proofs.book.HistoryLemmas.{earlier_places_stay, earlier_maps_stay, entries_go_on, horizons_part}
use Rattle.fdb_txn.proofs.laws.one_more_entry_changes_nothing_earlier.Goals as goal

pub returns : goal.returns
returns c = record {
  places = earlier_places_stay;
  maps = earlier_maps_stay;
  entries = entries_go_on;
  horizons = horizons_part;
}
