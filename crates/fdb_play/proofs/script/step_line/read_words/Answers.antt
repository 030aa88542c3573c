use Rattle.fdb_play.proofs.script.step_line.read_words.Goals as goal

pub returns-in-Get : goal.returns-in-Get
returns-in-Get c = rw c.in-Get.is c.read_get.ensures

pub returns-in-SnapshotGet : goal.returns-in-SnapshotGet
returns-in-SnapshotGet c = rw c.in-SnapshotGet.is c.read_get-in-SnapshotGet.ensures

pub returns-in-Range : goal.returns-in-Range
returns-in-Range c = rw c.in-Range.is c.read_range.ensures

pub returns-in-SnapshotRange : goal.returns-in-SnapshotRange
returns-in-SnapshotRange c = rw c.in-SnapshotRange.is c.read_range-in-SnapshotRange.ensures
