-- When a simulated run went right.
use Rattle.std.specs.Prelude.{◌==◌, ◌&&◌, Bool}
use Rattle.fdb_simulate.specs.declared.tally.Tally.{Tally}

-- Nobody waits in the end, no read version is early, nothing that was refused as having no effect has one, each answer
-- is explained, each acknowledged transaction is serialized where its receipt says, and there is a record.
abbrev pub is_right : Tally → Bool
is_right it =
    it.waiting == 0 && it.early == 0 && it.found == 0 && it.unexplained == 0 && it.checked == it.acknowledged
    && it.is_recorded
