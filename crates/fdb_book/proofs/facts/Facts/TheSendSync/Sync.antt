use denote.RattleType.{RattleType}
use denote.Struct.Owning.{shape}
use denote.Struct.Struct.{Struct}
use denote.Param.Send.{IsSync, sendable}
use Rattle.fdb_book.specs.contracts.facts.Facts.{the_row, the_type}
use Rattle.fdb_book.proofs.Known.{all_keyless}

pub sync : (T : RattleType) → IsSync (the_row T)
sync T = let fields : IsSync (Struct (shape (the_type T))) = search sendable depth 20 in
    record { shared = λ f b o κ. (fields.shared (tt, tt) b o κ, all_keyless T f.known) }
