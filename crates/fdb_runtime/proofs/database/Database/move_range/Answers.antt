use Rattle.std.proofs.Common.{◌≡◌, refl, inl, rules, Err}
use Rattle.fdb_keys.specs.declared.refusal.Refusal.TheVariants.{NoMemory}
use Rattle.fdb_runtime.proofs.database.Database.move_range.Goals as goal

pub returns-in_err-range : goal.returns-in_err-range
returns-in_err-range g c =
    let same : c.from_residual.result ≡ Err NoMemory = search rules in
    rw same (inl refl)
