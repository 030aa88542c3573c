-- Joined breakpoints: those of a part, and of two parts.
use Rattle.std.proofs.Common.{ℕ, [], ◌∷◌, ◌++◌}
use Rattle.fdb_interval.specs.Breakpoints.{Breaks, last_value, AreJoined}

pub joined-front : (floor before : ℕ) (es fs : Breaks ℕ) → AreJoined floor before (es ++ fs) → AreJoined floor before es
joined-front floor before [] fs joined = tt
joined-front floor before (e ∷ es) fs joined = (joined.0, joined-front floor e.1 es fs joined.1)

pub joined-back : (floor before : ℕ) (es fs : Breaks ℕ) → AreJoined floor before (es ++ fs)
    → AreJoined floor (last_value before es) fs
joined-back floor before [] fs joined = joined
joined-back floor before (e ∷ es) fs joined = joined-back floor e.1 es fs joined.1

pub joined-both : (floor before : ℕ) (es fs : Breaks ℕ) → AreJoined floor before es
    → AreJoined floor (last_value before es) fs → AreJoined floor before (es ++ fs)
joined-both floor before [] fs front back = back
joined-both floor before (e ∷ es) fs front back = (front.0, joined-both floor e.1 es fs front.1 back)
