-- The mutations for each log, to which one mutation more is given.
use Rattle.std.specs.Prelude.{◌≡◌, ◌<◌, ℕ, List, [], ◌∷◌, ◌++◌, filter}
use Rattle.fdb_log.specs.declared.message.Tagged.{Tagged}
use Rattle.fdb_log.specs.Places.{list_at}
use Rattle.fdb_storage.specs.LogMessages.{is_for_log}

-- the list of each log, of so many, has the mutation at its end where the log keeps one of its tags
abbrev pub AreGiven : ℕ → Tagged → (old new : List (List Tagged)) → Type 0
AreGiven logs sent old new =
    (log : ℕ) → log < logs
    → list_at new log ≡ list_at old log ++ filter (is_for_log logs log) (sent ∷ [])
