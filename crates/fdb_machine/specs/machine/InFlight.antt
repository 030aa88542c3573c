-- The batches that the commit proxies have in flight.
use Rattle.std.specs.Prelude.{ℕ, length, Option, Some, None, Result, Ok, Err, slice_get, if◌then◌else◌}
use Rattle.fdb_keys.specs.declared.refusal.Refusal.{Refusal}
use Rattle.fdb_keys.specs.declared.refusal.Refusal.TheVariants.{Failed, Unknown, WrongState}
use Rattle.fdb_machine.specs.machine.Roles.{CommitProxy}
use Rattle.fdb_machine.specs.machine.Failures.{State}
use Rattle.fdb_machine.specs.machine.Machine.{Machine, is_set}
use Rattle.fdb_machine.specs.machine.CommitProxySteps.{is_idle}
use Rattle.fdb_machine.specs.declared.in_flight.InFlight.{InFlight}

-- the batch in flight at a commit proxy, which may be none of the machine's
abbrev pub in_flight_on : Machine → Option CommitProxy → Result InFlight Refusal
in_flight_on m None = Err Unknown
in_flight_on m (Some commit_proxy) =
    if is_idle commit_proxy.stage then Err WrongState
    else Ok (record { entry = commit_proxy.entry; resolvers = length m.resolvers; logs = length m.logs })

-- the same of the commit proxy with the number
abbrev pub in_flight_at : Machine → ℕ → Result InFlight Refusal
in_flight_at m proxy = in_flight_on m (slice_get m.commit_proxies proxy)

-- what a world answers: a commit proxy that has failed tells nothing
abbrev pub in_flight : State → ℕ → Result InFlight Refusal
in_flight state proxy =
    if is_set state.failed.commit_proxies proxy then Err Failed else in_flight_at state.machine proxy
