use Rattle.std.proofs.Common.{◌∙◌, ap, ℕ, arith}
use Rattle.fdb_interval.specs.Breakpoints.{Breakpoints, value_from}
use Rattle.fdb_interval.specs.Versions.{version_at}
use Rattle.fdb_interval.proofs.VersionsLemmas.{above, forgotten_twice, joined-higher}
use Rattle.fdb_interval.proofs.last_commit.LastCommit.expire.Goals as goal

pub invariant_of-self : goal.invariant_of-self
invariant_of-self c = (
  c.sweep.ensures.joined
      (joined-higher c.self.inside.floor c.max-self-inside.result 0 c.self.inside.breaks.entries
      (omega (arith, c.max-self-inside.ensures)) c.self.invariant.0),
  c.sweep.ensures.last (omega (arith, c.max-self-inside.ensures, c.self.invariant.1)),
)

pub returns : goal.returns
returns c = λ x.
    let held = value_from 0 c.self.inside.breaks.entries x in
    c.sweep.ensures.versions x
    ∙ ap (λ (n : ℕ). above n held) c.max-self-inside.ensures
    ∙ forgotten_twice c.self.inside.floor c.args.version held
    ∙ ap (λ (last : Breakpoints). above c.args.version (version_at last x)) c.self.view_is
