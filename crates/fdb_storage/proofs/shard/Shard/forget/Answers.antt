use Rattle.std.proofs.Common.{arith, sym, subst}
use Rattle.fdb_storage.specs.VersionMaps.{HaveLive}
use Rattle.fdb_storage.proofs.LiveLemmas.{live-forgotten}
use Rattle.fdb_storage.proofs.shard.Shard.forget.Goals as goal

pub invariant_of-self : goal.invariant_of-self
invariant_of-self c = record {
  serves = omega (arith, c.self.invariant.serves);
  within = λ works. c.forget.ensures.forgotten.end_by c.self.inside.version (c.self.invariant.within works);
  legal_keys = λ works. c.forget.ensures.forgotten.legal_keys (c.self.invariant.legal_keys works);
  live = λ works.
      subst (λ (live : _). HaveLive c.forget.new.self.keys.entries live.keys) (sym c.forget.ensures.live)
      (live-forgotten _ c.self.inside.version c.self.inside.map.keys.entries c.forget.new.self.keys.entries
      c.self.inside.map.live.keys (omega (arith, c.self.invariant.serves)) (c.self.invariant.within works)
      c.forget.ensures.forgotten (c.self.invariant.live works));
}
