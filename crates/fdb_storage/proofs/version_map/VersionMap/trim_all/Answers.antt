use Rattle.std.proofs.Common.{◌∙◌, refl}
use Rattle.fdb_storage.proofs.ForgottenLemmas.{forgotten-none, forgotten-then}
use Rattle.fdb_storage.proofs.version_map.VersionMap.trim_all.Goals as goal

pub loop-key-init : goal.loop-key-init
loop-key-init c = record {
  forgotten = forgotten-none c.args.floor c.args.self.now.keys.entries;
  live = refl;
}

pub loop-key-preserved : goal.loop-key-preserved
loop-key-preserved c = record {
  forgotten = forgotten-then c.args.floor c.args.self.now.keys.entries c.loop-key.self.keys.entries
      c.trim.new.self.keys.entries
      c.loop-key.invariant.forgotten c.trim.ensures.forgotten;
  live = c.trim.ensures.live ∙ c.loop-key.invariant.live;
}
