use Rattle.std.proofs.Common.{◌∙◌, refl}
use Rattle.fdb_storage.proofs.ForgottenLemmas.{forgotten-none, forgotten-then}
use Rattle.fdb_storage.proofs.version_map.VersionMap.forget.Goals as goal

pub loop-count-init : goal.loop-count-init
loop-count-init c = record {
  forgotten = forgotten-none c.args.floor c.args.self.now.keys.entries;
  live = refl;
}

pub loop-count-preserved : goal.loop-count-preserved
loop-count-preserved c = record {
  forgotten = forgotten-then c.args.floor c.args.self.now.keys.entries c.loop-count.self.keys.entries
      c.trim_all.new.self.keys.entries
      c.loop-count.invariant.forgotten c.trim_all.ensures.forgotten;
  live = c.trim_all.ensures.live ∙ c.loop-count.invariant.live;
}
