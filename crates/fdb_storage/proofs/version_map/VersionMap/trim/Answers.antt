use Rattle.fdb_storage.proofs.ForgottenLemmas.{forgotten-then, forgotten-taken}
use Rattle.fdb_storage.proofs.version_map.VersionMap.trim.Goals as goal

pub returns-in-Some-clause-forgotten : goal.returns-in-Some-clause-forgotten
returns-in-Some-clause-forgotten c =
    forgotten-then c.args.floor c.args.self.now.keys.entries c.trim_versions.new.self.keys.entries
    c.remove.new.self.entries c.trim_versions.ensures.forgotten
    (forgotten-taken c.args.floor c.in-Some.emptied c.trim_versions.new.self.keys.entries c.remove.new.self.entries
    c.remove.ensures.updates.0 c.in-Some.ensures.none)
