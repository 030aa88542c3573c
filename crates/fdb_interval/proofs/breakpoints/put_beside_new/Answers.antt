use Rattle.std.proofs.Common.{◌≡◌, ◌∙◌, rules}
use Rattle.fdb_interval.proofs.PartsLemmas.{put, taken, taken_back}
use Rattle.fdb_interval.proofs.breakpoints.put_beside_new.Goals as goal

pub returns-in-Err-clause-err : goal.returns-in-Err-clause-err
returns-in-Err-clause-err c =
    let entries = c.args.breaks.now.entries in
    let end = c.args.end in
    let removed : c.remove.new.self.entries ≡ taken end (put end c.args.behind entries) = search rules in
    removed ∙ taken_back entries end c.args.behind c.requires
