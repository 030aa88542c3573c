use Rattle.std.proofs.Common.{subst, ℕ, List, []}
use Rattle.std.specs.Option.{unwrap_or}
use Rattle.fdb_keys.specs.Points.{Point}
use Rattle.fdb_layers.specs.Auditing.{AreBut}
use Rattle.fdb_layers.specs.Reads.{pairs_left, run_read}
use Rattle.fdb_layers.proofs.AuditingLemmas.{page-noted}
use Rattle.fdb_layers.proofs.auditing.note_page.Goals as goal

pub returns-clause-after : goal.returns-clause-after
returns-clause-after g c =
    let map = run_read g.B.ClusterName.config.resolver_splits c.args.session.now in
    page-noted map (unwrap_or c.in_ok-page.page []) (pairs_left map c.next_page.new.pages.rest) c.args.amounts.now
    c.after.result c.after.ensures
    (subst (λ (pairs : List (Point × List ℕ)). AreBut map pairs c.args.amounts.now) c.in_ok-page.ensures.page
    c.requires.before)
