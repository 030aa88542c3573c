use Rattle.fdb_layers.proofs.PagesLemmas.{walked}
use Rattle.fdb_layers.proofs.reads.next_page.Goals as goal

pub returns-clause-reads : goal.returns-clause-reads
returns-clause-reads g c = (walked g.B.ClusterName.config.resolver_splits c.args.session.now c.next_page.new.session
    c.args.pages.now c.requires.some c.requires.unwritten c.next_page.new.self c.in_ok-page.page
    c.in_ok-page.ensures.page).0

pub returns-clause-page : goal.returns-clause-page
returns-clause-page g c = (walked g.B.ClusterName.config.resolver_splits c.args.session.now c.next_page.new.session
    c.args.pages.now c.requires.some c.requires.unwritten c.next_page.new.self c.in_ok-page.page
    c.in_ok-page.ensures.page).1.are

pub returns-clause-fewer : goal.returns-clause-fewer
returns-clause-fewer g c = (walked g.B.ClusterName.config.resolver_splits c.args.session.now c.next_page.new.session
    c.args.pages.now c.requires.some c.requires.unwritten c.next_page.new.self c.in_ok-page.page
    c.in_ok-page.ensures.page).1.fewer
