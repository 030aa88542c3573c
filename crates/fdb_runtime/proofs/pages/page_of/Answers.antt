use Rattle.std.proofs.Common.{◌∙◌, Ok, refl}
use Rattle.fdb_runtime.proofs.PagesLemmas.{forward, gave}
use Rattle.fdb_runtime.proofs.pages.page_of.Goals as goal

pub rest_behind-requires : goal.rest_behind-requires
rest_behind-requires g c =
    let splits = g.B.DatabaseName.config.resolver_splits in
    let given = c.in_ok-page in
    let read =
    gave splits c.args.range.now c.args.options.limit c.args.options.snapshot c.args.session.now given.page
    c.get_range.new.self (Ok given.page) refl given.ensures.none
    (forward splits c.args.range.now c.args.options.limit c.args.options.reverse c.args.options.snapshot
    c.args.session.now given.page c.get_range.new.self c.requires given.ensures.answered) in
    (read.0, c.as_slice.ensures ∙ read.1)
