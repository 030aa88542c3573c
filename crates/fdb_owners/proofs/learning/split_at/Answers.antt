use Rattle.std.proofs.Common.{◌≡◌, refl, true, rules}
use Rattle.fdb_keys.specs.Texts.{is_bound}
use Rattle.fdb_owners.specs.Pieces.{history_at}
use Rattle.fdb_owners.proofs.SplitLemmas.{split-answers, there-answers}
use Rattle.fdb_owners.proofs.learning.split_at.Goals as goal

pub returns-clause-split : goal.returns-clause-split
returns-clause-split c =
    let pieces = c.args.pieces.now in
    let point = c.args.point.now in
    let begin : c.in_ok-begin.begin ≡ point = search rules in
    let history : c.in_ok-history.history ≡ history_at pieces point = search rules in
    let bound : is_bound point ≡ true = search rules in
    split-answers c.put_break.result pieces record { lowest = pieces.lowest; breaks = c.put_break.new.breaks } point
    c.in_ok-begin.begin c.in_ok-history.history bound begin history refl c.put_break.ensures.rising
    c.put_break.ensures.ok c.put_break.ensures.err

pub returns-clause-there : goal.returns-clause-there
returns-clause-there c =
    let begin : c.in_ok-begin.begin ≡ c.args.point.now = search rules in
    there-answers c.put_break.result c.args.pieces.now.breaks.entries c.put_break.new.breaks.entries c.args.point.now
    c.in_ok-begin.begin c.in_ok-history.history begin c.put_break.ensures.ok
