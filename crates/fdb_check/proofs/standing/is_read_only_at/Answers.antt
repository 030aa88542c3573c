use Rattle.std.proofs.Common.{◌≤◌, length, nat_le, arith}
use Rattle.std.proofs.lemmas.List.Sums.{count_by-le-length}
use Rattle.fdb_txn.specs.declared.entry.Entry.{Entry}
use Rattle.fdb_check.proofs.StandingLemmas.{reads-there, found-means}
use Rattle.fdb_check.proofs.standing.is_read_only_at.Goals as goal

pub returns-clause-ok : goal.returns-clause-ok
returns-clause-ok c splits entries at are not_past =
    let book = c.args.book.now in
    let few = count_by-le-length (λ (entry : Entry). nat_le entry.version c.args.version) book in
    let within : c.args.entries ≤ length book = omega (arith, few, are) in
    let come = c.in_ok-go_to.ensures.ok splits entries at within not_past in
    found-means c.is_read_on.result c.found.result _ _ c.found.ensures.ok c.found.ensures.err c.is_read_on.ensures
    (λ same answers. (
      reads-there splits book c.args.version c.args.entries c.args.transcript.now c.go_to.new.run same entries are come
          c.if-version-transcript.false answers,
      λ yes. come,
    ))
