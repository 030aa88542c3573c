use Rattle.std.proofs.Common.{◌≡◌, ◌<◌, true, false, rules}
use Rattle.std.specs.Option.{is_some}
use Rattle.fdb_mutations.specs.Maps.{Map}
use Rattle.fdb_layers.specs.Auditing.{AreBut}
use Rattle.fdb_layers.specs.Reads.{count_left, pairs_left, run_read}
use Rattle.fdb_layers.proofs.AuditingLemmas.{not-over, of-first, of-next, walk-ends, walk-starts}
use Rattle.fdb_layers.proofs.ReadsLemmas.{read-on, unread}
use Rattle.fdb_layers.proofs.auditing.walk.Goals as goal

pub loop-alloc-init : goal.loop-alloc-init
loop-alloc-init g c = record {
  reads = unread c.args.session.now c.requires.unwritten;
  but = walk-starts (run_read g.B.ClusterName.config.resolver_splits c.args.session.now) c.args.pages.now.rest
      c.opening-amounts.result c.requires.begun c.opening-amounts.ensures;
}

pub note_page-requires-clause-unwritten : goal.note_page-requires-clause-unwritten
note_page-requires-clause-unwritten g c = c.loop-alloc.invariant.reads.unwritten

pub note_page-requires-clause-some : goal.note_page-requires-clause-some
note_page-requires-clause-some g c =
    let some : is_some c.loop-alloc.pages.rest ≡ true = search rules in not-over c.loop-alloc.pages.rest some

pub note_page-requires-clause-before : goal.note_page-requires-clause-before
note_page-requires-clause-before g c =
    of-next g.B.ClusterName.config.resolver_splits c.args.session.now c.loop-alloc.session
    (λ (map : Map). AreBut map (pairs_left map c.loop-alloc.pages.rest) c.loop-alloc.amounts)
    c.loop-alloc.invariant.reads c.loop-alloc.invariant.but

pub loop-alloc-preserved : goal.loop-alloc-preserved
loop-alloc-preserved g c = record {
  reads = read-on c.args.session.now c.loop-alloc.session c.note_page.new.session c.loop-alloc.invariant.reads
      c.in_ok-note_page.ensures.reads;
  but = of-first g.B.ClusterName.config.resolver_splits c.args.session.now c.loop-alloc.session
      (λ (map : Map). AreBut map (pairs_left map c.note_page.new.pages.rest) c.note_page.new.amounts)
      c.loop-alloc.invariant.reads c.in_ok-note_page.ensures.after;
}

pub loop-alloc-smaller : goal.loop-alloc-smaller
loop-alloc-smaller g c =
    of-first g.B.ClusterName.config.resolver_splits c.args.session.now c.loop-alloc.session
    (λ (map : Map). count_left map c.note_page.new.pages.rest < count_left map c.loop-alloc.pages.rest)
    c.loop-alloc.invariant.reads c.in_ok-note_page.ensures.fewer

pub returns-clause-amounts : goal.returns-clause-amounts
returns-clause-amounts g c =
    let none : is_some c.loop-alloc.pages.rest ≡ false = search rules in
    walk-ends (run_read g.B.ClusterName.config.resolver_splits c.args.session.now) c.loop-alloc.pages.rest
    c.loop-alloc.amounts none c.loop-alloc.invariant.but
