use Rattle.std.proofs.Common.{◌≡◌, ◌∙◌, sym, subst, true, false, List, None, rules}
use Rattle.fdb_keys.specs.Answers.{Answers}
use Rattle.fdb_keys.specs.Ranges.{Range}
use Rattle.fdb_client.specs.declared.program.Op.TheVariants.{Get}
use Rattle.fdb_client.specs.declared.program.Op.TheVariants as operation
use Rattle.fdb_client.proofs.RequestLemmas.{reads-key, scanned-map}
use Rattle.fdb_client.proofs.request.add_read.Goals as goal

pub returns-then-contains : goal.returns-then-contains
returns-then-contains c earlier same =
    let key = c.in-Get-default-false-default.key in
    let is : c.args.op.now ≡ Get key false = search rules in
    sym (reads-key earlier c.args.op.now key c.args.reply.now c.args.decided.now c.args.reads.now true
    is same (sym c.if-contains.true ∙ c.contains.ensures.value))

pub add_scan-requires : goal.add_scan-requires
add_scan-requires c =
    let here = c.in-Range-default-default-default-false-Pairs in
    let is : c.args.op.now ≡ operation.Range here.range here.limit here.reverse false = search rules in
    scanned-map c.args.op.now c.args.reply.now here.range here.limit here.reverse here.pairs c.as_slice.result.now is
    here.is-1 c.as_slice.ensures c.requires

pub returns-else-contains : goal.returns-else-contains
returns-else-contains c earlier same =
    let key = c.in-Get-default-false-default.key in
    let is : c.args.op.now ≡ Get key false = search rules in
    subst (λ (ranges : List Range). Answers c.add_key.result None (λ _. c.add_key.new.self ≡ ranges))
    (sym (reads-key earlier c.args.op.now key c.args.reply.now c.args.decided.now c.args.reads.now false
    is same (sym c.if-contains.false ∙ c.contains.ensures.value)))
    c.add_key.ensures.answers
