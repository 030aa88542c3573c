use Rattle.std.proofs.Common.{◌≡◌, ◌∙◌, refl, sym, ap, ℕ, suc, ◌+◌, drop, length, arith}
use Rattle.std.proofs.lemmas.Option.{slice_get_read}
use Rattle.fdb_proxy.specs.Resolving.{first_missing}
use Rattle.fdb_proxy.proofs.ResolvingLemmas.{missing-here, missing-next}
use Rattle.fdb_proxy.proofs.resolving.first_missing.Goals as goal

pub returns-then-is_missing : goal.returns-then-is_missing
returns-then-is_missing c =
    let there = slice_get_read c.args.parts.now (length c.args.parts.now) c.loop-resolver.resolver
    c.index-parts-resolver.result refl c.loop-resolver-test.true c.index-parts-resolver.is in
    sym (missing-here c.loop-resolver.resolver c.loop-resolver.resolver c.args.parts.now c.args.verdicts.now
    c.index-parts-resolver.result there (sym c.is_missing.ensures ∙ c.if-is_missing.true))
    ∙ c.loop-resolver.invariant

pub loop-resolver-preserved : goal.loop-resolver-preserved
loop-resolver-preserved c =
    let there = slice_get_read c.args.parts.now (length c.args.parts.now) c.loop-resolver.resolver
    c.index-parts-resolver.result refl c.loop-resolver-test.true c.index-parts-resolver.is in
    let count : suc c.loop-resolver.resolver ≡ c.loop-resolver.resolver + 1 = omega arith in
    ap (λ (n : ℕ). first_missing n (drop n c.args.parts.now) (drop n c.args.verdicts.now)) (sym count)
    ∙ missing-next c.loop-resolver.resolver c.loop-resolver.resolver c.args.parts.now c.args.verdicts.now
    c.index-parts-resolver.result there (sym c.is_missing.ensures ∙ c.if-is_missing.false)
    ∙ c.loop-resolver.invariant
