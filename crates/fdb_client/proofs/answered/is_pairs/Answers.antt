use Rattle.std.proofs.Common.{◌≡◌, ◌∙◌, sym, ap}
use Rattle.fdb_client.specs.declared.program.Reply.TheVariants.{Pairs}
use Rattle.fdb_client.proofs.AnsweredLemmas.{pairs_eq_decides}
use Rattle.fdb_client.proofs.answered.is_pairs.Goals as goal

pub returns-in-Pairs : goal.returns-in-Pairs
returns-in-Pairs c =
    let told = c.in-Pairs.told in
    let decides = pairs_eq_decides told c.args.pairs.now in (
      λ equal. c.in-Pairs.is ∙ ap Pairs (decides.0 (sym c.eq.ensures ∙ equal)),
      λ same. let equal : told ≡ c.args.pairs.now = cc in c.eq.ensures ∙ decides.1 equal,
    )
