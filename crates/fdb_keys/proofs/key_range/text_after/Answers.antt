use Rattle.std.proofs.Common.{◌≡◌, ◌∙◌, ap, [], ◌∷◌, ◌++◌, rules}
use Rattle.fdb_keys.specs.Texts.{is_bound}
use Rattle.fdb_keys.proofs.TextsLemmas.{is_bound-after}
use Rattle.fdb_keys.proofs.key_range.text_after.Goals as goal

pub returns-clause-legal : goal.returns-clause-legal
returns-clause-legal c =
    let after : c.in_ok-from_vec.field-0 ≡ c.args.key.now ++ 0 ∷ [] = search rules in
    ap is_bound after ∙ is_bound-after c.args.key.now c.bytes.ensures.legal
