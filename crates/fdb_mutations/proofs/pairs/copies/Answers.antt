use Rattle.std.proofs.Common.{◌≡◌, ◌∙◌, ap, ◌<◌, ℕ, zero, suc, List, [], ◌∷◌, length, get_or, true, Bor, arith}
use Rattle.std.proofs.lemmas.Bool.{and_parts}
use Rattle.fdb_keys.specs.Points.{Point}
use Rattle.fdb_keys.specs.Texts.{is_key}
use Rattle.fdb_mutations.specs.Lent.{lent_pairs}
use Rattle.fdb_mutations.specs.Maps.{has_legal_keys}
use Rattle.fdb_mutations.proofs.pairs.copies.Goals as goal

-- each key of pairs with legal keys is a legal one
legal-at : (pairs : List (Bor Point × Bor (List ℕ))) (i : ℕ) (other : Bor Point × Bor (List ℕ))
    → has_legal_keys (lent_pairs pairs) ≡ true → i < length pairs → is_key (get_or pairs i other).0.now ≡ true
legal-at [] i other legal within = absurd (omega arith)
legal-at (pair ∷ pairs) zero other legal within =
    let parts : (is_key pair.0.now ≡ true) × (has_legal_keys (lent_pairs pairs) ≡ true) = and_parts _ _ legal in parts.0
legal-at (pair ∷ pairs) (suc i) other legal within =
    let parts : (is_key pair.0.now ≡ true) × (has_legal_keys (lent_pairs pairs) ≡ true) = and_parts _ _ legal in
    legal-at pairs i other parts.1 (omega arith)

pub copy_pair-requires : goal.copy_pair-requires
copy_pair-requires c =
    let within : c.loop-key.key-index < length c.args.pairs.now = omega arith in
    ap (λ (pair : Bor Point × Bor (List ℕ)). is_key pair.0.now) c.loop-key-item.is
    ∙ legal-at c.args.pairs.now c.loop-key.key-index c.loop-key-item.result c.requires within
