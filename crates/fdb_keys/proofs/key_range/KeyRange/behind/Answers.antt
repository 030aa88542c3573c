use Rattle.std.proofs.Common.{◌≡◌, ◌∙◌, sym, ap, true, rules}
use Rattle.fdb_keys.specs.Ranges.{Range, in_range, single_range}
use Rattle.fdb_keys.specs.Texts.{is_bound}
use Rattle.fdb_keys.proofs.CuttingLemmas.{before_is_legal, behind_is_legal}
use Rattle.fdb_keys.proofs.TextsLemmas.{is_bound-key}
use Rattle.fdb_keys.proofs.key_range.KeyRange.behind.Goals as goal

pub invariant_of-result : goal.invariant_of-result
invariant_of-result c =
    let range : Range = record { begin = c.self.inside.begin; end = c.self.inside.end } in
    let inside : in_range range c.args.key.now ≡ true = search rules in
    let begins : c.in_ok-begin.begin ≡ range.begin = search rules in
    let ends : c.in_ok-end.end ≡ c.args.key.now = search rules in
    rw (begins, ends) (before_is_legal range c.args.key.now c.self.invariant inside
    (is_bound-key c.args.key.now c.text.ensures.legal))

pub invariant_of-result-2 : goal.invariant_of-result-2
invariant_of-result-2 c =
    let range : Range = record { begin = c.self.inside.begin; end = c.self.inside.end } in
    let inside : in_range range c.args.key.now ≡ true = search rules in
    let begins : c.in_ok-begin-2.begin ≡ (single_range c.args.key.now).end = search rules in
    let ends : c.in_ok-end-2.end ≡ range.end = search rules in
    rw (begins, ends) (behind_is_legal range c.args.key.now c.self.invariant inside
    (ap is_bound (sym begins) ∙ c.in_ok-begin-2.ensures.legal))
