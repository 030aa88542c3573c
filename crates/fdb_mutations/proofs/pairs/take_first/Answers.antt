use Rattle.std.proofs.Common.{◌∙◌, sym, ap, drop, length, nat_lt, List, ℕ, rules}
use Rattle.fdb_keys.specs.Points.{Point}
use Rattle.fdb_mutations.specs.Pairs.{pairs_within}
use Rattle.fdb_mutations.proofs.TakenLemmas.{first-taken, none-first}
use Rattle.fdb_mutations.proofs.pairs.take_first.Goals as goal

pub returns-in-Some-clause-others : goal.returns-in-Some-clause-others
returns-in-Some-clause-others c =
    (first-taken c.args.range.now c.args.pairs.now.entries c.remove.new.self.entries c.in-Some.key (search rules)
    c.remove.ensures.entries).0

pub returns-in-Some-clause-first : goal.returns-in-Some-clause-first
returns-in-Some-clause-first c =
    let taken = first-taken c.args.range.now c.args.pairs.now.entries c.remove.new.self.entries c.in-Some.key
    (search rules) c.remove.ensures.entries in
    (taken.1, taken.2)

pub returns-in-None-clause-first : goal.returns-in-None-clause-first
returns-in-None-clause-first c =
    let none = none-first (pairs_within c.args.range.now c.args.pairs.now.entries) (search rules) in (
      sym (ap (λ (pairs : List (Point × List ℕ)). nat_lt 0 (length pairs)) none),
      none ∙ sym (ap (drop 1) none),
    )
