use Rattle.std.proofs.Common.{rules, ◌==◌, sym, arith, ℕ}
use Rattle.std.proofs.lemmas.List.Sums.{position_or_len_is}
use Rattle.fdb_play.specs.random.Tallies.{refusal_codes}
use Rattle.fdb_play.proofs.random.tally.place_of.Goals as goal

pub returns-then-place-code : goal.returns-then-place-code
returns-then-place-code c = sym
    (position_or_len_is (λ (known : ℕ). known == c.args.code) refusal_codes c.loop-place.place 0
    (search rules) c.loop-place.invariant (λ _. search rules))

pub returns : goal.returns
returns c = sym
    (position_or_len_is (λ (known : ℕ). known == c.args.code) refusal_codes 26 0 (omega arith) (search rules)
    (λ below. absurd (omega (arith, below))))
