use Rattle.std.proofs.Common.{◌≡◌, take, take_all, arith, rules}
use Rattle.std.specs.Str.Parse.{AllDigits, digits_value}
use Rattle.std.proofs.lemmas.Int.Digits.{digits_value_more, digits_more}
use Rattle.fdb_play.proofs.lemmas.Numbers.{no_number}
use Rattle.fdb_play.proofs.script.numbers.number.Goals as goal

pub returns-in_err-value : goal.returns-in_err-value
returns-in_err-value c =
    let none = no_number c.args.word.now c.loop-byte.byte-index c.loop-byte.value c.loop-byte-test.true
    c.loop-byte.invariant.1 (c.in_err-value.ensures) in
    rw c.from_residual.ensures none

pub loop-byte-preserved : goal.loop-byte-preserved
loop-byte-preserved c =
    let step = c.in_ok-value.ensures in
    let i = c.loop-byte.byte-index in
    let word = c.args.word.now in (
      digits_more 10 word i c.loop-byte-test.true c.loop-byte.invariant.0 step.0.0,
      omega (arith, step.1, c.loop-byte.invariant.1, digits_value_more 10 word i c.loop-byte-test.true),
      omega (arith, step.1, step.0.1),
    )

pub returns : goal.returns
returns c =
    let word = c.args.word.now in
    let whole : take c.loop-byte.byte-index word ≡ word = take_all _ _ (omega (arith, c.loop-byte-test.false)) in
    let all : AllDigits 10 word = rw (whole) at c.loop-byte.invariant.0 in
    let value : c.loop-byte.value ≡ digits_value 10 word = rw (whole) at c.loop-byte.invariant.1 in
    ((((search rules, all)), omega (arith, value, c.loop-byte.invariant.2)), value)
