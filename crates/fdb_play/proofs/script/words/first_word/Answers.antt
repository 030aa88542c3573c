use Rattle.std.proofs.Common.{◌≡◌, ◌<◌, length, arith, sym, ◌∙◌}
use Rattle.std.proofs.lemmas.Bool.{eqb-true}
use Rattle.fdb_play.specs.script.Words.{words_of}
use Rattle.fdb_play.proofs.lemmas.Words.{words_of-none, words_of-spaces, words_of-word, end_of_word}
use Rattle.fdb_play.proofs.script.words.first_word.Goals as goal

pub returns-then-is_empty : goal.returns-then-is_empty
returns-then-is_empty c =
    let begin = c.word_begin-begin.ensures in
    let rest = c.split_at.result.1.now in
    let same : words_of rest ≡ words_of c.args.text.now = rw c.split_at.ensures.back
    (words_of-spaces _ _ begin.within begin.before) in
    sym same ∙ words_of-none rest (eqb-true _ _ (sym c.if-is_empty.ensures))

pub returns : goal.returns
returns c =
    let begin = c.word_begin-begin.ensures in
    let end = c.word_end-end.ensures in
    let text = c.args.text.now in
    let rest = c.split_at.result.1.now in
    let same : words_of rest ≡ words_of text = rw c.split_at.ensures.back
    (words_of-spaces _ _ begin.within begin.before) in
    let some : 0 < length rest = grind (arith, c.if-is_empty.ensures) in
    let inside : c.word_begin-begin.result < length text = omega (arith, some, c.split_at.ensures.back_len) in
    let word : 0 < c.word_end-end.result = end_of_word _ _ text rest c.split_at.ensures.back some (begin.at inside)
    end.at in
    rw (c.split_at-2.ensures.front, c.split_at-2.ensures.back)
    (sym same ∙ words_of-word _ rest word end.within end.before end.at)
