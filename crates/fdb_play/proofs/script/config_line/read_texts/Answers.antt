use Rattle.std.proofs.Common.{◌≡◌, length, take, arith, rules, tests, take_all}
use Rattle.std.proofs.lemmas.List.{length_push}
use Rattle.std.proofs.lemmas.Iterator.Consumers.{YieldsList-turn, YieldsList-end}
use Rattle.std.proofs.lemmas.Iterator.Splits.{YieldsList-from_slice_split}
use Rattle.std.proofs.lemmas.Result.{err_from_is_err_and}
use Rattle.std.specs.List.{slice_split}
use Rattle.fdb_play.specs.script.Configs.{is_comma}
use Rattle.fdb_play.proofs.lemmas.Configs.{no_texts, texts_more}
use Rattle.fdb_play.proofs.lemmas.Faults.{MatchFault-bad_alone}
use Rattle.fdb_play.proofs.script.config_line.read_texts.Goals as goal

pub returns-in_err-read_piece-clause-bad : goal.returns-in_err-read_piece-clause-bad
returns-in_err-read_piece-clause-bad c =
    let p = err_from_is_err_and c.from_residual.result c.from_residual.ensures.1 in
    let pieces = slice_split is_comma c.args.word.now in
    let t = YieldsList-turn
    (YieldsList-from_slice_split _ is_comma c.args.word.now (cc) (cc) (cc) (λ x r q k. search (rules, tests)))
    c.loop-piece.yielded _ c.loop-piece.yielded_by _ _ c.in-Some.piece c.in-Some.is c.next.ensures.steps in
    rw (p.1, p.2) (MatchFault-bad_alone _ _ _ _ c.in_err-read_piece.ensures.bad (no_texts pieces _ _ t.0 t.1))

pub loop-piece-preserved : goal.loop-piece-preserved
loop-piece-preserved c =
    let pieces = slice_split is_comma c.args.word.now in
    let t = YieldsList-turn
    (YieldsList-from_slice_split _ is_comma c.args.word.now (cc) (cc) (cc) (λ x r q k. search (rules, tests)))
    c.loop-piece.yielded _ c.loop-piece.yielded_by _ _ c.in-Some.piece c.in-Some.is c.next.ensures.steps in
    rw (length_push c.loop-piece.yielded c.in-Some.piece, c.in_ok-push.ensures.ok)
    (texts_more pieces _ _ _ _ t.0 t.1 c.loop-piece.invariant c.in_ok-read_piece.ensures.ok)

pub returns-clause-ok : goal.returns-clause-ok
returns-clause-ok c =
    let pieces = slice_split is_comma c.args.word.now in
    let t = YieldsList-end
    (YieldsList-from_slice_split _ is_comma c.args.word.now (cc) (cc) (cc) (λ x r q k. search (rules, tests)))
    c.loop-piece.yielded _ c.loop-piece.yielded_by _ _ c.in-None.is c.next.ensures.steps in
    let all : take (length c.loop-piece.yielded) pieces ≡ pieces = take_all _ pieces (omega (arith, t.1)) in
    rw (← all) c.loop-piece.invariant
