use Rattle.std.proofs.Common.{◌≡◌, ◌≢◌, sym, ◌∙◌, ap, codes, List, ℕ, ◌∷◌, rules}
use Rattle.std.proofs.lemmas.Result.{err_from_is_err_and}
use Rattle.fdb_play.specs.script.Words.{words_of}
use Rattle.fdb_play.proofs.lemmas.Grammar.{no_proxy, no_session, no_refused, line_of_step}
use Rattle.fdb_play.proofs.script.line.read_line.Goals as goal

pub returns-in_err-proxy : goal.returns-in_err-proxy
returns-in_err-proxy c =
    let p = err_from_is_err_and c.from_residual-in_err-proxy.result c.from_residual-in_err-proxy.ensures.1 in
    let drive : c.in_ok-first.first.now ≡ codes "drive" = search rules in
    let words : words_of c.args.line.now ≡ codes "drive" ∷ c.word.new.self =
    sym c.new-words.ensures ∙ c.in_ok-first.ensures ∙ ap (λ (first : List ℕ). first ∷ c.word.new.self) drive in
    let bad = c.in_err-proxy.ensures.bad in
    rw (p.1, p.2, bad.0) (no_proxy c.args.line.now c.word.new.self words bad.1)

pub returns-in_err-session : goal.returns-in_err-session
returns-in_err-session c =
    let p = err_from_is_err_and c.from_residual-in_err-session.result c.from_residual-in_err-session.ensures.1 in
    let show : c.in_ok-first.first.now ≡ codes "show" = search rules in
    let words : words_of c.args.line.now ≡ codes "show" ∷ c.word.new.self =
    sym c.new-words.ensures ∙ c.in_ok-first.ensures ∙ ap (λ (first : List ℕ). first ∷ c.word.new.self) show in
    let bad = c.in_err-session.ensures.bad in
    rw (p.1, p.2, bad.0) (no_session c.args.line.now c.word.new.self words bad.1)

pub returns-in_err-refused : goal.returns-in_err-refused
returns-in_err-refused c =
    let p = err_from_is_err_and c.from_residual-in_err-refused.result c.from_residual-in_err-refused.ensures.1 in
    let conflict : c.in_ok-first.first.now ≡ codes "conflict" = search rules in
    let words : words_of c.args.line.now ≡ codes "conflict" ∷ c.word.new.self =
    sym c.new-words.ensures ∙ c.in_ok-first.ensures ∙ ap (λ (first : List ℕ). first ∷ c.word.new.self) conflict in
    let bad = c.in_err-refused.ensures.bad in
    rw (p.1, p.2, bad.0) (no_refused c.args.line.now c.word.new.self words bad.1)

pub returns-in_err-kind : goal.returns-in_err-kind
returns-in_err-kind c =
    let p = err_from_is_err_and c.from_residual-in_err-kind.result c.from_residual-in_err-kind.ensures.1 in
    let no_drive : c.in_ok-first.first.now ≢ codes "drive" = search rules in
    let no_show : c.in_ok-first.first.now ≢ codes "show" = search rules in
    let no_conflict : c.in_ok-first.first.now ≢ codes "conflict" = search rules in
    rw (p.1, p.2)
    (line_of_step c.args.line.now c.in_ok-first.first.now c.word.new.self _
    (sym c.new-words.ensures ∙ c.in_ok-first.ensures) no_drive no_show no_conflict
    c.in_err-kind.ensures)
