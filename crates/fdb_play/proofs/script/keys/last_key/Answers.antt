use Rattle.std.proofs.Common.{◌≡◌, ℕ, List, [], ◌∷◌, ap, sym}
use Rattle.std.proofs.lemmas.Result.{err_from_is_err_and}
use Rattle.fdb_keys.specs.Texts.{key_fault}
use Rattle.fdb_play.specs.script.Grammar.{WritesOneText, WritesText}
use Rattle.fdb_play.proofs.lemmas.Faults.{MatchFault-bad_alone, Reads-refused}
use Rattle.fdb_play.proofs.script.keys.last_key.Goals as goal

no_text : (words : List (List ℕ)) → ((word : List ℕ) (bytes : List ℕ) → words ≡ word ∷ [] → ¬ WritesText word bytes)
    → (key : List ℕ) → ¬ WritesOneText words key
no_text words none key one = none one.0 key one.1 one.2

pub returns-in_err-text : goal.returns-in_err-text
returns-in_err-text c =
    let p = err_from_is_err_and c.from_residual.result c.from_residual.ensures.1 in
    rw (p.1, p.2) (MatchFault-bad_alone _ _ _ _ c.in_err-text.ensures.bad (no_text _))

pub returns-in_err-key : goal.returns-in_err-key
returns-in_err-key c =
    let p = err_from_is_err_and c.from_residual-in_err-key.result c.from_residual-in_err-key.ensures.1 in
    rw (p.1, p.2)
    (Reads-refused _ (key_fault c.as_slice.result.now) _ _ c.in_err-key.ensures.refused c.in_ok-text.text.items
    c.in_ok-text.ensures.ok (ap key_fault (sym c.as_slice.ensures.value)))
