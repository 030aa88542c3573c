use Rattle.std.proofs.Common.{◌≡◌, ◌∙◌, ap, false}
use Rattle.std.proofs.lemmas.Result.{IfOk-weaker}
use Rattle.serde_json.specs.View.{view}
use Rattle.serde_json.specs.Written.{compact_text, has_float}
use Rattle.serde_json.proofs.OnLiterals.{serde_json_on_literals}
use Rattle.fdb_simulate.proofs.report.line_of.Goals as goal

pub returns : goal.returns
unfolding serde_json_on_literals
returns c =
    let plain : has_float (view c.in_ok-value.value) ≡ false = ap has_float c.in_ok-value.ensures in
    IfOk-weaker c.to_string.result _ _ (λ text printed. printed plain ∙ ap compact_text c.in_ok-value.ensures)
    c.to_string.ensures.text
