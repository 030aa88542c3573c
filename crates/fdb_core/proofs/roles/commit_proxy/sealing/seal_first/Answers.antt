use Rattle.std.proofs.Common.{◌∙◌, ap₂, ◌++◌, List}
use Rattle.std.proofs.lemmas.List.{take-append-drop}
use Rattle.fdb_client.specs.declared.program.Transcript.{Transcript}
use Rattle.fdb_core.proofs.roles.commit_proxy.sealing.seal_first.Goals as goal

pub returns-in-Err-clause-same : goal.returns-in-Err-clause-same
returns-in-Err-clause-same c =
    c.put_back.ensures
    ∙ ap₂ (λ (first rest : List Transcript). first ++ rest) c.in_ok-rest.ensures.first c.in_ok-rest.ensures.rest
    ∙ take-append-drop 4096 c.args.waiting.now.items
