-- One more entry in the book leaves a commit proxy tied.
use Rattle.std.proofs.Common.{◌∙◌, sym, ap, List, [], ◌∷◌, ◌++◌}
use Rattle.std.proofs.lemmas.List.{append_assoc}
use Rattle.fdb_txn.specs.declared.entry.Entry.{Entry}
use Rattle.fdb_sequencer.specs.declared.dated.Dated.{Dated}
use Rattle.fdb_sequencer.specs.Moves.{dated}
use Rattle.fdb_proxy.specs.declared.config.Config.{Config}
use Rattle.fdb_core.specs.declared.roles.commit_proxy.CommitProxyRole.{CommitProxyRole}
use Rattle.fdb_core.specs.refinement.commit_proxy.Ties.{CommitProxyRefines, Known}
use Rattle.fdb_roles.proofs.Exports.{dated_moves-push}

-- it hasn't had the moves of the new entry
pub commit_proxy-push : (config : Config) (book : List Entry) (entry : Entry) (known : Known) (role : CommitProxyRole)
    → CommitProxyRefines config book known role
    → CommitProxyRefines config (book ++ entry ∷ [])
    (record known { unlearnt = known.unlearnt ++ dated entry.version entry.moves }) role
commit_proxy-push config book entry known role ok = record {
  front = ok.front;
  behind = ok.behind ++ entry ∷ [];
  whole = sym (append_assoc ok.front ok.behind (entry ∷ []))
      ∙ ap (λ (all : List Entry). all ++ entry ∷ []) ok.whole;
  state = ok.state;
  unlearnt = ap (λ (moves : List Dated). moves ++ dated entry.version entry.moves) ok.unlearnt
      ∙ sym (dated_moves-push ok.behind entry);
  waiting = ok.waiting;
  in_flight = ok.in_flight;
  reads = ok.reads;
  stage = ok.stage;
}
