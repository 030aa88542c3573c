-- Given part by part, since `search` comes to its limit where it looks for all of it at once.
use Rattle.std.proofs.Common.{◌≡◌, refl, Option, None, Ok, true, false, take, rules}
use Rattle.fdb_keys.specs.Answers.{Answers}
use Rattle.fdb_keys.specs.declared.refusal.Refusal.{Refusal}
use Rattle.fdb_txn.specs.Limits.{place_limit}
use Rattle.fdb_proxy.specs.CommitProxies.{CommitProxy, is_idle, seal_fault}
use Rattle.fdb_proxy.proofs.commit_core.CommitCore.seal.Goals as goal

no_fault : (p : CommitProxy) → p.is_failed ≡ false → is_idle p.stage ≡ true → seal_fault p ≡ None
no_fault p works idle = rw (works, idle) refl

answered : {T : Type 0} (given : T) (fault : Option Refusal) (P : T → Type 0) → fault ≡ None → P given
    → Answers (Ok given) fault P
answered given fault P none holds = rw none holds

pub returns-clause-answers : goal.returns-clause-answers
returns-clause-answers c =
    let works : c.args.self.now.proxy.is_failed ≡ false = search rules in
    let idle : is_idle c.args.self.now.proxy.stage ≡ true = search rules in
    let places : c.in_ok-batch.batch ≡ take place_limit c.args.self.now.proxy.waiting = search rules in
    answered c.in_ok-batch.batch (seal_fault c.args.self.now.proxy) _ (no_fault c.args.self.now.proxy works idle)
    (places, search rules)
