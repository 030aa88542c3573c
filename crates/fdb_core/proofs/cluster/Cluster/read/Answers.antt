use Rattle.std.proofs.Common.{◌≡◌, ◌∙◌, refl, sym, ap, subst, ℕ, suc, Bool, length, take, Some, Err, Result, slice_get}
use Rattle.fdb_keys.specs.declared.refusal.Refusal.{Refusal}
use Rattle.fdb_txn.specs.book.Book.{last_version}
use Rattle.fdb_core.specs.declared.cluster.Cluster.{Cluster}
use Rattle.fdb_core.specs.declared.roles.client.read.Read.{Read}
use Rattle.fdb_core.specs.declared.roles.client.read.Read.TheVariants as read
use Rattle.fdb_core.specs.declared.roles.shard.ShardRole.{ShardRole}
use Rattle.fdb_machine.specs.declared.step.Answered.{Answered}
use Rattle.fdb_machine.specs.machine.Roles.{ShardProgress}
use Rattle.fdb_machine.specs.machine.Sessions.{EachOpen, open_at}
use Rattle.fdb_machine.specs.machine.Steps.{ran_out}
use Rattle.fdb_core.specs.refinement.Cluster.{machine_of}
use Rattle.fdb_core.specs.refinement.Restoring.{Tied, SameShard, failures_of}
use Rattle.fdb_core.specs.refinement.Steps.{Takes, transition_of}
use Rattle.fdb_core.specs.refinement.client.Reading.{operation_of, step_of}
use Rattle.fdb_core.specs.refinement.commit_proxy.Ties.{ReadsWithin}
use Rattle.fdb_core.specs.refinement.shard.Reads.{AreReadable}
use Rattle.fdb_machine.proofs.Exports.{unless-map, at-open}
use Rattle.fdb_core.proofs.refinement.client.ReadFaults.{read_step}
use Rattle.fdb_core.proofs.refinement.client.Reading.{AnswersRun, are_readable, read-follows, same_reads}
use Rattle.fdb_core.proofs.refinement.client.Sessions.{opened-with_op, refines-sessions, sessions-same}
use Rattle.fdb_core.proofs.refinement.RestoringLemmas.{keeps-roles, restored, restores-count, restores-like}
use Rattle.fdb_core.proofs.refinement.RestoringLemmas.{restores-at}
use Rattle.fdb_core.proofs.refinement.StepLemmas.{accepted, left}
use Rattle.fdb_core.proofs.cluster.Cluster.read.Goals as goal

-- there is a shard for each piece of the keys
as-many : (k : Cluster) (tied : Tied k) → length k.shards.items ≡ suc (length k.config.shard_splits)
as-many k tied = restores-count _ _ k.shards.items tied.roles.shards.items tied.shards
    ∙ tied.refines.logs.shard_count

-- each answers from the run, unless it has failed
answers-run : (k : Cluster) (tied : Tied k) (i : ℕ) (role : ShardRole) → slice_get k.shards.items i ≡ Some role
    → AnswersRun k i role
answers-run k tied i role there =
    let was = restores-like _ _ (λ x. (refl, refl, refl)) k.shards.items tied.roles.shards.items tied.shards i role
    there in
    let before = tied.refines.logs.each_shard i was.0 was.1 in
    let same : SameShard role was.0 = was.2 in (
      same.1 ∙ before.range,
      same.2 ∙ before.version
          ∙ ap (λ (progress : ShardProgress). last_version (take progress.applied k.book.items)) (sym same.0),
      λ works. (tied.refines.logs.each_shard i role
          (restores-at _ _ k.shards.items tied.roles.shards.items tied.shards i role there works)).serves,
    )

-- the shards that are read are readable
pub invariant_of-reads : goal.invariant_of-reads
invariant_of-reads c =
    let k = c.args.self.now in
    let tied = c.requires in
    let transcript = c.in-Some.txn.now in (
      tied.refines.shard_map,
      subst AreReadable (sym (same_reads k transcript c.transcript.result.now c.deref.result.now c.deref-2.result.now
          c.transcript.ensures c.deref.ensures.value c.deref-2.ensures.value))
          (are_readable k transcript.read_version tied.refines.legal.splits tied.refines.book.entries (as-many k tied)
          (answers-run k tied)),
    )

-- what a read comes to
step-is : (k : Cluster) (session : ℕ) (of : Read) (snapshot : Bool)
    → transition_of k (step_of session of snapshot)
    ≡ read_step (machine_of k) (failures_of k) session (operation_of of snapshot)
step-is k session (read.Key key) snapshot = refl
step-is k session (read.Range range limit is_reverse) snapshot = refl

-- the session's open transaction is the one that reads
pub returns : goal.returns
returns c =
    let k = c.args.self.now in
    let tied = c.requires in
    let session = c.args.session in
    let operation = operation_of c.args.read c.args.snapshot in
    let taken = step_of session c.args.read c.args.snapshot in
    let is = step-is k session c.args.read c.args.snapshot in
    let transcript = c.in-Some.txn.now in
    let sessions = c.read.new.self in
    let opened : open_at k.sessions session ≡ Some transcript = sym c.in-Some.ensures in
    read-follows k (failures_of k) session operation transcript sessions refl (as-many k tied) opened _
    (same_reads k transcript c.transcript.result.now c.deref.result.now c.deref-2.result.now c.transcript.ensures
    c.deref.ensures.value c.deref-2.ensures.value)
    (λ (result : Result Answered Refusal). Takes k taken result (record k { sessions = sessions }))
    (λ given went. accepted taken (is ∙ went.0) refl refl refl
    (keeps-roles k tied (record k { sessions = sessions }) refl refl refl refl
    (refines-sessions (restored k tied) k.grv_proxies sessions k.acknowledged tied.refines tied.refines.grv_proxies
    (subst (EachOpen (ReadsWithin k.sequencer.committed)) (sym went.1)
    (opened-with_op k.sequencer.committed k.sessions session transcript operation _ tied.refines.opened opened)))))
    (λ why refused unchanged. left k taken (Err why) (record k { sessions = sessions }) why refl
    (unless-map (ran_out (Err why)) _ _ (λ same. is ∙ same) refused) (sessions-same k sessions tied unchanged))
    c.read.result
    (at-open (open_at k.sessions session) transcript c.read.result _ opened c.read.ensures.answers)
    c.read.ensures.err
