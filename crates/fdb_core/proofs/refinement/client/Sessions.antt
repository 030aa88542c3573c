-- The ties between the machine and the roles' own lists, kept through the steps of sessions.
use Rattle.std.proofs.Common.{◌≡◌, ◌∙◌, refl, sym, ap, ap₂, subst, ℕ, List, map, None, Some, Ok, Err, Vec, Global}
use Rattle.std.proofs.Common.{slice_get, slice_set}
use Rattle.fdb_keys.specs.Answers.{Answers}
use Rattle.fdb_keys.specs.declared.refusal.Refusal.{Refusal}
use Rattle.fdb_mutations.specs.Mutations.{mutation_fault}
use Rattle.fdb_client.specs.TxnState.{with_op}
use Rattle.fdb_client.specs.declared.program.Op.{Op}
use Rattle.fdb_client.specs.declared.program.Op.TheVariants as op
use Rattle.fdb_client.specs.declared.program.Reply.{Reply}
use Rattle.fdb_client.specs.declared.program.Reply.TheVariants as reply
use Rattle.fdb_client.specs.declared.program.Transcript.{Transcript}
use Rattle.fdb_proxy.specs.Askers.{Asker}
use Rattle.fdb_machine.specs.machine.ClientSteps.{notes, writes, adds_read, adds_write}
use Rattle.fdb_machine.specs.machine.Sessions.{Sessions, EachOpen, Open, open_at, with_state}
use Rattle.fdb_core.specs.refinement.Cluster.{machine_of, sessions_of, GrvProxiesRefine, Refines}
use Rattle.fdb_core.specs.refinement.commit_proxy.Ties.{ReadsWithin}
use Rattle.fdb_core.specs.refinement.Restoring.{Tied}
use Rattle.fdb_core.specs.refinement.Steps.{Takes, transition_of}
use Rattle.fdb_roles.specs.Sessions.{OfOpen}
use Rattle.fdb_machine.specs.machine.Steps.{ran_out}
use Rattle.fdb_core.specs.declared.roles.client.note.Note.{Note}
use Rattle.fdb_core.specs.declared.roles.client.note.Note.TheVariants as note
use Rattle.fdb_core.specs.refinement.client.Noting.{noted_as, note_fault, step_with}
use Rattle.fdb_machine.proofs.Exports.{Unless, unless-fault, unless-lacked, open-has, open-put, open-refused}
use Rattle.fdb_core.proofs.refinement.log.Ties.{set-same}
use Rattle.fdb_core.proofs.refinement.RestoringLemmas.{keeps-roles, restored}
use Rattle.fdb_core.proofs.refinement.StepLemmas.{IsKept, accepted, kept}
use Rattle.fdb_core.specs.declared.cluster.Cluster.{Cluster}
use Rattle.fdb_roles.specs.declared.placed.Placed.{Placed}
use Rattle.fdb_machine.specs.declared.step.Answered.TheVariants as answered
use Rattle.fdb_machine.specs.machine.AnyStep.{Step}
use Rattle.fdb_machine.specs.declared.step.AnyStep.TheVariants as step

-- an open transaction with one more operation reads within the same version
pub opened-with_op : (committed : ℕ) (sessions : Sessions) (session : ℕ) (transcript : Transcript) (op : Op)
    (reply : Reply)
    → EachOpen (ReadsWithin committed) sessions → open_at sessions session ≡ Some transcript
    → EachOpen (ReadsWithin committed) (with_state sessions session (Open (with_op transcript op reply)))
opened-with_op committed sessions session transcript op reply all opened =
    open-put (ReadsWithin committed) sessions session (Open (with_op transcript op reply)) all
    (open-has (ReadsWithin committed) sessions session transcript all opened)

-- where only sessions change, the open transactions alone matter
pub refines-sessions : (k : Cluster) (grv_proxies : Vec (List Asker) Global) (sessions : Sessions)
    (acknowledged : Vec Placed Global)
    → Refines k → GrvProxiesRefine k.config grv_proxies.items → EachOpen (ReadsWithin k.sequencer.committed) sessions
    → Refines (record k { grv_proxies = grv_proxies; sessions = sessions; acknowledged = acknowledged })
refines-sessions k grv_proxies sessions acknowledged before asked all = record {
  legal = before.legal;
  room = before.room;
  sequencer = before.sequencer;
  book = before.book;
  parts = before.parts;
  resolvers = before.resolvers;
  logs = before.logs;
  shard_map = before.shard_map;
  commit_proxies = before.commit_proxies;
  grv_proxies = asked;
  opened = all;
  conflicts = before.conflicts;
}

-- sessions that are what they were leave the world as it was
pub sessions-same : (k : Cluster) (sessions : Sessions) → Tied k → sessions ≡ k.sessions
    → IsKept k (record k { sessions = sessions })
sessions-same k sessions before same =
    subst (λ (others : Sessions). IsKept k (record k { sessions = others })) (sym same) (kept k before)

-- and so do those who ask at a proxy as before
pub asks-nobody : (k : Cluster) → Tied k → (proxy : ℕ) (there : List Asker)
    → slice_get k.grv_proxies.items proxy ≡ Some there
    → (grv_proxies : Vec (List Asker) Global) (sessions : Sessions) (askers : List Asker)
    → grv_proxies.items ≡ slice_set k.grv_proxies.items proxy askers → sessions ≡ k.sessions → askers ≡ there
    → IsKept k (record k { grv_proxies = grv_proxies; sessions = sessions })
asks-nobody k before proxy there at grv_proxies sessions askers is same nobody =
    let asked : grv_proxies.items ≡ k.grv_proxies.items =
    is ∙ ap (slice_set k.grv_proxies.items proxy) nobody ∙ set-same k.grv_proxies.items proxy there at in
    record {
      machine = ap₂ (λ (others : Sessions) (all : List (List Asker)).
          record (machine_of k) { sessions = others; grv_proxies = map sessions_of all }) same asked;
      failed = refl;
      tied = keeps-roles k before _ refl refl refl refl
          (refines-sessions (restored k before) grv_proxies sessions k.acknowledged before.refines
          (subst (GrvProxiesRefine k.config) (sym asked) before.refines.grv_proxies)
          (subst (EachOpen (ReadsWithin k.sequencer.committed)) (sym same) before.refines.opened));
    }

-- A step notes an operation at the session's open transaction, and so does the machine's.
module _ (k : Cluster) (before : Tied k) (session : ℕ) (sessions : Sessions) where
  -- there is one, and it has one more operation
  abbrev Noted : Op → Type 0
  Noted operation = (transcript : Transcript) × (open_at k.sessions session ≡ Some transcript)
      × (sessions ≡ with_state k.sessions session (Open (with_op transcript operation reply.Done)))

  noted : (operation : Op) (taken : Step) (there : Noted operation)
      → transition_of k taken ≡ notes (machine_of k) session there.0 operation
      → Takes k taken (Ok answered.Done) (record k { sessions = sessions })
  noted operation taken there is =
      accepted taken is refl (ap (λ (others : Sessions). record (machine_of k) { sessions = others }) there.2) refl
      (keeps-roles k before _ refl refl refl refl
      (refines-sessions (restored k before) k.grv_proxies sessions k.acknowledged before.refines
      before.refines.grv_proxies
      (subst (EachOpen (ReadsWithin k.sequencer.committed)) (sym there.2)
      (opened-with_op k.sequencer.committed k.sessions session there.0 operation reply.Done before.refines.opened
      there.1))))

  -- and so does a step that notes something
  pub note-taken : (it : Note) → note_fault it ≡ None → Noted (noted_as it)
      → Takes k (step_with session it) (Ok answered.Done) (record k { sessions = sessions })
  unfolding writes adds_read adds_write
  note-taken (note.Write mutation) faultless there =
      noted (op.Write mutation.now) (step.Write session mutation.now) there (rw (there.1, faultless) refl)
  note-taken (note.AddRead range) faultless there =
      noted (op.AddRead range.now) (step.AddRead session range.now) there (rw there.1 refl)
  note-taken (note.AddWrite range) faultless there =
      noted (op.AddWrite range.now) (step.AddWrite session range.now) there (rw there.1 refl)

-- What isn't noted is a refused step, unless memory ran out.
pub note-refused : (k : Cluster) (session : ℕ) (it : Note) (why : Refusal) (P : Transcript → Unit {0} → Type 0)
    → OfOpen {T = Unit {0}} (open_at k.sessions session) (Err why)
    (λ transcript. Answers {T = Unit {0}} (Err why) (note_fault it) (P transcript))
    → Unless (ran_out (Err why)) (transition_of k (step_with session it) ≡ Err why)
unfolding writes adds_read adds_write
note-refused k session (note.Write mutation) why P answers =
    open-refused (Unit {0}) (open_at k.sessions session) why _ _ answers
    (λ transcript is. unless-fault (mutation_fault mutation.now) why _ _ is (λ faulty. rw faulty refl))
note-refused k session (note.AddRead range) why P answers =
    open-refused (Unit {0}) (open_at k.sessions session) why _ _ answers
    (λ transcript lacks. unless-lacked why _ lacks)
note-refused k session (note.AddWrite range) why P answers =
    open-refused (Unit {0}) (open_at k.sessions session) why _ _ answers
    (λ transcript lacks. unless-lacked why _ lacks)
