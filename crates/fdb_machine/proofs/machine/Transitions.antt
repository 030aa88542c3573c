-- What the machine's longer steps come to, once what they look at is known.
use Rattle.std.proofs.Common.{◌≡◌, refl, arith, ℕ, ◌+◌, true, false, [], ◌∷◌, ◌++◌, Option, Some, None, Ok, Err}
use Rattle.std.specs.Prelude.{◌↔◌}
use Rattle.std.specs.List.{slice_get, slice_set}
use Rattle.std.proofs.lemmas.Bool.{le-ltb}
use Rattle.fdb_keys.specs.declared.refusal.Refusal.{Refusal}
use Rattle.fdb_txn.specs.declared.entry.Entry.{Entry}
use Rattle.fdb_txn.specs.book.Book.{seen_before}
use Rattle.fdb_txn.specs.book.Size.{size_fault}
use Rattle.fdb_proxy.specs.Verdicts.{verdicts_on}
use Rattle.fdb_client.specs.declared.program.Op.{Op}
use Rattle.fdb_client.specs.declared.program.Transcript.{Transcript}
use Rattle.fdb_client.specs.Programs.{commit_request_of, is_read_only}
use Rattle.fdb_roles.specs.Sessions.{submit_fault}
use Rattle.fdb_machine.specs.machine.ClientSteps.{reads, submits, add_operation, answered_by, fault_after, reply_after}
use Rattle.fdb_machine.specs.machine.RoleSteps.{resolves, pushes}
use Rattle.fdb_machine.specs.machine.Machine.{Machine, Transition, refused_by, is_set}
use Rattle.fdb_machine.specs.machine.Roles.{CommitProxy}
use Rattle.fdb_machine.specs.machine.Sessions.{Waiting, open_at, with_state}
use Rattle.fdb_machine.specs.declared.step.Answered.TheVariants as answered

-- a read on an open transaction
module _ (m : Machine) (session : ℕ) (operation : Op) (transcript : Transcript)
    (opened : open_at m.sessions session ≡ Some transcript) where
  -- without a fault it is accepted
  pub reads-transition : fault_after m transcript operation ≡ None
      → let reply = reply_after m transcript operation in
      reads m session operation ≡ Ok (record {
        answer = answered_by reply;
        next = add_operation m session transcript operation reply;
      })
  unfolding reads
  reads-transition faultless = rw (opened, faultless) refl

  -- and else refused
  pub reads-refused : (why : Refusal)
      → (reads m session operation ≡ Err why) ↔ (fault_after m transcript operation ≡ Some why)
  unfolding reads
  reads-refused why = rw opened (by_fault (fault_after m transcript operation) _)
    where
      by_fault : (fault : Option Refusal) (transition : Transition)
          → (refused_by fault (Ok transition) ≡ Err why) ↔ (fault ≡ Some why)
      by_fault None transition = ((λ refused. cc), (λ faulty. cc))
      by_fault (Some other) transition = ((λ refused. cc), (λ faulty. cc))

-- a transaction that wrote something waits at the proxy
pub submits-to_commit : (m : Machine) (session proxy : ℕ) (commit_proxy : CommitProxy) (transcript : Transcript)
    → slice_get m.commit_proxies proxy ≡ Some commit_proxy → open_at m.sessions session ≡ Some transcript
    → is_read_only transcript ≡ false → submit_fault transcript ≡ None
    → submits m session proxy ≡ Ok (record {
      answer = answered.Done;
      next = record m {
        sessions = with_state m.sessions session Waiting;
        commit_proxies = slice_set m.commit_proxies proxy
            (record commit_proxy { waiting = commit_proxy.waiting ++ transcript ∷ [] });
      };
    })
unfolding submits
submits-to_commit m session proxy commit_proxy transcript at opened some fits =
    let small : size_fault (commit_request_of transcript) ≡ None = rw some at fits in
    rw (at, opened, some, small) refl

-- a resolver takes the entry that is next for it
pub resolves-transition : (m : Machine) (i r : ℕ) (entry : Entry) → slice_get m.book i ≡ Some entry
    → slice_get m.resolvers r ≡ Some i
    → resolves m i r ≡ Ok (record {
      answer = answered.Verdicts (verdicts_on m.config.resolver_splits r (seen_before m.book i) entry);
      next = record m { resolvers = slice_set m.resolvers r (i + 1) };
    })
unfolding resolves
resolves-transition m i r entry there at = rw (there, at, le-ltb i i (omega arith)) refl

-- a log takes the message of the entry that is next for it, once that is decided
pub pushes-transition : (m : Machine) (i l : ℕ) (entry : Entry) → slice_get m.book i ≡ Some entry
    → slice_get m.logs l ≡ Some i → is_set m.decided i ≡ true
    → pushes m i l ≡ Ok (record { answer = answered.Done; next = record m { logs = slice_set m.logs l (i + 1) } })
unfolding pushes
pushes-transition m i l entry there at made = rw (there, at, made, le-ltb i i (omega arith)) refl
