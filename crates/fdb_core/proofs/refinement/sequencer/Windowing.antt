-- A window that the sequencer takes is the machine's.
use Rattle.std.proofs.Common.{◌≡◌, refl, sym, subst, ℕ, ◌≤◌, None, Some, Ok, Err}
use Rattle.fdb_keys.specs.Answers.{AnswersExactly}
use Rattle.fdb_keys.specs.declared.refusal.Refusal.{Refusal}
use Rattle.fdb_sequencer.specs.Sequencer.{Sequencer, set_window_fault, windowing}
use Rattle.fdb_machine.specs.machine.SequencerSteps.{sets_window}
use Rattle.fdb_machine.proofs.Exports.{window-legal}
use Rattle.fdb_roles.proofs.Exports.{given-fault}
use Rattle.fdb_core.specs.declared.cluster.Cluster.{Cluster}
use Rattle.fdb_core.specs.refinement.Cluster.{machine_of, Refines}

module _ (k : Cluster) (refines : Refines k) (width : ℕ) where
  -- the world stays tied
  refines-windowed : 1 ≤ width → Refines (record k { sequencer = windowing k.sequencer width })
  refines-windowed some = let was = refines.sequencer in record {
    legal = refines.legal;
    room = refines.room;
    sequencer = record {
      proxies = was.proxies;
      accepted = was.accepted;
      last = was.last;
      committed = was.committed;
      resolvers = was.resolvers;
      count = was.count;
      targets = was.targets;
      made = was.made;
      horizon = was.horizon;
      window = some;
    };
    book = refines.book;
    parts = refines.parts;
    resolvers = refines.resolvers;
    logs = refines.logs;
    shard_map = refines.shard_map;
    commit_proxies = refines.commit_proxies;
    grv_proxies = refines.grv_proxies;
    opened = refines.opened;
    conflicts = refines.conflicts;
  }

  -- where the sequencer took the window, it is its own, and so it is the machine's
  pub window-taken : (later : Sequencer) (given : Unit {0})
      → AnswersExactly (Ok given) (set_window_fault width) (λ _. later ≡ windowing k.sequencer width)
      → (set_window_fault width ≡ None) × (later ≡ windowing k.sequencer width)
      × Refines (record k { sequencer = later })
  window-taken later given answers =
      let taken = given-fault (set_window_fault width) given (λ _. later ≡ windowing k.sequencer width) answers in (
        taken.0,
        taken.1,
        subst (λ (sequencer : Sequencer). Refines (record k { sequencer = sequencer })) (sym taken.1)
            (refines-windowed (window-legal width taken.0).0),
      )

  -- what the sequencer refuses, the machine refuses
  pub window-refused : (why : Refusal) → set_window_fault width ≡ Some why
      → sets_window (machine_of k) width ≡ Err why
  unfolding sets_window
  window-refused why fault = rw fault refl
