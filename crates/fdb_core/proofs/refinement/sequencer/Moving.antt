-- A move that the sequencer takes is the machine's.
use Rattle.std.proofs.Common.{◌≡◌, sym, ap, subst, ℕ, Bool, true, false, [], ◌∷◌, None, Some, Ok, Err, arith}
use Rattle.std.specs.Prelude.{nat_le, ◌||◌, if◌then◌else◌}
use Rattle.std.proofs.lemmas.List.{length-append}
use Rattle.fdb_keys.specs.Answers.{Answers}
use Rattle.fdb_keys.specs.Ranges.{Range, is_empty_range}
use Rattle.fdb_keys.specs.declared.refusal.Refusal.{Refusal}
use Rattle.fdb_keys.specs.declared.refusal.Refusal.TheVariants.{BadConfig, MovesFull}
use Rattle.fdb_txn.specs.declared.entry.Move.{Move}
use Rattle.fdb_sequencer.specs.Sequencer.{Sequencer, move_fault, moving}
use Rattle.fdb_sequencer.proofs.Exports.{pending_exist}
use Rattle.fdb_core.specs.declared.cluster.Cluster.{Cluster}
use Rattle.fdb_core.specs.refinement.Restoring.{Tied}
use Rattle.fdb_core.specs.refinement.Cluster.{machine_of, Refines, SequencerRefines}
use Rattle.fdb_machine.specs.machine.Machine.{Transition, refused_where}
use Rattle.fdb_machine.specs.machine.SequencerSteps.{moves}
use Rattle.fdb_txn.specs.Limits.{move_limit}
use Rattle.fdb_roles.proofs.Exports.{answers-fault}
use Rattle.fdb_core.proofs.refinement.StepLemmas.{IsKept, kept}

module _ (k : Cluster) (refines : Refines k) (range : Range) (to : ℕ) where
  abbrev own : Move
  own = record { range = range; to = to }

  -- the sequencer stays tied
  pub sequencer-moved : move_fault k.sequencer own ≡ None
      → SequencerRefines k.config k.book.items (moving k.sequencer own)
  sequencer-moved fault =
      let was = refines.sequencer in
      record {
        proxies = was.proxies;
        accepted = was.accepted;
        last = was.last;
        committed = was.committed;
        resolvers = was.resolvers;
        count = was.count;
        targets = pending_exist k.sequencer own fault was.targets;
        made = omega (arith, was.made, length-append k.sequencer.pending (own ∷ []));
        horizon = was.horizon;
        window = was.window;
      }

  -- and so does the world
  refines-moved : move_fault k.sequencer own ≡ None → Refines (record k { sequencer = moving k.sequencer own })
  refines-moved fault = record {
    legal = refines.legal;
    room = refines.room;
    sequencer = sequencer-moved fault;
    book = refines.book;
    parts = refines.parts;
    resolvers = refines.resolvers;
    logs = refines.logs;
    shard_map = refines.shard_map;
    commit_proxies = refines.commit_proxies;
    grv_proxies = refines.grv_proxies;
    opened = refines.opened;
    conflicts = refines.conflicts;
  }

  -- where the sequencer took the move
  pub refines-taken : (later : Sequencer) (given : Unit {0})
      → Answers (Ok given) (move_fault k.sequencer own) (λ _. later ≡ moving k.sequencer own)
      → Refines (record k { sequencer = later })
  refines-taken later given answers =
      let taken = answers-fault (move_fault k.sequencer own) given (λ _. later ≡ moving k.sequencer own) answers in
      subst (λ (sequencer : Sequencer). Refines (record k { sequencer = sequencer })) (sym taken.1)
      (refines-moved taken.0)

  -- what the sequencer refuses, the machine refuses
  pub moves-refused : (why : Refusal) → move_fault k.sequencer own ≡ Some why
      → moves (machine_of k) range to ≡ Err why
  unfolding moves
  moves-refused why fault =
      let was = refines.sequencer in
      rw (sym was.resolvers, sym was.made)
      (by (nat_le k.sequencer.resolvers to || is_empty_range range) (nat_le move_limit k.sequencer.made) _ fault)
    where
      by : (bad full : Bool) (going : Transition)
          → (if bad then Some BadConfig else (if full then Some MovesFull else None)) ≡ Some why
          → refused_where bad BadConfig (refused_where full MovesFull (Ok going)) ≡ Err why
      by true full going is = let same : BadConfig ≡ why = cc in ap (λ (it : Refusal). Err it) same
      by false true going is = let same : MovesFull ≡ why = cc in ap (λ (it : Refusal). Err it) same
      by false false going is = cc

-- a sequencer that is what it was leaves the world as it was
pub sequencer-same : (k : Cluster) (tied : Tied k) (later : Sequencer) → later ≡ k.sequencer
    → IsKept k (record k { sequencer = later })
sequencer-same k tied later same =
    subst (λ (sequencer : Sequencer). IsKept k (record k { sequencer = sequencer })) (sym same) (kept k tied)
