-- What waits in small books of a queue.
use Rattle.std.proofs.Common.{◌≡◌, refl, ℕ, List, [], ◌∷◌, ⊎_elim}
use Rattle.std.proofs.Math.Logic.{inl, inr}
use Rattle.fdb_keys.specs.Insertion.{inserted}
use Rattle.fdb_keys.specs.Points.{point_lt}
use Rattle.fdb_mutations.specs.Stamps.{stamp_bytes}
use Rattle.fdb_mutations.specs.declared.mutation.Mutation.TheVariants.{Clear, Stamped}
use Rattle.fdb_txn.specs.book.Book.{Place, head_at, placed}
use Rattle.fdb_txn.specs.rules.Stamped.{stamped_by}
use Rattle.fdb_txn.proofs.Exports.{get-effects}
use Rattle.fdb_client.specs.declared.program.Op.{Op}
use Rattle.fdb_client.specs.declared.program.Reply.{Reply}
use Rattle.fdb_client.specs.Programs.{commit_request_of}
use Rattle.fdb_layers.specs.Queue.{pushing, unstamped}
use Rattle.fdb_layers.specs.QueueBooks.{TakesAt}
use Rattle.fdb_layers.specs.QueueBooksExamples.{clearing_it, first_of, its_key, WorkedItems}
use Rattle.fdb_layers.proofs.OperationsLemmas.{nowhere}

-- the place of an entry's transaction
abbrev pub place_at : ℕ → ℕ → List (Op × Reply) → Place
place_at version session ops =
    placed (head_at version 0 []) 0 (commit_request_of (record { id = first_of session; read_version = 0; ops = ops }))

abbrev pub push_place : Place
push_place = place_at 100 0 (pushing (first_of 0) (7 ∷ []))

abbrev pub taking_place : Place
taking_place = place_at 200 1 clearing_it

-- it is taken once it was pushed, once more, and where nobody pushed it
pub takes : TakesAt [] (push_place ∷ []) taking_place its_key
unfolding point_lt inserted
takes = record { commits = refl; takes = refl }

takes-again : TakesAt [] (taking_place ∷ push_place ∷ []) (place_at 300 2 clearing_it) its_key
unfolding point_lt inserted
takes-again = record { commits = refl; takes = refl }

takes-early : TakesAt [] [] (place_at 100 1 clearing_it) its_key
takes-early = record { commits = refl; takes = refl }

pub worked_items : WorkedItems
worked_items = record {
  waits = record {
    pushed = inl (record { commits = refl; key_is = refl; pushes = refl });
    untaken = ⊎_elim
        (λ here. let wrong : Stamped its_key (unstamped (7 ∷ [])) 0 ∷ [] ≡ Clear its_key ∷ [] = here.takes in cc)
        (λ none. none);
    stands = (
      stamp_bytes 100 0,
      refl,
      get-effects nowhere (stamped_by 100 0 (Stamped its_key (unstamped (7 ∷ [])) 0 ∷ [])) its_key,
    );
  };
  no_more = λ item waits. waits.untaken (inl takes);
  not_twice = λ keeps.
      (keeps.once [] (place_at 300 2 clearing_it) (taking_place ∷ push_place ∷ []) its_key refl
      takes-again).1.untaken (inl takes);
  not_made_up = λ keeps. (keeps.once [] (place_at 100 1 clearing_it) [] its_key refl takes-early).1.pushed;
}
