-- The receipt of a pop hands out the item that it popped.
use Rattle.std.proofs.Common.{◌≡◌, ◌∙◌, sym, ap, subst, refl, ℕ, Bool, true, false, List, [], ◌∷◌, ◌++◌, drop, length}
use Rattle.std.proofs.Common.{◌⊎◌}
use Rattle.std.proofs.Common.{Option, Some, None, slice_get, ⊎_elim}
use Rattle.std.specs.Option.{option_map}
use Rattle.std.proofs.Math.Logic.{inl, inr, ∥∥₁_map}
use Rattle.std.proofs.Math.Seq.{drop-append_seam}
use Rattle.std.proofs.lemmas.Option.{none-some, same_Some}
use Rattle.fdb_keys.specs.Insertion.{inserted}
use Rattle.fdb_keys.specs.Points.{Point, point_lt}
use Rattle.fdb_mutations.specs.Stamps.{stamp_size}
use Rattle.fdb_mutations.specs.declared.mutation.Mutation.{Mutation}
use Rattle.fdb_mutations.specs.declared.mutation.Mutation.TheVariants.{Clear}
use Rattle.fdb_txn.specs.declared.entry.Entry.{Entry}
use Rattle.fdb_txn.specs.declared.spot.Spot.{Spot}
use Rattle.fdb_txn.specs.declared.spot.Spot.TheVariants as spot
use Rattle.fdb_txn.specs.book.Book.{Place, Seen, seen_of}
use Rattle.fdb_txn.specs.book.Places.{place_of}
use Rattle.fdb_txn.specs.book.Transactions.{Transaction}
use Rattle.fdb_txn.specs.rules.SerialMap.{serial_map}
use Rattle.fdb_txn.proofs.Exports.{places_are_found_in_the_book}
use Rattle.fdb_client.specs.declared.program.Op.{Op}
use Rattle.fdb_client.specs.declared.program.Reply.{Reply}
use Rattle.fdb_client.specs.Programs.{program, mutations_of}
use Rattle.fdb_roles.specs.Layers.{IsBookOf}
use Rattle.fdb_roles.specs.Spots.{IsReadOnlyAt, IsSerializedAt, IsSerializedAtSpot}
use Rattle.fdb_sections.specs.Receipts.{ReceiptAtFront, IsReceipt}
use Rattle.fdb_layers.specs.Handing.{HandsOut, HandsOutIfAny, ReceiptsHandOut, WorkedHanding}
use Rattle.fdb_layers.specs.Queue.{item_of, popping, pushing, unstamped, IsOfQueue, IsOldestIfAny, PopsItem}
use Rattle.fdb_layers.specs.QueueBooks.{IsWaiting, PushesAt, TakesAt, WasPushed}
use Rattle.fdb_layers.specs.QueueBooksExamples.{first_of, its_key, taken}
use Rattle.fdb_layers.proofs.QueueBooksExamplesLemmas.{push_place, taking_place, takes, worked_items}
use Rattle.fdb_layers.proofs.QueueBooksLemmas.{popped-there, queue_books_keep_their_items, stamped-item}

-- where a place is found in an entry there is the entry
entry-there : (before : Seen) (p : ℕ) (entry : Option Entry) (there : Place × List Place)
    → place_of before p entry ≡ Some there → (e : Entry) × (entry ≡ Some e)
entry-there before p None there at = absurd (none-some there at)
entry-there before p (Some e) there at = (e, refl)

module _ (splits : List Point) (receipt : ReceiptAtFront) (of : IsBookOf IsOfQueue splits receipt.front)
    (pairs : List (Point × List ℕ)) (pair : Point × List ℕ) (first : IsOldestIfAny pairs (Some pair))
    (done : receipt.transcript.ops ≡ popping pairs (Some pair)) where
  -- it clears the pair's key, and nothing else
  clears : mutations_of (program receipt.transcript.ops) ≡ Clear pair.0 ∷ []
  clears = ap (λ (these : List (Op × Reply)). mutations_of (program these)) done

  at-place : (entry place version : ℕ) → IsSerializedAt splits receipt.front receipt.transcript entry place version
      → HandsOut splits receipt (item_of pair.1)
  at-place entry place version at = record {
    newer = found.0;
    place = there.0;
    earlier = there.1;
    key = pair.0;
    in_book = found.1;
    own = ap (λ (t : Transaction). t.id) at.3;
    takes = takes-it;
    waited = subst (IsWaiting splits there.1 pair.0) its waits.1;
  }
    where
      there : Place × List Place
      there = at.0

      in-entry : (e : Entry) × (slice_get receipt.front entry ≡ Some e)
      in-entry = entry-there _ place (slice_get receipt.front entry) there at.1

      found : (newer : List Place) × ((seen_of receipt.front).places ≡ newer ++ there.0 ∷ there.1)
      found = (places_are_found_in_the_book receipt.front entry place in-entry.0 there.0 there.1 in-entry.1 at.1).2

      takes-it : TakesAt splits there.1 there.0 pair.0
      takes-it = record { commits = at.4; takes = ap (λ (t : Transaction). t.mutations) at.3 ∙ clears }

      waits : (item : List ℕ) × IsWaiting splits there.1 pair.0 item
      waits = (queue_books_keep_their_items splits receipt.front of).once found.0 there.0 there.1 pair.0 found.1
          takes-it

      value-is : pair.1 ≡ waits.1.stands.0 ++ waits.0
      value-is = same_Some pair.1 (waits.1.stands.0 ++ waits.0)
          (sym (popped-there (serial_map splits there.1) receipt.transcript pairs pair first done at.5)
          ∙ waits.1.stands.2)

      its : waits.0 ≡ item_of pair.1
      its = sym (ap (drop stamp_size) value-is
          ∙ ap (λ (n : ℕ). drop n (waits.1.stands.0 ++ waits.0)) (sym waits.1.stands.1)
          ∙ drop-append_seam waits.1.stands.0 waits.0)

  at-spot : (at : Spot) → IsSerializedAtSpot splits receipt.front receipt.transcript at
      → HandsOut splits receipt (item_of pair.1)
  at-spot (spot.Entry entry place version) at = at-place entry place version at
  at-spot (spot.ReadOnly version) at = let wrong : [] ≡ Clear pair.0 ∷ [] = sym at.1.0 ∙ clears in cc

popped-item : (splits : List Point) (receipt : ReceiptAtFront) (item : List ℕ) (oldest : Option (Point × List ℕ))
    (pairs : List (Point × List ℕ)) → IsReceipt splits receipt → IsBookOf IsOfQueue splits receipt.front
    → IsOldestIfAny pairs oldest → receipt.transcript.ops ≡ popping pairs oldest
    → Some item ≡ option_map (λ (pair : Point × List ℕ). item_of pair.1) oldest → HandsOut splits receipt item
popped-item splits receipt item None pairs is of first done popped = absurd (none-some item (sym popped))
popped-item splits receipt item (Some pair) pairs is of first done popped =
    subst (HandsOut splits receipt) (sym (same_Some item (item_of pair.1) popped))
    (at-spot splits receipt of pairs pair first done receipt.spot is.serialized)

pub receipts_hand_out : ReceiptsHandOut
receipts_hand_out splits receipt item is of (oldest, (pairs, first, done), popped) =
    popped-item splits receipt item oldest pairs is of first done popped

-- the same of what was popped, if anything was
pub handed-if-any : (splits : List Point) (receipt : ReceiptAtFront) (item : Option (List ℕ)) → IsReceipt splits receipt
    → ∥ IsBookOf IsOfQueue splits receipt.front ∥₁ → PopsItem receipt.transcript item
    → HandsOutIfAny splits receipt item
handed-if-any splits receipt None is of pops = tt
handed-if-any splits receipt (Some item) is of pops =
    ∥∥₁_map of (λ of. receipts_hand_out splits receipt item is of pops)

-- a list with a place in it isn't empty
not-empty : (newer : List Place) (place : Place) (earlier : List Place) → [] ≡ newer ++ place ∷ earlier → ⊥
not-empty [] place earlier is = let wrong : [] ≡ place ∷ earlier = is in cc
not-empty (one ∷ newer) place earlier is = let wrong : [] ≡ one ∷ (newer ++ place ∷ earlier) = is in cc

-- one of two places is the newer one or the older one
of-two : (one other : Place) (newer : List Place) (place : Place) (earlier : List Place)
    → one ∷ other ∷ [] ≡ newer ++ place ∷ earlier
    → ((one ≡ place) × (other ∷ [] ≡ earlier)) ⊎ ((other ≡ place) × ([] ≡ earlier))
of-two one other [] place earlier is = let both : one ∷ other ∷ [] ≡ place ∷ earlier = is in inl (cc, cc)
of-two one other (a ∷ []) place earlier is = let both : one ∷ other ∷ [] ≡ a ∷ place ∷ earlier = is in inr (cc, cc)
of-two one other (a ∷ b ∷ newer) place earlier is =
    let rest : [] ≡ newer ++ place ∷ earlier = ap (drop 2) is in absurd (not-empty newer place earlier rest)

-- what was pushed in the book is 7
only-seven : (key : Point) (item : List ℕ) → WasPushed [] (push_place ∷ []) key item → (7 ∷ []) ≡ item
only-seven key item = ⊎_elim
    (λ here. ap stamped-item here.pushes)
    (λ none. absurd none)

-- so whoever takes in the book hands out 7, and is session 1
only-one : (receipt : ReceiptAtFront) (item : List ℕ) → receipt.front ≡ taken → HandsOut [] receipt item
    → ((7 ∷ []) ≡ item) × (receipt.transcript.id ≡ first_of 1)
only-one receipt item front it = ⊎_elim
    (λ newer. (
      only-seven it.key item (subst (λ (earlier : List Place). WasPushed [] earlier it.key item) (sym newer.1)
          it.waited.pushed),
      sym it.own ∙ ap (λ (place : Place). place.transaction.id) (sym newer.0),
    ))
    (λ older. absurd (subst (λ (earlier : List Place). WasPushed [] earlier it.key item) (sym older.1)
    it.waited.pushed))
    (of-two taking_place push_place it.newer it.place it.earlier
    (ap (λ (book : List Entry). (seen_of book).places) (sym front) ∙ it.in_book))

pub worked_handing : WorkedHanding
unfolding point_lt inserted
worked_handing = record {
  handed = record {
    newer = [];
    place = taking_place;
    earlier = push_place ∷ [];
    key = its_key;
    in_book = refl;
    own = refl;
    takes = takes;
    waited = worked_items.waits;
  };
  no_other = λ it. let wrong : (7 ∷ []) ≡ (8 ∷ []) = (only-one _ (8 ∷ []) refl it).0 in cc;
  none_pushed = λ item it. let wrong : first_of 0 ≡ first_of 1 = (only-one _ item refl it).1 in cc;
}
