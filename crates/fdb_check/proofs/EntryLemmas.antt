-- Entries that follow on one another, tested one after another.
use Rattle.std.proofs.Common.{◌≡◌, sym, ap, subst, ◌↔◌, ℕ, zero, suc, ◌<◌, ◌≤◌, arith, List, [], ◌∷◌, drop, length}
use Rattle.std.proofs.Common.{Some, slice_get}
use Rattle.std.proofs.lemmas.List.Elements.{All-from_recursion, recursion_from_All}
use Rattle.fdb_keys.proofs.Exports.{all-weaken}
use Rattle.fdb_txn.specs.declared.entry.Entry.{Entry}
use Rattle.fdb_txn.specs.declared.entry.Move.{Move}
use Rattle.fdb_txn.specs.book.Transactions.{Transaction, NamesWrites}
use Rattle.fdb_txn.specs.book.History.{IsSealed}
use Rattle.fdb_roles.specs.Judging.{MayFollow}
use Rattle.fdb_roles.proofs.Exports.{all-both}
use Rattle.fdb_check.specs.Judged.{FollowOn}

-- what is left of a list before an item of it
drop-next : {A : Type 0} (xs : List A) (i : ℕ) (x : A) → slice_get xs i ≡ Some x → drop i xs ≡ x ∷ drop (suc i) xs
drop-next [] i x there = cc
drop-next (y ∷ ys) zero x there = let same : y ≡ x = cc in ap (λ z. z ∷ ys) same
drop-next (y ∷ ys) (suc i) x there = drop-next ys i x there

module _ (resolvers : ℕ) where
  -- the first of entries that follow on a version and a horizon may stand after one of these
  may-stand : (last horizon : ℕ) (entry : Entry) (others : List Entry)
      → FollowOn resolvers last horizon (entry ∷ others) → MayFollow last horizon resolvers entry
  may-stand last horizon entry others (entries, rise) = record {
    later = entries.0;
    linked = entries.1.0;
    moves = All-from_recursion (λ (move : Move). move.to < resolvers) entry.moves entries.2;
    reads = All-from_recursion (λ (t : Transaction). t.read < entry.version) entry.batch
        (all-weaken (λ (t : Transaction). (t.read < entry.version) × NamesWrites t)
        (λ (t : Transaction). t.read < entry.version) (λ (t : Transaction) may. may.0) entry.batch entries.3);
    rises = rise.0;
    below = entries.1.1;
  }

  -- a sealed one that may stand there goes before what follows on it
  stands-before : (last horizon : ℕ) (entry : Entry) (others : List Entry) → IsSealed entry
      → MayFollow last horizon resolvers entry → FollowOn resolvers entry.version entry.horizon others
      → FollowOn resolvers last horizon (entry ∷ others)
  stands-before last horizon entry others sealed may follow = (
    (
      may.later,
      (may.linked, may.below),
      recursion_from_All (λ (move : Move). move.to < resolvers) entry.moves may.moves,
      all-both (λ (t : Transaction). t.read < entry.version) NamesWrites
          (λ (t : Transaction). (t.read < entry.version) × NamesWrites t) (λ t below names. (below, names)) entry.batch
          (recursion_from_All (λ (t : Transaction). t.read < entry.version) entry.batch may.reads) sealed,
      follow.0,
    ),
    (may.rises, follow.1),
  )

  -- all entries follow just where those from one on do, on the version and horizon before
  abbrev pub FollowFrom : List Entry → (i last horizon : ℕ) → Type 0
  FollowFrom book i last horizon = FollowOn resolvers 0 0 book ↔ FollowOn resolvers last horizon (drop i book)

  pub follow-first : (book : List Entry) → FollowFrom book 0 0 0
  follow-first [] = (λ entries. (tt, tt), λ entries. (tt, tt))
  follow-first (entry ∷ book) = (λ entries. entries, λ entries. entries)

  module _ (book : List Entry) (i last horizon : ℕ) (entry : Entry) (there : slice_get book i ≡ Some entry)
      (so_far : FollowFrom book i last horizon) where
    here : drop i book ≡ entry ∷ drop (suc i) book
    here = drop-next book i entry there

    pub follow-next : IsSealed entry → MayFollow last horizon resolvers entry
        → FollowFrom book (suc i) entry.version entry.horizon
    follow-next sealed may = (
      λ follow. let left = subst (FollowOn resolvers last horizon) here (so_far.0 follow) in (left.0.4, left.1.1),
      λ follow. so_far.1 (subst (FollowOn resolvers last horizon) (sym here)
          (stands-before last horizon entry (drop (suc i) book) sealed may follow)),
    )

    -- where one can't stand, they don't follow
    pub follows-there : FollowOn resolvers 0 0 book → MayFollow last horizon resolvers entry
    follows-there follow = may-stand last horizon entry (drop (suc i) book)
        (subst (FollowOn resolvers last horizon) here (so_far.0 follow))

  -- at the end of the book they do
  pub follow-all : (book : List Entry) (i last horizon : ℕ) → length book ≤ i → FollowFrom book i last horizon
      → FollowOn resolvers 0 0 book
  follow-all book i last horizon all so_far = so_far.1 (ended book i all)
    where
      ended : (rest : List Entry) (n : ℕ) → length rest ≤ n → FollowOn resolvers last horizon (drop n rest)
      ended [] zero all = (tt, tt)
      ended [] (suc n) all = (tt, tt)
      ended (entry ∷ rest) zero all = absurd (omega (arith, all))
      ended (entry ∷ rest) (suc n) all = ended rest n (omega (arith, all))
