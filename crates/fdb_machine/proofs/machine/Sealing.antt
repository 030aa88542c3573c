-- What a seal makes: the entry of those who waited first, the proxy that has them in flight, and the machine.
use Rattle.std.proofs.Common.{◌≡◌, ◌∙◌, refl, ap, ℕ, ◌<◌, ◌≤◌, true, false, List, [], ◌∷◌, ◌++◌, length, map, take}
use Rattle.std.proofs.Common.{Some, Ok, arith}
use Rattle.std.specs.List.{slice_get, slice_set}
use Rattle.std.proofs.lemmas.Bool.{le-ltb, lt-leb}
use Rattle.std.proofs.lemmas.List.{length-map, length-take}
use Rattle.fdb_txn.specs.Limits.{place_limit, version_limit}
use Rattle.fdb_txn.specs.declared.entry.Entry.{Entry}
use Rattle.fdb_txn.specs.book.Book.{last_version, last_horizon, next_horizon}
use Rattle.fdb_txn.specs.book.Transactions.{Transaction}
use Rattle.fdb_sequencer.specs.Sequencer.{next_version}
use Rattle.fdb_client.specs.declared.program.Transcript.{Transcript}
use Rattle.fdb_client.specs.Programs.{commit_request_of}
use Rattle.fdb_machine.specs.machine.CommitProxySteps.{seals, is_idle, with_batch}
use Rattle.fdb_machine.specs.machine.Machine.{Machine}
use Rattle.fdb_machine.specs.machine.Roles.{CommitProxy}
use Rattle.fdb_machine.specs.declared.step.Answered.TheVariants as answered

-- the entry that a seal makes of those who wait first
abbrev pub sealed_entry : Machine → ℕ → CommitProxy → Entry
sealed_entry m advance commit_proxy = record {
  version = next_version (last_version m.book) advance;
  prev = last_version m.book;
  horizon = next_horizon (last_horizon m.book) m.window (next_version (last_version m.book) advance);
  moves = m.pending;
  batch = map commit_request_of (take place_limit commit_proxy.waiting);
}

-- the commit proxy with its batch in flight
abbrev pub sealed_proxy : Machine → CommitProxy → CommitProxy
sealed_proxy m commit_proxy = with_batch commit_proxy (length m.book) (length m.resolvers)

-- the machine after a seal
abbrev pub sealed_machine : Machine → ℕ → ℕ → CommitProxy → Machine
sealed_machine m proxy advance commit_proxy = record m {
  book = m.book ++ sealed_entry m advance commit_proxy ∷ [];
  entry_proxies = m.entry_proxies ++ proxy ∷ [];
  decided = m.decided ++ false ∷ [];
  pending = [];
  commit_proxies = slice_set m.commit_proxies proxy (sealed_proxy m commit_proxy);
}

-- a proxy without a batch in flight seals, where there are versions and places in the book left
pub seals-transition : (m : Machine) (proxy advance : ℕ) (commit_proxy : CommitProxy)
    → slice_get m.commit_proxies proxy ≡ Some commit_proxy → is_idle commit_proxy.stage ≡ true
    → next_version (last_version m.book) advance ≤ version_limit → length m.book < m.config.book
    → seals m proxy advance ≡ Ok (record {
      answer = answered.Issued (length m.book) (next_version (last_version m.book) advance) (last_version m.book)
          (length (take place_limit commit_proxy.waiting));
      next = sealed_machine m proxy advance commit_proxy;
    })
unfolding seals
seals-transition m proxy advance commit_proxy there idle few room =
    rw (
      there,
      idle,
      le-ltb version_limit (next_version (last_version m.book) advance) few,
      lt-leb m.config.book
          (length m.book) room,
    ) refl

-- as many transactions as transcripts, and at most as many as a batch may have
pub length-sealed : (waiting : List Transcript) (batch : List Transaction)
    → batch ≡ map commit_request_of (take place_limit waiting) → length batch ≡ length (take place_limit waiting)
length-sealed waiting batch is = ap length is ∙ length-map (take place_limit waiting) commit_request_of

pub batch-fits : (waiting : List Transcript) (batch : List Transaction)
    → batch ≡ map commit_request_of (take place_limit waiting) → length batch ≤ place_limit
batch-fits waiting batch is = omega (arith, length-sealed waiting batch is, length-take place_limit waiting)

-- the one at the end is found under the old length
pub last-at : {A : Type 0} (xs : List A) (x : A) → slice_get (xs ++ x ∷ []) (length xs) ≡ Some x
last-at [] x = refl
last-at (y ∷ ys) x = last-at ys x
