-- What it takes to keep the machine sound: tests that accepted steps passed, transcripts, the book, and parts that
-- change.
use Rattle.std.proofs.Common.{◌≡◌, ◌∙◌, sym, ap, subst, arith, ◌<◌, ◌≤◌, le_trans, ℕ, zero, suc, List, []}
use Rattle.std.proofs.Common.{◌∷◌, ◌++◌, map, Some}
use Rattle.std.specs.List.{AllByRecursion, slice_get}
use Rattle.fdb_keys.proofs.Exports.{all-weaken}
use Rattle.fdb_mutations.specs.Maps.{Map}
use Rattle.fdb_txn.specs.declared.entry.Entry.{Entry}
use Rattle.fdb_txn.specs.book.Book.{seen_of}
use Rattle.fdb_txn.specs.book.History.{AreEntries}
use Rattle.fdb_txn.specs.rules.SerialMap.{serial_map_at}
use Rattle.fdb_txn.specs.laws.SerialMapLaws.{version_after}
use Rattle.fdb_txn.specs.book.Transactions.{Transaction, NamesWrites}
use Rattle.fdb_txn.proofs.Exports.{earlier_maps_stay}
use Rattle.fdb_client.specs.declared.program.Op.{Op}
use Rattle.fdb_client.specs.declared.program.Reply.{Reply}
use Rattle.fdb_client.specs.declared.program.Transcript.{Transcript}
use Rattle.fdb_client.specs.Programs.{program, copy, reply_on, exec, commit_request_of, replies_of}
use Rattle.fdb_client.specs.TxnState.{with_op}
use Rattle.fdb_client.proofs.Exports.{commit_request_of-names, program-push, replies-push}
use Rattle.fdb_roles.proofs.Exports.{all-map, last-above}
use Rattle.fdb_machine.specs.machine.Roles.{CommitProxy}
use Rattle.fdb_machine.specs.machine.Machine.{Machine}
use Rattle.fdb_machine.specs.invariant.Invariant.{IsReplied, CommitProxyIsSound, Invariant}
use Rattle.fdb_machine.specs.invariant.Places.{AllStand}

-- all sessions of a sound machine stand as their states say
pub sessions-stand : (m : Machine) → Invariant m → AllStand m
sessions-stand m sound = (sound.once (record { session = 0; number = 0 })).0

-- a transcript stays told with one more operation that is replied from the copy after the earlier ones
pub told-push : (m : Machine) (transcript : Transcript) (op : Op) (reply : Reply)
    → reply ≡ reply_on
    (copy (serial_map_at m.config.resolver_splits transcript.read_version (seen_of m.book).places)
    (program transcript.ops)) op
    → IsReplied m transcript → IsReplied m (with_op transcript op reply)
told-push m transcript op reply is told = (
  told.0,
  replies-push transcript.ops (op, reply) ∙ ap (λ (first : Reply). first ∷ replies_of transcript.ops) is
      ∙ ap (λ (others : List Reply). reply_on (copy there (program transcript.ops)) op ∷ others) told.1
      ∙ ap (exec there) (sym (program-push transcript.ops (op, reply))),
)
  where
    there : Map
    there = serial_map_at m.config.resolver_splits transcript.read_version (seen_of m.book).places

-- those who wait may be the batch of an entry of a version above the committed one
pub sealed-batch : (m : Machine) (version : ℕ) (transcripts : List Transcript) → m.committed < version
    → AllByRecursion (IsReplied m) transcripts
    → AllByRecursion (λ (t : Transaction). (t.read < version) × NamesWrites t) (map commit_request_of transcripts)
sealed-batch m version transcripts above waits =
    all-map (IsReplied m) (λ (t : Transaction). (t.read < version) × NamesWrites t) commit_request_of
    (λ transcript told. (omega (arith, told.0, above), commit_request_of-names transcript)) transcripts waits

-- what is found in a list is found there with more after it
pub found-front : {A : Type 0} (xs ys : List A) (i : ℕ) (x : A) → slice_get xs i ≡ Some x
    → slice_get (xs ++ ys) i ≡ Some x
found-front [] ys i x there = cc
found-front (y ∷ xs) ys zero x there = there
found-front (y ∷ xs) ys (suc i) x there = found-front xs ys i x there

pub version-within : (resolvers last : ℕ) (book : List Entry) (i : ℕ) (entry : Entry) → AreEntries resolvers last book
    → slice_get book i ≡ Some entry
    → entry.version ≤ version_after last book
version-within resolvers last [] i entry entries there = cc
version-within resolvers last (first ∷ book) zero entry entries there =
    let same : first ≡ entry = cc in
    subst (λ (e : Entry). e.version ≤ version_after first.version book) same
    (last-above resolvers first.version book entries.4)
version-within resolvers last (first ∷ book) (suc i) entry entries there = version-within resolvers first.version book i
    entry entries.4 there

-- with one more entry of a version above the committed one each transcript stays told
pub told-entry : (m : Machine) (entry : Entry) (transcript : Transcript) → m.committed < entry.version
    → IsReplied m transcript
    → IsReplied (record m { book = m.book ++ entry ∷ [] }) transcript
told-entry m entry transcript above told = (
  told.0,
  told.1 ∙ ap (λ (there : Map). exec there (program transcript.ops))
      (sym (earlier_maps_stay m.config.resolver_splits m.book entry transcript.read_version
      (omega (arith, told.0, above)))),
)

-- what keeps transcripts told and entries found, and lowers nothing, keeps commit proxies sound
pub commit_proxy-kept : (m after : Machine) → m.committed ≤ after.committed
    → ((transcript : Transcript) → IsReplied m transcript → IsReplied after transcript)
    → ((i : ℕ) (entry : Entry) → slice_get m.book i ≡ Some entry → slice_get after.book i ≡ Some entry)
    → (commit_proxy : CommitProxy) → CommitProxyIsSound m commit_proxy → CommitProxyIsSound after commit_proxy
commit_proxy-kept m after raised told found commit_proxy sound = (
  all-weaken (IsReplied m) (IsReplied after) told commit_proxy.waiting sound.0,
  all-weaken (IsReplied m) (IsReplied after) told commit_proxy.in_flight sound.1,
  λ busy. let there = sound.2 busy in
      (there.0, found commit_proxy.entry there.0 there.1, there.2, λ reported. le_trans (there.3 reported) raised),
)
