-- What stays of a session where its front grows.
use Rattle.std.proofs.Common.{◌≡◌, ◌∙◌, sym, ap, subst, ◌≤◌, ℕ, Bool, List, [], Option, Some, None}
use Rattle.std.proofs.Common.{arith}
use Rattle.std.specs.Prelude.{IfSome, IfOk, OnErr, Result, Ok, Err}
use Rattle.std.proofs.lemmas.List.{append-nil}
use Rattle.fdb_keys.specs.Answers.{Answers}
use Rattle.fdb_keys.specs.Points.{Point}
use Rattle.fdb_keys.specs.declared.refusal.Refusal.{Refusal}
use Rattle.fdb_keys.specs.Ranges.{Range}
use Rattle.fdb_mutations.specs.Maps.{Map}
use Rattle.fdb_mutations.specs.PairLaws.{given_of}
use Rattle.fdb_txn.specs.declared.entry.Entry.{Entry}
use Rattle.fdb_txn.specs.book.Book.{last_version, seen_of}
use Rattle.fdb_txn.specs.rules.SerialMap.{serial_map_at}
use Rattle.fdb_txn.specs.book.History.{AreEntries, AreLinked}
use Rattle.fdb_book.specs.Fronts.{IsPrefix}
use Rattle.fdb_client.specs.declared.program.Op.{Op}
use Rattle.fdb_client.specs.declared.program.Op.TheVariants as operation
use Rattle.fdb_client.specs.declared.program.Reply.{Reply}
use Rattle.fdb_client.specs.declared.program.Reply.TheVariants as answer
use Rattle.fdb_client.specs.declared.program.Transcript.{Transcript}
use Rattle.fdb_client.specs.Programs.{program, copy, reply_on}
use Rattle.fdb_client.specs.TxnState.{with_op}
use Rattle.fdb_client.proofs.Exports.{program-push, replies-push}
use Rattle.fdb_roles.specs.Spots.{AnsweredOn}
use Rattle.fdb_roles.proofs.Exports.{fronts_have_one_run, entries-linked, front-version}
use Rattle.fdb_sections.specs.Reading.{HasRead}
use Rattle.fdb_sections.specs.Sessions.{IsOpenAt, Session, with_current}

-- a front begins with itself
pub begins-itself : (front : List Entry) → IsPrefix front front
begins-itself front = ([], sym (append-nil front))

-- a front that begins with another one reaches the version that this one reaches
pub reaches : (resolvers : ℕ) (short long : List Entry) → AreEntries resolvers 0 long → IsPrefix short long
    → last_version short ≤ last_version long
reaches resolvers short long entries begins =
    subst (λ (all : List Entry). last_version short ≤ last_version all) (sym begins.1)
    (front-version short begins.0 (subst (AreLinked 0) begins.1 (entries-linked resolvers 0 long entries)))

-- what is open at a front is open at one that begins with it
pub stays-open : (splits : List Point) (resolvers number next : ℕ) (short long : List Entry) (transcript : Transcript)
    → AreEntries resolvers 0 long → IsPrefix short long → IsOpenAt splits number next short transcript
    → IsOpenAt splits number next long transcript
stays-open splits resolvers number next short long transcript entries begins is =
    record {
      of_session = is.of_session;
      numbered = is.numbered;
      reached = omega (arith, is.reached, reaches resolvers short long entries begins);
      answered = subst (λ (map : Map). AnsweredOn map transcript)
          (fronts_have_one_run splits short long begins (entries-linked resolvers 0 long entries)
          transcript.read_version is.reached) is.answered;
    }

-- a transaction that is open is so with one operation more, which got the reply that it has on the run
pub reads-open : (splits : List Point) (number next : ℕ) (front : List Entry) (old new : Transcript) (op : Op)
    (reply : Reply) → IsOpenAt splits number next front old → new ≡ with_op old op reply
    → reply
    ≡ reply_on (copy (serial_map_at splits old.read_version (seen_of front).places) (program old.ops)) op
    → IsOpenAt splits number next front new
reads-open splits number next front old new op reply is noted replied =
    subst (IsOpenAt splits number next front) (sym noted)
    (record {
      of_session = is.of_session;
      numbered = is.numbered;
      reached = is.reached;
      answered = rw (program-push old.ops (op, reply), replies-push old.ops (op, reply))
          ((λ ordinary. replied), is.answered);
    })

-- a read of a range on the run leaves it open, also where it is refused
pub range-read-opens : (splits : List Point) (number next : ℕ) (front : List Entry) (old new : Transcript) (there : Map)
    (result : Result (List (Point × List ℕ)) Refusal) (range : Range) (limit : ℕ) (is_reverse is_snapshot : Bool)
    → IsOpenAt splits number next front old
    → there ≡ serial_map_at splits old.read_version (seen_of front).places
    → IfOk result (λ pairs. (pairs ≡ given_of (copy there (program old.ops)) range limit is_reverse)
    × (new ≡ with_op old (operation.Range range limit is_reverse is_snapshot) (answer.Pairs pairs)))
    → OnErr result (new ≡ old) → IsOpenAt splits number next front new
range-read-opens splits number next front old new there (Ok pairs) range limit is_reverse is_snapshot is run given
    left =
    reads-open splits number next front old new (operation.Range range limit is_reverse is_snapshot)
    (answer.Pairs pairs) is given.1
    (ap (λ (it : List (Point × List ℕ)). answer.Pairs it) (given.0
    ∙ ap (λ (it : Map). given_of (copy it (program old.ops)) range limit is_reverse) run))
range-read-opens splits number next front old new there (Err why) range limit is_reverse is_snapshot is run given
    left =
    subst (IsOpenAt splits number next front) (sym left) is

-- a read of a range on what is the run is one on the run
pub range-read-on : (splits : List Point) (old new : Session) (there : Map)
    (result : Result (List (Point × List ℕ)) Refusal) (range : Range) (limit : ℕ) (is_reverse is_snapshot : Bool)
    → IfSome old.current (λ transcript.
    there ≡ serial_map_at splits transcript.read_version (seen_of old.front).places)
    → IfOk result (λ pairs. IfSome old.current (λ transcript.
    (pairs ≡ given_of (copy there (program transcript.ops)) range limit is_reverse)
    × (new ≡ with_current old (Some (with_op transcript (operation.Range range limit is_reverse is_snapshot)
    (answer.Pairs pairs))))))
    → IfOk result (λ pairs.
    HasRead splits old (operation.Range range limit is_reverse is_snapshot) (answer.Pairs pairs) new)
range-read-on splits old new there (Err why) range limit is_reverse is_snapshot run given = tt
range-read-on splits old new there (Ok pairs) range limit is_reverse is_snapshot run given =
    by_current old.current run given
  where
    by_current : (current : Option Transcript)
        → IfSome current (λ transcript.
        there ≡ serial_map_at splits transcript.read_version (seen_of old.front).places)
        → IfSome current (λ transcript.
        (pairs ≡ given_of (copy there (program transcript.ops)) range limit is_reverse)
        × (new ≡ with_current old (Some (with_op transcript (operation.Range range limit is_reverse is_snapshot)
        (answer.Pairs pairs)))))
        → IfSome current (λ transcript.
        (answer.Pairs pairs
        ≡ reply_on (copy (serial_map_at splits transcript.read_version (seen_of old.front).places)
        (program transcript.ops)) (operation.Range range limit is_reverse is_snapshot))
        × (new ≡ with_current old (Some (with_op transcript (operation.Range range limit is_reverse is_snapshot)
        (answer.Pairs pairs)))))
    by_current None run given = tt
    by_current (Some transcript) run given = (
      ap (λ (it : List (Point × List ℕ)). answer.Pairs it) (given.0
          ∙ ap (λ (it : Map). given_of (copy it (program transcript.ops)) range limit is_reverse) run),
      given.1,
    )

-- what holds of a value holds of what a call gives that gives just it
pub where-given : {T : Type 0} (result : Result T Refusal) (x : T) (P : T → Type 0)
    → Answers result None (λ given. given ≡ x) → P x → IfOk result P
where-given (Ok given) x P is holds = subst P (sym is) holds
where-given (Err why) x P is holds = tt

-- A session whose front grows, and whose mark the new front reaches, is one there.
pub grown : (splits : List Point) (resolvers number next mark : ℕ) (short long : List Entry)
    (current : Option Transcript) → AreEntries resolvers 0 long → IsPrefix short long → mark ≤ last_version long
    → IfSome current (IsOpenAt splits number next short)
    → (mark ≤ last_version long) × IfSome current (IsOpenAt splits number next long)
grown splits resolvers number next mark short long (Some transcript) entries begins reached is =
    (reached, stays-open splits resolvers number next short long transcript entries begins is)
grown splits resolvers number next mark short long None entries begins reached is = (reached, tt)
