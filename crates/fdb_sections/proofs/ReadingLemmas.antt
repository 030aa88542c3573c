-- Why a read at shards is refused.
use Rattle.std.proofs.Common.{◌≡◌, ◌∙◌, refl, sym, ap, ap₂, subst, inl, inr, ◌⊎◌, ℕ, Bool, true, List}
use Rattle.std.proofs.Common.{Option, Some, None, Result, Ok, Err}
use Rattle.std.specs.Option.{option_or}
use Rattle.std.specs.Prelude.{IfSome}
use Rattle.fdb_keys.specs.Answers.{Answers}
use Rattle.fdb_keys.specs.Points.{Point}
use Rattle.fdb_keys.specs.Ranges.{Range, in_range, is_within}
use Rattle.fdb_keys.specs.declared.refusal.Refusal.{Refusal}
use Rattle.fdb_keys.specs.declared.refusal.Refusal.TheVariants.{NoMemory}
use Rattle.fdb_keys.proofs.Exports.{within-points}
use Rattle.fdb_mutations.specs.Maps.{Map}
use Rattle.fdb_txn.specs.declared.entry.Entry.{Entry}
use Rattle.fdb_storage.specs.Shards as shards
use Rattle.fdb_client.specs.Programs.{program, copy}
use Rattle.fdb_client.specs.Unreadable.{get_fault, scan_fault, unless_out}
use Rattle.fdb_proxy.specs.declared.config.Config.{Config}
use Rattle.fdb_client.specs.declared.program.Transcript.{Transcript}
use Rattle.fdb_roles.specs.Sessions.{OfOpen}
use Rattle.fdb_sections.specs.LentShards.{LentShards, lending_fault, range_fault}
use Rattle.fdb_sections.specs.Reading.{RefusedBy}
use Rattle.fdb_sections.specs.ShardViews.{ShardView, key_fault, run_of}
use Rattle.fdb_sections.specs.ShardsAtFronts.{ShardAtFront}

-- where memory ran out in a call on the open transaction that has no other fault, nothing is said of one
pub open-ran-out : (T : Type 0) (current : Option Transcript) (why : Refusal) (fault : Transcript → Option Refusal)
    → OfOpen {T = T} current (Err why) (λ transcript. why ≡ NoMemory)
    → IfSome current (λ transcript. (why ≡ NoMemory) ⊎ (fault transcript ≡ Some why))
open-ran-out T (Some transcript) why fault lacks = inl lacks
open-ran-out T None why fault answers = tt

-- a call is refused by its fault
refused-by : {T : Type 0} (result : Result T Refusal) (asked fault : Option Refusal) (P : T → Type 0)
    → asked ≡ fault → Answers result asked P → RefusedBy result fault
refused-by (Ok value) None fault P is answers = sym is
refused-by (Ok value) (Some why) fault P is answers = absurd answers
refused-by (Err why) None fault P is answers = inl answers
refused-by (Err why) (Some other) fault P is answers =
    inr (sym is ∙ ap (λ (it : Refusal). Some it) (sym answers))

-- a call that has a fault which is known late is refused by the one or the other
late-refused : {T : Type 0} (why : Refusal) (late : Option Refusal) (P : T → Type 0)
    → Answers {T = T} (Err why) (unless_out {T = T} (Err why) late) P → RefusedBy {T = T} (Err why) late
late-refused NoMemory late P answers = inl refl
late-refused why None P answers = inl answers
late-refused why (Some fault) P answers = inr (ap (λ (it : Refusal). Some it) (sym answers))

refused-late : {T : Type 0} (result : Result T Refusal) (asked fault late : Option Refusal) (P : T → Type 0)
    → asked ≡ fault → Answers result (option_or asked (unless_out result late)) P
    → RefusedBy result (option_or fault late)
refused-late (Ok value) None fault None P is answers = ap (λ (it : Option Refusal). option_or it None) (sym is)
refused-late (Ok value) None fault (Some why) P is answers = absurd answers
refused-late (Ok value) (Some why) fault late P is answers = absurd answers
refused-late {T} (Err why) None fault late P is answers =
    subst (λ (it : Option Refusal). RefusedBy {T = T} (Err why) (option_or it late)) is
    (late-refused why late P answers)
refused-late {T} (Err why) (Some other) fault late P is answers =
    subst (λ (it : Option Refusal). RefusedBy {T = T} (Err why) (option_or it late)) is
    (inr (ap (λ (it : Refusal). Some it) (sym answers)))

-- what a read answers by a fault it is refused by
pub read-refused : {T : Type 0} (current : Option Transcript) (result : Result T Refusal)
    (asked fault : Transcript → Option Refusal) (P : Transcript → T → Type 0)
    → IfSome current (λ transcript. asked transcript ≡ fault transcript)
    → OfOpen current result (λ transcript. Answers result (asked transcript) (P transcript))
    → IfSome current (λ transcript. RefusedBy result (fault transcript))
read-refused None result asked fault P same answers = tt
read-refused (Some transcript) result asked fault P same answers =
    refused-by result (asked transcript) (fault transcript) (P transcript) same answers

-- and what a read of a range answers, by the fault that is known before and the one that is known once it was scanned
pub range-refused : {T : Type 0} (current : Option Transcript) (result : Result T Refusal)
    (asked fault scanned late : Transcript → Option Refusal) (P : Transcript → T → Type 0)
    → IfSome current (λ transcript. (asked transcript ≡ fault transcript) × (scanned transcript ≡ late transcript))
    → OfOpen current result (λ transcript.
    Answers result (option_or (asked transcript) (unless_out result (scanned transcript))) (P transcript))
    → IfSome current (λ transcript. RefusedBy result (option_or (fault transcript) (late transcript)))
range-refused None result asked fault scanned late P same answers = tt
range-refused (Some transcript) result asked fault scanned late P same answers =
    subst (λ (it : Option Refusal). RefusedBy result (option_or (fault transcript) it)) same.1
    (refused-late result (asked transcript) (fault transcript) (scanned transcript) (P transcript) same.0 answers)

-- what is asked for itself is the same
pub alike-faults : (current : Option Transcript) (asked scanned : Transcript → Option Refusal)
    → IfSome current (λ transcript. (asked transcript ≡ asked transcript) × (scanned transcript ≡ scanned transcript))
alike-faults None asked scanned = tt
alike-faults (Some transcript) asked scanned = (refl, refl)

-- a shard that is asked at the version of a share refuses as at the read version
pub shard-fault : (current : Option Transcript) (at : ShardAtFront) (view : ShardView) (own : List Entry)
    (shared : ℕ × List Entry) (key : Point) → view ≡ record { version = shared.0; front = shared.1; at = at }
    → OfOpen {T = ℕ × List Entry} current (Ok shared) (λ transcript. shared ≡ (transcript.read_version, own))
    → IfSome current (λ transcript. get_fault (program transcript.ops) key (key_fault view key)
    ≡ get_fault (program transcript.ops) key (shards.key_fault at.shard key transcript.read_version))
shard-fault None at view own shared key is same = tt
shard-fault (Some transcript) at view own shared key is same =
    ap (λ (it : ShardView). get_fault (program transcript.ops) key (key_fault it key)) is
    ∙ ap (λ (it : ℕ × List Entry). get_fault (program transcript.ops) key (shards.key_fault at.shard key it.0)) same

-- what refuses every key
pub refuses-each : (current : Option Transcript) (key : Point) (own given : Option Refusal) → own ≡ given
    → IfSome current (λ transcript. get_fault (program transcript.ops) key own
    ≡ get_fault (program transcript.ops) key given)
refuses-each None key own given same = tt
refuses-each (Some transcript) key own given same =
    ap (get_fault (program transcript.ops) key) same

-- shards that were lent for a range at the version of a share refuse it as little as they were refused, and what is
-- scanned at them is of the run at the read version
pub lent-faults : (config : Config) (current : Option Transcript) (shared : ℕ × List Entry) (own : List Entry)
    (lent : LentShards) (range : Range) (shards : List ShardAtFront) (limit : ℕ) (is_reverse : Bool)
    → lending_fault shared.0 range shards ≡ None → lent.range ≡ range → lent.version ≡ shared.0
    → lent.front ≡ shared.1
    → OfOpen {T = ℕ × List Entry} current (Ok shared) (λ transcript. shared ≡ (transcript.read_version, own))
    → IfSome current (λ transcript. (range_fault lent range ≡ lending_fault transcript.read_version range shards)
    × (scan_fault (copy (run_of config lent.version lent.front) (program transcript.ops)) (program transcript.ops) range
    limit is_reverse
    ≡ scan_fault (copy (run_of config transcript.read_version own) (program transcript.ops)) (program transcript.ops)
    range limit is_reverse))
lent-faults config None shared own lent range shards limit is_reverse none is version front same = tt
lent-faults config (Some transcript) shared own lent range shards limit is_reverse none is version front same = (
  unrefused ∙ sym none ∙ ap (λ (it : ℕ × List Entry). lending_fault it.0 range shards) same,
  ap₂ (λ (at : ℕ) (seen : List Entry). scanned_on (run_of config at seen)) version front
      ∙ ap (λ (it : ℕ × List Entry). scanned_on (run_of config it.0 it.1)) same,
)
  where
    scanned_on : Map → Option Refusal
    scanned_on there =
        scan_fault (copy there (program transcript.ops)) (program transcript.ops) range limit is_reverse

    within : is_within range lent.range ≡ true
    within = (within-points range lent.range).1
        (λ x inside. ap (λ (whole : Range). in_range whole x) is ∙ inside)

    unrefused : range_fault lent range ≡ None
    unrefused = rw within refl
