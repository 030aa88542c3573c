-- What a read is told of an unreadable key.
use Rattle.std.proofs.Common.{◌≡◌, ◌∙◌, ap₂, refl, subst, ℕ, Bool, true, false, ⊎_elim, List}
use Rattle.std.proofs.Common.{Option, Some, None, Result, Ok, Err, if◌then◌else◌}
use Rattle.std.specs.Prelude.{IfSome}
use Rattle.fdb_keys.specs.Points.{Point}
use Rattle.fdb_keys.specs.Ranges.{Range}
use Rattle.fdb_keys.specs.declared.refusal.Refusal.{Refusal}
use Rattle.fdb_keys.specs.declared.refusal.Refusal.TheVariants.{NoMemory, AccessedUnreadable}
use Rattle.fdb_txn.specs.declared.entry.Entry.{Entry}
use Rattle.fdb_proxy.specs.declared.config.Config.{Config}
use Rattle.fdb_client.specs.Programs.{program}
use Rattle.fdb_client.specs.Unreadable.{unreadable, range_read_fault}
use Rattle.fdb_client.specs.declared.program.Transcript.{Transcript}
use Rattle.fdb_client.proofs.Exports.{unreadable-decided}
use Rattle.fdb_roles.specs.Sessions.{OfOpen}
use Rattle.fdb_sections.specs.Reading.{RefusedBy, RefusesUnreadable, TellsUnreadable}
use Rattle.fdb_sections.specs.Reading.{own_writes_decide, scans_unreadable}
use Rattle.fdb_sections.specs.Sessions.{Session}
use Rattle.fdb_sections.specs.ShardViews.{run_of}

-- a key that the own writes don't decide isn't hidden, whatever refuses a get of it
pub undecided-hidden : (T : Type 0) (own now : Session) (why : Refusal) (key : Point) → own ≡ now
    → own_writes_decide own.current key ≡ false
    → IfSome now.current (λ transcript. RefusesUnreadable {T = T} (Err why) (unreadable (program transcript.ops) key))
undecided-hidden T own now why key same undecided =
    subst (λ (it : Session). IfSome it.current (λ transcript.
    RefusesUnreadable {T = T} (Err why) (unreadable (program transcript.ops) key))) same
    (on_open own.current undecided)
  where
    on_open : (current : Option Transcript) → own_writes_decide current key ≡ false
        → IfSome current (λ transcript. RefusesUnreadable {T = T} (Err why) (unreadable (program transcript.ops) key))
    on_open None undecided = tt
    on_open (Some transcript) undecided =
        (λ hidden. let decides = unreadable-decided (program transcript.ops) key hidden in absurd (cc))

-- a read of a range on a run that refuses none is told of an unreadable key only where it scans one
told-by-fault : {T : Type 0} (result : Result T Refusal) (scans : Bool)
    → RefusedBy result (if scans then Some AccessedUnreadable else None) → TellsUnreadable result scans
told-by-fault (Ok given) true refused = absurd (cc)
told-by-fault (Ok given) false refused = refl
told-by-fault (Err why) true refused = (λ same. refl)
told-by-fault (Err why) false refused = (λ (same : why ≡ AccessedUnreadable).
    ⊎_elim (λ (lacks : why ≡ NoMemory). absurd (cc)) (λ (known : None ≡ Some why). absurd (cc)) refused)

-- and so is one that reads at the version and the front of a share
pub range-told : {T : Type 0} (config : Config) (own now : Session) (shared : ℕ × List Entry) (version : ℕ)
    (front : List Entry) (result : Result T Refusal) (range : Range) (limit : ℕ) (is_reverse : Bool) → own ≡ now
    → OfOpen {T = ℕ × List Entry} own.current (Ok shared) (λ transcript. shared ≡ (transcript.read_version, own.front))
    → version ≡ shared.0 → front ≡ shared.1
    → IfSome own.current (λ transcript. RefusedBy result
    (range_read_fault (run_of config version front) (program transcript.ops) range limit is_reverse None))
    → IfSome now.current (λ transcript. TellsUnreadable result (scans_unreadable
    (run_of config transcript.read_version now.front) (program transcript.ops) range limit is_reverse))
range-told config own now shared version front result range limit is_reverse same share at seen refused =
    subst (λ (it : Session). IfSome it.current (λ transcript. TellsUnreadable result
    (scans_unreadable (run_of config transcript.read_version it.front) (program transcript.ops) range limit
    is_reverse))) same
    (on_open own.current share refused)
  where
    on_open : (current : Option Transcript)
        → OfOpen {T = ℕ × List Entry} current (Ok shared) (λ transcript. shared ≡ (transcript.read_version, own.front))
        → IfSome current (λ transcript. RefusedBy result
        (range_read_fault (run_of config version front) (program transcript.ops) range limit is_reverse None))
        → IfSome current (λ transcript. TellsUnreadable result (scans_unreadable
        (run_of config transcript.read_version own.front) (program transcript.ops) range limit is_reverse))
    on_open None share refused = tt
    on_open (Some transcript) share refused =
        subst (λ (it : ℕ × List Entry). TellsUnreadable result
        (scans_unreadable (run_of config it.0 it.1) (program transcript.ops) range limit is_reverse))
        (ap₂ (λ (v : ℕ) (entries : List Entry). (v, entries)) at seen ∙ share)
        (told-by-fault result
        (scans_unreadable (run_of config version front) (program transcript.ops) range limit is_reverse) refused)

-- what is told by a refusal is told by one that names an unreadable key only where that does
pub told-as : (T : Type 0) (current : Option Transcript) (why given : Refusal) (scans : Transcript → Bool)
    → (given ≡ AccessedUnreadable → why ≡ AccessedUnreadable)
    → IfSome current (λ transcript. TellsUnreadable {T = T} (Err why) (scans transcript))
    → IfSome current (λ transcript. TellsUnreadable {T = T} (Err given) (scans transcript))
told-as T None why given scans names told = tt
told-as T (Some transcript) why given scans names told = (λ same. told (names same))
