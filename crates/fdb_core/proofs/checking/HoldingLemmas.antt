-- Where a shard has the serial map.
use Rattle.std.proofs.Common.{◌≡◌, ◌∙◌, sym, ap, subst, ◌↔◌, ℕ, suc, ◌+◌, ◌<◌, ◌≤◌, add-one, arith}
use Rattle.std.proofs.Common.{true, false, nat_lt, List, []}
use Rattle.std.proofs.Common.{◌∷◌}
use Rattle.std.proofs.Common.{take, length, Option, Some, None, Result, Ok, Err, MatchResult, inl, inr, ⊎_elim, refl}
use Rattle.std.specs.List.{AllByRecursion, slice_get}
use Rattle.std.specs.Ordering.{nat_cmp}
use Rattle.std.specs.Cmp.Lexicographic.{slice_cmp}
use Rattle.std.specs.FinMap.{get, empty, get-empty, find}
use Rattle.std.proofs.lemmas.Bool.{cases_Bool, cond-true, and_from, ltb-true, ltb-false, lt-ltb, le-leb}
use Rattle.fdb_keys.specs.Points.{Point}
use Rattle.fdb_keys.specs.Ranges.{Range, in_range}
use Rattle.fdb_mutations.specs.Maps.{Map}
use Rattle.fdb_mutations.specs.Pairs.{pairs_in}
use Rattle.fdb_mutations.specs.PairLaws.{AgreeIn}
use Rattle.fdb_mutations.proofs.Exports.{find-within, same_values}
use Rattle.fdb_storage.specs.Shards.{Shard, HasCopied, value_at}
use Rattle.fdb_txn.specs.declared.entry.Entry.{Entry}
use Rattle.fdb_txn.specs.book.Book.{last_version, seen_of, seen_before}
use Rattle.fdb_txn.specs.book.History.{AreEntries}
use Rattle.fdb_txn.specs.rules.SerialMap.{serial_map, serial_map_at}
use Rattle.fdb_core.specs.declared.roles.shard.ShardRole.{ShardRole}
use Rattle.fdb_check.specs.declared.fault.CheckFault.{CheckFault}
use Rattle.fdb_core.specs.check.Checking.{HaveHeld}
use Rattle.fdb_check.specs.declared.fault.CheckFault.TheVariants.{NoMemory}
use Rattle.fdb_core.specs.check.Holding.{HasTheMap, HoldsTheRun, HasTheMapThere, ShardDiffers, StopsByShard, is_between}
use Rattle.fdb_roles.proofs.Exports.{all-both}
use Rattle.fdb_check.specs.Running.{run_of, after_next}
use Rattle.fdb_check.proofs.Exports.{IsUntil, map-here, last-next, until-next, until-end}

-- maps with the same pairs in a range have the same values there
same_pairs : (map other : Map) (range : Range) → pairs_in map range false ≡ pairs_in other range false
    → AgreeIn range map other
same_pairs map other range same x inside =
    sym (cond-true _ _ _ inside) ∙ sym (find-within map range x)
    ∙ ap (λ (pairs : List (Point × List ℕ)). find (slice_cmp nat_cmp) x pairs) same
    ∙ find-within other range x ∙ cond-true _ _ _ inside

-- a shard has the map where the copy that it gives has the map's pairs in the shard's range
pub has-map : (shard : Shard) (held map : Map) → HasCopied shard shard.range shard.version empty held
    → (pairs_in held shard.range false ≡ pairs_in map shard.range false) ↔ HasTheMap map shard
has-map shard held map copied = (
  λ same x inside. sym (given x inside) ∙ same_pairs held map shard.range same x inside,
  λ has. same_values held map shard.range false (λ x inside. given x inside ∙ has x inside),
)
  where
    given : (x : Point) → in_range shard.range x ≡ true → get held x ≡ value_at shard shard.version x
    given x inside = copied.inside x inside inside (get-empty (slice_cmp nat_cmp) x)

module _ (splits : List Point) (book : List Entry) (entries : AreEntries (suc (length splits)) 0 book) (n : ℕ) where
  -- a shard between two entries holds the run just where it has the serial map after the first of them
  here : (until : Option ℕ) → IsUntil book n until → (role : ShardRole)
      → is_between (last_version (take n book)) until role ≡ true
      → serial_map_at splits role.state.version (seen_of book).places ≡ serial_map splits (seen_before book n).places
  here until next role between = map-here splits book entries n until role.state.version next between

  holds-there : (from : ℕ) (until : Option ℕ) (map : Map) → IsUntil book n until → from ≡ last_version (take n book)
      → map ≡ serial_map splits (seen_before book n).places → (role : ShardRole) → HasTheMapThere from until map role
      → is_between (last_version (take n book)) until role ≡ true → HoldsTheRun splits book role
  holds-there from until map next is_last same role has between works =
      subst (λ (m : Map). HasTheMap m role.state) (same ∙ sym (here until next role between))
      (has works (subst (λ (v : ℕ). is_between v until role ≡ true) (sym is_last) between))

  there-holds : (from : ℕ) (until : Option ℕ) (map : Map) → IsUntil book n until → from ≡ last_version (take n book)
      → map ≡ serial_map splits (seen_before book n).places → (role : ShardRole) → HoldsTheRun splits book role
      → HasTheMapThere from until map role
  there-holds from until map next is_last same role holds works between =
      subst (λ (m : Map). HasTheMap m role.state)
      (here until next role (subst (λ (v : ℕ). is_between v until role ≡ true) is_last between)
      ∙ sym same) (holds works)

  -- a fault that is found between two entries is one of the check
  pub stops-shards : (shards : List ShardRole) (from : ℕ) (until : Option ℕ) (map : Map) (fault : CheckFault)
      → IsUntil book n until → from ≡ last_version (take n book) → map ≡ serial_map splits (seen_before book n).places
      → StopsByShard (HasTheMapThere from until map) shards fault
      → StopsByShard (HoldsTheRun splits book) shards fault
  stops-shards shards from until map fault next is_last same = ⊎_elim inl
      (λ (differs : ShardDiffers (HasTheMapThere from until map) shards fault). inr (
        differs.0,
        differs.1,
        differs.2,
        differs.3,
        λ holds. differs.4 (there-holds from until map next is_last same differs.1 holds),
      ))

  -- the shards up to the next entry are compared
  pub held-next : (shards : List ShardRole) (entry : Entry) (from : ℕ) (map : Map)
      → slice_get book n ≡ Some entry → from ≡ last_version (take n book)
      → map ≡ serial_map splits (seen_before book n).places → HaveHeld splits book shards n
      → AllByRecursion (HasTheMapThere from (Some entry.version) map) shards → HaveHeld splits book shards (n + 1)
  held-next shards entry from map there is_last same =
      all-both (λ (role : ShardRole). nat_lt role.state.version (last_version (take n book)) ≡ true
      → HoldsTheRun splits book role)
      (HasTheMapThere from (Some entry.version) map)
      (λ (role : ShardRole). nat_lt role.state.version (last_version (take (n + 1) book)) ≡ true
      → HoldsTheRun splits book role) (λ role earlier has before. ⊎_elim earlier
      (λ (later : nat_lt role.state.version (last_version (take n book)) ≡ false).
      let below = ltb-true role.state.version (last_version (take (n + 1) book)) before in
      let above = ltb-false role.state.version (last_version (take n book)) later in
      holds-there from (Some entry.version) map (until-next splits book entries n entry there) is_last same role has
      (and_from _ _ (le-leb (last_version (take n book)) role.state.version above)
      (lt-ltb role.state.version entry.version (omega (arith, below, last-next splits book entries n entry there)))))
      (cases_Bool (nat_lt role.state.version (last_version (take n book)))))
      shards

  -- and those after the last one
  pub held-last : length book ≤ n → (shards : List ShardRole) (from : ℕ) (map : Map) → from ≡ last_version (take n book)
      → map ≡ serial_map splits (seen_before book n).places → HaveHeld splits book shards n
      → AllByRecursion (HasTheMapThere from None map) shards → AllByRecursion (HoldsTheRun splits book) shards
  held-last all shards from map is_last same =
      all-both (λ (role : ShardRole). nat_lt role.state.version (last_version (take n book)) ≡ true
      → HoldsTheRun splits book role)
      (HasTheMapThere from None map) (HoldsTheRun splits book)
      (λ role earlier has. ⊎_elim earlier
      (λ (later : nat_lt role.state.version (last_version (take n book)) ≡ false).
      holds-there from None map (until-end splits book entries n all) is_last same role has
      (and_from _ _ (le-leb (last_version (take n book)) role.state.version
      (ltb-false role.state.version (last_version (take n book)) later)) refl))
      (cases_Bool (nat_lt role.state.version (last_version (take n book)))))
      shards

-- before the first entry there is no shard to compare
pub held-first : (splits : List Point) (book : List Entry) (shards : List ShardRole) → HaveHeld splits book shards 0
held-first splits book [] = tt
held-first splits book (role ∷ shards) = (
  λ before. let never = ltb-true role.state.version 0 before in absurd (omega (arith, never)),
  held-first splits book shards,
)

-- a run of one entry more
pub next-is : (splits : List Point) (book : List Entry) (n : ℕ) → n < length book
    → after_next (run_of splits book n) ≡ run_of splits book (n + 1)
next-is splits book n within =
    ap (run_of splits book) (cond-true _ _ _ (lt-ltb n (length book) within) ∙ sym (add-one n))

-- an entry is gone through after its shards
pub goes-on : {T : Type 0} (result : Result T CheckFault) (Gives Comes : T → Type 0) (More Held : Type 0)
    (Claim : ShardRole → Type 0) (shards : List ShardRole)
    → MatchResult result Gives (λ fault. (fault ≡ NoMemory) × More) → ((run : T) → Gives run → Comes run) → Held
    → MatchResult result (λ run. Comes run × Held) (StopsByShard Claim shards)
goes-on (Ok run) Gives Comes More Held Claim shards gives comes held = (comes run gives, held)
goes-on (Err fault) Gives Comes More Held Claim shards lacks comes held = inl lacks.0

-- what the last comparison finds is what the check finds
pub checks-last : {T : Type 0} (result : Result T CheckFault) (Each : Type 0) (Stop : CheckFault → Type 0)
    (Claim : ShardRole → Type 0) (shards : List ShardRole)
    → MatchResult result (λ _. Each) Stop → (Each → AllByRecursion Claim shards)
    → ((fault : CheckFault) → Stop fault → StopsByShard Claim shards fault)
    → MatchResult result (λ _. AllByRecursion Claim shards) (StopsByShard Claim shards)
checks-last (Ok done) Each Stop Claim shards finds each stops = each finds
checks-last (Err fault) Each Stop Claim shards finds each stops = stops fault finds
