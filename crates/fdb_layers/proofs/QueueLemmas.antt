-- Whatever stands in the queue begins with a stamp, after each of its transactions.
use Rattle.std.proofs.Common.{◌≡◌, ◌∙◌, sym, subst, refl, ℕ, ◌+◌, ◌≤◌, if◌then◌else◌, ⊎_elim, List, ◌++◌, length, take}
use Rattle.std.proofs.Common.{drop, length-append, Option, Some, None, arith}
use Rattle.std.specs.FinMap.{get, empty}
use Rattle.std.proofs.lemmas.Bool.{cases_Bool, cond-true, cond-false}
use Rattle.std.proofs.lemmas.Option.{none-some, same_Some}
use Rattle.fdb_keys.specs.Points.{Point, point_eq}
use Rattle.fdb_mutations.specs.Maps.{Map}
use Rattle.fdb_mutations.specs.Mutations.{effects}
use Rattle.fdb_mutations.specs.Stamps.{stamp_bytes, stamp_size, with_stamp}
use Rattle.fdb_txn.proofs.Exports.{get-effects}
use Rattle.fdb_roles.specs.Layers.{Keeps}
use Rattle.fdb_layers.specs.Queue.{item_key, popping, pushing, unstamped, AreStamped, IsOfQueue, IsPop, IsPush}
use Rattle.fdb_layers.proofs.OperationsLemmas.{written, kept-unwritten, left-by, nothing-at}

-- what has a stamp somewhere has its ten bytes
stamp-long : (front stamp rest : List ℕ) → length stamp ≡ 10 → stamp_size ≤ length (front ++ (stamp ++ rest))
stamp-long front stamp rest ten =
    let whole : length (front ++ (stamp ++ rest)) ≡ length front + length (stamp ++ rest) =
    length-append front (stamp ++ rest) in
    let parts : length (stamp ++ rest) ≡ length stamp + length rest = length-append stamp rest in
    omega arith

-- so does what a push sets
pushed-long : (version place : ℕ) (item : List ℕ)
    → stamp_size ≤ length (with_stamp (unstamped item) 0 (stamp_bytes version place))
pushed-long version place item = stamp-long (take 0 (unstamped item)) (stamp_bytes version place)
    (drop (0 + stamp_size) (unstamped item)) refl

-- what stands at a key after another one or itself was set
set-long : (key at : Point) (set value : List ℕ) (old : Option (List ℕ)) → stamp_size ≤ length set
    → (old ≡ Some value → stamp_size ≤ length value)
    → (if point_eq key at then Some set else old) ≡ Some value → stamp_size ≤ length value
set-long key at set value old long before there = ⊎_elim
    (λ is. subst (λ (v : List ℕ). stamp_size ≤ length v)
    (same_Some set value (sym (cond-true (point_eq key at) (Some set) old is) ∙ there)) long)
    (λ other. before (sym (cond-false (point_eq key at) (Some set) old other) ∙ there))
    (cases_Bool (point_eq key at))

-- and after one was cleared
cleared-long : (key at : Point) (value : List ℕ) (old : Option (List ℕ))
    → (old ≡ Some value → stamp_size ≤ length value)
    → (if point_eq key at then None else old) ≡ Some value → stamp_size ≤ length value
cleared-long key at value old before there = ⊎_elim
    (λ is. absurd (none-some value (sym (cond-true (point_eq key at) None old is) ∙ there)))
    (λ other. before (sym (cond-false (point_eq key at) None old other) ∙ there))
    (cases_Bool (point_eq key at))

push-keeps : Keeps IsPush AreStamped
push-keeps map transcript version place (item, fits, is) answered before =
    left-by AreStamped map version place transcript (pushing transcript.id item) is
    (λ key value in_queue there. set-long key (item_key transcript.id)
    (with_stamp (unstamped item) 0 (stamp_bytes version place)) value (get map key) (pushed-long version place item)
    (before key value in_queue)
    (sym (get-effects map (written version place (pushing transcript.id item)) key) ∙ there))

popped-stamped : (map : Map) (version place : ℕ) → AreStamped map → (pairs : List (Point × List ℕ))
    (oldest : Option (Point × List ℕ)) → AreStamped (effects map (written version place (popping pairs oldest)))
popped-stamped map version place before pairs None = before
popped-stamped map version place before pairs (Some pair) = λ key value in_queue there.
    cleared-long key pair.0 value (get map key) (before key value in_queue)
    (sym (get-effects map (written version place (popping pairs (Some pair))) key) ∙ there)

pop-keeps : Keeps IsPop AreStamped
pop-keeps map transcript version place (oldest, (pairs, first, is)) answered before =
    left-by AreStamped map version place transcript (popping pairs oldest) is
    (popped-stamped map version place before pairs oldest)

pub queue_keeps : Keeps IsOfQueue AreStamped
queue_keeps map transcript version place allowed answered before = ⊎_elim
    (λ none. kept-unwritten AreStamped map transcript version place none answered before)
    (⊎_elim (λ push. push-keeps map transcript version place push answered before)
    (λ pop. pop-keeps map transcript version place pop answered before))
    allowed

-- nothing stands in the empty map
pub queue_starts : AreStamped empty
queue_starts key value in_queue there = absurd (none-some value (sym (nothing-at key) ∙ there))
