-- The sum of all accounts stays after each of the bank's transactions.
use Rattle.std.proofs.Common.{◌≡◌, ◌∙◌, sym, ap, refl, ℕ, ◌+◌, ◌-◌, ◌<◌, ◌≤◌, ◌^◌, Bool, true, false, ◌&&◌, ◌||◌}
use Rattle.std.proofs.Common.{if◌then◌else◌, ⊎_elim, List, [], ◌∷◌, length, Option, Some, fold, arith, not}
use Rattle.std.specs.Cmp.Lexicographic.{bytes_decides}
use Rattle.std.specs.FinMap.{get, empty}
use Rattle.std.specs.Int.{to_le_bytes, w64}
use Rattle.std.specs.List.{list_any, sum_by}
use Rattle.std.proofs.lemmas.Bool.{cases_Bool, cond-true, cond-false}
use Rattle.std.proofs.lemmas.List.Sums.{sum_by-cons}
use Rattle.std.proofs.lemmas.Option.{none-some, same_Some}
use Rattle.std.proofs.lemmas.Nat.{from_le_bytes-to_le_bytes_8}
use Rattle.fdb_keys.specs.Points.{Point, point_eq}
use Rattle.fdb_mutations.specs.Maps.{Map}
use Rattle.fdb_mutations.specs.Mutations.{effects, value_after}
use Rattle.fdb_txn.proofs.Exports.{get-effects}
use Rattle.fdb_client.specs.declared.program.Op.{Op}
use Rattle.fdb_client.specs.declared.program.Reply.{Reply}
use Rattle.fdb_roles.specs.Layers.{Keeps}
use Rattle.fdb_layers.specs.Bank.{accounts, amount, paying, total, IsBalanced, IsPayment, IsOfBank}
use Rattle.fdb_layers.proofs.OperationsLemmas.{written, kept-unwritten, left-by, answered-by, AgreeOn, same-value}
use Rattle.fdb_layers.proofs.OperationsLemmas.{itself, nothing-at}

-- the key is one of the keys
abbrev has : List Point → Point → Bool
has keys key = list_any (λ (other : Point). point_eq other key) keys

-- no key stands twice
abbrev is_distinct : List Point → Bool
is_distinct [] = true
is_distinct (key ∷ keys) = not (has keys key) && is_distinct keys

-- amounts that differ at one key alone have one sum where the key isn't among those that are summed up
sum-elsewhere : (f g : Point → ℕ) (key : Point) → ((k : Point) → point_eq k key ≡ false → g k ≡ f k)
    → (keys : List Point) → has keys key ≡ false → sum_by g keys ≡ sum_by f keys
sum-elsewhere f g key same [] none = refl
sum-elsewhere f g key same (k ∷ keys) none = ⊎_elim
    (λ is. let wrong : true ≡ false = ap (λ (b : Bool). b || has keys key) (sym is) ∙ none in cc)
    (λ other. let rest : has keys key ≡ false = ap (λ (b : Bool). b || has keys key) (sym other) ∙ none in
    let here : g k ≡ f k = same k other in
    let below : sum_by g keys ≡ sum_by f keys = sum-elsewhere f g key same keys rest in
    omega (arith, sum_by-cons g k keys, sum_by-cons f k keys))
    (cases_Bool (point_eq k key))

-- a key that is there once isn't among the others, and these are distinct
not-has : (there others : Bool) → (not there && others) ≡ true → there ≡ false
not-has true others distinct = sym distinct
not-has false others distinct = refl

rest-distinct : (there others : Bool) → (not there && others) ≡ true → others ≡ true
rest-distinct true others distinct = absurd (let wrong : false ≡ true = distinct in cc)
rest-distinct false others distinct = distinct

-- where it is there once, the sums differ by the amounts there
sum-changed : (f g : Point → ℕ) (key : Point) → ((k : Point) → point_eq k key ≡ false → g k ≡ f k)
    → (keys : List Point) → is_distinct keys ≡ true → has keys key ≡ true
    → sum_by g keys + f key ≡ sum_by f keys + g key
sum-changed f g key same [] distinct there = absurd (let wrong : false ≡ true = there in cc)
sum-changed f g key same (k ∷ keys) distinct there = ⊎_elim
    (λ is. let once : has keys key ≡ false =
    ap (λ (x : Point). has keys x) (sym ((bytes_decides k key).0 is))
    ∙ not-has (has keys k) (is_distinct keys) distinct in
    let g_here : g k ≡ g key = ap g ((bytes_decides k key).0 is) in
    let f_here : f k ≡ f key = ap f ((bytes_decides k key).0 is) in
    let below : sum_by g keys ≡ sum_by f keys = sum-elsewhere f g key same keys once in
    omega (arith, sum_by-cons g k keys, sum_by-cons f k keys))
    (λ other. let rest : has keys key ≡ true = ap (λ (b : Bool). b || has keys key) (sym other) ∙ there in
    let here : g k ≡ f k = same k other in
    let below : sum_by g keys + f key ≡ sum_by f keys + g key =
    sum-changed f g key same keys (rest-distinct (has keys k) (is_distinct keys) distinct) rest in
    omega (arith, sum_by-cons g k keys, sum_by-cons f k keys))
    (cases_Bool (point_eq k key))

-- what stands at a key after both were set
abbrev payer_set : Point → List ℕ → Map → Point → Option (List ℕ)
payer_set payer left map k = if point_eq k payer then Some left else get map k

abbrev both_set : (payer payee : Point) → (left got : List ℕ) → Map → Point → Option (List ℕ)
both_set payer payee left got map k = if point_eq k payee then Some got else payer_set payer left map k

-- the sums before, between and after come to the same
settled : (before between after payer payee payer_left payee_between payee_got had other_had paid : ℕ)
    → payer ≡ had → payee ≡ other_had → payer_left ≡ had - paid → payee_between ≡ payee
    → payee_got ≡ other_had + paid → paid ≤ had
    → between + payer ≡ before + payer_left → after + payee_between ≡ between + payee_got → after ≡ before
settled before between after payer payee payer_left payee_between payee_got had other_had paid a b c d e f g h =
    omega arith

-- what is paid is in one account what it was in the other one
paid-stays : (map : Map) (payer payee : Point) (payer_had payee_had : Option (List ℕ)) (paid : ℕ)
    → has accounts payer ≡ true → has accounts payee ≡ true → point_eq payee payer ≡ false
    → paid ≤ amount payer_had → amount payer_had + amount payee_had < 2 ^ 64
    → get map payer ≡ payer_had → get map payee ≡ payee_had
    → sum_by (λ k. amount (both_set payer payee (to_le_bytes w64 (amount payer_had - paid))
    (to_le_bytes w64 (amount payee_had + paid)) map k)) accounts
    ≡ total map
paid-stays map payer payee payer_had payee_had paid payer_is payee_is are_two covered fits payer_read payee_read =
    let payer_before : f payer ≡ amount payer_had = ap amount payer_read in
    let payee_before : f payee ≡ amount payee_had = ap amount payee_read in
    let payer_left : mid payer ≡ amount payer_had - paid =
    ap amount (cond-true (point_eq payer payer) (Some left) (get map payer) (itself payer))
    ∙ from_le_bytes-to_le_bytes_8 (amount payer_had - paid) (omega arith) in
    let payee_mid : mid payee ≡ f payee =
    ap amount (cond-false (point_eq payee payer) (Some left) (get map payee) are_two) in
    let payee_got : g payee ≡ amount payee_had + paid =
    ap amount (cond-true (point_eq payee payee) (Some got) (payer_set payer left map payee) (itself payee))
    ∙ from_le_bytes-to_le_bytes_8 (amount payee_had + paid) (omega arith) in
    let first : sum_by mid accounts + f payer ≡ sum_by f accounts + mid payer = sum-changed f mid payer
    (λ k other. ap amount (cond-false (point_eq k payer) (Some left) (get map k) other)) accounts refl payer_is in
    let second : sum_by g accounts + mid payee ≡ sum_by mid accounts + g payee = sum-changed mid g payee
    (λ k other. ap amount (cond-false (point_eq k payee) (Some got) (payer_set payer left map k) other))
    accounts refl payee_is in
    settled (sum_by f accounts) (sum_by mid accounts) (sum_by g accounts) (f payer) (f payee) (mid payer) (mid payee)
    (g payee) (amount payer_had) (amount payee_had) paid payer_before payee_before payer_left payee_mid payee_got
    covered first second
  where
    left : List ℕ
    left = to_le_bytes w64 (amount payer_had - paid)

    got : List ℕ
    got = to_le_bytes w64 (amount payee_had + paid)

    f : Point → ℕ
    f k = amount (get map k)

    mid : Point → ℕ
    mid k = amount (payer_set payer left map k)

    g : Point → ℕ
    g k = amount (both_set payer payee left got map k)

-- and what was set has eight bytes
set-eight : (map : Map) (payer payee : Point) (left got : List ℕ) → length left ≡ 8 → length got ≡ 8 → (k v : List ℕ)
    → (get map k ≡ Some v → length v ≡ 8) → both_set payer payee left got map k ≡ Some v → length v ≡ 8
set-eight map payer payee left got left_eight got_eight k v before there = ⊎_elim
    (λ is. ap (λ (v : List ℕ). length v) (sym (same_Some got v
    (sym (cond-true (point_eq k payee) (Some got) (payer_set payer left map k) is) ∙ there))) ∙ got_eight)
    (λ other. let among : payer_set payer left map k ≡ Some v =
    sym (cond-false (point_eq k payee) (Some got) (payer_set payer left map k) other) ∙ there in ⊎_elim
    (λ is. ap (λ (v : List ℕ). length v) (sym (same_Some left v
    (sym (cond-true (point_eq k payer) (Some left) (get map k) is) ∙ among))) ∙ left_eight)
    (λ other. before (sym (cond-false (point_eq k payer) (Some left) (get map k) other) ∙ among))
    (cases_Bool (point_eq k payer)))
    (cases_Bool (point_eq k payee))

payment-keeps : Keeps (IsPayment false) IsBalanced
payment-keeps map transcript version place payment answered before =
    left-by IsBalanced map version place transcript ops payment.done (record {
      has_eight_bytes = λ account value is there. set-eight map payment.payer payment.payee left got refl refl account
          value (before.has_eight_bytes account value is)
          (sym (get-effects map (written version place ops) account) ∙ there);
      sum_stays = summed ∙ paid-stays map payment.payer payment.payee payment.payer_had payment.payee_had payment.paid
          payment.payer_is payment.payee_is payment.are_two payment.covered payment.fits payer_read payee_read
          ∙ before.sum_stays;
    })
  where
    left : List ℕ
    left = to_le_bytes w64 (amount payment.payer_had - payment.paid)

    got : List ℕ
    got = to_le_bytes w64 (amount payment.payee_had + payment.paid)

    ops : List (Op × Reply)
    ops = paying false payment.payer payment.payee payment.payer_had payment.payee_had payment.paid

    agree : AgreeOn map ops
    agree = answered-by map transcript ops payment.done answered

    payee_read : get map payment.payee ≡ payment.payee_had
    payee_read = sym (same-value payment.payee_had (get map payment.payee) (agree.1.1.0 refl))

    payer_read : get map payment.payer ≡ payment.payer_had
    payer_read = sym (same-value payment.payer_had (get map payment.payer) (agree.1.1.1.0 refl))

    summed : total (effects map (written version place ops))
        ≡ sum_by (λ k. amount (fold (value_after k) (get map k) (written version place ops))) accounts
    summed = λ i. sum_by (λ k. amount (get-effects map (written version place ops) k i)) accounts

pub bank_keeps : Keeps IsOfBank IsBalanced
bank_keeps map transcript version place allowed answered before = ⊎_elim
    (λ none. kept-unwritten IsBalanced map transcript version place none answered before)
    (λ payment. payment-keeps map transcript version place payment answered before)
    allowed

pub bank_starts : IsBalanced empty
bank_starts = record {
  has_eight_bytes = λ account value is there. absurd (none-some value (sym (nothing-at account) ∙ there));
  sum_stays = λ i. sum_by (λ k. amount (nothing-at k i)) accounts;
}
