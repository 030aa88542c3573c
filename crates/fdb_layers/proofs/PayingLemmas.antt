-- What payments come to.
use Rattle.std.proofs.Common.{◌≡◌, ◌∙◌, sym, ap, subst, refl, ℕ, ◌+◌, ◌-◌, ◌<◌, ◌≤◌, ◌^◌, ◌⊎◌, Bool, true, false}
use Rattle.std.proofs.Common.{List, [], ◌∷◌, ◌++◌, Option, Some, None, arith}
use Rattle.std.specs.Prelude.{IfSome}
use Rattle.std.specs.FinMap.{get}
use Rattle.std.proofs.Math.Logic.{inl, inr}
use Rattle.std.proofs.lemmas.List.{append_assoc}
use Rattle.fdb_keys.specs.Points.{Point, point_eq}
use Rattle.fdb_mutations.specs.Maps.{Map}
use Rattle.fdb_mutations.specs.declared.mutation.Mutation.TheVariants.{Set}
use Rattle.fdb_client.specs.Programs.{program, mutations_of}
use Rattle.fdb_client.specs.declared.program.Op.{Op}
use Rattle.fdb_client.specs.declared.program.Reply.{Reply}
use Rattle.fdb_client.specs.declared.program.Transcript.{Transcript}
use Rattle.fdb_runtime.specs.Works.{IsUntouched}
use Rattle.fdb_sections.specs.Asking.{HoldsOnRun}
use Rattle.fdb_sections.specs.Sessions.{Session}
use Rattle.fdb_layers.specs.Accounts.{account_key}
use Rattle.fdb_layers.specs.Bank.{amount, is_account, total, IsBalanced, IsOfBank}
use Rattle.fdb_layers.specs.Operations.{DoesMore, HasDone, reading, writing}
use Rattle.fdb_layers.specs.Paying.{setting, DoesPay, Settles}
use Rattle.fdb_layers.specs.Reads.{run_read, HasOnlyRead}
use Rattle.fdb_layers.specs.declared.accounts.Account.{Account}
use Rattle.fdb_layers.specs.declared.accounts.Account.TheVariants.{Ann, Bob, Cid}
use Rattle.fdb_layers.proofs.AuditingLemmas.{pair-fits, sum-stays}
use Rattle.fdb_layers.proofs.ReadsLemmas.{one-run, read-on}

-- what was done, and then more
pub more-and-more : (a b c : Option Transcript) (first second : List (Op × Reply)) → DoesMore a first b
    → DoesMore b second c → DoesMore a (first ++ second) c
more-and-more a b c first second one other before done =
    subst (HasDone c) (append_assoc before first second) (other (before ++ first) (one before done))

-- ---- one account is read or set, by its key
module _ (key at : Point) (is : key ≡ at) (old new : Option Transcript) where
  pub had-is : (map : Map) (value : Option (List ℕ)) (had : ℕ) → value ≡ get map key → had ≡ amount value
      → had ≡ amount (get map at)
  had-is map value had there amounts =
      amounts ∙ ap amount there ∙ ap (λ (x : Point). amount (get map x)) is

  pub had-more : (map : Map) (value : Option (List ℕ)) → value ≡ get map key
      → DoesMore old (reading key value ∷ []) new → DoesMore old (reading at (get map at) ∷ []) new
  had-more map value there more = subst (λ (x : Point). DoesMore old (reading x (get map x) ∷ []) new) is
      (subst (λ (it : Option (List ℕ)). DoesMore old (reading key it ∷ []) new) there more)

  pub set-more : (bytes others : List ℕ) → bytes ≡ others → DoesMore old (writing (Set key bytes) ∷ []) new
      → DoesMore old (writing (Set at others) ∷ []) new
  set-more bytes others same more = subst (λ (x : Point). DoesMore old (writing (Set x others) ∷ []) new) is
      (subst (λ (it : List ℕ). DoesMore old (writing (Set key it) ∷ []) new) same more)

-- ---- both accounts are read
module _ (splits : List Point) (old middle new : Session) (payer payee : Account) (payer_had payee_had : ℕ)
    (first : HasOnlyRead old middle) (second : HasOnlyRead middle new)
    (payer-is : payer_had ≡ amount (get (run_read splits old) (account_key payer)))
    (payee-is : payee_had ≡ amount (get (run_read splits middle) (account_key payee))) where
  pub payee-there : payee_had ≡ amount (get (run_read splits old) (account_key payee))
  payee-there = payee-is
      ∙ ap (λ (map : Map). amount (get map (account_key payee))) (one-run splits old middle first)

  pub both-fit : HoldsOnRun IsBalanced splits new.front → (payer ≡ payee → ⊥) → payer_had + payee_had < 2 ^ 64
  both-fit holds differ =
      let whole : HasOnlyRead old new = read-on old middle new first second in
      let sum : total (run_read splits old) ≡ 300 =
      sym (ap (λ (map : Map). total map) (one-run splits old new whole)) ∙ sum-stays splits new whole.unwritten holds in
      omega (arith, pair-fits (run_read splits old) payer payee sum differ, payer-is, payee-there)

  pub both-more
      : DoesMore old.current
      (reading (account_key payer) (get (run_read splits old) (account_key payer)) ∷ []) middle.current
      → DoesMore middle.current
      (reading (account_key payee) (get (run_read splits middle) (account_key payee)) ∷ []) new.current
      → DoesMore old.current (reading (account_key payer) (get (run_read splits old) (account_key payer))
      ∷ reading (account_key payee) (get (run_read splits old) (account_key payee)) ∷ []) new.current
  both-more one other = more-and-more old.current middle.current new.current
      (reading (account_key payer) (get (run_read splits old) (account_key payer)) ∷ [])
      (reading (account_key payee) (get (run_read splits old) (account_key payee)) ∷ [])
      one
      (subst (λ (map : Map). DoesMore middle.current (reading (account_key payee) (get map (account_key payee)) ∷ [])
      new.current) (one-run splits old middle first) other)

-- ---- the accounts
key-is : (account : Account) → is_account (account_key account) ≡ true
key-is Ann = refl
key-is Bob = refl
key-is Cid = refl

keys-differ : (payer payee : Account) → (payer ≡ payee → ⊥)
    → point_eq (account_key payee) (account_key payer) ≡ false
keys-differ Ann Ann differ = absurd (differ refl)
keys-differ Ann Bob differ = refl
keys-differ Ann Cid differ = refl
keys-differ Bob Ann differ = refl
keys-differ Bob Bob differ = absurd (differ refl)
keys-differ Bob Cid differ = refl
keys-differ Cid Ann differ = refl
keys-differ Cid Bob differ = refl
keys-differ Cid Cid differ = absurd (differ refl)

-- ---- and settled
abbrev both-read : Account → Account → Option (List ℕ) → Option (List ℕ) → List (Op × Reply)
both-read payer payee one other = reading (account_key payer) one ∷ reading (account_key payee) other ∷ []

-- what comes of it is a transaction of the bank, which does what it says
abbrev Pays : Account → Account → ℕ → Bool → Option Transcript → Type 0
Pays payer payee asked paid current =
    IfSome current (λ (transcript : Transcript). DoesPay payer payee asked paid transcript)
    × IfSome current IsOfBank

paid : (payer payee : Account) (asked : ℕ) (one other : Option (List ℕ)) (transcript : Transcript)
    → (payer ≡ payee → ⊥) → asked ≤ amount one → amount one + amount other < 2 ^ 64
    → transcript.ops ≡ both-read payer payee one other
    ++ setting payer (amount one - asked) ∷ setting payee (amount other + asked) ∷ []
    → Pays payer payee asked true (Some transcript)
paid payer payee asked one other transcript differ covered fits done = (
  record {
    payer_had = one;
    payee_had = other;
    are_two = differ;
    covered = covered;
    fits = fits;
    done = done;
  },
  inr
      (record {
        payer = account_key payer;
        payee = account_key payee;
        payer_had = one;
        payee_had = other;
        paid = asked;
        payer_is = key-is payer;
        payee_is = key-is payee;
        are_two = keys-differ payer payee differ;
        covered = covered;
        fits = fits;
        done = done;
      }),
)

not-paid : (payer payee : Account) (asked : ℕ) (one other : Option (List ℕ)) (current : Option Transcript)
    → (payer ≡ payee) ⊎ (amount one < asked) → HasDone current (both-read payer payee one other)
    → Pays payer payee asked false current
not-paid payer payee asked one other None why done = absurd done
not-paid payer payee asked one other (Some transcript) why done = (
  record { payer_had = one; payee_had = other; why = why; done = done },
  inl (ap (λ (ops : List (Op × Reply)). mutations_of (program ops)) done),
)

by-amounts : (payer payee : Account) (asked : ℕ) (one other : Option (List ℕ)) (middle new : Option Transcript)
    (is_paid : Bool) → ((payer ≡ payee → ⊥) → amount one + amount other < 2 ^ 64)
    → HasDone middle (both-read payer payee one other)
    → Settles payer payee asked (amount one) (amount other) middle is_paid new → Pays payer payee asked is_paid new
by-amounts payer payee asked one other middle None true fits done settles =
    absurd (settles.2 (both-read payer payee one other) done)
by-amounts payer payee asked one other middle (Some transcript) true fits done settles =
    paid payer payee asked one other transcript settles.0 settles.1 (fits settles.0)
    (settles.2 (both-read payer payee one other) done)
by-amounts payer payee asked one other middle new false fits done settles =
    not-paid payer payee asked one other new settles.0
    (subst (λ (current : Option Transcript). HasDone current (both-read payer payee one other)) (sym settles.1) done)

done-first : (current : Option Transcript) → IsUntouched current → HasDone current []
done-first None untouched = untouched
done-first (Some transcript) untouched = untouched

pub settled : (payer payee : Account) (asked payer_had payee_had : ℕ) (one other : Option (List ℕ))
    (old middle new : Option Transcript) (is_paid : Bool) → IsUntouched old
    → (payer_had ≡ amount one) × (payee_had ≡ amount other)
    → ((payer ≡ payee → ⊥) → payer_had + payee_had < 2 ^ 64)
    → DoesMore old (both-read payer payee one other) middle
    → Settles payer payee asked payer_had payee_had middle is_paid new → Pays payer payee asked is_paid new
settled payer payee asked payer_had payee_had one other old middle new is_paid untouched had fits reads settles =
    by-amounts payer payee asked one other middle new is_paid
    (λ differ. subst (λ (n : ℕ). n + amount other < 2 ^ 64) had.0
    (subst (λ (n : ℕ). payer_had + n < 2 ^ 64) had.1 (fits differ)))
    (reads [] (done-first old untouched))
    (subst (λ (n : ℕ). Settles payer payee asked n (amount other) middle is_paid new) had.0
    (subst (λ (n : ℕ). Settles payer payee asked payer_had n middle is_paid new) had.1 settles))
