-- The bank, worked.
use Rattle.std.proofs.Common.{◌≡◌, ◌∙◌, sym, ap, refl, ℕ, List, ◌∷◌, [], Some, None, fold, arith, false, ◌<◌}
use Rattle.std.proofs.Common.{⊎_elim}
use Rattle.std.specs.Prelude.{codes, true}
use Rattle.std.specs.Int.{to_le_bytes, w64}
use Rattle.std.specs.List.{sum_by}
use Rattle.std.proofs.Math.Logic.{inr}
use Rattle.fdb_mutations.specs.Mutations.{effects, value_after}
use Rattle.fdb_mutations.specs.declared.mutation.Mutation.TheVariants.{Set}
use Rattle.fdb_txn.proofs.Exports.{get-effects}
use Rattle.fdb_client.specs.declared.program.Op.{Op}
use Rattle.fdb_client.specs.declared.program.Reply.{Reply}
use Rattle.fdb_client.specs.declared.program.Reply.TheVariants.{Value, Done}
use Rattle.fdb_layers.specs.Operations.{reading, writing}
use Rattle.fdb_layers.specs.Bank.{accounts, amount, paying, total, IsPayment}
use Rattle.fdb_layers.specs.BankExamples.{thirty_for_bob, ThirtyIsPayment, SnapshotPaymentsFail, GiftsFail}
use Rattle.fdb_layers.specs.BankExamples.{NoMoreIsRefused}
use Rattle.fdb_layers.proofs.OperationsLemmas.{written, of_ops, AgreeOn, answered-so, nothing-at, nowhere}
use Rattle.fdb_layers.proofs.OperationsLemmas.{same-value}
use Rattle.fdb_layers.proofs.BankLemmas.{bank_starts}

pub thirty_is_payment : ThirtyIsPayment
thirty_is_payment transcript map is ann bob = (
  inr
      (record {
        payer = codes "bank/ann";
        payee = codes "bank/bob";
        payer_had = None;
        payee_had = None;
        paid = 30;
        payer_is = refl;
        payee_is = refl;
        are_two = refl;
        covered = omega arith;
        fits = omega arith;
        done = is;
      }),
  answered-so map transcript thirty_for_bob is (
    (λ ordinary. refl),
    (
      (λ ordinary. refl),
      (
        (λ ordinary. ap Value (sym bob)),
        ((λ ordinary. ap Value (sym ann)), tt),
      ),
    ),
  ),
)

-- the sum of all accounts of a map that had none, after these operations
total-after : (ops : List (Op × Reply))
    → total (effects nowhere (written 0 0 ops))
    ≡ sum_by (λ k. amount (fold (value_after k) None (written 0 0 ops))) accounts
total-after ops =
    (λ i. sum_by (λ k. amount (get-effects nowhere (written 0 0 ops) k i)) accounts)
    ∙ (λ i. sum_by (λ k. amount (fold (value_after k) (nothing-at k i) (written 0 0 ops))) accounts)

-- a sum isn't two numbers
not-both : (sum one other : ℕ) → other < one → sum ≡ one → sum ≡ other → ⊥
not-both sum one other less is also = absurd (omega arith)

-- a payment of nothing by ann, of whom the snapshot shows that she had 200
abbrev snapshot : List (Op × Reply)
snapshot = paying true (codes "bank/ann") (codes "bank/bob") (Some (to_le_bytes w64 200)) None 0

answered-old : AgreeOn nowhere snapshot
answered-old = (
  (λ ordinary. refl),
  (
    (λ ordinary. refl),
    (
      (λ ordinary. ap Value (sym (nothing-at (codes "bank/bob")))),
      ((λ ordinary. absurd (let wrong : false ≡ true = ordinary in cc)), tt),
    ),
  ),
)

old-payment : IsPayment true (of_ops snapshot)
old-payment = record {
  payer = codes "bank/ann";
  payee = codes "bank/bob";
  payer_had = Some (to_le_bytes w64 200);
  payee_had = None;
  paid = 0;
  payer_is = refl;
  payee_is = refl;
  are_two = refl;
  covered = omega arith;
  fits = omega arith;
  done = refl;
}

pub snapshot_payments_fail : SnapshotPaymentsFail
snapshot_payments_fail keeps =
    let balanced : total (effects nowhere (written 0 0 snapshot)) ≡ 300 =
    (keeps nowhere (of_ops snapshot) 0 0 old-payment answered-old bank_starts).sum_stays in
    let summed : total (effects nowhere (written 0 0 snapshot)) ≡ 400 = total-after snapshot in
    not-both (total (effects nowhere (written 0 0 snapshot))) 400 300 (omega arith) summed balanced

-- bob is given 30, and nobody pays
abbrev gift : List (Op × Reply)
gift =
    reading (codes "bank/ann") None ∷ reading (codes "bank/bob") None
    ∷ writing (Set (codes "bank/bob") (to_le_bytes w64 130)) ∷ []

answered-gift : AgreeOn nowhere gift
answered-gift = (
  (λ ordinary. refl),
  (
    (λ ordinary. ap Value (sym (nothing-at (codes "bank/bob")))),
    ((λ ordinary. ap Value (sym (nothing-at (codes "bank/ann")))), tt),
  ),
)

pub gifts_fail : GiftsFail
gifts_fail keeps =
    let balanced : total (effects nowhere (written 0 0 gift)) ≡ 300 =
    (keeps nowhere (of_ops gift) 0 0 refl answered-gift bank_starts).sum_stays in
    let summed : total (effects nowhere (written 0 0 gift)) ≡ 330 = total-after gift in
    not-both (total (effects nowhere (written 0 0 gift))) 330 300 (omega arith) summed balanced

-- what the first operation was answered
abbrev first-reply : List (Op × Reply) → Reply
first-reply [] = Done
first-reply (done ∷ others) = done.1

pub no_more_is_refused : NoMoreIsRefused
no_more_is_refused transcript is = (
  record { payer_had = None; payee_had = None; why = inr (omega arith); done = is },
  λ refused. ⊎_elim
      (λ same. cc)
      (λ less. not-less (amount refused.payer_had) less
      (ap amount (sym (same-value None refused.payer_had (ap first-reply (sym is ∙ refused.done))))))
      refused.why,
)
  where
    not-less : (had : ℕ) → had < 100 → had ≡ 100 → ⊥
    not-less had less is = absurd (omega arith)
