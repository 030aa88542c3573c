-- The mutations of a batch's transactions that commit, one transaction after another.
use Rattle.std.proofs.Common.{◌≡◌, ◌∙◌, refl, sym, ap, ℕ, zero, suc, ◌+◌, ◌<◌, append-nil, append_assoc, List, [], ◌∷◌}
use Rattle.std.proofs.Common.{◌++◌, map, get_or, length, take, slice_get, Some, arith}
use Rattle.std.proofs.lemmas.List.{map-append}
use Rattle.std.proofs.lemmas.Option.{slice_get-get_or}
use Rattle.fdb_keys.specs.Points.{Point}
use Rattle.fdb_txn.specs.declared.txn_id.TxnId.{TxnId}
use Rattle.fdb_txn.specs.book.Transactions.{Transaction}
use Rattle.fdb_txn.specs.rules.Messages.{Body}
use Rattle.fdb_log.specs.declared.message.Tagged.{Tagged}
use Rattle.fdb_storage.specs.LogMessages.{tagged}
use Rattle.fdb_proxy.specs.declared.outcome.Outcome.{Outcome}
use Rattle.fdb_proxy.specs.Logging.{answers_by, written, body_by}

abbrev Answer : Type 0
Answer = TxnId × Outcome

-- with one place more, that place's mutations come last
body-next : (p : ℕ) (batch : List Transaction) (answers : List Answer) (i : ℕ) (t : Transaction) (o : Answer)
    → slice_get batch i ≡ Some t → slice_get answers i ≡ Some o
    → body_by p (take (suc i) batch) (take (suc i) answers)
    ≡ body_by p (take i batch) (take i answers) ++ written o.1 (p + i) t
body-next p [] answers i t o there at = cc
body-next p (first ∷ ts) [] i t o there at = cc
body-next p (first ∷ ts) (said ∷ others) zero t o there at =
    let same : first ≡ t = cc in
    let its : said ≡ o = cc in
    let number : p ≡ p + 0 = omega arith in
    append-nil _
    ∙ ap (λ (x : Transaction). written said.1 p x) same
    ∙ ap (λ (x : Answer). written x.1 p t) its
    ∙ ap (λ (n : ℕ). written o.1 n t) number
body-next p (first ∷ ts) (said ∷ others) (suc i) t o there at =
    let number : suc p + i ≡ p + suc i = omega arith in
    ap (λ (rest : Body). written said.1 p first ++ rest)
    (body-next (suc p) ts others i t o there at
    ∙ ap (λ (n : ℕ). body_by (suc p) (take i ts) (take i others) ++ written o.1 n t) number)
    ∙ sym (append_assoc (written said.1 p first) (body_by (suc p) (take i ts) (take i others))
    (written o.1 (p + suc i) t))

-- one more place of a batch, with its tags
tagged-next : (splits : List Point) (batch : List Transaction) (answers : List Answer) (i : ℕ) (t : Transaction)
    (o : Answer) → slice_get batch i ≡ Some t → slice_get answers i ≡ Some o
    → map (tagged splits) (body_by 0 (take i batch) (take i answers)) ++ map (tagged splits) (written o.1 i t)
    ≡ map (tagged splits) (body_by 0 (take (i + 1) batch) (take (i + 1) answers))
tagged-next splits batch answers i t o there at =
    let number : 0 + i ≡ i = omega arith in
    let count : suc i ≡ i + 1 = omega arith in
    sym (map-append (tagged splits) (body_by 0 (take i batch) (take i answers)) (written o.1 i t))
    ∙ ap (map (tagged splits))
    (ap (λ (n : ℕ). body_by 0 (take i batch) (take i answers) ++ written o.1 n t) (sym number)
    ∙ sym (body-next 0 batch answers i t o there at)
    ∙ ap (λ (n : ℕ). body_by 0 (take n batch) (take n answers)) count)

-- the same of an answer that was read
pub tagged-step : (splits : List Point) (batch : List Transaction) (answers : List Answer) (i : ℕ) (t : Transaction)
    (d : Answer) (before after : List Tagged) → slice_get batch i ≡ Some t → i < length answers
    → before ≡ map (tagged splits) (body_by 0 (take i batch) (take i answers))
    → after ≡ before ++ map (tagged splits) (written (get_or answers i d).1 i t)
    → after ≡ map (tagged splits) (body_by 0 (take (i + 1) batch) (take (i + 1) answers))
tagged-step splits batch answers i t d before after there within is adds =
    adds
    ∙ ap (λ (old : List Tagged). old ++ map (tagged splits) (written (get_or answers i d).1 i t)) is
    ∙ tagged-next splits batch answers i t (get_or answers i d) there (slice_get-get_or answers i d within)

-- an answer for each transaction that has an outcome
pub count-answers : (batch : List Transaction) (outcomes : List Outcome) → length batch ≡ length outcomes
    → length batch ≡ length (answers_by batch outcomes)
count-answers [] outcomes same = refl
count-answers (t ∷ ts) [] same = cc
count-answers (t ∷ ts) (outcome ∷ outcomes) same =
    let rest : length ts ≡ length outcomes = omega (arith, same) in
    ap suc (count-answers ts outcomes rest)
