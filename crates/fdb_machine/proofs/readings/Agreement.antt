-- What the machine has in its fields is what the trace tells.
use Rattle.std.proofs.Common.{◌≡◌, ◌≢◌, ◌≤◌, refl, sym, subst, arith, ⊎_elim, ℕ, suc, ◌+◌, Bool, true, false, cond}
use Rattle.std.proofs.Common.{List, [], ◌∷◌, ◌++◌, length, Some}
use Rattle.std.specs.Prelude.{◌==◌, nat_lt, sum_by}
use Rattle.std.specs.List.{slice_get, slice_set, count_by}
use Rattle.std.proofs.lemmas.Bool.{eq-eqb, ne_eqb, le-ltb, lt-ltb, ltb-true}
use Rattle.std.proofs.lemmas.Bool.Decides.{eqb_tells}
use Rattle.std.proofs.lemmas.List.{length-append}
use Rattle.std.proofs.lemmas.List.Sums.{sum_by_push}
use Rattle.std.proofs.lemmas.Option.{same_Some}
use Rattle.fdb_mutations.specs.Maps.{Map}
use Rattle.fdb_txn.specs.declared.entry.Entry.{Entry}
use Rattle.fdb_txn.specs.declared.entry.Move.{Move}
use Rattle.fdb_client.specs.declared.program.Op.{Op}
use Rattle.fdb_client.specs.declared.program.Op.TheVariants as op
use Rattle.fdb_client.specs.declared.program.Transcript.{Transcript}
use Rattle.fdb_client.specs.Programs.{reply_on}
use Rattle.fdb_roles.specs.declared.placed.Placed.{Placed}
use Rattle.fdb_machine.specs.headline.Readings.{Readings, Progress, SealedBatch, with_at, has_done, goes_on, read}
use Rattle.fdb_machine.specs.invariant.Invariant.{Invariant}
use Rattle.fdb_machine.specs.machine.ClientSteps.{answered_by}
use Rattle.fdb_machine.specs.machine.CommitProxySteps.{is_idle}
use Rattle.fdb_machine.specs.machine.Machine.{Machine}
use Rattle.fdb_machine.specs.machine.Roles.{CommitProxy}
use Rattle.fdb_machine.specs.machine.Sessions.{Sessions}
use Rattle.fdb_machine.proofs.common.SumLemmas.{sum-set}
use Rattle.fdb_machine.proofs.invariant.SoundLemmas.{found-front}
use Rattle.fdb_machine.proofs.machine.Steps.{is_quiet, operation_of}
use Rattle.fdb_machine.proofs.readings.GrantLemmas.{NumbersBegun}
use Rattle.fdb_machine.proofs.readings.SessionLists.{OpenTold, item-after-set}
use Rattle.fdb_machine.specs.declared.step.Answered.{Answered}
use Rattle.fdb_machine.specs.declared.step.Answered.TheVariants as answered
use Rattle.fdb_machine.specs.machine.AnyStep.{Step}
use Rattle.fdb_machine.specs.declared.step.AnyStep.TheVariants as step

-- A commit proxy has those who are told to wait there, and unless it has none the batch of its last Seal.
pub record AtProxy (book : List Entry) (waiting : List Transcript)
    (sealed : SealedBatch) (commit_proxy : CommitProxy) : Type 0 where
  pub waiting_told : waiting ≡ commit_proxy.waiting
  pub batch_told : is_idle commit_proxy.stage ≡ false
      → (entry : Entry) × (slice_get book commit_proxy.entry ≡ Some entry) × (sealed ≡ record
      { entry = commit_proxy.entry; version = entry.version; transcripts = commit_proxy.in_flight })

abbrev pub AtProxies : List Entry → (ℕ → List Transcript) → (ℕ → SealedBatch) → List CommitProxy → Type 0
AtProxies book waiting sealed commit_proxies =
    (proxy : ℕ) (commit_proxy : CommitProxy) → slice_get commit_proxies proxy ≡ Some commit_proxy
    → AtProxy book (waiting proxy) (sealed proxy) commit_proxy

-- 1 where the proxy has the entry's batch in flight, else 0
abbrev pub flies : ℕ → CommitProxy → ℕ
flies entry commit_proxy = cond (is_idle commit_proxy.stage) 0 (cond (commit_proxy.entry == entry) 1 0)

-- an entry of the book is answered, or in flight, at most once, and another one not at all
abbrev pub AnsweredOnce : List Entry → List ℕ → List CommitProxy → Type 0
AnsweredOnce book answered commit_proxies =
    (entry : ℕ) → count_by (λ (other : ℕ). other == entry) answered + sum_by (flies entry) commit_proxies
    ≤ cond (nat_lt entry (length book)) 1 0

-- the fields of the machine are what is told
pub record Tells (r : Readings) (book : List Entry) (sessions : Sessions) (acknowledged : List Placed)
    (committed : ℕ) (pending : List Move) (window : ℕ) (commit_proxies : List CommitProxy) : Type 0 where
  pub book_told : r.book ≡ book
  pub opened_told : OpenTold r.opened sessions
  pub acknowledged_told : r.acknowledged ≡ acknowledged
  pub reported_told : r.reported ≡ committed
  pub moves_told : r.pending ≡ pending
  pub window_told : r.window ≡ window
  pub begun_told : NumbersBegun r.begun sessions
  pub proxies_told : AtProxies book r.waiting r.sealed commit_proxies
  pub once_told : AnsweredOnce book r.answered commit_proxies

abbrev pub TellsMachine : Readings → Machine → Type 0
TellsMachine r m = Tells r m.book m.sessions m.acknowledged m.committed m.pending m.window m.commit_proxies

-- what a step tells beside what was told before is what the machine goes on to
abbrev pub TellsOn : Machine → Step → Answered → Machine → Type 0
TellsOn m one_step answer after =
    (r : Readings) → Invariant m → TellsMachine r m → TellsMachine (read r one_step answer) after

-- how far the roles are is told of no other field
pub progress-tells : (r : Readings) (p : Progress) (m : Machine) → TellsMachine r m → TellsMachine (goes_on r p) m
progress-tells r p m tells = record {
  book_told = tells.book_told;
  opened_told = tells.opened_told;
  acknowledged_told = tells.acknowledged_told;
  reported_told = tells.reported_told;
  moves_told = tells.moves_told;
  window_told = tells.window_told;
  begun_told = tells.begun_told;
  proxies_told = tells.proxies_told;
  once_told = tells.once_told;
}

-- so a quiet step tells nothing of them
pub quiet-tells : (r : Readings) (m : Machine) (one_step : Step) (answer : Answered) → is_quiet one_step ≡ true
    → TellsMachine r m → TellsMachine (read r one_step answer) m
quiet-tells r m (step.Ask session proxy) answer quiet tells = cc
quiet-tells r m (step.Grant proxy) answer quiet tells = cc
quiet-tells r m (step.Get session key snapshot) answer quiet tells = cc
quiet-tells r m (step.GetRange session range limit is_reverse snapshot) answer quiet tells = cc
quiet-tells r m (step.Write session mutation) answer quiet tells = cc
quiet-tells r m (step.AddRead session range) answer quiet tells = cc
quiet-tells r m (step.AddWrite session range) answer quiet tells = cc
quiet-tells r m (step.Submit session proxy) answer quiet tells = cc
quiet-tells r m (step.Seal proxy advance) answer quiet tells = cc
quiet-tells r m (step.Report proxy) answer quiet tells = cc
quiet-tells r m (step.Answer proxy) answer quiet tells = cc
quiet-tells r m (step.Move range to) answer quiet tells = cc
quiet-tells r m (step.Window window) answer quiet tells = cc
quiet-tells r m (step.Resolve i resolver) answer quiet tells = progress-tells r _ m tells
quiet-tells r m (step.Verdict i resolver) answer quiet tells = progress-tells r _ m tells
quiet-tells r m (step.Decide proxy) answer quiet tells = progress-tells r _ m tells
quiet-tells r m (step.Push i log) answer quiet tells = progress-tells r _ m tells
quiet-tells r m (step.Logged i log) answer quiet tells = progress-tells r _ m tells
quiet-tells r m (step.Pull shard limit) (answered.Version version) quiet tells = progress-tells r _ m tells
quiet-tells r m (step.Pull shard limit) answered.Done quiet tells = tells
quiet-tells r m (step.Pull shard limit) (answered.Granted served) quiet tells = tells
quiet-tells r m (step.Pull shard limit) (answered.Value value) quiet tells = tells
quiet-tells r m (step.Pull shard limit) (answered.Pairs pairs) quiet tells = tells
quiet-tells r m (step.Pull shard limit) (answered.ReadOnly version) quiet tells = tells
quiet-tells r m (step.Pull shard limit) (answered.Issued index version prev places) quiet tells = tells
quiet-tells r m (step.Pull shard limit) (answered.Verdicts given) quiet tells = tells
quiet-tells r m (step.Pull shard limit) (answered.Decided outcomes) quiet tells = tells
quiet-tells r m (step.Pull shard limit) (answered.Answers told) quiet tells = tells
quiet-tells r m (step.Forget shard least) (answered.Version version) quiet tells = progress-tells r _ m tells
quiet-tells r m (step.Forget shard least) answered.Done quiet tells = tells
quiet-tells r m (step.Forget shard least) (answered.Granted served) quiet tells = tells
quiet-tells r m (step.Forget shard least) (answered.Value value) quiet tells = tells
quiet-tells r m (step.Forget shard least) (answered.Pairs pairs) quiet tells = tells
quiet-tells r m (step.Forget shard least) (answered.ReadOnly version) quiet tells = tells
quiet-tells r m (step.Forget shard least) (answered.Issued index version prev places) quiet tells = tells
quiet-tells r m (step.Forget shard least) (answered.Verdicts given) quiet tells = tells
quiet-tells r m (step.Forget shard least) (answered.Decided outcomes) quiet tells = tells
quiet-tells r m (step.Forget shard least) (answered.Answers told) quiet tells = tells
quiet-tells r m (step.Pop shard) answer quiet tells = tells

-- an operation tells itself, with its reply
pub operation-tells : (r : Readings) (one_step : Step) (session : ℕ) (operation : Op) (there : Map)
    → operation_of one_step ≡ Some (session, operation)
    → has_done r session operation (reply_on there operation) ≡ read r one_step (answered_by (reply_on there operation))
operation-tells r (step.Get own key snapshot) session operation there is =
    subst (λ (done : ℕ × Op). has_done r done.0 done.1 (reply_on there done.1)
    ≡ read r (step.Get own key snapshot) (answered_by (reply_on there done.1)))
    (same_Some (own, op.Get key snapshot) (session, operation) is) refl
operation-tells r (step.GetRange own range limit is_reverse snapshot) session operation there is =
    subst (λ (done : ℕ × Op). has_done r done.0 done.1 (reply_on there done.1)
    ≡ read r (step.GetRange own range limit is_reverse snapshot) (answered_by (reply_on there done.1)))
    (same_Some (own, op.Range range limit is_reverse snapshot) (session, operation) is) refl
operation-tells r (step.Write own mutation) session operation there is =
    subst (λ (done : ℕ × Op). has_done r done.0 done.1 (reply_on there done.1)
    ≡ read r (step.Write own mutation) (answered_by (reply_on there done.1)))
    (same_Some (own, op.Write mutation) (session, operation) is) refl
operation-tells r (step.AddRead own range) session operation there is =
    subst (λ (done : ℕ × Op). has_done r done.0 done.1 (reply_on there done.1)
    ≡ read r (step.AddRead own range) (answered_by (reply_on there done.1)))
    (same_Some (own, op.AddRead range) (session, operation) is) refl
operation-tells r (step.AddWrite own range) session operation there is =
    subst (λ (done : ℕ × Op). has_done r done.0 done.1 (reply_on there done.1)
    ≡ read r (step.AddWrite own range) (answered_by (reply_on there done.1)))
    (same_Some (own, op.AddWrite range) (session, operation) is) refl
operation-tells r (step.Ask own proxy) session operation there is = cc
operation-tells r (step.Grant proxy) session operation there is = cc
operation-tells r (step.Submit own proxy) session operation there is = cc
operation-tells r (step.Seal proxy advance) session operation there is = cc
operation-tells r (step.Resolve i resolver) session operation there is = cc
operation-tells r (step.Verdict i resolver) session operation there is = cc
operation-tells r (step.Decide proxy) session operation there is = cc
operation-tells r (step.Push i log) session operation there is = cc
operation-tells r (step.Logged i log) session operation there is = cc
operation-tells r (step.Report proxy) session operation there is = cc
operation-tells r (step.Answer proxy) session operation there is = cc
operation-tells r (step.Pull shard limit) session operation there is = cc
operation-tells r (step.Forget shard version) session operation there is = cc
operation-tells r (step.Pop shard) session operation there is = cc
operation-tells r (step.Move range to) session operation there is = cc
operation-tells r (step.Window window) session operation there is = cc

-- the value by number, after a change at one of them
pub changed-there : {A : Type 0} (proxy : ℕ) (value : A) (values : ℕ → A) → with_at proxy value values proxy ≡ value
changed-there proxy value values = rw (eq-eqb proxy proxy refl) refl

pub changed-elsewhere : {A : Type 0} (proxy : ℕ) (value : A) (values : ℕ → A) (other : ℕ) → other ≢ proxy
    → with_at proxy value values other ≡ values other
changed-elsewhere proxy value values other differs = rw (ne_eqb other proxy differs) refl

-- where one commit proxy changes, and nothing is told of the others, each has what is told of it
pub one-changes : (book : List Entry) (waiting new_waiting : ℕ → List Transcript) (sealed new_sealed : ℕ → SealedBatch)
    (commit_proxies : List CommitProxy) (proxy : ℕ) (new : CommitProxy)
    → AtProxies book waiting sealed commit_proxies
    → ((other : ℕ) → other ≢ proxy → (waiting other ≡ new_waiting other) × (sealed other ≡ new_sealed other))
    → AtProxy book (new_waiting proxy) (new_sealed proxy) new
    → AtProxies book new_waiting new_sealed (slice_set commit_proxies proxy new)
one-changes book waiting new_waiting sealed new_sealed commit_proxies
    proxy new at others has other commit_proxy there = ⊎_elim
    (λ (here : (other ≡ proxy) × (new ≡ commit_proxy)).
    subst (λ (n : ℕ). AtProxy book (new_waiting n) (new_sealed n) commit_proxy) (sym here.0)
    (subst (AtProxy book (new_waiting proxy) (new_sealed proxy)) here.1 has))
    (λ (elsewhere : (other ≢ proxy) × (slice_get commit_proxies other ≡ Some commit_proxy)).
    let same = others other elsewhere.0 in
    subst (λ (waits : List Transcript). AtProxy book waits (new_sealed other) commit_proxy) same.0
    (subst (λ (batch : SealedBatch). AtProxy book (waiting other) batch commit_proxy) same.1
    (at other commit_proxy elsewhere.1)))
    (item-after-set commit_proxies proxy new other commit_proxy there)

-- a longer book takes nothing from what is told
pub book-grows : (book more : List Entry) (waiting : List Transcript) (sealed : SealedBatch)
    (commit_proxy : CommitProxy)
    → AtProxy book waiting sealed commit_proxy → AtProxy (book ++ more) waiting sealed commit_proxy
book-grows book more waiting sealed commit_proxy has = record {
  waiting_told = has.waiting_told;
  batch_told = λ busy. let batch = has.batch_told busy in
      (batch.0, found-front book more commit_proxy.entry batch.0 batch.1, batch.2);
}

module _ (book : List Entry) (answered : List ℕ) (commit_proxies : List CommitProxy) (proxy : ℕ) (old new : CommitProxy)
    (at : slice_get commit_proxies proxy ≡ Some old) (once : AnsweredOnce book answered commit_proxies) where
  -- it stays so where a proxy goes on with its batch, or stays without one
  pub once-goes_on : ((entry : ℕ) → flies entry new ≤ flies entry old)
      → AnsweredOnce book answered (slice_set commit_proxies proxy new)
  once-goes_on less entry = omega
      (arith, once entry, less entry, sum-set (flies entry) commit_proxies proxy old new at)

  -- where it answers its clients
  pub once-answered : is_idle old.stage ≡ false → is_idle new.stage ≡ true
      → AnsweredOnce book (answered ++ old.entry ∷ []) (slice_set commit_proxies proxy new)
  once-answered busy done entry =
      let was : flies entry old ≡ cond (old.entry == entry) 1 0 = rw busy refl in
      let is : flies entry new ≡ 0 = rw done refl in
      omega (
        arith,
        once entry,
        was,
        is,
        sum-set (flies entry) commit_proxies proxy old new at,
        sum_by_push (λ (other : ℕ). cond (other == entry) 1 0) answered old.entry,
      )

  -- and where its batch becomes the next entry
  pub once-sealed : (next : Entry) → is_idle old.stage ≡ true → is_idle new.stage ≡ false → new.entry ≡ length book
      → AnsweredOnce (book ++ next ∷ []) answered (slice_set commit_proxies proxy new)
  once-sealed next idle busy itself entry =
      let was : flies entry old ≡ 0 = rw idle refl in
      let is : flies entry new ≡ cond (length book == entry) 1 0 = rw (busy, itself) refl in
      let longer : length (book ++ next ∷ []) ≡ suc (length book) = omega (arith, length-append book (next ∷ [])) in
      rw longer
      (omega
      (arith, once entry, was, is, sum-set (flies entry) commit_proxies proxy old new at, grows entry (length book)))
    where
      grows : (entry count : ℕ)
          → cond {A = ℕ} (nat_lt entry count) 1 0 + cond {A = ℕ} (count == entry) 1 0
          ≤ cond {A = ℕ} (nat_lt entry (suc count)) 1 0
      grows entry count = ⊎_elim
          (λ (is : (count == entry ≡ true) × (count ≡ entry)).
          rw (is.0, le-ltb entry count (omega (arith, is.1)), lt-ltb entry (suc count) (omega (arith, is.1)))
          (omega arith))
          (λ (is : (count == entry ≡ false) × (count ≢ entry)). rw is.0 (below (nat_lt entry count) refl is.1))
          (eqb_tells count entry)
        where
          below : (test : Bool) → nat_lt entry count ≡ test → count ≢ entry
              → cond {A = ℕ} (nat_lt entry count) 1 0 + 0 ≤ cond {A = ℕ} (nat_lt entry (suc count)) 1 0
          below true is differs = rw (
            is,
            lt-ltb entry (suc count) (omega (arith, ltb-true entry count is)),
          ) (omega arith)
          below false is differs = rw is (omega arith)
