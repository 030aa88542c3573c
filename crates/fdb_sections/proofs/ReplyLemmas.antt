-- What became of each place, as the answers are gone through from the first one on.
use Rattle.std.proofs.Common.{◌≡◌, ◌∙◌, ◌+◌, ℕ, suc, List, [], ◌∷◌, ◌++◌, slice_get, ap, sym, subst, arith}
use Rattle.std.proofs.Common.{append_assoc, append-nil, map, Option, Some, None}
use Rattle.std.specs.Prelude.{Result, Ok, Err, IsOk, IfOk}
use Rattle.fdb_keys.specs.declared.refusal.Refusal.{Refusal}
use Rattle.fdb_keys.specs.Answers.{Answers}
use Rattle.fdb_keys.specs.Ranges.{Range}
use Rattle.fdb_txn.specs.declared.entry.Entry.{Entry}
use Rattle.fdb_txn.specs.declared.txn_id.TxnId.{TxnId}
use Rattle.fdb_proxy.specs.declared.config.Config.{Config}
use Rattle.fdb_proxy.specs.declared.outcome.Outcome.{Outcome}
use Rattle.fdb_proxy.specs.Conflicts.{set_at}
use Rattle.fdb_sections.specs.declared.messages.reply.CommitReply.{CommitReply}
use Rattle.fdb_sections.specs.CommitMachines.{AreRepliesFrom, IsReplyTo}
use Rattle.fdb_sections.specs.CommitProxiesAtFronts.{AreOutcomes, CommitProxyAtFront}
use Rattle.fdb_sections.specs.Receipts.{IsOutcome}

-- it is what the rule says of that place, with its conflict set
abbrev pub IsAt : Config → List Entry → List (List Range) → ℕ → Outcome → Type 0
IsAt config front conflicts place outcome =
    IsOutcome config.resolver_splits (record {
      front = front;
      place = place;
      outcome = outcome;
      conflict = set_at place conflicts;
    })

-- each is what the rule says of its place, counted from the first one's
abbrev pub AreOutcomesFrom : Config → List Entry → List (List Range) → ℕ → List (TxnId × Outcome) → Type 0
AreOutcomesFrom config front conflicts first answers =
    (p : ℕ) (answer : TxnId × Outcome) → slice_get answers p ≡ Some answer
    → IsAt config front conflicts (first + p) answer.1

-- so they are at the start, whatever the proxy and the list are called there
pub outcomes-start : (config : Config) (old at : CommitProxyAtFront) (first : ℕ)
    (answers left : List (TxnId × Outcome)) → AreOutcomes config old.front old.conflicts answers → at ≡ old → first ≡ 0
    → left ≡ answers → AreOutcomesFrom config at.front at.conflicts first left
outcomes-start config old at first answers left are same none all p answer there =
    let place : p ≡ first + p = omega (arith, none) in
    subst (λ (own : CommitProxyAtFront). IsAt config own.front own.conflicts (first + p) answer.1) (sym same)
    (subst (λ (place : ℕ). IsAt config old.front old.conflicts place answer.1) place
    (are p answer (ap (λ (these : List (TxnId × Outcome)). slice_get these p) (sym all) ∙ there)))

pub outcome-first : (config : Config) (front : List Entry) (conflicts : List (List Range)) (first : ℕ)
    (answers rest : List (TxnId × Outcome)) (answer : TxnId × Outcome) → answers ≡ answer ∷ rest
    → AreOutcomesFrom config front conflicts first answers → IsAt config front conflicts first answer.1
outcome-first config front conflicts first answers rest answer is are =
    let same : first + 0 ≡ first = omega arith in
    subst (λ (place : ℕ). IsAt config front conflicts place answer.1) same
    (are 0 answer (ap (λ (all : List (TxnId × Outcome)). slice_get all 0) is))

pub outcomes-rest : (config : Config) (front : List Entry) (conflicts : List (List Range)) (first : ℕ)
    (answers rest : List (TxnId × Outcome)) (answer : TxnId × Outcome) → answers ≡ answer ∷ rest
    → AreOutcomesFrom config front conflicts first answers
    → AreOutcomesFrom config front conflicts (first + 1) rest
outcomes-rest config front conflicts first answers rest answer is are p other there =
    let same : first + suc p ≡ first + 1 + p = omega arith in
    subst (λ (place : ℕ). IsAt config front conflicts place other.1) same
    (are (suc p) other (ap (λ (all : List (TxnId × Outcome)). slice_get all (suc p)) is ∙ there))

-- Whatever the rest from a place on is told, with what was told before it that is what all are told.
abbrev pub AreToldSo : {B : Type 0} → List Entry → ℕ → (rest all : List (TxnId × Outcome)) → List (CommitReply B)
    → Type 0
AreToldSo {B} front place rest all told =
    (more : List (CommitReply B)) → AreRepliesFrom front place rest more → AreRepliesFrom front 0 all (told ++ more)

pub told-start : {B : Type 0} (front : List Entry) (place : ℕ) (rest all : List (TxnId × Outcome))
    (told : List (CommitReply B)) → place ≡ 0 → rest ≡ all → told ≡ [] → AreToldSo front place rest all told
told-start {B} front place rest all told first same nothing more are =
    subst (λ (before : List (CommitReply B)). AreRepliesFrom front 0 all (before ++ more)) (sym nothing)
    (subst (λ (answers : List (TxnId × Outcome)). AreRepliesFrom front 0 answers more) same
    (subst (λ (p : ℕ). AreRepliesFrom front p rest more) first are))

pub told-next : {B : Type 0} (front : List Entry) (place : ℕ) (answers rest all : List (TxnId × Outcome))
    (answer : TxnId × Outcome) (told : List (CommitReply B)) (reply : CommitReply B) → answers ≡ answer ∷ rest
    → IsReplyTo front place answer.1 reply → AreToldSo front place answers all told
    → AreToldSo front (place + 1) rest all (told ++ reply ∷ [])
told-next {B} front place answers rest all answer told reply is its so more are =
    let next : place + 1 ≡ suc place = omega arith in
    subst (λ (list : List (CommitReply B)). AreRepliesFrom front 0 all list) (sym (append_assoc told (reply ∷ []) more))
    (so (reply ∷ more) (subst (λ (these : List (TxnId × Outcome)). AreRepliesFrom front place these (reply ∷ more))
    (sym is) (its, subst (λ (p : ℕ). AreRepliesFrom front p rest more) next are)))

pub told-all : {B : Type 0} (front : List Entry) (place : ℕ) (rest all : List (TxnId × Outcome))
    (told : List (CommitReply B)) → rest ≡ [] → AreToldSo front place rest all told → AreRepliesFrom front 0 all told
told-all {B} front place rest all told none so =
    subst (λ (list : List (CommitReply B)). AreRepliesFrom front 0 all list) (append-nil told)
    (so [] (subst (λ (these : List (TxnId × Outcome)). AreRepliesFrom {B = B} front place these []) (sym none) tt))

-- one more is sent, and fewer are left
pub sent-next : {S T : Type 0} (f : S → T) (made all : List T) (items rest : List S) (item : S) → items ≡ item ∷ rest
    → made ++ map f items ≡ all → (made ++ f item ∷ []) ++ map f rest ≡ all
sent-next {S} f made all items rest item is so =
    append_assoc made (f item ∷ []) (map f rest)
    ∙ ap (λ (these : List S). made ++ map f these) (sym is) ∙ so

pub sent-all : {S T : Type 0} (f : S → T) (made all : List T) (items : List S) → items ≡ [] → made ++ map f items ≡ all
    → made ≡ all
sent-all {S} f made all items none so =
    sym (append-nil made) ∙ ap (λ (these : List S). made ++ map f these) (sym none) ∙ so

-- the same where it had to be made first
pub added-next : {S T : Type 0} (f : S → T) (items rest : List S) (item : S) (made : Result T Refusal)
    (old new all : List T) → items ≡ item ∷ rest → IsOk made → Answers made None (λ sent. sent ≡ f item)
    → IfOk made (λ one. new ≡ old ++ one ∷ []) → old ++ map f items ≡ all → new ++ map f rest ≡ all
added-next {S} {T} f items rest item (Ok one) old new all is there same added so =
    ap (λ (list : List T). list ++ map f rest) (added ∙ ap (λ (it : T). old ++ it ∷ []) same)
    ∙ sent-next f old all items rest item is so
added-next {S} {T} f items rest item (Err why) old new all is there same added so = absurd cc

-- where one call gave something, what is made of it is given
pub gives-with : {S T : Type 0} (fault : Option Refusal) (given : S) (made : T) (P : S → Type 0) (Q : T → Type 0)
    → Answers (Ok given) fault P → Q made → Answers (Ok made) fault Q
gives-with None given made P Q is holds = holds
gives-with (Some why) given made P Q is holds = is
