use Rattle.std.proofs.Common.{◌≡◌, ℕ, Bool, List, [], if◌then◌else◌, ◌∙◌, ap, rules, Some, None, cond}
use Rattle.std.specs.Ordering.{nat_cmp}
use Rattle.std.specs.Cmp.Lexicographic.{slice_cmp}
use Rattle.std.specs.BTreeMap.{is_at}
use Rattle.fdb_keys.specs.Points.{Point, point_eq}
use Rattle.fdb_keys.specs.Ranges.{in_set}
use Rattle.fdb_client.specs.declared.left.Left.{Left}
use Rattle.fdb_client.specs.declared.left.Left.TheVariants.{Value, Changes}
use Rattle.fdb_client.specs.LeftAt.{left_at}
use Rattle.fdb_client.specs.OwnWrites.{left_after, kept_at}
use Rattle.fdb_client.proofs.LeftAtLemmas.{blind-after, found, left_at-changed, changed-at, first-change, legal-put}
use Rattle.fdb_client.proofs.LeftAtLemmas.{either_way}
use Rattle.fdb_client.proofs.LeftAtLemmas.{on_err, answers_also}
use Rattle.fdb_client.proofs.own_writes.OwnWrites.change.Goals as goal

pub returns-then-is_blind-clause-answers : goal.returns-then-is_blind-clause-answers
returns-then-is_blind-clause-answers c =
    let own = c.args.self.now in
    let key = c.args.key.now in
    let mutation = c.args.mutation.now in
    let made = c.in_ok-made.made in
    answers_also c.put.result _ _ (λ put x.
    changed-at (left_at own) key x (left_at c.put.new.self x) made
    (λ (before : Left). left_after before mutation) (put x)
    (c.in_ok-made.ensures ∙ blind-after (left_at own key) mutation (search rules))) c.put.ensures.answers

pub returns-in_err-change-clause-err : goal.returns-in_err-change-clause-err
returns-in_err-change-clause-err c =
    let own = c.args.self.now in
    let key = c.args.key.now in
    let after = c.get_mut.follows.lender c.change.new.self in
    let there : (x : Point) → found after.entries x
    ≡ cond (is_at (slice_cmp nat_cmp key) x) (Some c.change.new.self) (found own.keys.entries x)
    = λ x. let follows = c.get_mut.follows.holds c.change.new.self in search rules in
    let same : c.change.new.self ≡ left_at own key = search rules in
    on_err c.from_residual-in_err-change.result _ (λ x.
    left_at-changed own.keys.entries after.entries own.cleared key c.change.new.self (λ (left : Left). left) there
    same x
    ∙ either_way (point_eq x key) (left_at own x))

pub returns-in-Some-clause-answers : goal.returns-in-Some-clause-answers
returns-in-Some-clause-answers c =
    let own = c.args.self.now in
    let key = c.args.key.now in
    let mutation = c.args.mutation.now in
    let after = c.get_mut.follows.lender c.change.new.self in
    let there : (x : Point) → found after.entries x
    ≡ cond (is_at (slice_cmp nat_cmp key) x) (Some c.change.new.self) (found own.keys.entries x)
    = λ x. let follows = c.get_mut.follows.holds c.change.new.self in search rules in
    let made : c.change.new.self ≡ left_after (left_at own key) mutation = search rules in
    λ x. left_at-changed own.keys.entries after.entries own.cleared key c.change.new.self
    (λ (left : Left). left_after left mutation) there made x

pub returns-in_err-change-clause-legal_keys : goal.returns-in_err-change-clause-legal_keys
returns-in_err-change-clause-legal_keys c =
    legal-put c.args.self.now.keys.entries (c.get_mut.follows.lender c.change.new.self).entries c.args.key.now
    c.change.new.self c.text.ensures.legal c.requires
    (λ x. let follows = c.get_mut.follows.holds c.change.new.self in search rules)

pub returns-in-Some-clause-legal_keys : goal.returns-in-Some-clause-legal_keys
returns-in-Some-clause-legal_keys c =
    legal-put c.args.self.now.keys.entries (c.get_mut.follows.lender c.change.new.self).entries c.args.key.now
    c.change.new.self c.text.ensures.legal c.requires
    (λ x. let follows = c.get_mut.follows.holds c.change.new.self in search rules)

pub returns-clause-answers : goal.returns-clause-answers
returns-clause-answers c =
    let own = c.args.self.now in
    let key = c.args.key.now in
    let mutation = c.args.mutation.now in
    let absent : found own.keys.entries key ≡ None = search rules in
    let cleared : c.is_cleared.result ≡ in_set own.cleared key = search rules in
    let left = c.in_ok-left.left in
    let same : c.get_mut.follows.lender-at-none.entries ≡ own.keys.entries = search rules in
    answers_also c.put-2.result _ _ (λ put x.
    changed-at (left_at own) key x (left_at c.put-2.new.self x) left
    (λ (before : Left). left_after before mutation)
    (put x ∙ ap (λ (entries : List (List ℕ × Left)).
    if point_eq x key then left else kept_at entries own.cleared x) same)
    (c.in_ok-left.ensures
    ∙ ap (λ (is_cleared : Bool). left_after (if is_cleared then Value None else Changes []) mutation) cleared
    ∙ first-change own.keys.entries own.cleared key mutation absent))
    c.put-2.ensures.answers
