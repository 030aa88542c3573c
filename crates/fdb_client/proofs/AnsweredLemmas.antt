-- What a transcript was answered, operation by operation.
use Rattle.std.proofs.Common.{◌≡◌, ◌∙◌, sym, ap, subst, refl, ℕ, ◌+◌, Bool, true, false, ◌&&◌, ◌↔◌, List, [], ◌∷◌, ◌++◌}
use Rattle.std.proofs.Common.{take, drop, append_assoc, append-nil, take-append-drop, Option, Some, ◌≤◌, ◌-◌, arith}
use Rattle.std.proofs.Math.Seq.{take-add}
use Rattle.std.specs.List.{slice_range}
use Rattle.std.specs.Prelude.{nat_eq}
use Rattle.std.specs.Bool.{Decides}
use Rattle.std.specs.Cmp.Lexicographic.{pointwise, bytes_decides}
use Rattle.std.specs.FinMap.{get}
use Rattle.std.specs.List.{slice_get}
use Rattle.std.proofs.lemmas.Bool.{both_ways}
use Rattle.std.proofs.lemmas.Bool.Decides.{Decides-and}
use Rattle.std.proofs.lemmas.List.{take_more}
use Rattle.std.proofs.lemmas.Option.{slice_get_within, get_or_from_slice_get}
use Rattle.fdb_keys.specs.Equality.{key_eq}
use Rattle.fdb_keys.proofs.Exports.{key_eq_decides, items_eq_decides}
use Rattle.fdb_keys.specs.Points.{Point}
use Rattle.fdb_keys.specs.Ranges.{Range}
use Rattle.fdb_mutations.specs.Maps.{Map}
use Rattle.fdb_mutations.specs.PairLaws.{given_of}
use Rattle.fdb_client.specs.declared.program.Op.{Op}
use Rattle.fdb_client.specs.declared.program.Op.TheVariants.{Get}
use Rattle.fdb_client.specs.declared.program.Op.TheVariants as operation
use Rattle.fdb_client.specs.declared.program.Reply.{Reply}
use Rattle.fdb_client.specs.declared.program.Reply.TheVariants.{Value, Pairs}
use Rattle.fdb_client.specs.ProgramLaws.{is_ordinary, AgreeWhereOrdinary}
use Rattle.fdb_client.specs.Programs.{program, copy, reply_on, exec, replies_of, is_ordinary_read}
use Rattle.fdb_client.specs.TxnState.{AreWritesOf}
use Rattle.fdb_client.specs.declared.own_writes.OwnWrites.{OwnWrites}
use Rattle.fdb_client.proofs.ProgramLemmas.{program-push, replies-push}

-- the operation, if it is an ordinary one, was answered as on the copy of the map after the earlier ones
abbrev pub AnsweredNext : Map → List (Op × Reply) → Op × Reply → Type 0
AnsweredNext map earlier done = is_ordinary done.0 ≡ true → done.1 ≡ reply_on (copy map (program earlier)) done.0

-- each ordinary operation was answered as the program answers it on the map
abbrev pub AnsweredSoFar : Map → List (Op × Reply) → Type 0
AnsweredSoFar map ops = AgreeWhereOrdinary (program ops) (replies_of ops) (exec map (program ops))

-- the first operations with one more
one-more : (ops : List (Op × Reply)) (i : ℕ) (done : Op × Reply) → slice_get ops i ≡ Some done
    → take (i + 1) ops ≡ take i ops ++ done ∷ []
one-more ops i done there =
    take_more ops i done (slice_get_within ops i done there)
    ∙ ap (λ (one : Op × Reply). take i ops ++ one ∷ []) (get_or_from_slice_get ops i done done there)

-- the first ones with those that follow, up to a number
pub taken-through : (ops : List (Op × Reply)) (i n : ℕ) → i ≤ n → take i ops ++ slice_range ops i n ≡ take n ops
taken-through ops i n within =
    sym (take-add i (n - i) ops)
    ∙ ap (λ (k : ℕ). take k ops) (omega (arith, within))

-- the program of the first operations with one more
pub program-next : (ops : List (Op × Reply)) (i : ℕ) (done : Op × Reply) → slice_get ops i ≡ Some done
    → program (take (i + 1) ops) ≡ done.0 ∷ program (take i ops)
program-next ops i done there = ap program (one-more ops i done there) ∙ program-push (take i ops) done

-- and their replies
pub replies-next : (ops : List (Op × Reply)) (i : ℕ) (done : Op × Reply) → slice_get ops i ≡ Some done
    → replies_of (take (i + 1) ops) ≡ done.1 ∷ replies_of (take i ops)
replies-next ops i done there = ap replies_of (one-more ops i done there) ∙ replies-push (take i ops) done

-- and the program of earlier ones with those that follow, with one more
pub program-after : (earlier ops : List (Op × Reply)) (i : ℕ) (done : Op × Reply) → slice_get ops i ≡ Some done
    → program (earlier ++ take (i + 1) ops) ≡ done.0 ∷ program (earlier ++ take i ops)
program-after earlier ops i done there =
    ap (λ (more : List (Op × Reply)). program (earlier ++ more)) (one-more ops i done there)
    ∙ ap program (sym (append_assoc earlier (take i ops) (done ∷ [])))
    ∙ program-push (earlier ++ take i ops) done

-- the reply to an ordinary operation that reads nothing hangs on no map
pub reply-unread : (m n : Map) (op : Op) → is_ordinary_read op ≡ false → is_ordinary op ≡ true
    → reply_on m op ≡ reply_on n op
reply-unread m n (Get key true) unread ordinary = absurd (both_ways _ refl ordinary)
reply-unread m n (Get key false) unread ordinary = absurd (both_ways _ unread refl)
reply-unread m n (operation.Range range limit is_reverse true) unread ordinary = absurd (both_ways _ refl ordinary)
reply-unread m n (operation.Range range limit is_reverse false) unread ordinary = absurd (both_ways _ unread refl)
reply-unread m n (operation.Write mutation) unread ordinary = refl
reply-unread m n (operation.AddRead range) unread ordinary = refl
reply-unread m n (operation.AddWrite range) unread ordinary = refl

-- so it was answered on the copy after some operations just where it was on that after others
pub answered-unread : (map : Map) (some_ops ops : List (Op × Reply)) (done : Op × Reply)
    → is_ordinary_read done.0 ≡ false → AnsweredNext map some_ops done → AnsweredNext map ops done
answered-unread map some_ops ops done unread answered ordinary =
    answered ordinary ∙ reply-unread (copy map (program some_ops)) (copy map (program ops)) done.0 unread ordinary

-- What is kept of the first operations' writes answers the one with the number: it has all writes before that, or that
-- one reads nothing.
abbrev pub IsReady : Map → List (Op × Reply) → ℕ → Op × Reply → OwnWrites → List Range → ℕ → Type 0
IsReady map ops number done own writes added =
    (added ≤ number)
    × AreWritesOf (program (take added ops)) own writes
    × (AnsweredNext map (take added ops) done ↔ AnsweredNext map (take number ops) done)

pub ready-read : (map : Map) (ops : List (Op × Reply)) (number : ℕ) (done : Op × Reply) (own : OwnWrites)
    (writes : List Range) → AreWritesOf (program (take number ops)) own writes
    → IsReady map ops number done own writes number
ready-read map ops number done own writes are = (omega (arith), are, (λ answered. answered, λ answered. answered))

pub ready-unread : (map : Map) (ops : List (Op × Reply)) (number : ℕ) (done : Op × Reply) (own : OwnWrites)
    (writes : List Range) (added : ℕ) → is_ordinary_read done.0 ≡ false → added ≤ number
    → AreWritesOf (program (take added ops)) own writes → IsReady map ops number done own writes added
ready-unread map ops number done own writes added unread earlier are = (
  earlier,
  are,
  (
    answered-unread map (take added ops) (take number ops) done unread,
    answered-unread map (take number ops) (take added ops) done unread,
  ),
)

-- one operation more
answered-push : (map : Map) (ops : List (Op × Reply)) (done : Op × Reply)
    → AnsweredNext map ops done → AnsweredSoFar map ops → AnsweredSoFar map (ops ++ done ∷ [])
answered-push map ops done here before = rw (program-push ops done, replies-push ops done) (here, before)

answered-parts : (map : Map) (ops : List (Op × Reply)) (done : Op × Reply) → AnsweredSoFar map (ops ++ done ∷ [])
    → AnsweredNext map ops done × AnsweredSoFar map ops
answered-parts map ops done all = rw (program-push ops done, replies-push ops done) at all

-- and the first ones
answered-front : (map : Map) (first later : List (Op × Reply)) → AnsweredSoFar map (first ++ later)
    → AnsweredSoFar map first
answered-front map first [] all = subst (AnsweredSoFar map) (append-nil first) all
answered-front map first (done ∷ later) all =
    (answered-parts map first done
    (answered-front map (first ++ done ∷ []) later
    (subst (AnsweredSoFar map) (sym (append_assoc first (done ∷ []) later)) all))).1

pub answered-next : (map : Map) (ops : List (Op × Reply)) (i : ℕ) (done : Op × Reply) → slice_get ops i ≡ Some done
    → AnsweredNext map (take i ops) done → AnsweredSoFar map (take i ops) → AnsweredSoFar map (take (i + 1) ops)
answered-next map ops i done there here before =
    subst (AnsweredSoFar map) (sym (one-more ops i done there))
    (answered-push map (take i ops) done here before)

-- and so each one after those before it
pub answered-at : (map : Map) (ops : List (Op × Reply)) (i : ℕ) (done : Op × Reply) → slice_get ops i ≡ Some done
    → AnsweredSoFar map ops
    → AnsweredNext map (take i ops) done
answered-at map ops i done there all =
    (answered-parts map (take i ops) done
    (subst (AnsweredSoFar map) (one-more ops i done there)
    (answered-front map (take (i + 1) ops) (drop (i + 1) ops)
    (subst (AnsweredSoFar map) (sym (take-append-drop (i + 1) ops)) all)))).0

-- a read that isn't a snapshot read was answered as on the copy just where it was told what the copy has
pub answered-get : (map : Map) (earlier : List Op) (op : Op) (reply : Reply) (key : Point)
    (value : Option (List ℕ)) (same : Bool) → op ≡ Get key false → value ≡ get (copy map earlier) key
    → (same ≡ true) ↔ (reply ≡ Value value)
    → (same ≡ true) ↔ (is_ordinary op ≡ true → reply ≡ reply_on (copy map earlier) op)
answered-get map earlier op reply key value same is has told =
    subst (λ (read : Op). (same ≡ true) ↔ (is_ordinary read ≡ true
    → reply ≡ reply_on (copy map earlier) read)) (sym is) (
      λ yes ordinary. told.0 yes ∙ ap Value has,
      λ answered. told.1 (answered refl ∙ ap Value (sym has)),
    )

-- and such a read of a range
pub answered-range : (map : Map) (earlier : List Op) (op : Op) (reply : Reply) (range : Range) (limit : ℕ)
    (is_reverse : Bool) (pairs : List (Point × List ℕ)) (same : Bool)
    → op ≡ operation.Range range limit is_reverse false
    → pairs ≡ given_of (copy map earlier) range limit is_reverse
    → (same ≡ true) ↔ (reply ≡ Pairs pairs)
    → (same ≡ true) ↔ (is_ordinary op ≡ true → reply ≡ reply_on (copy map earlier) op)
answered-range map earlier op reply range limit is_reverse pairs same is has told =
    subst (λ (read : Op). (same ≡ true) ↔ (is_ordinary read ≡ true
    → reply ≡ reply_on (copy map earlier) read)) (sym is) (
      λ yes ordinary. told.0 yes ∙ ap Pairs has,
      λ answered. told.1 (answered refl ∙ ap Pairs (sym has)),
    )

-- `==` of two pairs
abbrev pub pair_eq : Point × List ℕ → Point × List ℕ → Bool
pair_eq a b = key_eq a.0 b.0 && pointwise nat_eq a.1 b.1

pair_eq_decides : (a b : Point × List ℕ) → Decides (pair_eq a b) (a ≡ b)
pair_eq_decides a b =
    let parts = Decides-and (key_eq a.0 b.0) (pointwise nat_eq a.1 b.1) (key_eq_decides a.0 b.0)
    (bytes_decides a.1 b.1) in (
      λ equal. let same = parts.0 equal in λ i. (same.0 i, same.1 i),
      λ same. parts.1 (ap (λ (pair : Point × List ℕ). pair.0) same, ap (λ (pair : Point × List ℕ). pair.1) same),
    )

-- `==` of two lists of pairs says that they are the same
pub pairs_eq_decides : (a b : List (Point × List ℕ)) → Decides (pointwise pair_eq a b) (a ≡ b)
pairs_eq_decides a b = items_eq_decides pair_eq pair_eq_decides a b
