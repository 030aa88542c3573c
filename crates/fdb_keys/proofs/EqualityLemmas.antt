-- `==` tells exactly whether two values are the same.
use Rattle.std.specs.Prelude.{◌≡◌, nat_eq, Bool, List}
use Rattle.std.specs.Bool.{Decides}
use Rattle.std.specs.Cmp.Lexicographic.{bytes_decides, pointwise, pointwise_decides}
use Rattle.std.proofs.Common.{ap, rules}
use Rattle.std.proofs.lemmas.Bool.Decides.{Decides-and}
use Rattle.fdb_keys.specs.declared.key.Key.{Key}
use Rattle.fdb_keys.specs.Equality.{key_eq, range_eq, range_set_eq, refusal_eq}
use Rattle.fdb_keys.specs.declared.key_range.KeyRange.{KeyRange}
use Rattle.fdb_keys.specs.declared.range_set.RangeSet.{RangeSet}
use Rattle.fdb_keys.specs.declared.refusal.Refusal.{Refusal}

pub key_eq_decides : (a b : Key) → Decides (key_eq a b) (a ≡ b)
key_eq_decides a b = bytes_decides a b

pub range_eq_decides : (a b : KeyRange) → Decides (range_eq a b) (a ≡ b)
range_eq_decides a b =
    let parts = Decides-and (pointwise nat_eq a.begin b.begin) (pointwise nat_eq a.end b.end)
    (bytes_decides a.begin b.begin) (bytes_decides a.end b.end) in (
      λ equal. let same = parts.0 equal in λ i. record { begin = same.0 i; end = same.1 i },
      λ same. parts.1 (ap (λ (range : KeyRange). range.begin) same, ap (λ (range : KeyRange). range.end) same),
    )

-- `==` of two lists of items, where `==` of two items says the same
pub items_eq_decides : {T : Type 0} (E : T → T → Bool) → ((a b : T) → Decides (E a b) (a ≡ b)) → (a b : List T)
    → Decides (pointwise E a b) (a ≡ b)
items_eq_decides E decides a b = pointwise_decides decides a b

pub range_set_eq_decides : (a b : RangeSet) → Decides (range_set_eq a b) (a ≡ b)
range_set_eq_decides a b = pointwise_decides range_eq_decides a b

pub refusal_eq_decides : (a b : Refusal) → Decides (refusal_eq a b) (a ≡ b)
refusal_eq_decides a b = (search rules, search rules)
