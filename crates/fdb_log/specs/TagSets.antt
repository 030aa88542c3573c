-- Sets of tags, each as the list of its tags, rising.
use Rattle.std.specs.Prelude.{ℕ, Bool, ◌==◌, List, filter}
use Rattle.std.specs.Int.{bit_at}
use Rattle.std.specs.List.{list_any, range_with_len}
use Rattle.fdb_txn.specs.Limits.{tag_limit}

-- all tags that there may be, rising; it is unfolded only where a proof names it, since it has 64 items
unfoldable pub all_tags : List ℕ
all_tags = range_with_len 0 tag_limit

-- the tag is one of these
abbrev pub is_among : List ℕ → ℕ → Bool
is_among tags tag = list_any (λ (other : ℕ). other == tag) tags

-- the tags that pass the test, each once, rising
abbrev pub tags_that : (ℕ → Bool) → List ℕ
tags_that test = filter test all_tags

-- the tags whose bit of the number is 1
abbrev pub tags_of_bits : ℕ → List ℕ
tags_of_bits bits = tags_that (λ (tag : ℕ). bit_at bits tag == 1)
