-- The first bytes of a text as one number.
use Rattle.std.specs.Prelude.{◌≡◌, ◌<◌, ◌+◌, ◌*◌, ◌^◌, ℕ, zero, suc, List, [], ◌∷◌}
use Rattle.std.specs.List.{AllByRecursion}

-- the number that so many first bytes make, the first one being worth most; where the text is shorter, zeros follow it
abbrev pub head_by : ℕ → List ℕ → ℕ
head_by zero text = 0
head_by (suc n) [] = 0
head_by (suc n) (byte ∷ text) = byte * 256 ^ n + head_by n text

-- each of them is a byte
abbrev pub AreBytes : List ℕ → Type 0
AreBytes text = AllByRecursion (λ byte. byte < 256) text

-- the head of a text is that of its first eight bytes
pub record IsHeaded (head : ℕ) (text : List ℕ) : Type 0 where
  pub is : head ≡ head_by 8 text
  pub bytes : AreBytes text
