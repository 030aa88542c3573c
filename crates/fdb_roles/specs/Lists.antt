-- What holds of each item of a list, with its number.
use Rattle.std.specs.Prelude.{◌≡◌, ℕ, List, Some, slice_get}

-- each item of the list, with its number, has the property
abbrev pub Each : {A : Type 0} → (ℕ → A → Type 0) → List A → Type 0
Each {A} P xs = (i : ℕ) (x : A) → slice_get xs i ≡ Some x → P i x
