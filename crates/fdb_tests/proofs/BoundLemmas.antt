-- Bounds of chosen numbers.
use Rattle.std.proofs.Common.{ℕ, ◌≤◌, Bool, true, false, if◌then◌else◌}

-- one of two numbers is within what bounds both
pub either-within : (t : Bool) (a b most : ℕ) → a ≤ most → b ≤ most → (if t then a else b) ≤ most
either-within true a b most of_a of_b = of_a
either-within false a b most of_a of_b = of_b
