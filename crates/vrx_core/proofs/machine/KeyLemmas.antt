-- The keys of a map from numbers.
use Rattle.std.proofs.Common.{◌≡◌, ℕ, true, arith, Equal, nat_cmp}
use Rattle.std.specs.Ordering.{eq_by_cmp}
use Rattle.std.proofs.lemmas.Grind.{common_steps}

-- keys that tie are equal
pub same_key : (n k : ℕ) → eq_by_cmp nat_cmp n k ≡ true → n ≡ k
same_key n k h = grind (arith, common_steps)

-- a key ties with itself
pub key_same : (n : ℕ) → eq_by_cmp nat_cmp n n ≡ true
key_same n = grind (arith, common_steps)

-- equal keys
pub equal_key : (n k : ℕ) → nat_cmp n k ≡ Equal → n ≡ k
equal_key n k h = grind (arith, common_steps)
