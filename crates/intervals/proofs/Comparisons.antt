-- Tests of order, from the order.
use Rattle.std.proofs.Common.{◌≡◌, ℤ, ◌≤ℤ◌, ◌<ℤ◌, sym, true, false, arith}
use Rattle.std.proofs.lemmas.Int.{ints}
use Rattle.std.specs.Int.RustNames.{int_lt, int_le}

below_so : (a b : ℤ) → a <ℤ b → true ≡ int_lt a b
below_so a b h = omega (arith, ints)

at_most_so : (a b : ℤ) → a ≤ℤ b → true ≡ int_le a b
at_most_so a b h = omega (arith, ints)

above_so : (a b : ℤ) → b <ℤ a → false ≡ int_le a b
above_so a b h = omega (arith, ints)

pub is_lt : (a b : ℤ) → a <ℤ b → int_lt a b ≡ true
is_lt a b h = sym (below_so a b h)

pub is_le : (a b : ℤ) → a ≤ℤ b → int_le a b ≡ true
is_le a b h = sym (at_most_so a b h)

pub is_not_le : (a b : ℤ) → b <ℤ a → int_le a b ≡ false
is_not_le a b h = sym (above_so a b h)
