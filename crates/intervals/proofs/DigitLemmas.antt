-- How many binary digits a number has.
use Rattle.std.proofs.Common.{◌≡◌, ℕ, suc, ◌+◌, ◌*◌, ◌-◌, ◌^◌, ◌<◌, ◌≤◌, subst, arith}
use Rattle.std.proofs.Math.Nat.{pow-suc, pow-le-pow_right}
use Rattle.std.proofs.lemmas.Nat.{leading_length}
use Rattle.std.specs.Int.Count.{count_leading_zeros}
use Rattle.intervals.specs.Numbers.{HasDigits, IsLeast}

-- what has fewer digits is below the power
fewer : (n d m : ℕ) → 2 ^ d ≤ 2 * n + 1 → n < 2 ^ m → ¬ (suc m ≤ d)
fewer n d m h k l =
    let p : 2 ^ suc m ≤ 2 ^ d = pow-le-pow_right (omega arith) l in
    omega (arith, pow-suc 2 m)

least_from : (n d m : ℕ) → 2 ^ d ≤ 2 * n + 1 → n < 2 ^ m → d ≤ m
least_from n d m h k = let more = fewer n d m h k in omega arith

least_digits : (n d z : ℕ) → z + d ≡ 128 → n < 2 ^ d → 2 ^ d ≤ 2 * n + 1 → IsLeast (HasDigits n) (128 - z)
least_digits n d z e h k =
    let same : d ≡ 128 - z = omega arith in
    subst (IsLeast (HasDigits n)) same (record { holds = h; least = λ m. least_from n d m k })

pub digits_left : (n : ℕ) → n < 2 ^ 128 → IsLeast (HasDigits n) (128 - count_leading_zeros 128 n)
digits_left n h =
    let l = leading_length 128 n h in
    least_digits n l.0 (count_leading_zeros 128 n) l.1 l.2 l.3
