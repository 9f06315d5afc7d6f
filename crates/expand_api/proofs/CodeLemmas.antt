-- Steps of the loops over digits.
use Rattle.std.proofs.Common.{◌≡◌, ℕ, zero, suc, ◌+◌, ◌*◌, ◌-◌, ◌/◌, ◌%◌, ◌^◌, ◌<◌, ◌≤◌, Bool, true, false, ◌==◌, List, [], ◌∷◌, ◌++◌, length, take, get_or, sym, ap, ◌∙◌, arith, append_assoc}
use Rattle.std.proofs.Math.Nat.{pow-le-pow_right}
use Rattle.std.proofs.lemmas.List.{length-take}
use Rattle.std.proofs.lemmas.Nat.{one_shl}
use Rattle.expand_api.specs.Digits.Values.{digit, natural, digits}
use Rattle.expand_api.proofs.ValueLemmas.{digit_twice, natural_below}

-- one digit more that is read
pub natural_take : (xs : List Bool) (i : ℕ) (d : Bool) → i < length xs → natural (take (suc i) xs) ≡ natural (take i xs) + digit (get_or xs i d) * 2 ^ i
natural_take [] i d h = absurd (omega arith)
natural_take (true ∷ xs) zero d h = omega arith
natural_take (false ∷ xs) zero d h = omega arith
natural_take (x ∷ xs) (suc i) d h = omega (arith, natural_take xs i d (omega arith), digit_twice (get_or xs i d) i)

-- a number of 64 digits at most
pub natural_fits : (xs : List Bool) → length xs ≤ 64 → natural xs < 2 ^ 64
natural_fits xs h = let p : 2 ^ length xs ≤ 2 ^ 64 = pow-le-pow_right (omega arith) h in omega (arith, natural_below xs)

-- one digit more that is written
digits_from : (n v k : ℕ) → n ≡ suc k → digits n v ≡ (v % 2 == 1) ∷ digits k (v / 2)
digits_from n v k e = ap (λ m. digits m v) e

pub digits_more : (xs : List Bool) (n i v : ℕ) → i < n → xs ++ digits (n - i) v ≡ (xs ++ (v % 2 == 1) ∷ []) ++ digits (n - (i + 1)) (v / 2)
digits_more xs n i v h =
    ap (λ ys. xs ++ ys) (digits_from (n - i) v (n - (i + 1)) (omega arith))
    ∙ sym (append_assoc xs ((v % 2 == 1) ∷ []) (digits (n - (i + 1)) (v / 2)))

natural_next : (xs : List Bool) (i number : ℕ) (s : Bool) → number ≡ natural (take i xs) → i < length xs → get_or xs i false ≡ s → number + digit s * 2 ^ i ≡ natural (take (i + 1) xs)
natural_next xs i number s e h d =
    let t = natural_take xs i false h in
    let k : i + 1 ≡ suc i = omega arith in
    let m : natural (take (i + 1) xs) ≡ natural (take (suc i) xs) = ap (λ j. natural (take j xs)) k in
    let w : digit (get_or xs i false) * 2 ^ i ≡ digit s * 2 ^ i = ap (λ b. digit b * 2 ^ i) d in
    omega arith

-- a digit that is true
pub read_true : (xs : List Bool) (i number : ℕ) → length xs ≤ 64 → number ≡ natural (take i xs) → i < length xs → get_or xs i false ≡ true → number + 1 * 2 ^ i % 2 ^ 64 ≡ natural (take (i + 1) xs)
read_true xs i number l e h d = omega (arith, natural_next xs i number true e h d, one_shl i 64 (omega arith))

-- a digit that is false
pub read_false : (xs : List Bool) (i number : ℕ) → number ≡ natural (take i xs) → i < length xs → get_or xs i false ≡ false → number ≡ natural (take (i + 1) xs)
read_false xs i number e h d = omega (arith, natural_next xs i number false e h d)

pub read_fits : (xs : List Bool) (i : ℕ) → length xs ≤ 64 → natural (take i xs) < 2 ^ 64
read_fits xs i l = natural_fits (take i xs) (omega (arith, length-take i xs))
