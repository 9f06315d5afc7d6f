-- Numbers: how they are spelled, and what they are worth.
use Rattle.std.specs.Prelude.{ℕ, ◌+◌, ◌-◌, ◌*◌, ◌<◌, Bool, ◌&&◌, ◌||◌, ◌==◌, nat_le, nat_lt, if◌then◌else◌, IsTrue, List, length, drop, slice_index}
use Rattle.std.specs.List.{list_all, fold}

-- what a digit is worth; 16, which is no digit of any base, for another byte
abbrev pub worth : ℕ → ℕ
worth b =
    if nat_le 48 b && nat_le b 57 then b - 48
    else if nat_le 65 b && nat_le b 70 then b - 55
    else if nat_le 97 b && nat_le b 102 then b - 87
    else 16

-- a digit of a base
abbrev pub is_digit : ℕ → ℕ → Bool
is_digit base b = nat_lt (worth b) base

-- `0`, one of two letters, and a digit of a base behind them
abbrev pub begins_based : ℕ → ℕ → ℕ → List ℕ → Bool
begins_based capital small base bytes =
    slice_index bytes 0 == 48 && (slice_index bytes 1 == capital || slice_index bytes 1 == small)
    && is_digit base (slice_index bytes 2)

-- the base of a number that begins so: 16 with `0x` or `0X`, 2 with `0b` or `0B`, where a digit of it follows, else 10
abbrev pub base_of : List ℕ → ℕ
base_of bytes = if begins_based 88 120 16 bytes then 16 else if begins_based 66 98 2 bytes then 2 else 10

-- the number of bytes before the digits
abbrev pub prefix_of : ℕ → ℕ
prefix_of base = if base == 10 then 0 else 2

-- the digits of a number
abbrev pub digits_of : List ℕ → List ℕ
digits_of bytes = drop (prefix_of (base_of bytes)) bytes

-- one or more digits of the base that they begin with
abbrev pub IsNumber : List ℕ → Type 0
IsNumber bytes = (0 < length (digits_of bytes)) × IsTrue (list_all (is_digit (base_of bytes)) (digits_of bytes))

-- what digits of a base are worth, the first the most
abbrev pub digits_worth : ℕ → List ℕ → ℕ
digits_worth base digits = fold (λ n b. n * base + worth b) 0 digits

-- what a number is worth
abbrev pub number_worth : List ℕ → ℕ
number_worth bytes = digits_worth (base_of bytes) (digits_of bytes)
