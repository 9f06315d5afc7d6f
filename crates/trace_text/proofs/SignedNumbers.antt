-- Signed numbers of 128 digits as they are passed and compared.
use Rattle.std.proofs.Common.{◌≡◌, ℕ, suc, ◌-◌, ◌^◌, ◌<◌, ℤ, pos, negsuc, ◌≤ℤ◌, ◌-ℤ◌, true, List, [], ◌∷◌, sym, ap, subst, ◌∙◌, arith}
use Rattle.std.specs.Prelude.{unsigned_abs}
use Rattle.std.specs.Int.{w128, cast_signed, cast_unsigned}
use Rattle.std.specs.Int.RustNames.{FitsSigned}
use Rattle.std.proofs.lemmas.Int.{ints}
use Rattle.intervals.specs.declared.interval.Interval.{Interval}
use Rattle.intervals.proofs.AnswerLemmas.{back, bounded}
use Rattle.hll_meaning.specs.Kinds.{is_in, truths, IsOf}
use Rattle.hll_meaning.specs.Types.{ends}
use Rattle.hll_meaning.proofs.Numbers.{holds_in}
use Rattle.cell_columns.specs.declared.columns.Values.{Values}
use Rattle.cell_columns.specs.declared.columns.Values.TheVariants as values
use Rattle.cell_columns.specs.Columns.{kind_of_values}
use Rattle.trace_text.specs.Parts.{IsShort}

-- a number as it is passed
pub passed : (x : ℤ) → FitsSigned w128 x → cast_signed w128 (cast_unsigned w128 x) ≡ x
passed x fits = back x fits

-- a number that isn't below 0 is its size
pub size_of : (x y : ℤ) (n : ℕ) → y ≡ x → pos 0 ≤ℤ y → n ≡ unsigned_abs y → x ≡ pos n
size_of x (pos k) n same low is = sym same ∙ ap pos (sym is)
size_of x (negsuc k) n same low is = absurd (omega (arith, ints, low))

-- the numbers of an interval are short
pub short_in : (i : Interval) (x : ℤ) → is_in (ends i) x ≡ true → IsShort x
short_in i x h = by x (holds_in (ends i) x h).above (holds_in (ends i) x h).below
  where
    by : (x : ℤ) → i.lo ≤ℤ x → x ≤ℤ i.hi → unsigned_abs x < 2 ^ 64
    by (pos n) low high = let b = bounded i in omega (arith, ints, b.greatest, high)
    by (negsuc n) low high = let b = bounded i in omega (arith, ints, b.least, low)

-- and none is above the greatest of 64 digits
pub below_greatest : (v : Values) (root : List ℕ) (i : Interval) (x : ℤ) → v ≡ values.Elements root i → IsOf (kind_of_values v) (x ∷ []) → x ≤ℤ pos (2 ^ 64 - 1)
below_greatest v root i x is h =
    let own = subst (λ (w : Values). IsOf (kind_of_values w) (x ∷ [])) is h in
    let within = holds_in (ends i) x own.0 in
    let b = bounded i in
    omega (arith, ints, b.greatest, within.below)

-- a short number as it is passed
short_fits : (x : ℤ) → IsShort x → FitsSigned w128 x
short_fits (pos n) short = record { sfits = omega (arith, short) }
short_fits (negsuc n) short = record { sfits = omega (arith, short) }

pub short_passed : (x : ℤ) → IsShort x → cast_signed w128 (cast_unsigned w128 x) ≡ x
short_passed x short = passed x (short_fits x short)

pub same_passed : (v x : ℤ) → v ≡ x → IsShort x → cast_signed w128 (cast_unsigned w128 v) ≡ x
same_passed v x same short = ap (λ (y : ℤ). cast_signed w128 (cast_unsigned w128 y)) same ∙ short_passed x short

-- a number behind a sign
pub negated : (z : ℤ) (k : ℕ) → z ≡ pos (suc k) → FitsSigned w128 z → cast_signed w128 (cast_unsigned w128 (pos 0 -ℤ cast_signed w128 (cast_unsigned w128 z))) ≡ negsuc k
negated z k same fits = omega (arith, ints, same)

-- the values of a cell are short
pub values_short : (v : Values) (x : ℤ) → IsOf (kind_of_values v) (x ∷ []) → IsShort x
values_short values.Truth x h = small x (holds_in truths x h.0).above (holds_in truths x h.0).below
  where
    small : (x : ℤ) → pos 0 ≤ℤ x → x ≤ℤ pos 1 → unsigned_abs x < 2 ^ 64
    small (pos n) low high = omega (arith, ints, high)
    small (negsuc n) low high = absurd (omega (arith, ints, low))
values_short (values.Whole i) x h = short_in i x h.0
values_short (values.Elements root i) x h = short_in i x h.0
