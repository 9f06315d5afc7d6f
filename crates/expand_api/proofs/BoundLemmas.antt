-- Maximum and minimum, the test of an interval, and what fits into one.
use Rattle.std.proofs.Common.{◌≡◌, Bool, true, false, cond, not, ◌&&◌, List, length, ℤ, ◌≤ℤ◌, ◌<ℤ◌, refl, sym, ap, ◌∙◌, arith}
use Rattle.std.proofs.lemmas.Int.{ints, clamps, by_lt_z}
use Rattle.std.specs.Int.{int_min, int_max}
use Rattle.std.specs.Int.RustNames.{int_lt, int_le}
use Rattle.expand_api.specs.Digits.Values.{signed}
use Rattle.expand_api.specs.Digits.Comparisons.{signed_less}
use Rattle.expand_api.specs.Digits.Bounds.{greater, smaller, within, TakesExtremes, TestsInterval, FitsInterval}
use Rattle.expand_api.proofs.ChoiceLemmas.{choice_at, choice_length, chooses}
use Rattle.expand_api.proofs.ComparisonLemmas.{below, not_below, signed_less_is}

-- the value of one of two lists
pub signed_cond : (c : Bool) (xs ys : List Bool) → signed (cond c xs ys) ≡ cond c (signed xs) (signed ys)
signed_cond true xs ys = refl
signed_cond false xs ys = refl

greater_value : (c : Bool) (u v : ℤ) → c ≡ int_lt u v → cond c v u ≡ int_max u v
greater_value true u v e = omega (arith, ints, clamps)
greater_value false u v e = omega (arith, ints, clamps)

pub greater_is : (xs ys : List Bool) → length xs ≡ length ys → signed (greater xs ys) ≡ int_max (signed xs) (signed ys)
greater_is xs ys l =
    ap signed (chooses (signed_less xs ys) ys xs (sym l))
    ∙ signed_cond (signed_less xs ys) ys xs
    ∙ greater_value (signed_less xs ys) (signed xs) (signed ys) (signed_less_is xs ys l)

pub smaller_is : (xs ys : List Bool) → length xs ≡ length ys → signed (smaller xs ys) ≡ int_min (signed xs) (signed ys)
smaller_is xs ys l =
    ap signed (choice_at (signed_less ys xs) (int_lt (signed ys) (signed xs)) ys xs (signed_less_is ys xs (sym l)) (sym l))
    ∙ signed_cond (int_lt (signed ys) (signed xs)) ys xs

pub takes_extremes : (xs ys : List Bool) → length xs ≡ length ys → TakesExtremes xs ys
takes_extremes xs ys l = record { as_many = (choice_length (signed_less xs ys) ys xs (sym l) ∙ sym l, choice_length (signed_less ys xs) ys xs (sym l) ∙ sym l); maximum = greater_is xs ys l; minimum = smaller_is xs ys l }

at_most_so : (u v : ℤ) → u ≤ℤ v → true ≡ int_le u v
at_most_so u v h = omega (arith, ints)

above_so : (u v : ℤ) → v <ℤ u → false ≡ int_le u v
above_so u v h = omega (arith, ints)

not_less : (u v : ℤ) → not (int_lt u v) ≡ int_le v u
not_less u v =
    by_lt_z u v
    (λ h. ap not (sym (below u v h)) ∙ above_so v u h)
    (λ h. ap not (sym (not_below u v h)) ∙ at_most_so v u h)

pub tests_interval : (lo hi xs : List Bool) → length lo ≡ length xs → length hi ≡ length xs → TestsInterval lo hi xs
tests_interval lo hi xs l m =
    let a = ap not (signed_less_is xs lo (sym l)) ∙ not_less (signed xs) (signed lo) in
    let b = ap not (signed_less_is hi xs m) ∙ not_less (signed hi) (signed xs) in
    λ i. a i && b i

pub fits_interval : (lo hi xs : List Bool) → length lo ≡ length xs → length hi ≡ length xs → FitsInterval lo hi xs
fits_interval lo hi xs l m =
    let c = int_le (signed lo) (signed xs) && int_le (signed xs) (signed hi) in
    record {
      as_many = choice_length (within lo hi xs) xs lo (sym l);
      value = ap signed (choice_at (within lo hi xs) c xs lo (tests_interval lo hi xs l m) (sym l)) ∙ signed_cond c xs lo;
    }
