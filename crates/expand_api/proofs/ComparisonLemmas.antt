-- Equality and order, by the digits and by the difference.
use Rattle.std.proofs.Common.{◌≡◌, ℕ, ◌^◌, ◌<◌, Bool, true, false, cond, not, ltb, leb, List, [], ◌∷◌, length, ℤ, pos, ◌-ℤ◌, ◌≤ℤ◌, ◌<ℤ◌, ◌⊎◌, inl, inr, ⊎_elim, refl, sym, ap, subst, ◌∙◌, arith}
use Rattle.std.proofs.lemmas.Int.{ints, by_lt_z}
use Rattle.std.proofs.lemmas.Bool.{lt-ltb, le-ltb, le-leb, lt-leb, cases_lt}
use Rattle.std.specs.Int.RustNames.{int_lt}
use Rattle.expand_api.specs.Digits.Values.{natural, sign, signed, extended}
use Rattle.expand_api.specs.Digits.Sums.{exclusive_or, difference, no_borrow}
use Rattle.expand_api.specs.Digits.Comparisons.{equal, highest_difference, less, signed_less, less_by_difference, TestsEquality, ComparesNaturals, ComparesSigned}
use Rattle.expand_api.proofs.ValueLemmas.{natural_below, IsNotNegative, IsNegative, signs, sign_tells}
use Rattle.expand_api.proofs.SpellingLemmas.{natural_unique, signed_unique}
use Rattle.expand_api.proofs.DifferenceLemmas.{borrows, needs_no_borrow, difference_one_more}

-- ---- equality
pub equal_same : (xs : List Bool) → equal xs xs ≡ true
equal_same [] = refl
equal_same (true ∷ xs) = equal_same xs
equal_same (false ∷ xs) = equal_same xs

pub same_equal : (xs ys : List Bool) → equal xs ys ≡ true → xs ≡ ys
same_equal [] [] e = refl
same_equal [] (y ∷ ys) e = absurd (cc)
same_equal (x ∷ xs) [] e = absurd (cc)
same_equal (true ∷ xs) (true ∷ ys) e = ap (λ zs. true ∷ zs) (same_equal xs ys e)
same_equal (true ∷ xs) (false ∷ ys) e = absurd (cc)
same_equal (false ∷ xs) (true ∷ ys) e = absurd (cc)
same_equal (false ∷ xs) (false ∷ ys) e = ap (λ zs. false ∷ zs) (same_equal xs ys e)

pub equal_from : (xs ys : List Bool) → xs ≡ ys → equal xs ys ≡ true
equal_from xs ys e = subst (λ zs. equal xs zs ≡ true) e (equal_same xs)

pub tests_equality : (xs ys : List Bool) → length xs ≡ length ys → TestsEquality xs ys
tests_equality xs ys l = record {
  lists = (same_equal xs ys, equal_from xs ys);
  without_sign = (λ e. ap natural (same_equal xs ys e), λ e. equal_from xs ys (natural_unique xs ys l e));
  with_sign = (λ e. ap signed (same_equal xs ys e), λ e. equal_from xs ys (signed_unique xs ys l e));
}

-- ---- order without a sign
-- what lower digits decide goes on to hold where higher ones are the same
pub highest_decides : (t : Bool) (xs ys : List Bool) → length xs ≡ length ys → ((natural xs ≡ natural ys) × (highest_difference t xs ys ≡ t)) ⊎ (((natural xs < natural ys) × (highest_difference t xs ys ≡ true)) ⊎ ((natural ys < natural xs) × (highest_difference t xs ys ≡ false)))
highest_decides t [] [] l = inl (refl, refl)
highest_decides t [] (y ∷ ys) l = absurd (cc)
highest_decides t (x ∷ xs) [] l = absurd (cc)
highest_decides t (true ∷ xs) (true ∷ ys) l = ⊎_elim (λ c. inl (omega (arith, c.0), c.1)) (λ o. inr (⊎_elim (λ c. inl (omega (arith, c.0), c.1)) (λ c. inr (omega (arith, c.0), c.1)) o)) (highest_decides t xs ys (omega arith))
highest_decides t (false ∷ xs) (false ∷ ys) l = ⊎_elim (λ c. inl (omega (arith, c.0), c.1)) (λ o. inr (⊎_elim (λ c. inl (omega (arith, c.0), c.1)) (λ c. inr (omega (arith, c.0), c.1)) o)) (highest_decides t xs ys (omega arith))
highest_decides t (true ∷ xs) (false ∷ ys) l = ⊎_elim (λ c. inr (inr (omega (arith, c.0), c.1))) (λ o. inr (⊎_elim (λ c. inl (omega (arith, c.0), c.1)) (λ c. inr (omega (arith, c.0), c.1)) o)) (highest_decides false xs ys (omega arith))
highest_decides t (false ∷ xs) (true ∷ ys) l = ⊎_elim (λ c. inr (inl (omega (arith, c.0), c.1))) (λ o. inr (⊎_elim (λ c. inl (omega (arith, c.0), c.1)) (λ c. inr (omega (arith, c.0), c.1)) o)) (highest_decides true xs ys (omega arith))

pub less_is : (xs ys : List Bool) → length xs ≡ length ys → less xs ys ≡ ltb (natural xs) (natural ys)
less_is xs ys l =
    ⊎_elim (λ c. c.1 ∙ sym (le-ltb (natural xs) (natural ys) (omega (arith, c.0))))
    (λ o. ⊎_elim (λ c. c.1 ∙ sym (lt-ltb (natural xs) (natural ys) c.0)) (λ c. c.1 ∙ sym (le-ltb (natural xs) (natural ys) (omega (arith, c.0)))) o)
    (highest_decides false xs ys l)

pub less_or_equal_is : (xs ys : List Bool) → length xs ≡ length ys → highest_difference true xs ys ≡ leb (natural xs) (natural ys)
less_or_equal_is xs ys l =
    ⊎_elim (λ c. c.1 ∙ sym (le-leb (natural xs) (natural ys) (omega (arith, c.0))))
    (λ o. ⊎_elim (λ c. c.1 ∙ sym (le-leb (natural xs) (natural ys) (omega (arith, c.0)))) (λ c. c.1 ∙ sym (lt-leb (natural xs) (natural ys) c.0)) o)
    (highest_decides true xs ys l)

pub borrow_is : (xs ys : List Bool) → length xs ≡ length ys → not (no_borrow xs ys) ≡ ltb (natural xs) (natural ys)
borrow_is xs ys l =
    ⊎_elim
    (λ h. ap not (borrows xs ys l h) ∙ sym (lt-ltb (natural xs) (natural ys) h))
    (λ h. ap not (needs_no_borrow xs ys l h).0 ∙ sym (le-ltb (natural xs) (natural ys) h))
    (cases_lt (natural xs) (natural ys))

pub compares_naturals : (xs ys : List Bool) → length xs ≡ length ys → ComparesNaturals xs ys
compares_naturals xs ys l = record { by_digits = less_is xs ys l; or_equal = less_or_equal_is xs ys l; by_difference = borrow_is xs ys l; one_answer = borrow_is xs ys l ∙ sym (less_is xs ys l) }

-- ---- order in two's complement
pub below : (u v : ℤ) → u <ℤ v → true ≡ int_lt u v
below u v h = omega (arith, ints)

pub not_below : (u v : ℤ) → v ≤ℤ u → false ≡ int_lt u v
not_below u v h = omega (arith, ints)

both_positive : (x y : ℕ) (u v : ℤ) → u ≡ pos x → v ≡ pos y → ltb x y ≡ int_lt u v
both_positive x y u v e f = λ i. int_lt (sym e i) (sym f i)

first_positive : (x y p : ℕ) (u v : ℤ) → y < p → u ≡ pos x → v ≡ pos y -ℤ pos p → false ≡ int_lt u v
first_positive x y p u v h e f = not_below u v (omega (arith, ints))

second_positive : (x y p : ℕ) (u v : ℤ) → x < p → u ≡ pos x -ℤ pos p → v ≡ pos y → true ≡ int_lt u v
second_positive x y p u v h e f = below u v (omega (arith, ints))

none_positive : (x y p : ℕ) (u v : ℤ) → u ≡ pos x -ℤ pos p → v ≡ pos y -ℤ pos p → ltb x y ≡ int_lt u v
none_positive x y p u v e f =
    ⊎_elim
    (λ h. lt-ltb x y h ∙ below u v (omega (arith, ints)))
    (λ h. le-ltb x y h ∙ not_below u v (omega (arith, ints)))
    (cases_lt x y)

signed_less_at : (xs ys : List Bool) (b c : Bool) → length xs ≡ length ys → sign xs ≡ b → sign ys ≡ c → signed_less xs ys ≡ cond (exclusive_or b c) b (ltb (natural xs) (natural ys))
signed_less_at xs ys b c l e f = let g = less_is xs ys l in λ i. cond (exclusive_or (e i) (f i)) (e i) (g i)

pub signed_less_is : (xs ys : List Bool) → length xs ≡ length ys → signed_less xs ys ≡ int_lt (signed xs) (signed ys)
signed_less_is xs ys l =
    let p = 2 ^ length xs in
    let q : 2 ^ length ys ≡ p = ap (λ n. 2 ^ n) (sym l) in
    let u = signed xs in
    let v = signed ys in
    let m = natural xs in
    let n = natural ys in
    ⊎_elim
    (λ (a : IsNotNegative xs). ⊎_elim
    (λ (b : IsNotNegative ys). signed_less_at xs ys false false l a.sign_digit b.sign_digit ∙ both_positive m n u v a.value b.value)
    (λ (b : IsNegative ys). signed_less_at xs ys false true l a.sign_digit b.sign_digit ∙ first_positive m n (2 ^ length ys) u v (natural_below ys) a.value b.value)
    (signs ys))
    (λ (a : IsNegative xs). ⊎_elim
    (λ (b : IsNotNegative ys). signed_less_at xs ys true false l a.sign_digit b.sign_digit ∙ second_positive m n p u v (natural_below xs) a.value b.value)
    (λ (b : IsNegative ys). signed_less_at xs ys true true l a.sign_digit b.sign_digit ∙ none_positive m n p u v a.value (subst (λ r. v ≡ pos n -ℤ pos r) q b.value))
    (signs ys))
    (signs xs)

below_zero : (u v : ℤ) → int_lt (u -ℤ v) (pos 0) ≡ int_lt u v
below_zero u v =
    by_lt_z u v
    (λ h. sym (below (u -ℤ v) (pos 0) (omega (arith, ints))) ∙ below u v h)
    (λ h. sym (not_below (u -ℤ v) (pos 0) (omega (arith, ints))) ∙ not_below u v h)

pub less_by_difference_is : (xs ys : List Bool) → length xs ≡ length ys → less_by_difference xs ys ≡ int_lt (signed xs) (signed ys)
less_by_difference_is xs ys l =
    sign_tells (difference (extended 1 xs) (extended 1 ys))
    ∙ ap (λ z. int_lt z (pos 0)) (difference_one_more xs ys l)
    ∙ below_zero (signed xs) (signed ys)

pub compares_signed : (xs ys : List Bool) → length xs ≡ length ys → ComparesSigned xs ys
compares_signed xs ys l = record { by_digits = signed_less_is xs ys l; by_difference = less_by_difference_is xs ys l; one_answer = less_by_difference_is xs ys l ∙ sym (signed_less_is xs ys l) }
