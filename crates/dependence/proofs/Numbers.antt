-- The numbers at places of values: of values behind one another, and of parts of values.
use Rattle.std.proofs.Common.{◌≡◌, ℕ, zero, suc, ◌+◌, ◌-◌, ◌*◌, ◌<◌, ◌≤◌, ℤ, pos, true, List, [], ◌∷◌, ◌++◌, length, take, drop, refl, sym, ap, subst, ◌∙◌, arith}
use Rattle.std.specs.Prelude.{slice_index_or}
use Rattle.intervals.specs.Ends.{Ends}
use Rattle.hll_meaning.specs.Fitting.{is_scalar}
use Rattle.hll_meaning.specs.Kinds.{Kind, truth, whole, element, array, struct, Value, AreIn, cells, ranges, cells_from, truths}
use Rattle.dependence.proofs.Picks.{array_cells}

-- the number at a place of a value, and 0 behind its end
abbrev pub number_of : Value → ℕ → ℤ
number_of v place = slice_index_or v place (pos 0)

one_number : (e : Ends) (v : Value) → AreIn (e ∷ []) v → v ≡ number_of v 0 ∷ []
one_number e [] h = absurd h
one_number e (x ∷ []) h = refl
one_number e (x ∷ y ∷ v) h = absurd h.1

-- ---- one behind the other

pub in_front_part : (v w : Value) (i : ℕ) → i < length v → number_of (v ++ w) i ≡ number_of v i
in_front_part [] w i h = absurd (omega arith)
in_front_part (x ∷ v) w zero h = refl
in_front_part (x ∷ v) w (suc i) h = in_front_part v w i (omega arith)

pub in_back_part : (v w : Value) (i j : ℕ) → j ≡ length v + i → number_of (v ++ w) j ≡ number_of w i
in_back_part [] w i j e = ap (number_of w) same
  where
    same : j ≡ i
    same = omega arith
in_back_part (x ∷ v) w i zero e = absurd (omega arith)
in_back_part (x ∷ v) w i (suc j) e = in_back_part v w i j (omega arith)

-- where the front has so many numbers
pub in_front_of : (v w : Value) (n place : ℕ) → length v ≡ n → place < n → number_of (v ++ w) place ≡ number_of v place
in_front_of v w n place many below = in_front_part v w place (subst (λ (i : ℕ). place < i) (sym many) below)

pub behind_front : (v w : Value) (n place : ℕ) → length v ≡ n → n ≤ place → number_of (v ++ w) place ≡ number_of w (place - n)
behind_front v w n place many above = in_back_part v w (place - n) place (omega (arith, many, above))

-- a scalar is its number
pub scalar_value : (k : Kind) (v : Value) → is_scalar k ≡ true → AreIn (ranges k) v → v ≡ number_of v 0 ∷ []
scalar_value truth v s h = one_number truths v h
scalar_value (whole e) v s h = one_number e v h
scalar_value (element root e) v s h = one_number e v h
scalar_value (array n k) v s h = absurd (cc s)
scalar_value (struct own fields) v s h = absurd (cc s)

pub after_drop : (n : ℕ) (v : Value) (i j : ℕ) → j ≡ n + i → number_of (drop n v) i ≡ number_of v j
after_drop zero v i j e = ap (number_of v) same
  where
    same : i ≡ j
    same = omega arith
after_drop (suc n) [] i j e = refl
after_drop (suc n) (x ∷ v) i zero e = absurd (omega arith)
after_drop (suc n) (x ∷ v) i (suc j) e = after_drop n v i j (omega arith)

pub within_take : (n : ℕ) (v : Value) (i : ℕ) → i < n → number_of (take n v) i ≡ number_of v i
within_take zero v i h = absurd (omega arith)
within_take (suc n) [] i h = refl
within_take (suc n) (x ∷ v) zero h = refl
within_take (suc n) (x ∷ v) (suc i) h = within_take n v i (omega arith)

-- in a part of a value
pub in_part : (start count : ℕ) (v : Value) (i j : ℕ) → i < count → j ≡ start + i → number_of (cells_from start count v) i ≡ number_of v j
in_part start count v i j h e = within_take count (drop start v) i h ∙ after_drop start v i j e

-- a value has as many numbers as there are ends
pub as_many : (es : List Ends) (v : Value) → AreIn es v → length v ≡ length es
as_many [] [] h = refl
as_many [] (x ∷ v) h = absurd h
as_many (e ∷ es) [] h = absurd h
as_many (e ∷ es) (x ∷ v) h = ap suc (as_many es v h.1)

-- an element of an array ends within it
pub element_within : (n p : ℕ) (k : Kind) (rest : ℕ) → p < n → rest ≤ cells k → p * cells k + rest ≤ cells (array n k)
element_within n p k rest below h = subst (λ (c : ℕ). p * cells k + rest ≤ c) (sym (array_cells n k)) (bound n p (cells k) below h)
  where
    bound : (n p c : ℕ) → p < n → rest ≤ c → p * c + rest ≤ n * c
    bound zero p c below h = absurd (omega arith)
    bound (suc n) zero c below h = omega arith
    bound (suc n) (suc p) c below h = let further : p * c + rest ≤ n * c = bound n p c (omega arith) h in omega arith
