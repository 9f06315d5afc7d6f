-- Lists of numbers that lie between lists of ends: one behind the other, and parts of them.
use Rattle.std.proofs.Common.{◌≡◌, ℕ, zero, suc, ◌+◌, ◌*◌, ◌<◌, ◌≤◌, ℤ, pos, negsuc, List, [], ◌∷◌, ◌++◌, length, take, drop, refl, ap, subst, ◌∙◌, arith, drop-drop}
use Rattle.std.specs.List.{flat_map, range_with_len}
use Rattle.intervals.specs.Ends.{Ends}
use Rattle.hll_meaning.specs.Kinds.{Value, AreIn, repeated, place_in, cells_from}

-- one list behind the other
pub AreIn_append : (es fs : List Ends) (v w : Value) → AreIn es v → AreIn fs w → AreIn (es ++ fs) (v ++ w)
AreIn_append [] fs [] w h k = k
AreIn_append [] fs (x ∷ v) w h k = absurd h
AreIn_append (e ∷ es) fs [] w h k = absurd h
AreIn_append (e ∷ es) fs (x ∷ v) w h k = (h.0, AreIn_append es fs v w h.1 k)

-- the front of a list
pub AreIn_front : (es fs : List Ends) (v : Value) → AreIn (es ++ fs) v → AreIn es (take (length es) v)
AreIn_front [] fs v h = tt
AreIn_front (e ∷ es) fs [] h = absurd h
AreIn_front (e ∷ es) fs (x ∷ v) h = (h.0, AreIn_front es fs v h.1)

-- what stands behind it
pub AreIn_back : (es fs : List Ends) (v : Value) → AreIn (es ++ fs) v → AreIn fs (drop (length es) v)
AreIn_back [] fs v h = h
AreIn_back (e ∷ es) fs [] h = absurd h
AreIn_back (e ∷ es) fs (x ∷ v) h = AreIn_back es fs v h.1

-- so many times the same list
pub copies : {A : Type 0} → ℕ → List A → List A
copies zero xs = []
copies (suc n) xs = xs ++ copies n xs

copies_from : {A : Type 0} (xs : List A) (a n : ℕ) → flat_map (λ k. xs) (range_with_len a n) ≡ copies n xs
unfolding copies
copies_from xs a zero = refl
copies_from xs a (suc n) = ap (λ ys. xs ++ ys) (copies_from xs (a + 1) n)

pub repeated_copies : {A : Type 0} (n : ℕ) (xs : List A) → repeated n xs ≡ copies n xs
repeated_copies n xs = copies_from xs 0 n

pub copies_more : {A : Type 0} (n : ℕ) (xs : List A) → copies (suc n) xs ≡ xs ++ copies n xs
unfolding copies
copies_more n xs = refl

pub copies_none : {A : Type 0} (xs : List A) → copies 0 xs ≡ []
unfolding copies
copies_none xs = refl

-- one of the copies
AreIn_copy : (es : List Ends) (n p : ℕ) (v : Value) → p < n → AreIn (copies n es) v → AreIn es (take (length es) (drop (p * length es) v))
unfolding copies
AreIn_copy es zero p v h k = absurd (omega arith)
AreIn_copy es (suc n) zero v h k = subst (λ i. AreIn es (take (length es) (drop i v))) none (AreIn_front es (copies n es) v k)
  where
    none : 0 ≡ zero * length es
    none = omega arith
AreIn_copy es (suc n) (suc p) v h k = subst (λ w. AreIn es (take (length es) w)) (drop-drop (p * length es) (length es) v ∙ ap (λ i. drop i v) more) (AreIn_copy es n p (drop (length es) v) (omega arith) (AreIn_back es (copies n es) v k))
  where
    more : length es + p * length es ≡ suc p * length es
    more = omega arith

-- the place of an index is one of the places, where there is one
place_below : (n : ℕ) (i : ℤ) → 1 ≤ n → place_in n i < n
place_below n (pos i) h = grind arith
place_below n (negsuc i) h = h

-- an element of a list of so many
pub AreIn_at : (es : List Ends) (n : ℕ) (i : ℤ) (v : Value) → 1 ≤ n → AreIn (repeated n es) v → AreIn es (cells_from (place_in n i * length es) (length es) v)
AreIn_at es n i v some h = AreIn_copy es n (place_in n i) v (place_below n i some) (subst (λ fs. AreIn fs v) (repeated_copies n es) h)
