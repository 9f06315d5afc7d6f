-- The places of literals, and how many literals there are.
use Rattle.std.proofs.Common.{◌≡◌, ◌<◌, ◌≤◌, ◌+◌, ◌*◌, ℕ, Bool, true, false, List, refl, sym, subst, ◌∙◌, length, get_or, arith}
use Rattle.std.specs.Prelude.{ℤ, pos, ◌≢◌, All, AllPairs, Contains, map, eqb}
use Rattle.std.proofs.lemmas.Bool.Decides.{Decides-eqb}
use Rattle.std.proofs.lemmas.Int.{ints}
use Rattle.std.proofs.lemmas.List.{length-map, get_or-map}
use Rattle.std.proofs.lemmas.Map.Keys.{IsDistinct-from_apart}
use Rattle.std.proofs.lemmas.Map.Steps.{length-le_from_distinct_below}
use Rattle.std.proofs.lemmas.Map.Views.{Contains-from_any}
use Rattle.rup_checker.specs.Formulas.{IsLiteral}
use Rattle.rup_checker.specs.Marks.{place_of}

-- a place is below twice the number of variables and 1
pub place_within : (n : ℕ) (l : ℤ) → IsLiteral n l → place_of n l < 2 * n + 1
place_within n l known = omega (arith, ints, known.some, known.known)

-- no two literals have the same place
pub place_apart : (n : ℕ) (a b : ℤ) → IsLiteral n a → IsLiteral n b → place_of n a ≡ place_of n b → a ≡ b
place_apart n a b first second same = omega (arith, ints, first.some, first.known, second.some, second.known, same)

-- literals that all differ are at most as many as there are places
pub literals_few : (n : ℕ) (ls : List ℤ) → All (IsLiteral n) ls → AllPairs (λ a b. a ≢ b) ls → length ls ≤ 2 * n + 1
literals_few n ls known apart = subst (λ (k : ℕ). k ≤ 2 * n + 1) (length-map ls (place_of n))
    (length-le_from_distinct_below (map (place_of n) ls) (2 * n + 1) (IsDistinct-from_apart eqb (map (place_of n) ls) differ) (λ q there. low q (Contains-from_any (λ x y. (Decides-eqb x y).0) q (map (place_of n) ls) there)))
  where
    at : (i : ℕ) (d : ℕ) → i < length ls → get_or (map (place_of n) ls) i d ≡ place_of n (get_or ls i (pos 0))
    at i d within = get_or-map (place_of n) ls i (pos 0) d within

    differ : (i j : ℕ) (d : ℕ) → i < j → j < length (map (place_of n) ls) → eqb (get_or (map (place_of n) ls) i d) (get_or (map (place_of n) ls) j d) ≡ false
    differ i j d before within =
        let inside : j < length ls = subst (λ (k : ℕ). j < k) (length-map ls (place_of n)) within in
        let first : i < length ls = omega arith in
        not_true _ (λ same. apart i j (pos 0) before inside (place_apart n (get_or ls i (pos 0)) (get_or ls j (pos 0)) (known i (pos 0) first) (known j (pos 0) inside)
        (sym (at i d first) ∙ (Decides-eqb (get_or (map (place_of n) ls) i d) (get_or (map (place_of n) ls) j d)).0 same ∙ at j d inside)))
      where
        not_true : (b : Bool) → ¬ (b ≡ true) → b ≡ false
        not_true true h = absurd (h refl)
        not_true false h = refl

    low : (q : ℕ) → Contains (map (place_of n) ls) q → q < 2 * n + 1
    low q (k, within, is) =
        let inside : k < length ls = subst (λ (m : ℕ). k < m) (length-map ls (place_of n)) within in
        subst (λ (m : ℕ). m < 2 * n + 1) (sym (at k q inside) ∙ is) (place_within n (get_or ls k (pos 0)) (known k (pos 0) inside))
