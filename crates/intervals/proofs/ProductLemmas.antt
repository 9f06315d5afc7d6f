-- Products of ends, and products that no interval holds.
use Rattle.std.proofs.Common.{◌≡◌, ℕ, zero, suc, ◌+◌, ◌*◌, ◌^◌, ◌<◌, ◌≤◌, ℤ, pos, negsuc, ◌∙◌, ◌*ℤ◌, ◌≤ℤ◌, inl, inr, ⊎_elim, refl, ap, arith, [], ◌∷◌, FitsSigned, of_z}
use Rattle.std.proofs.Math.Nat.{mul-le-mul_left}
use Rattle.std.proofs.lemmas.Int.{ints, clamps}
use Rattle.std.specs.Int.{w128}
use Rattle.intervals.specs.Ends.{Ends, Holds, IsWide}
use Rattle.intervals.specs.Products.{IsFar}
use Rattle.intervals.specs.Rules.{hull_of}
use Rattle.intervals.specs.Hulls.{extended}

far_multiple : (e : ℤ) (n : ℕ) → (of_z w128 e ≡ 0 → ⊥) → 2 ^ 127 ≤ n → IsFar (pos n *ℤ e)
far_multiple (pos zero) n p h = absurd (p refl)
far_multiple (pos (suc m)) n p h = let q : n * suc m ≡ n * m + n = omega arith in inr (omega (arith, ints))
far_multiple (negsuc m) n p h = let q : n * suc m ≡ n * m + n = omega arith in inl (omega (arith, ints))

not_small : (n : ℕ) → (FitsSigned w128 (pos n) → ⊥) → (n < 2 ^ 127 → ⊥)
not_small n f h = f (record { sfits = h })

-- a multiple by a number that fits no signed type
pub beyond : (e : ℤ) (n : ℕ) → (of_z w128 e ≡ 0 → ⊥) → (FitsSigned w128 (pos n) → ⊥) → IsFar (pos n *ℤ e)
beyond e n p f = let small = not_small n f in far_multiple e n p (omega arith)

-- a range that holds a far number is wide
pub wide_far : (e : Ends) (z : ℤ) → Holds e z → IsFar z → IsWide e
wide_far e z h f = ⊎_elim (λ low. (inl (omega (arith, ints)), inl (omega (arith, ints)))) (λ high. (inr (omega (arith, ints)), inr (omega (arith, ints)))) f

pub record Corners (p q r s : ℤ) : Type 0 where
  pub first : Holds (hull_of (p ∷ q ∷ r ∷ s ∷ [])) p
  pub second : Holds (hull_of (p ∷ q ∷ r ∷ s ∷ [])) q
  pub third : Holds (hull_of (p ∷ q ∷ r ∷ s ∷ [])) r
  pub last : Holds (hull_of (p ∷ q ∷ r ∷ s ∷ [])) s

-- each of four numbers is in their hull
pub corners : (p q r s : ℤ) → Corners p q r s
corners p q r s = record {
  first = record { above = omega (arith, ints, clamps); below = omega (arith, ints, clamps) };
  second = record { above = omega (arith, ints, clamps); below = omega (arith, ints, clamps) };
  third = record { above = omega (arith, ints, clamps); below = omega (arith, ints, clamps) };
  last = record { above = omega (arith, ints, clamps); below = omega (arith, ints, clamps) };
}

pub corners_order : (p q r s : ℤ) → (hull_of (p ∷ q ∷ r ∷ s ∷ [])).lo ≤ℤ (hull_of (p ∷ q ∷ r ∷ s ∷ [])).hi
corners_order p q r s = omega (arith, ints, clamps)

-- a hull that was built one by one
pub four : (e f g h : Ends) (p q r s : ℤ) → e ≡ record { lo = p; hi = p } → f ≡ extended e (q ∷ []) → g ≡ extended f (r ∷ []) → h ≡ extended g (s ∷ []) → h ≡ hull_of (p ∷ q ∷ r ∷ s ∷ [])
four e f g h p q r s first second third last =
    last
    ∙ ap (λ (x : Ends). extended x (s ∷ [])) (third ∙ ap (λ (x : Ends). extended x (r ∷ [])) (second ∙ ap (λ (x : Ends). extended x (q ∷ [])) first))

pub multiple_order : (n : ℕ) (a b : ℤ) → a ≤ℤ b → (pos n *ℤ a) ≤ℤ (pos n *ℤ b)
multiple_order n (pos a) (pos b) h =
    let m : n * a ≤ n * b = mul-le-mul_left n (omega (arith, ints)) in
    omega (arith, ints)
multiple_order n (pos a) (negsuc b) h = absurd h.le
multiple_order n (negsuc a) (pos b) h = omega (arith, ints)
multiple_order n (negsuc a) (negsuc b) h =
    let m : n * suc b ≤ n * suc a = mul-le-mul_left n (omega (arith, ints)) in
    omega (arith, ints)
