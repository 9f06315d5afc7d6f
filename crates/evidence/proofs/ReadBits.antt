-- Bytes that are no truth values.
use Rattle.std.proofs.Common.{◌≡◌, ◌⊎◌, ℕ, zero, suc, ◌<◌, Bool, true, false, List, [], ◌∷◌, length, map, get_or, refl, ap, subst, ◌∙◌, arith, inl, inr}
use Rattle.evidence.specs.Spelling.{bit}

either_bit : (v : Bool) → (bit v ≡ 48) ⊎ (bit v ≡ 49)
either_bit true = inr refl
either_bit false = inl refl

is_bit : (vs : List Bool) (i : ℕ) → i < length (map bit vs) → (get_or (map bit vs) i 0 ≡ 48) ⊎ (get_or (map bit vs) i 0 ≡ 49)
is_bit [] i lt = absurd (omega (arith, lt))
is_bit (v ∷ vs) zero lt = either_bit v
is_bit (v ∷ vs) (suc i) lt = is_bit vs i (omega (arith, lt))

pub no_bit : (text : List ℕ) (i : ℕ) → i < length text → ((v : Bool) → Unit {0} → get_or text i 0 ∷ [] ≡ bit v ∷ [] → ⊥) → (vs : List Bool) → text ≡ map bit vs → ⊥
no_bit text i lt none vs e =
    let same : get_or text i 0 ≡ get_or (map bit vs) i 0 = ap (λ (t : List ℕ). get_or t i 0) e in
    elim (is_bit vs i (subst (λ (t : List ℕ). i < length t) e lt)) [
      | inl z ↦ none false tt (ap (λ b. b ∷ []) (same ∙ z))
      | inr o ↦ none true tt (ap (λ b. b ∷ []) (same ∙ o))
    ]
