-- What a list of watches has after an edit.
use Rattle.std.proofs.Common.{◌≡◌, ◌-◌, ◌<◌, ◌++◌, ◌∷◌, [], ℕ, List, refl, sym, ap, ◌∙◌, length, get_or, take, length-append, arith}
use Rattle.std.specs.List.{swap_remove}
use Rattle.std.proofs.Math.ListN.{set}
use Rattle.std.proofs.lemmas.List.{set-append_left, set_at, take_at, get_or_at, length-set, take-set-le, take-take}

-- the last element put in the place of another
pub removed_inside : {X : Type 0} (rest : List X) (last d : X) (at : ℕ) → at < length rest → set rest at last ≡ swap_remove (rest ++ last ∷ []) at d
removed_inside rest last d at low =
    let size : length (rest ++ last ∷ []) - 1 ≡ length rest = omega (arith, length-append rest (last ∷ [])) in
    let end : get_or (rest ++ last ∷ []) (length (rest ++ last ∷ []) - 1) d ≡ last = ap (λ (n : ℕ). get_or (rest ++ last ∷ []) n d) size ∙ get_or_at rest last [] d (length rest) refl in
    sym (ap (λ (n : ℕ). take n (set (rest ++ last ∷ []) at (get_or (rest ++ last ∷ []) (length (rest ++ last ∷ []) - 1) d))) size
    ∙ ap (λ (y : _). take (length rest) (set (rest ++ last ∷ []) at y)) end
    ∙ ap (λ (ys : List _). take (length rest) ys) (set-append_left rest (last ∷ []) at last low)
    ∙ take_at (set rest at last) (last ∷ []) (length rest) (length-set rest at last))

pub removed_last : {X : Type 0} (rest : List X) (last d : X) (at : ℕ) → at ≡ length rest → rest ≡ swap_remove (rest ++ last ∷ []) at d
removed_last rest last d at is =
    let size : length (rest ++ last ∷ []) - 1 ≡ length rest = omega (arith, length-append rest (last ∷ [])) in
    sym (ap (λ (n : ℕ). take n (set (rest ++ last ∷ []) at (get_or (rest ++ last ∷ []) (length (rest ++ last ∷ []) - 1) d))) size
    ∙ ap (λ (ys : List _). take (length rest) ys) (set_at rest last [] (get_or (rest ++ last ∷ []) (length (rest ++ last ∷ []) - 1) d) at (sym is))
    ∙ take_at rest _ (length rest) refl)

-- what stands before the place stays
pub take-swap_remove : {X : Type 0} (xs : List X) (at : ℕ) (d : X) → at < length xs → take at (swap_remove xs at d) ≡ take at xs
take-swap_remove xs at d low =
    take-take at (length xs - 1) (set xs at (get_or xs (length xs - 1) d)) (omega (arith, low)) ∙ take-set-le at xs at (get_or xs (length xs - 1) d) (omega arith)
