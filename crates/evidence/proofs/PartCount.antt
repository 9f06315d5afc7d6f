-- How many parts a miter has.
use Rattle.std.proofs.Common.{◌≡◌, ℕ, zero, suc, ◌+◌, List, [], ◌∷◌, ◌++◌, length, refl, ap, ◌∙◌, arith}
use Rattle.std.proofs.lemmas.List.{length-append}
use Rattle.lll_core.specs.declared.lll.Lll.{Lll}
use Rattle.lll_core.specs.declared.signal.Signal.{Signal}
use Rattle.lll_core.specs.declared.signal.Signal.TheVariants.{One, Input, Latch, Imp, Eqv}
use Rattle.lll_core.specs.Tables.{latch_count}
use Rattle.miter.specs.declared.parts.MiterLll.{MiterLll}
use Rattle.miter.specs.Pairs.{Paired}
use Rattle.miter.specs.Miters.{image, IsMiter, IsComparison, AreComparisons, comparisons, literals_from}
use Rattle.evidence.specs.Spelling.{part_count}

literals_counted : (n count : ℕ) → length (literals_from n count) ≡ count
literals_counted n zero = refl
literals_counted n (suc count) = omega (arith, literals_counted (n + 1) count)

roots_counted : (places xs ys : List ℕ) → length xs ≡ length ys → length (comparisons places xs ys) ≡ length ys
roots_counted places [] [] e = refl
roots_counted places [] (y ∷ ys) e = absurd (omega (arith, e))
roots_counted places (x ∷ xs) [] e = absurd (omega (arith, e))
roots_counted places (x ∷ xs) (y ∷ ys) e = omega (arith, roots_counted places xs ys (omega (arith, e)))

-- a comparison for each latch
one_counted : (a : List Signal) (s : Signal) (b : List Signal) (place : ℕ) (own : List Signal) (rest : ℕ) → IsComparison a s place own → rest ≡ latch_count b → length own + rest ≡ latch_count (s ∷ b)
one_counted a One b place own rest is e = let n : length own ≡ 0 = ap (λ (xs : List Signal). length xs) is in omega (arith, n, e)
one_counted a (Input name) b place own rest is e = let n : length own ≡ 0 = ap (λ (xs : List Signal). length xs) is in omega (arith, n, e)
one_counted a (Latch name init next) b place own rest is e = let n : length own ≡ 1 = ap (λ (xs : List Signal). length xs) is.2 in omega (arith, n, e)
one_counted a (Imp x y) b place own rest is e = let n : length own ≡ 0 = ap (λ (xs : List Signal). length xs) is in omega (arith, n, e)
one_counted a (Eqv x y) b place own rest is e = let n : length own ≡ 0 = ap (λ (xs : List Signal). length xs) is in omega (arith, n, e)

latches_counted : (a b : List Signal) (places : List ℕ) (equal : List Signal) → AreComparisons a b places equal → length equal ≡ latch_count b
latches_counted a [] places equal are = ap (λ (xs : List Signal). length xs) are
latches_counted a (s ∷ b) [] equal are = absurd are
latches_counted a (s ∷ b) (place ∷ places) equal are =
    let n : length equal ≡ length (are.0 ++ are.1) = ap (λ (xs : List Signal). length xs) are.2 in
    n ∙ length-append are.0 are.1 ∙ one_counted a s b place are.0 (length are.1) are.3 (latches_counted a b places are.1 are.4)

-- a miter of paired models has so many parts
pub parts_counted : (a b : Lll) (m : MiterLll) → Paired a b → IsMiter a b m → length m.parts ≡ part_count b
parts_counted a b m paired is =
    let places = is.0 in
    let latches = is.2 in
    let roots = is.3 in
    let by = is.4 in
    let first = literals_from (length (a.signals ++ is.1)) (length latches) in
    let last = literals_from (length (a.signals ++ is.1 ++ latches)) (length roots) in
    let parts : length m.parts ≡ length latches + (3 + length roots) =
    ap (λ (xs : List ℕ). length xs) by.parts ∙ length-append first (a.keep ∷ image places b.keep ∷ a.assume ∷ last)
    ∙ omega (arith, literals_counted (length (a.signals ++ is.1)) (length latches), literals_counted (length (a.signals ++ is.1 ++ latches)) (length roots)) in
    let constraints = comparisons places a.constraints b.constraints in
    let obligations = comparisons places a.obligations b.obligations in
    let count : length roots ≡ length constraints + length obligations = ap (λ (xs : List Signal). length xs) by.roots_right ∙ length-append constraints obligations in
    omega (arith, parts, count, latches_counted a.signals b.signals places latches by.compared, roots_counted places a.constraints b.constraints paired.constraints, roots_counted places a.obligations b.obligations paired.obligations)
