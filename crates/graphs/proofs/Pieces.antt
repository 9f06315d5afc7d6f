-- Pieces of a list by their ends.
use Rattle.std.proofs.Common.{◌≡◌, ◌-◌, ◌<◌, ◌≤◌, ◌++◌, ◌∷◌, [], ℕ, zero, suc, List, refl, ap, ◌∙◌, length, take, drop, get_or, arith}
use Rattle.std.specs.Prelude.{slice_range}
use Rattle.std.proofs.lemmas.List.{take-append-le, drop-append-le, drop_all, length-drop, take_rest}
use Rattle.graphs.specs.Graphs.{row}
use Rattle.graphs.specs.Parts.{pieces, behind, AreEnds}

-- there are as many pieces as ends
pub length-pieces : (xs : List ℕ) (from : ℕ) (ends : List ℕ) → length (pieces xs from ends) ≡ length ends
length-pieces xs from [] = refl
length-pieces xs from (e ∷ es) = ap suc (length-pieces xs e es)

-- each piece stands between an end and the next
pub piece_at : (xs : List ℕ) (from : ℕ) (ends : List ℕ) (k : ℕ) → k < length ends → row (pieces xs from ends) k ≡ slice_range xs (get_or (from ∷ ends) k 0) (get_or ends k 0)
piece_at xs from [] k h = absurd (omega (arith, h))
piece_at xs from (e ∷ es) zero h = refl
piece_at xs from (e ∷ es) (suc k) h = piece_at xs e es k (omega (arith, h))

-- the first place is at most the last
pub ends_reach : (from : ℕ) (ends : List ℕ) (all : ℕ) → AreEnds from ends all → from ≤ all
ends_reach from [] all a = a
ends_reach from (e ∷ es) all a = let rest = ends_reach e es all a.1 in omega (arith, a.0, rest)

-- places are in order, and within all
pub ends_at : (from : ℕ) (ends : List ℕ) (all k : ℕ) → AreEnds from ends all → k < length ends → (get_or (from ∷ ends) k 0 ≤ get_or ends k 0) × (get_or ends k 0 ≤ all)
ends_at from [] all k a h = absurd (omega (arith, h))
ends_at from (e ∷ es) all zero a h = (a.0, ends_reach e es all a.1)
ends_at from (e ∷ es) all (suc k) a h = ends_at e es all k a.1 (omega (arith, h))

-- places stay within a longer list
pub AreEnds-more : (from : ℕ) (ends : List ℕ) (all more : ℕ) → AreEnds from ends all → all ≤ more → AreEnds from ends more
AreEnds-more from [] all more a h = omega (arith, a, h)
AreEnds-more from (e ∷ es) all more a h = (a.0, AreEnds-more e es all more a.1 h)

-- one more place, at the end of all
pub AreEnds-push : (from : ℕ) (ends : List ℕ) (all : ℕ) → AreEnds from ends all → AreEnds from (ends ++ all ∷ []) all
AreEnds-push from [] all a = (a, omega arith)
AreEnds-push from (e ∷ es) all a = (a.0, AreEnds-push e es all a.1)

-- a piece within a list is a piece of a longer one
pub range_within : (xs ys : List ℕ) (from to : ℕ) → from ≤ to → to ≤ length xs → slice_range (xs ++ ys) from to ≡ slice_range xs from to
range_within xs ys from to low high =
    ap (take (to - from)) (drop-append-le from xs ys (omega (arith, low, high)))
    ∙ take-append-le (to - from) (drop from xs) ys (let l = length-drop from xs in omega (arith, l, low, high))

-- what is appended to the list changes no piece
pub pieces-append : (xs ys : List ℕ) (from : ℕ) (ends : List ℕ) → AreEnds from ends (length xs) → pieces (xs ++ ys) from ends ≡ pieces xs from ends
pieces-append xs ys from [] a = refl
pieces-append xs ys from (e ∷ es) a =
    ap (λ (p : List ℕ). p ∷ pieces (xs ++ ys) e es) (range_within xs ys from e a.0 (ends_reach e es (length xs) a.1))
    ∙ ap (λ (ps : List (List ℕ)). slice_range xs from e ∷ ps) (pieces-append xs ys e es a.1)

-- it stands behind the last piece
pub behind-append : (xs ys : List ℕ) (from : ℕ) (ends : List ℕ) → AreEnds from ends (length xs) → behind (xs ++ ys) from ends ≡ behind xs from ends ++ ys
behind-append xs ys from [] a = drop-append-le from xs ys a
behind-append xs ys from (e ∷ es) a = behind-append xs ys e es a.1

-- what stands behind the last piece becomes the last
pub pieces-push : (xs : List ℕ) (from : ℕ) (ends : List ℕ) → pieces xs from (ends ++ length xs ∷ []) ≡ pieces xs from ends ++ behind xs from ends ∷ []
pieces-push xs from [] = ap (λ (p : List ℕ). p ∷ []) (take_rest xs from)
pieces-push xs from (e ∷ es) = ap (λ (ps : List (List ℕ)). slice_range xs from e ∷ ps) (pieces-push xs e es)

-- and nothing stands behind it
pub behind-push : (xs : List ℕ) (from : ℕ) (ends : List ℕ) → behind xs from (ends ++ length xs ∷ []) ≡ []
behind-push xs from [] = drop_all (length xs) xs (omega arith)
behind-push xs from (e ∷ es) = behind-push xs e es
