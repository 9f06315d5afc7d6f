-- Pieces of a list by their ends.
use Rattle.std.proofs.Common.{◌≡◌, ◌+◌, ◌-◌, ◌<◌, ◌≤◌, ◌++◌, ◌∷◌, [], ℕ, zero, suc, List, refl, ap, sym, ◌∙◌, length, take, drop, get_or, set, arith}
use Rattle.std.specs.Prelude.{ℤ, pos, Some, slice_get, slice_range, swap}
use Rattle.std.proofs.lemmas.List.{take-append-le, drop-append-le}
use Rattle.std.proofs.Math.Seq.{drop-append_seam, take-length, take-set-lt}
use Rattle.std.proofs.lemmas.List.{length-drop, drop-set-lt, drop-set-add, take-set-le, set-set}
use Rattle.std.proofs.lemmas.List.Edits.{swap_is, get_or-between, length-between}
use Rattle.std.proofs.lemmas.Option.{get_or_from_slice_get}
use Rattle.rup_checker.specs.Stores.{pieces, AreEnds, clause_at}

-- there are as many pieces as ends
pub length-pieces : (xs : List ℤ) (from : ℕ) (ends : List ℕ) → length (pieces xs from ends) ≡ length ends
length-pieces xs from [] = refl
length-pieces xs from (e ∷ es) = ap suc (length-pieces xs e es)

-- each piece stands between an end and the next
pub piece_at : (xs : List ℤ) (from : ℕ) (ends : List ℕ) (k : ℕ) → k < length ends → slice_get (pieces xs from ends) k ≡ Some (slice_range xs (get_or (from ∷ ends) k 0) (get_or ends k 0))
piece_at xs from [] k h = absurd (omega (arith, h))
piece_at xs from (e ∷ es) zero h = refl
piece_at xs from (e ∷ es) (suc k) h = piece_at xs e es k (omega (arith, h))

-- the first place is at most the last
pub ends_reach : (from : ℕ) (ends : List ℕ) (all : ℕ) → AreEnds from ends all → from ≤ all
ends_reach from [] all a = omega (arith, a)
ends_reach from (e ∷ es) all a = let rest = ends_reach e es all a.1 in omega (arith, a.0, rest)

-- places are in order, and within all
pub ends_at : (from : ℕ) (ends : List ℕ) (all k : ℕ) → AreEnds from ends all → k < length ends → (get_or (from ∷ ends) k 0 ≤ get_or ends k 0) × (get_or ends k 0 ≤ all)
ends_at from [] all k a h = absurd (omega (arith, h))
ends_at from (e ∷ es) all zero a h = (a.0, ends_reach e es all a.1)
ends_at from (e ∷ es) all (suc k) a h = ends_at e es all k a.1 (omega (arith, h))

-- one more place past all the others
pub AreEnds-push : (from : ℕ) (ends : List ℕ) (all more : ℕ) → AreEnds from ends all → all ≤ more → AreEnds from (ends ++ more ∷ []) more
AreEnds-push from [] all more a h = (omega (arith, a, h), refl)
AreEnds-push from (e ∷ es) all more a h = (a.0, AreEnds-push e es all more a.1 h)

-- a piece within a list is a piece of a longer one
pub range_within : (xs ys : List ℤ) (from to : ℕ) → from ≤ to → to ≤ length xs → slice_range (xs ++ ys) from to ≡ slice_range xs from to
range_within xs ys from to low high =
    ap (take (to - from)) (drop-append-le from xs ys (omega (arith, low, high)))
    ∙ take-append-le (to - from) (drop from xs) ys (let l = length-drop from xs in omega (arith, l, low, high))

-- what is appended is the last piece
pub pieces-push : (xs ys : List ℤ) (from : ℕ) (ends : List ℕ) → AreEnds from ends (length xs) → pieces (xs ++ ys) from (ends ++ (length xs + length ys) ∷ []) ≡ pieces xs from ends ++ ys ∷ []
pieces-push xs ys from [] a = ap (λ (p : List ℤ). p ∷ []) (last from a)
  where
    last : (from : ℕ) → from ≡ length xs → slice_range (xs ++ ys) from (length xs + length ys) ≡ ys
    last from is =
        ap (λ (n : ℕ). take (length xs + length ys - n) (drop n (xs ++ ys))) is
        ∙ ap (take (length xs + length ys - length xs)) (drop-append_seam xs ys)
        ∙ ap (λ (n : ℕ). take n ys) (let e : length xs + length ys - length xs ≡ length ys = omega arith in e)
        ∙ take-length ys
pieces-push xs ys from (e ∷ es) a =
    ap (λ (p : List ℤ). p ∷ pieces (xs ++ ys) e (es ++ (length xs + length ys) ∷ [])) (range_within xs ys from e a.0 (ends_reach e es (length xs) a.1))
    ∙ ap (λ (ps : List (List ℤ)). slice_range xs from e ∷ ps) (pieces-push xs ys e es a.1)

-- no start is before the first
pub starts_reach : (from : ℕ) (ends : List ℕ) (all k : ℕ) → AreEnds from ends all → k < length ends → from ≤ get_or (from ∷ ends) k 0
starts_reach from [] all k a h = absurd (omega (arith, h))
starts_reach from (e ∷ es) all zero a h = omega arith
starts_reach from (e ∷ es) all (suc k) a h = let rest = starts_reach e es all k a.1 (omega (arith, h)) in omega (arith, a.0, rest)

-- a literal within a piece of a list is replaced
pub range-set : (xs : List ℤ) (from to i : ℕ) (v : ℤ) → from + i < to → slice_range (set xs (from + i) v) from to ≡ set (slice_range xs from to) i v
range-set xs from to i v within =
    ap (take (to - from)) (drop-set-add from xs i v) ∙ take-set-lt (to - from) (drop from xs) i v (omega (arith, within))

-- a literal past a piece is replaced
pub range-set_past : (xs : List ℤ) (from to j : ℕ) (v : ℤ) → from ≤ j → to ≤ j → slice_range (set xs j v) from to ≡ slice_range xs from to
range-set_past xs from to j v low past =
    let same : from + (j - from) ≡ j = omega (arith, low) in
    ap (λ (n : ℕ). take (to - from) (drop from (set xs n v))) (sym same)
    ∙ ap (take (to - from)) (drop-set-add from xs (j - from) v)
    ∙ take-set-le (to - from) (drop from xs) (j - from) v (omega (arith, past))

-- a literal before all the pieces is replaced
pub pieces-set_before : (xs : List ℤ) (from : ℕ) (ends : List ℕ) (all j : ℕ) (v : ℤ) → AreEnds from ends all → j < from → pieces (set xs j v) from ends ≡ pieces xs from ends
pieces-set_before xs from [] all j v a before = refl
pieces-set_before xs from (e ∷ es) all j v a before =
    ap (λ (ys : List ℤ). take (e - from) ys ∷ pieces (set xs j v) e es) (drop-set-lt from xs j v before)
    ∙ ap (λ (ps : List (List ℤ)). slice_range xs from e ∷ ps) (pieces-set_before xs e es all j v a.1 (omega (arith, a.0, before)))

-- a literal of one piece is replaced
pub pieces-set : (xs : List ℤ) (from : ℕ) (ends : List ℕ) (all k i : ℕ) (v : ℤ) → AreEnds from ends all → k < length ends → get_or (from ∷ ends) k 0 + i < get_or ends k 0 → pieces (set xs (get_or (from ∷ ends) k 0 + i) v) from ends ≡ set (pieces xs from ends) k (set (slice_range xs (get_or (from ∷ ends) k 0) (get_or ends k 0)) i v)
pieces-set xs from [] all k i v a h within = absurd (omega (arith, h))
pieces-set xs from (e ∷ es) all zero i v a h within =
    ap (λ (p : List ℤ). p ∷ pieces (set xs (from + i) v) e es) (range-set xs from e i v within)
    ∙ ap (λ (ps : List (List ℤ)). set (slice_range xs from e) i v ∷ ps) (pieces-set_before xs e es all (from + i) v a.1 within)
pieces-set xs from (e ∷ es) all (suc k) i v a h within =
    let low : e ≤ get_or (e ∷ es) k 0 = starts_reach e es all k a.1 (omega (arith, h)) in
    ap (λ (p : List ℤ). p ∷ pieces (set xs (get_or (e ∷ es) k 0 + i) v) e es) (range-set_past xs from e (get_or (e ∷ es) k 0 + i) v (omega (arith, a.0, low)) (omega (arith, low)))
    ∙ ap (λ (ps : List (List ℤ)). slice_range xs from e ∷ ps) (pieces-set xs e es all k i v a.1 (omega (arith, h)) within)

-- two literals of one piece are exchanged
pub pieces-swap : (xs : List ℤ) (ends : List ℕ) (k i j : ℕ) → AreEnds 0 ends (length xs) → k < length ends → get_or (0 ∷ ends) k 0 + i < get_or ends k 0 → get_or (0 ∷ ends) k 0 + j < get_or ends k 0 → pieces (swap xs (get_or (0 ∷ ends) k 0 + i) (get_or (0 ∷ ends) k 0 + j)) 0 ends ≡ set (pieces xs 0 ends) k (swap (slice_range xs (get_or (0 ∷ ends) k 0) (get_or ends k 0)) i j)
pieces-swap xs ends k i j a h one other =
    let bounds = ends_at 0 ends (length xs) k a h in
    let within = length-between xs s t bounds.1 in
    ap (λ (ys : List ℤ). pieces ys 0 ends) (sym (swap_is xs (s + i) (s + j) (pos 0) (omega (arith, one, bounds.1)) (omega (arith, other, bounds.1))))
    ∙ pieces-set (set xs (s + i) x) 0 ends (length xs) k j y a h other
    ∙ ap (λ (p : List ℤ). set (pieces (set xs (s + i) x) 0 ends) k (set p j y)) (range-set xs s t i x one)
    ∙ ap (λ (ps : List (List ℤ)). set ps k (set (set p i x) j y)) (pieces-set xs 0 ends (length xs) k i x a h one)
    ∙ set-set (pieces xs 0 ends) k (set p i x) (set (set p i x) j y)
    ∙ ap (λ (v : ℤ). set (pieces xs 0 ends) k (set (set p i v) j y)) (sym (get_or-between xs s t j (pos 0) other))
    ∙ ap (λ (v : ℤ). set (pieces xs 0 ends) k (set (set p i (get_or p j (pos 0))) j v)) (sym (get_or-between xs s t i (pos 0) one))
    ∙ ap (set (pieces xs 0 ends) k) (swap_is p i j (pos 0) (omega (arith, one, within)) (omega (arith, other, within)))
  where
    s : ℕ
    s = get_or (0 ∷ ends) k 0

    t : ℕ
    t = get_or ends k 0

    p : List ℤ
    p = slice_range xs s t

    x : ℤ
    x = get_or xs (s + j) (pos 0)

    y : ℤ
    y = get_or xs (s + i) (pos 0)

-- the clause with a number is the piece between its ends
pub clause_is : (xs : List ℤ) (ends : List ℕ) (k : ℕ) → k < length ends → clause_at (pieces xs 0 ends) k ≡ slice_range xs (get_or (0 ∷ ends) k 0) (get_or ends k 0)
clause_is xs ends k h = get_or_from_slice_get (pieces xs 0 ends) k (slice_range xs (get_or (0 ∷ ends) k 0) (get_or ends k 0)) [] (piece_at xs 0 ends k h)

-- a place within a clause is before the end of its piece
pub place_inside : (xs : List ℤ) (ends : List ℕ) (k i : ℕ) → AreEnds 0 ends (length xs) → k < length ends → i < length (clause_at (pieces xs 0 ends) k) → get_or (0 ∷ ends) k 0 + i < get_or ends k 0
place_inside xs ends k i a h within =
    let bounds = ends_at 0 ends (length xs) k a h in
    let size = length-between xs (get_or (0 ∷ ends) k 0) (get_or ends k 0) bounds.1 in
    let same = ap length (clause_is xs ends k h) in
    omega (arith, within, size, same)
