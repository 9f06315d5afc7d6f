-- The ends of each operation, over whole numbers without bounds.
use Rattle.std.specs.Prelude.{ℕ, List, [], ◌∷◌, ◌++◌, ℤ, pos, negsuc, ◌+ℤ◌, ◌-ℤ◌, ◌*ℤ◌, neg_ℤ, int_lt, int_le, Bool, ◌&&◌, unsigned_abs, if◌then◌else◌}
use Rattle.std.specs.List.{fold}
use Rattle.std.specs.Int.{int_min, int_max}
use Rattle.intervals.specs.Ends.{Ends}
use Rattle.intervals.specs.Numbers.{quotient}

-- from the least to the greatest of some numbers; of no numbers, which ends in order never ask for, 0
abbrev pub hull_of : List ℤ → Ends
hull_of [] = record { lo = pos 0; hi = pos 0 }
hull_of (x ∷ xs) = record { lo = fold int_min x xs; hi = fold int_max x xs }

-- the sums of both lower ends and of both upper ends
abbrev pub sum : Ends → Ends → Ends
sum a b = record { lo = a.lo +ℤ b.lo; hi = a.hi +ℤ b.hi }

-- the lower end less the upper one, and the other way round
abbrev pub difference : Ends → Ends → Ends
difference a b = record { lo = a.lo -ℤ b.hi; hi = a.hi -ℤ b.lo }

-- the hull of the products of ends
abbrev pub product : Ends → Ends → Ends
product a b = hull_of ((a.lo *ℤ b.lo) ∷ (a.lo *ℤ b.hi) ∷ (a.hi *ℤ b.lo) ∷ (a.hi *ℤ b.hi) ∷ [])

-- 0 is one of the numbers
abbrev pub holds_zero : Ends → Bool
holds_zero e = int_le e.lo (pos 0) && int_le (pos 0) e.hi

-- the quotients of both ends of a by each of these numbers
abbrev pub end_quotients : Ends → List ℤ → List ℤ
end_quotients a [] = []
end_quotients a (d ∷ ds) = quotient a.lo d ∷ quotient a.hi d ∷ end_quotients a ds

-- the ends of the part below 0, where there is one
abbrev pub ends_below_zero : Ends → List ℤ
ends_below_zero e = if int_lt e.lo (pos 0) then e.lo ∷ int_min e.hi (negsuc 0) ∷ [] else []

-- the ends of the part above 0, where there is one
abbrev pub ends_above_zero : Ends → List ℤ
ends_above_zero e = if int_lt (pos 0) e.hi then int_max e.lo (pos 1) ∷ e.hi ∷ [] else []

-- 0, where it is one of the numbers
abbrev pub zero_of : Ends → List ℤ
zero_of e = if holds_zero e then pos 0 ∷ [] else []

-- the hull of the quotients of both ends of a by the ends of b's parts below and above 0, and of 0 where b holds 0
abbrev pub ratio : Ends → Ends → Ends
ratio a b = hull_of (end_quotients a (ends_below_zero b) ++ (end_quotients a (ends_above_zero b) ++ zero_of b))

-- the greatest absolute value
abbrev pub greatest_size : Ends → ℤ
greatest_size e = int_max (pos (unsigned_abs e.lo)) (pos (unsigned_abs e.hi))

-- a, reaching to 0; where b doesn't hold 0, no further from 0 than one less than the greatest size of b
abbrev pub modulus : Ends → Ends → Ends
modulus a b =
    if holds_zero b then record { lo = int_min a.lo (pos 0); hi = int_max a.hi (pos 0) }
    else record {
      lo = int_max (int_min a.lo (pos 0)) (pos 1 -ℤ greatest_size b);
      hi = int_min (int_max a.hi (pos 0)) (greatest_size b -ℤ pos 1);
    }

-- from the lesser lower end to the greater upper end
abbrev pub hull : Ends → Ends → Ends
hull a b = record { lo = int_min a.lo b.lo; hi = int_max a.hi b.hi }

-- from the lesser lower end to the lesser upper end
abbrev pub smaller : Ends → Ends → Ends
smaller a b = record { lo = int_min a.lo b.lo; hi = int_min a.hi b.hi }

-- from the greater lower end to the greater upper end
abbrev pub greater : Ends → Ends → Ends
greater a b = record { lo = int_max a.lo b.lo; hi = int_max a.hi b.hi }

-- the mirror image
abbrev pub negation : Ends → Ends
negation a = record { lo = neg_ℤ a.hi; hi = neg_ℤ a.lo }

-- a, its mirror image, or from 0 to the greater size where the signs differ
abbrev pub absolute : Ends → Ends
absolute a =
    if int_le (pos 0) a.lo then a
    else (if int_le a.hi (pos 0) then negation a
    else record { lo = pos 0; hi = int_max (neg_ℤ a.lo) a.hi })

-- n times each end
abbrev pub multiple : ℕ → Ends → Ends
multiple n a = record { lo = pos n *ℤ a.lo; hi = pos n *ℤ a.hi }
