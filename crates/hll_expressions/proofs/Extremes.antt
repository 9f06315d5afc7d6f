-- The least and the greatest of some numbers.
use Rattle.std.proofs.Common.{◌≡◌, ℕ, ◌+◌, ◌<◌, ◌≤◌, ◌-◌, ◌^◌, ℤ, pos, negsuc, ◌≤ℤ◌, ◌<ℤ◌, Bool, true, false, not, List, [], ◌∷◌, ◌++◌, map, length, take, get_or, fold, Option, Some, Result, Err, ◌⊎◌, inl, inr, ⊎_elim, refl, sym, ap, subst, ◌∙◌, arith, append_assoc}
use Rattle.std.specs.List.{flat_map}
use Rattle.std.specs.Int.{int_min, int_max}
use Rattle.std.proofs.lemmas.Int.{ints, clamps, by_lt_z}
use Rattle.std.proofs.lemmas.List.{take_more, take_all}
use Rattle.std.proofs.lemmas.List.Sums.{fold-append}
use Rattle.intervals.specs.Ends.{Ends, IsWide}
use Rattle.intervals.specs.Rules.{smaller, greater}
use Rattle.intervals.specs.declared.interval.Interval.{Interval}
use Rattle.hll_meaning.specs.declared.fault.StaticKind.TheVariants as why
use Rattle.hll_meaning.specs.Kinds.{whole}
use Rattle.hll_meaning.specs.Types.{ends}
use Rattle.hll_meaning.specs.Values.{of_number, number, least, greatest as greatest_of}
use Rattle.hll_meaning.specs.Fitting.{ends_of, is_whole}
use Rattle.hll_meaning.specs.Judging.{Fault, fault_if, Judged, given_whole, wide_at, wants_whole, all_faults, made_of_all, over_all}
use Rattle.hll_meaning.proofs.Lies.{Lies, AllLie, least_lies, greatest_lies}
use Rattle.hll_expressions.specs.declared.faults.StaticFault.{StaticFault}
use Rattle.hll_expressions.specs.declared.given.Given.{Given}
use Rattle.hll_expressions.specs.Answers.{IsFaultAt}
use Rattle.hll_expressions.specs.Described.{known, number_of, Describes, DescribeAll, IsAnswer}
use Rattle.hll_expressions.specs.Figures.{extreme_of, extreme_known, extreme_range, IsExtreme}
use Rattle.hll_expressions.specs.Forms.{extreme_said, number_said, IsWholeNumber}
use Rattle.hll_expressions.proofs.Firsts.{before, behind, none_both, none_more, first_at, not_so}
use Rattle.hll_expressions.proofs.Describing.{whole_wanted, narrow_number, all_faultless}

-- what isn't a whole number
abbrev wanted : Given → List Fault
wanted g = wants_whole (known g)

abbrev ranged : Given → Ends
ranged g = ends_of (known g).kind

-- a fold, element by element
fold_more : {B S : Type 0} (h : S → B → S) (a : S) (xs : List B) (i : ℕ) (x : B) → i < length xs → x ≡ get_or xs i x → fold h a (take (i + 1) xs) ≡ h (fold h a (take i xs)) x
fold_more h a xs i x lt is = ap (fold h a) (take_more xs i x lt) ∙ fold-append h a (take i xs) (get_or xs i x ∷ []) ∙ ap (λ y. h (fold h a (take i xs)) y) (sym is)

-- the range and the number of the first and those of the others that were taken
pub record SoFar (greatest : Bool) (first : Given) (taken : List Given) (e : Ends) (x : Option ℤ) : Type 0 where
  pub begins : wants_whole (known first) ≡ []
  pub goes_on : flat_map wanted taken ≡ []
  pub range : e ≡ fold (λ e g. extreme_range greatest e (ranged g)) (ranged first) taken
  pub number : x ≡ fold (λ o g. extreme_known greatest o (number_of g)) (number_of first) taken

pub begun : (greatest : Bool) (first : Given) (i : Interval) (x : Option ℤ) → (known first).kind ≡ whole (ends i) → x ≡ number_of first → SoFar greatest first [] (ends i) x
begun greatest first i x k same = record { begins = whole_wanted (known first) (ends i) k; goes_on = refl; range = sym (ap ends_of k); number = same }

pub one_further : (greatest : Bool) (first : Given) (others : List Given) (n : ℕ) (g : Given) (e d : Ends) (x y : Option ℤ) (i : Interval) →
    n < length others → g ≡ get_or others n g → SoFar greatest first (take n others) e x → (known g).kind ≡ whole (ends i) →
    d ≡ extreme_range greatest e (ends i) → y ≡ extreme_known greatest x (number_of g) → SoFar greatest first (take (n + 1) others) d y
one_further greatest first others n g e d x y i lt is h k same counted = record {
  begins = h.begins;
  goes_on = none_more wanted others n g lt is h.goes_on (whole_wanted (known g) (ends i) k);
  range =
      same ∙ ap (λ a. extreme_range greatest a (ends i)) h.range ∙ ap (λ l. extreme_range greatest (fold (λ e g. extreme_range greatest e (ranged g)) (ranged first) (take n others)) (ends_of l)) (sym k)
      ∙ sym (fold_more (λ e g. extreme_range greatest e (ranged g)) (ranged first) others n g lt is);
  number = counted ∙ ap (λ o. extreme_known greatest o (number_of g)) h.number ∙ sym (fold_more (λ o g. extreme_known greatest o (number_of g)) (number_of first) others n g lt is);
}

-- ---- ranges are never wide

-- numbers of one of the two ranges
abbrev Stays : Ends → Type 0
Stays e = ((pos 0 ≤ℤ e.lo) × (e.hi ≤ℤ pos (2 ^ 64 - 1))) ⊎ ((negsuc (2 ^ 63 - 1) ≤ℤ e.lo) × (e.hi ≤ℤ pos (2 ^ 63 - 1)))

stays : (e : Ends) → ¬ (IsWide e) → Stays e
stays e n =
    by_lt_z e.lo (pos 0)
    (λ low. by_lt_z e.lo (negsuc (2 ^ 63 - 1)) (λ w. absurd (n (inl low, inl w))) (λ above. by_lt_z (pos (2 ^ 63 - 1)) e.hi (λ w. absurd (n (inl low, inr w))) (λ below. inr (above, below))))
    (λ above. by_lt_z (pos (2 ^ 64 - 1)) e.hi (λ w. absurd (n (inr w, inr (omega (arith, ints))))) (λ below. inl (above, below)))

clash : (a b : ℤ) → a <ℤ b → b ≤ℤ a → ⊥
clash a b h k = omega (arith, ints)

not_wide : (e : Ends) → Stays e → ¬ (IsWide e)
not_wide e (inl p) w = ⊎_elim (λ h. clash e.lo (pos 0) h p.0) (λ h. clash (pos (2 ^ 64 - 1)) e.hi h p.1) w.0
not_wide e (inr p) w = ⊎_elim (λ h. clash e.lo (negsuc (2 ^ 63 - 1)) h p.0) (λ h. clash (pos (2 ^ 63 - 1)) e.hi h p.1) w.1

min_above : (l x y : ℤ) → l ≤ℤ x → l ≤ℤ y → l ≤ℤ int_min x y
min_above l x y h k = omega (arith, ints, clamps)

min_below : (u x y : ℤ) → (x ≤ℤ u) ⊎ (y ≤ℤ u) → int_min x y ≤ℤ u
min_below u x y (inl h) = omega (arith, ints, clamps)
min_below u x y (inr h) = omega (arith, ints, clamps)

max_above : (l x y : ℤ) → (l ≤ℤ x) ⊎ (l ≤ℤ y) → l ≤ℤ int_max x y
max_above l x y (inl h) = omega (arith, ints, clamps)
max_above l x y (inr h) = omega (arith, ints, clamps)

max_below : (u x y : ℤ) → x ≤ℤ u → y ≤ℤ u → int_max x y ≤ℤ u
max_below u x y h k = omega (arith, ints, clamps)

further_up : (x : ℤ) → x ≤ℤ pos (2 ^ 63 - 1) → x ≤ℤ pos (2 ^ 64 - 1)
further_up x h = omega (arith, ints)

further_down : (x : ℤ) → pos 0 ≤ℤ x → negsuc (2 ^ 63 - 1) ≤ℤ x
further_down x h = omega (arith, ints)

smaller_stays : (a b : Ends) → Stays a → Stays b → Stays (smaller a b)
smaller_stays a b (inl p) (inl q) = inl (min_above _ _ _ p.0 q.0, min_below _ _ _ (inl p.1))
smaller_stays a b (inl p) (inr q) = inr (min_above _ _ _ (further_down _ p.0) q.0, min_below _ a.hi b.hi (inr q.1))
smaller_stays a b (inr p) (inl q) = inr (min_above _ _ _ p.0 (further_down _ q.0), min_below _ a.hi b.hi (inl p.1))
smaller_stays a b (inr p) (inr q) = inr (min_above _ _ _ p.0 q.0, min_below _ a.hi b.hi (inl p.1))

greater_stays : (a b : Ends) → Stays a → Stays b → Stays (greater a b)
greater_stays a b (inl p) (inl q) = inl (max_above _ a.lo b.lo (inl p.0), max_below _ _ _ p.1 q.1)
greater_stays a b (inl p) (inr q) = inl (max_above _ a.lo b.lo (inl p.0), max_below _ _ _ p.1 (further_up _ q.1))
greater_stays a b (inr p) (inl q) = inl (max_above _ a.lo b.lo (inr q.0), max_below _ _ _ (further_up _ p.1) q.1)
greater_stays a b (inr p) (inr q) = inr (max_above _ a.lo b.lo (inl p.0), max_below _ _ _ p.1 q.1)

-- the range of the lesser or the greater number of two intervals is ordered and not wide
pub smaller_narrow : (a b : Interval) → ¬ (IsWide (smaller (ends a) (ends b)))
smaller_narrow a b = not_wide _ (smaller_stays (ends a) (ends b) (stays (ends a) a.narrow) (stays (ends b) b.narrow))

pub greater_narrow : (a b : Interval) → ¬ (IsWide (greater (ends a) (ends b)))
greater_narrow a b = not_wide _ (greater_stays (ends a) (ends b) (stays (ends a) a.narrow) (stays (ends b) b.narrow))

-- an interval with these ends
pub record Fits (lo hi : ℤ) : Type 0 where
  pub ordered : lo ≤ℤ hi
  pub narrow : ¬ (IsWide (record { lo = lo; hi = hi }))

min_orders : (x u y v : ℤ) → x ≤ℤ u → y ≤ℤ v → int_min x y ≤ℤ int_min u v
min_orders x u y v h k = omega (arith, ints, clamps)

max_orders : (x u y v : ℤ) → x ≤ℤ u → y ≤ℤ v → int_max x y ≤ℤ int_max u v
max_orders x u y v h k = omega (arith, ints, clamps)

fits_as : (lo hi x y : ℤ) → lo ≡ x → hi ≡ y → Fits x y → Fits lo hi
fits_as lo hi x y p q h = subst (λ a. Fits a hi) (sym p) (subst (λ b. Fits x b) (sym q) h)

pub smaller_fits : (a b : Interval) (lo hi : ℤ) → lo ≡ int_min a.lo b.lo → hi ≡ int_min a.hi b.hi → Fits lo hi
smaller_fits a b lo hi p q = fits_as lo hi _ _ p q (record { ordered = min_orders a.lo a.hi b.lo b.hi a.ordered b.ordered; narrow = smaller_narrow a b })

pub greater_fits : (a b : Interval) (lo hi : ℤ) → lo ≡ int_max a.lo b.lo → hi ≡ int_max a.hi b.hi → Fits lo hi
greater_fits a b lo hi p q = fits_as lo hi _ _ p q (record { ordered = max_orders a.lo a.hi b.lo b.hi a.ordered b.ordered; narrow = greater_narrow a b })

pub smaller_ends : (a b : Interval) (lo hi : ℤ) → lo ≡ int_min a.lo b.lo → hi ≡ int_min a.hi b.hi → record { lo = lo; hi = hi } ≡ smaller (ends a) (ends b)
smaller_ends a b lo hi p q i = record { lo = p i; hi = q i }

pub greater_ends : (a b : Interval) (lo hi : ℤ) → lo ≡ int_max a.lo b.lo → hi ≡ int_max a.hi b.hi → record { lo = lo; hi = hi } ≡ greater (ends a) (ends b)
greater_ends a b lo hi p q i = record { lo = p i; hi = q i }

-- ---- by what is said of the parts

same_wanted : (needs : Bool) (g : Given) (j : Judged) → Describes needs g j → wanted g ≡ wants_whole j
same_wanted needs g j d i = fault_if (not (is_whole (d.kind i))) why.Mismatch (d.place i)

wanted_all : (needs : Bool) (gs : List Given) (js : List Judged) → DescribeAll needs gs js → flat_map wanted gs ≡ flat_map wants_whole js
wanted_all needs [] [] all = refl
wanted_all needs [] (j ∷ js) all = absurd all
wanted_all needs (g ∷ gs) [] all = absurd all
wanted_all needs (g ∷ gs) (j ∷ js) all = (λ i. same_wanted needs g j all.0 i ++ wanted_all needs gs js all.1 i)

range_all : (needs : Bool) (rule : Ends → Ends → Ends) (gs : List Given) (js : List Judged) (e : Ends) → DescribeAll needs gs js → fold (λ e g. rule e (ranged g)) e gs ≡ fold (λ e j. rule e (ends_of j.kind)) e js
range_all needs rule [] [] e all = refl
range_all needs rule [] (j ∷ js) e all = absurd all
range_all needs rule (g ∷ gs) [] e all = absurd all
range_all needs rule (g ∷ gs) (j ∷ js) e all =
    ap (λ k. fold (λ e g. rule e (ranged g)) (rule e (ends_of k)) gs) all.0.kind ∙ range_all needs rule gs js (rule e (ends_of j.kind)) all.1

number_all : (greatest : Bool) (gs : List Given) (js : List Judged) (o : Option ℤ) (x : ℤ) → DescribeAll true gs js → o ≡ Some x →
    fold (λ o g. extreme_known greatest o (number_of g)) o gs ≡ Some (fold (λ x v. extreme_of greatest x (number v)) x (map (λ j. j.value) js))
number_all greatest [] [] o x all is = is
number_all greatest [] (j ∷ js) o x all is = absurd all
number_all greatest (g ∷ gs) [] o x all is = absurd all
number_all greatest (g ∷ gs) (j ∷ js) o x all is =
    number_all greatest gs js (extreme_known greatest o (number_of g)) (extreme_of greatest x (number j.value)) all.1 (λ i. extreme_known greatest (is i) ((all.0.worth refl).same i))

all_lie : (gs : List Given) (js : List Judged) → DescribeAll true gs js → AllLie js (map (λ j. j.value) js)
all_lie [] [] all = tt
all_lie [] (j ∷ js) all = absurd all
all_lie (g ∷ gs) [] all = absurd all
all_lie (g ∷ gs) (j ∷ js) all = (λ _. (all.0.worth refl).lies, all_lie gs js all.1)

all_made : (needs : Bool) (at : ℕ) (js : List Judged) (rule : Ends → Ends → Ends) (z : ℤ) (range : Interval) (x : Option ℤ) (result : Result Given StaticFault) →
    all_faults js ≡ [] → flat_map wants_whole js ≡ [] → ends range ≡ over_all rule js → IsWholeNumber at (Some range) x result →
    (needs ≡ true → (x ≡ Some z) × Lies (made_of_all at js rule z) (of_number z)) → IsAnswer needs (made_of_all at js rule z) result
all_made needs at js rule z range x result none wholes same h worth =
    subst (λ fs. IsAnswer needs (given_whole at fs (whole (over_all rule js)) (of_number z)) result) (append_assoc (all_faults js) (flat_map wants_whole js) (wide_at (over_all rule js) at))
    (narrow_number needs at (all_faults js ++ flat_map wants_whole js) (over_all rule js) (Some range) x (of_number z) result (none_both (all_faults js) _ none wholes)
    (same, subst (λ e. ¬ (IsWide e)) same range.narrow) h
    (λ n. let w = worth n in (w.0, λ narrow. w.1 (none_both (all_faults js) _ none (none_both (flat_map wants_whole js) _ wholes (not_so _ why.Wide at narrow))))))

extreme_made : (greatest : Bool) (needs : Bool) (at : ℕ) (first : Given) (others : List Given) (j : Judged) (js : List Judged) (range : Interval) (x : Option ℤ) (result : Result Given StaticFault) →
    SoFar greatest first others (ends range) x → Describes needs first j → DescribeAll needs others js → IsWholeNumber at (Some range) x result → IsAnswer needs (extreme_said at greatest (j ∷ js)) result
extreme_made true needs at first others j js range x result h d all answers =
    all_made needs at (j ∷ js) greater (greatest_of (map (λ j. j.value) (j ∷ js))) range x result (none_both j.faults _ d.faultless (all_faultless needs others js all))
    (none_both (wants_whole j) _ (sym (same_wanted needs first j d) ∙ h.begins) (sym (wanted_all needs others js all) ∙ h.goes_on))
    (h.range ∙ ap (λ k. fold (λ e g. greater e (ranged g)) (ends_of k) others) d.kind ∙ range_all needs greater others js (ends_of j.kind) all) answers
    (λ n. (
      h.number ∙ number_all true others js (number_of first) (number j.value) (subst (λ b. DescribeAll b others js) n all) (d.worth n).same,
      greatest_lies at (j ∷ js) (map (λ j. j.value) (j ∷ js)) (greatest_of (map (λ j. j.value) (j ∷ js))) (λ _. (d.worth n).lies, all_lie others js (subst (λ b. DescribeAll b others js) n all)),
    ))
extreme_made false needs at first others j js range x result h d all answers =
    all_made needs at (j ∷ js) smaller (least (map (λ j. j.value) (j ∷ js))) range x result (none_both j.faults _ d.faultless (all_faultless needs others js all))
    (none_both (wants_whole j) _ (sym (same_wanted needs first j d) ∙ h.begins) (sym (wanted_all needs others js all) ∙ h.goes_on))
    (h.range ∙ ap (λ k. fold (λ e g. smaller e (ranged g)) (ends_of k) others) d.kind ∙ range_all needs smaller others js (ends_of j.kind) all) answers
    (λ n. (
      h.number ∙ number_all false others js (number_of first) (number j.value) (subst (λ b. DescribeAll b others js) n all) (d.worth n).same,
      least_lies at (j ∷ js) (map (λ j. j.value) (j ∷ js)) (least (map (λ j. j.value) (j ∷ js))) (λ _. (d.worth n).lies, all_lie others js (subst (λ b. DescribeAll b others js) n all)),
    ))

-- ---- the loop

pub ends_so : (greatest : Bool) (at : ℕ) (first : Given) (others : List Given) (n : ℕ) (range : Interval) (x : Option ℤ) (result : Result Given StaticFault) →
    length others ≤ n → SoFar greatest first (take n others) (ends range) x → IsWholeNumber at (Some range) x result → IsExtreme at greatest first others result
ends_so greatest at first others n range x result le h answers needs j js d all =
    extreme_made greatest needs at first others j js range x result (subst (λ gs. SoFar greatest first gs (ends range) x) (take_all n others le) h) d all answers

of_wanted : (at : ℕ) (needs : Bool) (rule : Ends → Ends → Ends) (z : ℤ) (first : Given) (others : List Given) (j : Judged) (js : List Judged) (f : StaticFault) → Describes needs first j → DescribeAll needs others js →
    IsFaultAt (flat_map wanted (first ∷ others)) f → IsFaultAt (made_of_all at (j ∷ js) rule z).faults f
of_wanted at needs rule z first others j js f d all h =
    behind (all_faults (j ∷ js)) _ f (none_both j.faults _ d.faultless (all_faultless needs others js all))
    (before (flat_map wants_whole (j ∷ js)) _ f (subst (λ fs. IsFaultAt fs f) (wanted_all needs (first ∷ others) (j ∷ js) (d, all)) h))

fault_of_all : (at : ℕ) (greatest : Bool) (needs : Bool) (first : Given) (others : List Given) (j : Judged) (js : List Judged) (f : StaticFault) → Describes needs first j → DescribeAll needs others js →
    IsFaultAt (flat_map wanted (first ∷ others)) f → IsFaultAt (extreme_said at greatest (j ∷ js)).faults f
fault_of_all at true needs first others j js f d all h = of_wanted at needs greater (greatest_of (map (λ j. j.value) (j ∷ js))) first others j js f d all h
fault_of_all at false needs first others j js f d all h = of_wanted at needs smaller (least (map (λ j. j.value) (j ∷ js))) first others j js f d all h

-- the first of the others that isn't a whole number
pub fails_at : (greatest : Bool) (at : ℕ) (first : Given) (others : List Given) (n : ℕ) (g : Given) (e : Ends) (x : Option ℤ) (f : StaticFault) →
    n < length others → g ≡ get_or others n g → SoFar greatest first (take n others) e x → IsFaultAt (wanted g) f → IsExtreme at greatest first others (Err f)
fails_at greatest at first others n g e x f lt is h here needs j js d all =
    fault_of_all at greatest needs first others j js f d all (behind (wanted first) _ f h.begins (first_at wanted others n g f lt is h.goes_on here))

pub fails_first : (greatest : Bool) (at : ℕ) (first : Given) (others : List Given) (f : StaticFault) → IsFaultAt (wanted first) f → IsExtreme at greatest first others (Err f)
fails_first greatest at first others f h needs j js d all = fault_of_all at greatest needs first others j js f d all (before (wanted first) _ f h)

-- ---- none, or a first one

pub of_none : (at : ℕ) (greatest : Bool) (result : Result Given StaticFault) → ((needs : Bool) → IsAnswer needs (number_said at (pos 0)) result) →
    (needs : Bool) (js : List Judged) → DescribeAll needs [] js → IsAnswer needs (extreme_said at greatest js) result
of_none at true result h needs [] all = h needs
of_none at false result h needs [] all = h needs
of_none at greatest result h needs (j ∷ js) all = absurd all

pub of_some : (at : ℕ) (greatest : Bool) (first : Given) (others : List Given) (result : Result Given StaticFault) → IsExtreme at greatest first others result →
    (needs : Bool) (js : List Judged) → DescribeAll needs (first ∷ others) js → IsAnswer needs (extreme_said at greatest js) result
of_some at greatest first others result h needs [] all = absurd all
of_some at greatest first others result h needs (j ∷ js) all = h needs j js all.0 all.1
