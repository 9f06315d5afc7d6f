-- What describes an expression, and what follows of it.
use Rattle.std.proofs.Common.{◌≡◌, ℕ, ℤ, Bool, true, false, not, List, [], ◌∷◌, ◌++◌, Option, Some, Result, Ok, Err, refl, sym, ap, subst, ◌∙◌}
use Rattle.intervals.specs.Answers.{IsInterval}
use Rattle.intervals.specs.Ends.{Ends}
use Rattle.intervals.specs.Sound.{IsSound}
use Rattle.intervals.specs.declared.interval.Interval.{Interval}
use Rattle.hll_meaning.specs.declared.fault.StaticKind.TheVariants as is
use Rattle.hll_meaning.specs.Kinds.{Kind, truth, whole, element, array, struct, Value, IsOf}
use Rattle.hll_meaning.specs.Types.{ends}
use Rattle.hll_meaning.specs.Values.{of_number, number}
use Rattle.hll_meaning.specs.Fitting.{is_truth, is_whole, is_scalar, is_wide, ends_of}
use Rattle.hll_meaning.specs.Judging.{Fault, fault_if, Judged, given_whole, wide_at, wants_truth, wants_whole, wants_scalar, all_faults, made_of}
use Rattle.hll_meaning.proofs.Lies.{made_lies}
use Rattle.hll_expressions.specs.declared.faults.StaticFault.{StaticFault}
use Rattle.hll_expressions.specs.declared.given.Given.{Given}
use Rattle.hll_expressions.specs.Answers.{IsFaultAt}
use Rattle.hll_expressions.specs.Described.{known, number_of, Describes, DescribeAll, IsAnswer, IsWhole}
use Rattle.hll_expressions.specs.Forms.{IsWholeNumber}
use Rattle.hll_expressions.proofs.Firsts.{behind, none_both, not_so}

-- ---- given whole

-- what is given whole, with its number
pub describes_whole : (needs : Bool) (g : Given) (at : ℕ) (fs : List Fault) (k : Kind) (x : Option ℤ) (v : Value) →
    IsWhole at k x g → fs ≡ [] → (needs ≡ true → (is_scalar k ≡ true) × (x ≡ Some (number v)) × IsOf k v) → Describes needs g (given_whole at fs k v)
describes_whole needs g at fs k x v w none worth = record {
  faultless = none;
  place = ap (λ j. j.at) w.same;
  kind = ap (λ j. j.kind) w.same;
  fits = λ wanted. ap (λ j. j.fits wanted) w.same;
  worth = λ n. let p = worth n in record { cell = p.0; same = w.numbered ∙ p.1; lies = p.2 };
}

-- the same, where it is known to be of another kind that is equal
pub describes_as : (needs : Bool) (g : Given) (at : ℕ) (fs : List Fault) (k l : Kind) (x : Option ℤ) (v : Value) →
    IsWhole at k x g → k ≡ l → fs ≡ [] → (needs ≡ true → (is_scalar l ≡ true) × (x ≡ Some (number v)) × IsOf l v) → Describes needs g (given_whole at fs l v)
describes_as needs g at fs k l x v w same none worth = describes_whole needs g at fs l x v (subst (λ m. IsWhole at m x g) same w) none worth

-- where a constant isn't needed nothing is said of numbers
pub describes_free : (g : Given) (needs : Bool) (j : Judged) → Describes needs g j → Describes false g j
describes_free g needs j d = record { faultless = d.faultless; place = d.place; kind = d.kind; fits = d.fits; worth = λ n. absurd (cc n) }

-- ---- what is wanted

same_whole : (needs : Bool) (g : Given) (j : Judged) → Describes needs g j → wants_whole (known g) ≡ wants_whole j
same_whole needs g j d i = fault_if (not (is_whole (d.kind i))) is.Mismatch (d.place i)

same_truth : (needs : Bool) (g : Given) (j : Judged) → Describes needs g j → wants_truth (known g) ≡ wants_truth j
same_truth needs g j d i = fault_if (not (is_truth (d.kind i))) is.Mismatch (d.place i)

same_scalar : (needs : Bool) (g : Given) (j : Judged) → Describes needs g j → wants_scalar (known g) ≡ wants_scalar j
same_scalar needs g j d i = fault_if (not (is_scalar (d.kind i))) is.Mismatch (d.place i)

-- it is no whole number
pub no_whole : (needs : Bool) (g : Given) (j : Judged) (f : StaticFault) → Describes needs g j → IsFaultAt (wants_whole (known g)) f → IsFaultAt (wants_whole j) f
no_whole needs g j f d h = subst (λ fs. IsFaultAt fs f) (same_whole needs g j d) h

pub no_truth : (needs : Bool) (g : Given) (j : Judged) (f : StaticFault) → Describes needs g j → IsFaultAt (wants_truth (known g)) f → IsFaultAt (wants_truth j) f
no_truth needs g j f d h = subst (λ fs. IsFaultAt fs f) (same_truth needs g j d) h

pub no_scalar : (needs : Bool) (g : Given) (j : Judged) (f : StaticFault) → Describes needs g j → IsFaultAt (wants_scalar (known g)) f → IsFaultAt (wants_scalar j) f
no_scalar needs g j f d h = subst (λ fs. IsFaultAt fs f) (same_scalar needs g j d) h

-- it is one
pub is_whole_one : (needs : Bool) (g : Given) (j : Judged) (i : Interval) → Describes needs g j → (known g).kind ≡ whole (ends i) → j.kind ≡ whole (ends i)
is_whole_one needs g j i d h = sym d.kind ∙ h

pub whole_wanted : (j : Judged) (e : Ends) → j.kind ≡ whole e → wants_whole j ≡ []
whole_wanted j e h = ap (λ k. fault_if (not (is_whole k)) is.Mismatch j.at) h

pub truth_wanted : (j : Judged) → j.kind ≡ truth → wants_truth j ≡ []
truth_wanted j h = ap (λ k. fault_if (not (is_truth k)) is.Mismatch j.at) h

pub scalar_wanted : (j : Judged) → is_scalar j.kind ≡ true → wants_scalar j ≡ []
scalar_wanted j h = ap (λ b. fault_if (not b) is.Mismatch j.at) h

-- what isn't one cell is no number and no truth value
pub no_cell_whole : (k : Kind) → is_scalar k ≡ false → is_whole k ≡ false
no_cell_whole truth h = refl
no_cell_whole (whole e) h = absurd (cc h)
no_cell_whole (element root e) h = refl
no_cell_whole (array n k) h = refl
no_cell_whole (struct name fields) h = refl

pub no_cell_truth : (k : Kind) → is_scalar k ≡ false → is_truth k ≡ false
no_cell_truth truth h = absurd (cc h)
no_cell_truth (whole e) h = refl
no_cell_truth (element root e) h = refl
no_cell_truth (array n k) h = refl
no_cell_truth (struct name fields) h = refl

-- ---- wide ranges

-- a range that isn't wide makes a whole number, one that is wide a fault
pub narrow_number : (needs : Bool) (at : ℕ) (fs : List Fault) (e : Ends) (i : Option Interval) (x : Option ℤ) (v : Value) (result : Result Given StaticFault) →
    fs ≡ [] → IsInterval i e → IsWholeNumber at i x result → (needs ≡ true → (x ≡ Some (number v)) × (is_wide e ≡ false → IsOf (whole e) v)) →
    IsAnswer needs (given_whole at (fs ++ wide_at e at) (whole e) v) result
narrow_number needs at fs e i x v (Err f) none interval h worth = behind fs (wide_at e at) f none (h e interval)
narrow_number needs at fs e i x v (Ok g) none interval h worth =
    let p = h e interval in
    describes_whole needs g at (fs ++ wide_at e at) (whole e) x v p.1 (none_both fs (wide_at e at) none (not_so (is_wide e) is.Wide at p.0)) (λ n. let w = worth n in (refl, w.0, w.1 p.0))

-- ---- numbers made of numbers

same_ends : (j : Judged) (i : Interval) → j.kind ≡ whole (ends i) → ends_of j.kind ≡ ends i
same_ends j i h = ap ends_of h

pub made_number : (needs : Bool) (g : Given) (j : Judged) (at : ℕ) (rule : Ends → Ends) (value : ℤ → ℤ) (i : Interval) (r : Option Interval) (x : Option ℤ) (result : Result Given StaticFault) →
    IsSound rule value → Describes needs g j → j.kind ≡ whole (ends i) → IsInterval r (rule (ends i)) → IsWholeNumber at r x result →
    (number_of g ≡ Some (number j.value) → IsOf j.kind j.value → x ≡ Some (value (number j.value))) → IsAnswer needs (made_of at j rule value) result
made_number needs g j at rule value i r x result sound d h interval answers same =
    assoc (narrow_number needs at (j.faults ++ wants_whole j) (rule (ends_of j.kind)) r x (of_number (value (number j.value))) result
    (none_both j.faults (wants_whole j) d.faultless (whole_wanted j (ends i) h)) (subst (λ (e : Ends). IsInterval r (rule e)) (sym (same_ends j i h)) interval) answers
    (λ n. (
      same (d.worth n).same (d.worth n).lies,
      λ narrow.
          made_lies at j rule value value j.value sound (λ none. (d.worth n).lies)
          (none_both j.faults _ d.faultless (none_both (wants_whole j) _ (whole_wanted j (ends i) h) (not_so (is_wide (rule (ends_of j.kind))) is.Wide at narrow))),
    )))
  where
    together : (j.faults ++ wants_whole j) ++ wide_at (rule (ends_of j.kind)) at ≡ j.faults ++ (wants_whole j ++ wide_at (rule (ends_of j.kind)) at)
    together = grouped j.faults (wants_whole j) (wide_at (rule (ends_of j.kind)) at)
      where
        grouped : (xs ys zs : List Fault) → (xs ++ ys) ++ zs ≡ xs ++ (ys ++ zs)
        grouped [] ys zs = refl
        grouped (x ∷ xs) ys zs = ap (λ l. x ∷ l) (grouped xs ys zs)

    assoc : IsAnswer needs (given_whole at ((j.faults ++ wants_whole j) ++ wide_at (rule (ends_of j.kind)) at) (whole (rule (ends_of j.kind))) (of_number (value (number j.value)))) result → IsAnswer needs (made_of at j rule value) result
    assoc h = subst (λ fs. IsAnswer needs (given_whole at fs (whole (rule (ends_of j.kind))) (of_number (value (number j.value)))) result) together h

-- ---- lists

pub all_faultless : (needs : Bool) (gs : List Given) (js : List Judged) → DescribeAll needs gs js → all_faults js ≡ []
all_faultless needs [] [] all = refl
all_faultless needs [] (j ∷ js) all = absurd all
all_faultless needs (g ∷ gs) [] all = absurd all
all_faultless needs (g ∷ gs) (j ∷ js) all = none_both j.faults (all_faults js) all.0.faultless (all_faultless needs gs js all.1)

pub one_more : (needs : Bool) (gs : List Given) (js : List Judged) (g : Given) (j : Judged) → DescribeAll needs gs js → Describes needs g j → DescribeAll needs (gs ++ g ∷ []) (js ++ j ∷ [])
one_more needs [] [] g j all d = (d, tt)
one_more needs [] (k ∷ js) g j all d = absurd all
one_more needs (h ∷ gs) [] g j all d = absurd all
one_more needs (h ∷ gs) (k ∷ js) g j all d = (all.0, one_more needs gs js g j all.1 d)
