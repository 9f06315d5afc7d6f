-- What is given part by part and branch by branch.
use Rattle.std.proofs.Common.{◌≡◌, ℕ, zero, suc, ◌+◌, ◌<◌, ◌≤◌, ◌==◌, true, false, List, [], ◌∷◌, ◌++◌, map, length, take, get_or, Some, None, refl, sym, ap, subst, ◌∙◌, arith}
use Rattle.std.specs.Prelude.{slice_get}
use Rattle.std.specs.List.{flat_map, zip}
use Rattle.std.proofs.lemmas.List.{take_all}
use Rattle.hll_meaning.specs.declared.fault.StaticKind.TheVariants as is
use Rattle.hll_meaning.specs.Kinds.{Kind}
use Rattle.hll_meaning.specs.Fitting.{is_scalar, parts}
use Rattle.hll_meaning.specs.Judging.{Fault, fault_if, Judged, each_fits, group_fits}
use Rattle.hll_expressions.specs.declared.faults.StaticFault.{StaticFault}
use Rattle.hll_expressions.specs.Answers.{IsFaultAt}
use Rattle.hll_expressions.proofs.Firsts.{none_more, first_at}

-- one element of a list that is made of another
pub mapped_at : {A B : Type 0} (f : A → B) (xs : List A) (i : ℕ) (x : A) → i < length xs → x ≡ get_or xs i x → (i < length (map f xs)) × (f x ≡ get_or (map f xs) i (f x))
mapped_at f [] i x lt is = absurd (omega arith)
mapped_at f (y ∷ xs) zero x lt is = (omega arith, ap f is)
mapped_at f (y ∷ xs) (suc i) x lt is = let p = mapped_at f xs i x (omega arith) is in (omega (arith, p.0), p.1)

-- each part with the kind that it is given to
abbrev pair_fits : Judged × Kind → List Fault
pair_fits p = p.0.fits p.1

each_pair : (js : List Judged) (ks : List Kind) → each_fits js ks ≡ flat_map pair_fits (zip js ks)
each_pair [] ks = refl
each_pair (j ∷ js) [] = refl
each_pair (j ∷ js) (k ∷ ks) = ap (λ fs. j.fits k ++ fs) (each_pair js ks)

pair_at : (js : List Judged) (ks : List Kind) (i : ℕ) (j : Judged) (k : Kind) → i < length js → j ≡ get_or js i j → slice_get ks i ≡ Some k → (i < length (zip js ks)) × ((j, k) ≡ get_or (zip js ks) i (j, k))
pair_at [] ks i j k lt is there = absurd (omega arith)
pair_at (h ∷ js) [] i j k lt is there = absurd (cc there)
pair_at (h ∷ js) (l ∷ ks) zero j k lt is there = let same : l ≡ k = cc there in (omega arith, (λ t. (is t, sym same t)))
pair_at (h ∷ js) (l ∷ ks) (suc i) j k lt is there = let p = pair_at js ks i j k (omega arith) is there in (omega (arith, p.0), p.1)

few_pairs : (js : List Judged) (ks : List Kind) (i : ℕ) → length js ≤ i → length (zip js ks) ≤ i
few_pairs [] ks i le = omega arith
few_pairs (j ∷ js) [] i le = omega arith
few_pairs (j ∷ js) (k ∷ ks) zero le = absurd (omega arith)
few_pairs (j ∷ js) (k ∷ ks) (suc i) le = let p = few_pairs js ks i (omega arith) in omega (arith, p)

no_pairs : (js : List Judged) (ks : List Kind) (i : ℕ) → slice_get ks i ≡ None → length (zip js ks) ≤ i
no_pairs [] ks i none = omega arith
no_pairs (j ∷ js) [] i none = omega arith
no_pairs (j ∷ js) (k ∷ ks) zero none = absurd (cc none)
no_pairs (j ∷ js) (k ∷ ks) (suc i) none = let p = no_pairs js ks i none in omega (arith, p)

-- the faults of the first parts
pub fitted : List Judged → List Kind → ℕ → List Fault
fitted js ks i = flat_map pair_fits (take i (zip js ks))

pub nothing_fitted : (js : List Judged) (ks : List Kind) → fitted js ks 0 ≡ []
unfolding fitted
nothing_fitted js ks = refl

pub parts_go_on : (js : List Judged) (ks : List Kind) (i : ℕ) (j : Judged) (k : Kind) → (i < length js) × (j ≡ get_or js i j) → slice_get ks i ≡ Some k → fitted js ks i ≡ [] → j.fits k ≡ [] → fitted js ks (i + 1) ≡ []
unfolding fitted
parts_go_on js ks i j k at there none here = let p = pair_at js ks i j k at.0 at.1 there in none_more pair_fits (zip js ks) i (j, k) p.0 p.1 none here

pub parts_fail : (js : List Judged) (ks : List Kind) (i : ℕ) (j : Judged) (k : Kind) (f : StaticFault) → (i < length js) × (j ≡ get_or js i j) → slice_get ks i ≡ Some k → fitted js ks i ≡ [] → IsFaultAt (j.fits k) f → IsFaultAt (each_fits js ks) f
unfolding fitted
parts_fail js ks i j k f at there none here =
    let p = pair_at js ks i j k at.0 at.1 there in
    subst (λ fs. IsFaultAt fs f) (sym (each_pair js ks)) (first_at pair_fits (zip js ks) i (j, k) f p.0 p.1 none here)

all_fit : (js : List Judged) (ks : List Kind) (i : ℕ) → length (zip js ks) ≤ i → fitted js ks i ≡ [] → each_fits js ks ≡ []
unfolding fitted
all_fit js ks i le none = each_pair js ks ∙ ap (flat_map pair_fits) (sym (take_all i (zip js ks) le)) ∙ none

pub parts_end : (js : List Judged) (ks : List Kind) (i : ℕ) → length js ≤ i → fitted js ks i ≡ [] → each_fits js ks ≡ []
parts_end js ks i le none = all_fit js ks i (few_pairs js ks i le) none

pub parts_run_out : (js : List Judged) (ks : List Kind) (i : ℕ) → slice_get ks i ≡ None → fitted js ks i ≡ [] → each_fits js ks ≡ []
parts_run_out js ks i gone none = all_fit js ks i (no_pairs js ks i gone) none

-- ---- groups

pub scalar_refused : (at : ℕ) (js : List Judged) (k : Kind) → is_scalar k ≡ true → group_fits at js k ≡ fault_if true is.Mismatch at
scalar_refused at js k h = rw h refl

pub length_refused : (at : ℕ) (js : List Judged) (k : Kind) → is_scalar k ≡ false → (length (parts k) == length js) ≡ false → group_fits at js k ≡ fault_if true is.Shape at
length_refused at js k h n = rw (h, n) refl

pub group_fitted : (at : ℕ) (js : List Judged) (k : Kind) → is_scalar k ≡ false → (length (parts k) == length js) ≡ true → group_fits at js k ≡ each_fits js (parts k)
group_fitted at js k h n = rw (h, n) refl
