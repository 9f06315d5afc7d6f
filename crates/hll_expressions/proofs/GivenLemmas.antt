-- What is known of expressions, as private parts answer it.
use Rattle.std.proofs.Common.{◌≡◌, ℕ, ℤ, ◌+◌, ◌<◌, ◌≤◌, ◌==◌, Bool, true, false, not, List, [], ◌∷◌, ◌++◌, map, length, take, get_or, Option, Result, refl, sym, ap, subst, ◌∙◌}
use Rattle.std.specs.List.{flat_map}
use Rattle.std.proofs.lemmas.List.{map-append, take_all, length-map}
use Rattle.std.proofs.lemmas.List.Folds.{flat_map-map}
use Rattle.hll_meaning.specs.declared.fault.StaticKind.TheVariants as is
use Rattle.hll_meaning.specs.declared.ty.FieldTy.{FieldTy}
use Rattle.hll_meaning.specs.declared.ty.Ty.{Ty, Struct}
use Rattle.hll_meaning.specs.Kinds.{Kind}
use Rattle.hll_meaning.specs.Types.{kind_of}
use Rattle.hll_meaning.specs.Fitting.{is_scalar, parts, group_of}
use Rattle.hll_meaning.specs.Judging.{Fault, fault_if, Judged, each_fits, group_fits, unfit, wants_scalar}
use Rattle.hll_meaning.proofs.KindForms.{field_kind}
use Rattle.hll_expressions.specs.declared.faults.StaticFault.{StaticFault}
use Rattle.hll_expressions.specs.declared.faults.StaticFault.TheVariants as answer
use Rattle.hll_expressions.specs.declared.given.Given.{Given, Whole, Group, Choice}
use Rattle.hll_expressions.specs.Answers.{IsFaultAt, IsJudged}
use Rattle.hll_expressions.specs.Described.{known}
use Rattle.hll_expressions.proofs.Firsts.{none_more, first_at}
use Rattle.hll_expressions.proofs.FitLemmas.{fitted, parts_end, scalar_refused, length_refused, group_fitted}
use Rattle.hll_expressions.proofs.Folds.{mapped_more}
use Rattle.hll_expressions.proofs.JoinLemmas.{nameless, fields_more, kind_gathered}
use Rattle.hll_expressions.proofs.KnownForms.{known_whole, known_group, known_choice}

-- ---- one cell

pub is_so : (b : Bool) → not b ≡ false → b ≡ true
is_so true h = refl
is_so false h = absurd (cc h)

pub isn't_so : (b : Bool) → not b ≡ true → b ≡ false
isn't_so true h = absurd (cc h)
isn't_so false h = refl

pub refused_cell : (j : Judged) (b : Bool) (at : ℕ) (f : StaticFault) → b ≡ is_scalar j.kind → at ≡ j.at → IsFaultAt (fault_if (not b) is.Mismatch at) f → IsFaultAt (wants_scalar j) f
refused_cell j b at f same here h = subst (λ fs. IsFaultAt fs f) (λ i. fault_if (not (same i)) is.Mismatch (here i)) h

pub no_cell : (j : Judged) (at : ℕ) (f : StaticFault) → is_scalar j.kind ≡ false → at ≡ j.at → f ≡ answer.Fault is.Mismatch at → IsFaultAt (wants_scalar j) f
no_cell j at f cell here answered = subst (IsFaultAt (wants_scalar j)) (sym answered) (subst (λ fs. IsFaultAt fs (answer.Fault is.Mismatch at)) (λ i. fault_if (not (sym cell i)) is.Mismatch (here i)) refl)

-- ---- what an expression may be given to

pub fits_whole : (g : Given) (at : ℕ) (t : Ty) (x : Option ℤ) (wanted : Kind) → g ≡ Whole at t x → (known g).fits wanted ≡ unfit at (kind_of t) wanted
fits_whole g at t x wanted is = ap (λ (h : Given). (known h).fits wanted) is ∙ ap (λ (j : Judged). j.fits wanted) (known_whole at t x)

pub fits_group : (g : Given) (at : ℕ) (gs : List Given) (wanted : Kind) → g ≡ Group at gs → (known g).fits wanted ≡ group_fits at (map known gs) wanted
fits_group g at gs wanted is = ap (λ (h : Given). (known h).fits wanted) is ∙ ap (λ (j : Judged). j.fits wanted) (known_group at gs)

pub fits_choice : (g : Given) (at : ℕ) (t : Ty) (gs : List Given) (wanted : Kind) → g ≡ Choice at t gs → (known g).fits wanted ≡ flat_map (λ j. j.fits wanted) (map known gs)
fits_choice g at t gs wanted is = ap (λ (h : Given). (known h).fits wanted) is ∙ ap (λ (j : Judged). j.fits wanted) (known_choice at t gs)

-- what is judged of equal faults is equal
pub judged_as : (fs gs : List Fault) (r : Result Unit StaticFault) → fs ≡ gs → IsJudged gs r → IsJudged fs r
judged_as fs gs r same h = subst (λ xs. IsJudged xs r) (sym same) h

-- a cell is wanted, and a group stands there
pub group_on_cell : (g : Given) (at : ℕ) (gs : List Given) (wanted : Kind) (b : Bool) (f : StaticFault) → g ≡ Group at gs → b ≡ is_scalar wanted → b ≡ true → IsFaultAt (fault_if b is.Mismatch at) f → IsFaultAt ((known g).fits wanted) f
group_on_cell g at gs wanted b f there same cell h =
    subst (λ fs. IsFaultAt fs f) (ap (λ x. fault_if x is.Mismatch at) cell ∙ sym (scalar_refused at (map known gs) wanted (sym same ∙ cell)) ∙ sym (fits_group g at gs wanted there)) h

-- lengths that are compared
compared : (n m : ℕ) (gs : List Given) (wanted : Kind) (b : Bool) → n ≡ length (parts wanted) → m ≡ length gs → (n == m) ≡ b → (length (parts wanted) == length (map known gs)) ≡ b
compared n m gs wanted b p q h = (λ i. sym p i == (length-map gs known ∙ sym q) i) ∙ h

-- a list of another length is wanted
pub group_of_other : (g : Given) (at : ℕ) (gs : List Given) (wanted : Kind) (b : Bool) (n m : ℕ) (f : StaticFault) → g ≡ Group at gs → b ≡ is_scalar wanted → b ≡ false → n ≡ length (parts wanted) → m ≡ length gs → not (n == m) ≡ true →
    IsFaultAt (fault_if (not (n == m)) is.Shape at) f → IsFaultAt ((known g).fits wanted) f
group_of_other g at gs wanted b n m f there same list p q other h =
    subst (λ fs. IsFaultAt fs f) (ap (λ x. fault_if x is.Shape at) other ∙ sym (length_refused at (map known gs) wanted (sym same ∙ list) (compared n m gs wanted false p q (isn't_so (n == m) other))) ∙ sym (fits_group g at gs wanted there)) h

-- one of as many parts
pub group_judged : (g : Given) (at : ℕ) (gs ss : List Given) (wanted : Kind) (b : Bool) (n m : ℕ) (r : Result Unit StaticFault) → g ≡ Group at gs → b ≡ is_scalar wanted → b ≡ false → n ≡ length (parts wanted) → m ≡ length gs → not (n == m) ≡ false → ss ≡ gs →
    IsJudged (each_fits (map known ss) (parts wanted)) r → IsJudged ((known g).fits wanted) r
group_judged g at gs ss wanted b n m r there same list p q even seen h =
    judged_as _ _ r (fits_group g at gs wanted there ∙ group_fitted at (map known gs) wanted (sym same ∙ list) (compared n m gs wanted true p q (is_so (n == m) even)) ∙ ap (λ xs. each_fits (map known xs) (parts wanted)) (sym seen)) h

pub choice_judged : (g : Given) (at : ℕ) (t : Ty) (gs ss : List Given) (wanted : Kind) (r : Result Unit StaticFault) → g ≡ Choice at t gs → ss ≡ gs → IsJudged (flat_map (λ j. j.fits wanted) (map known ss)) r → IsJudged ((known g).fits wanted) r
choice_judged g at t gs ss wanted r there seen h = judged_as _ _ r (fits_choice g at t gs wanted there ∙ ap (λ xs. flat_map (λ (j : Judged). j.fits wanted) (map known xs)) (sym seen)) h

-- ---- branches

pub branch_goes_on : (wanted : Kind) (gs : List Given) (i : ℕ) (g : Given) → i < length gs → g ≡ get_or gs i g → flat_map (λ g. (known g).fits wanted) (take i gs) ≡ [] → (known g).fits wanted ≡ [] → flat_map (λ g. (known g).fits wanted) (take (i + 1) gs) ≡ []
branch_goes_on wanted gs i g lt is none here = none_more (λ g. (known g).fits wanted) gs i g lt is none here

pub branch_refused : (wanted : Kind) (gs : List Given) (i : ℕ) (g : Given) (f : StaticFault) → i < length gs → g ≡ get_or gs i g → flat_map (λ g. (known g).fits wanted) (take i gs) ≡ [] → IsFaultAt ((known g).fits wanted) f →
    IsFaultAt (flat_map (λ j. j.fits wanted) (map known gs)) f
branch_refused wanted gs i g f lt is none h =
    subst (λ fs. IsFaultAt fs f) (sym (flat_map-map (λ (j : Judged). j.fits wanted) known gs)) (first_at (λ g. (known g).fits wanted) gs i g f lt is none h)

pub branches_end : (wanted : Kind) (gs : List Given) (i : ℕ) → length gs ≤ i → flat_map (λ g. (known g).fits wanted) (take i gs) ≡ [] → flat_map (λ j. j.fits wanted) (map known gs) ≡ []
branches_end wanted gs i le none = flat_map-map (λ (j : Judged). j.fits wanted) known gs ∙ ap (flat_map (λ g. (known g).fits wanted)) (sym (take_all i gs le)) ∙ none

-- ---- kinds

pub kind_whole : (g : Given) (at : ℕ) (t k : Ty) (x : Option ℤ) → g ≡ Whole at t x → k ≡ t → kind_of k ≡ (known g).kind
kind_whole g at t k x is same = ap kind_of same ∙ sym (ap (λ (h : Given). (known h).kind) is ∙ ap (λ (j : Judged). j.kind) (known_whole at t x))

pub kind_group : (g : Given) (at : ℕ) (gs : List Given) (k : Kind) → g ≡ Group at gs → k ≡ group_of (map (λ j. j.kind) (map known gs)) → k ≡ (known g).kind
kind_group g at gs k is same = same ∙ sym (ap (λ (h : Given). (known h).kind) is ∙ ap (λ (j : Judged). j.kind) (known_group at gs))

pub kind_choice : (g : Given) (at : ℕ) (t k : Ty) (gs : List Given) → g ≡ Choice at t gs → k ≡ t → kind_of k ≡ (known g).kind
kind_choice g at t k gs there same = ap kind_of same ∙ sym (ap (λ (h : Given). (known h).kind) there ∙ ap (λ (j : Judged). j.kind) (known_choice at t gs))

-- a field more
pub kinds_more : (fields all : List FieldTy) (gs : List Given) (i : ℕ) (g : Given) (f : FieldTy) → i < length gs → g ≡ get_or gs i g → map field_kind fields ≡ map nameless (map (λ j. j.kind) (map known (take i gs))) → all ≡ fields ++ f ∷ [] → f.name ≡ [] → kind_of f.ty ≡ (known g).kind →
    map field_kind all ≡ map nameless (map (λ j. j.kind) (map known (take (i + 1) gs)))
kinds_more fields all gs i g f lt there same more nameless_one here =
    ap (map field_kind) more ∙ fields_more fields (map (λ j. j.kind) (map known (take i gs))) f (known g).kind same nameless_one here ∙
    ap (map nameless) (sym (ap (map (λ (j : Judged). j.kind)) (mapped_more known gs i g lt there) ∙ map-append (λ (j : Judged). j.kind) (map known (take i gs)) (known g ∷ [])))

pub kinds_done : (name : List ℕ) (fields : List FieldTy) (gs : List Given) (i : ℕ) → name ≡ [] → length gs ≤ i → map field_kind fields ≡ map nameless (map (λ j. j.kind) (map known (take i gs))) → kind_of (Struct name fields) ≡ group_of (map (λ j. j.kind) (map known gs))
kinds_done name fields gs i empty le same = kind_gathered name fields (map (λ j. j.kind) (map known gs)) empty (same ∙ ap (λ (xs : List Given). map nameless (map (λ (j : Judged). j.kind) (map known xs))) (take_all i gs le))

-- all parts are given
pub parts_done : (gs : List Given) (ks : List Kind) (i : ℕ) → length gs ≤ i → fitted (map known gs) ks i ≡ [] → each_fits (map known gs) ks ≡ []
parts_done gs ks i le none = parts_end (map known gs) ks i (subst (λ n. n ≤ i) (sym (length-map gs known)) le) none
