-- The first fault of what is done step by step.
use Rattle.std.proofs.Common.{◌≡◌, ℕ, ◌+◌, ◌<◌, List, [], ◌∷◌, ◌++◌, fold, take, drop, length, get_or, Bool, Some, Result, Ok, Err, MatchResult, refl, sym, ap, subst, ◌∙◌}
use Rattle.std.proofs.lemmas.Grind.{flat_map-append}
use Rattle.std.proofs.lemmas.List.{take-append-drop}
use Rattle.std.proofs.lemmas.List.Sums.{fold-append, fold_more}
use Rattle.std.specs.Result.{IsErrAnd}
use Rattle.std.specs.List.{flat_map}
use Rattle.hll_meaning.specs.declared.fault.StaticKind.{StaticKind}
use Rattle.hll_meaning.specs.Judging.{Fault, fault_if}
use Rattle.hll_meaning.specs.StaticRules.{first_of}
use Rattle.hll_expressions.specs.declared.faults.StaticFault.{StaticFault}
use Rattle.hll_expressions.specs.declared.faults.StaticFault.TheVariants as answer
use Rattle.hll_expressions.specs.Answers.{IsFaultAt, IsJudged, RefusesIf}
use Rattle.hll_expressions.proofs.Firsts.{not_so}

-- so it is of the same faults
pub same_faults : (xs ys : List Fault) (f : StaticFault) → xs ≡ ys → IsFaultAt xs f → IsFaultAt ys f
same_faults xs ys f is h = subst (λ zs. IsFaultAt zs f) is h

pub same_judged : (xs ys : List Fault) (r : Result Unit StaticFault) → xs ≡ ys → IsJudged xs r → IsJudged ys r
same_judged xs ys r is h = subst (λ zs. IsJudged zs r) is h

-- behind none it is judged by what follows
pub judged_behind : (xs ys : List Fault) (r : Result Unit StaticFault) → xs ≡ [] → IsJudged ys r → IsJudged (xs ++ ys) r
judged_behind xs ys r none h = same_judged ys (xs ++ ys) r (ap (λ zs. zs ++ ys) (sym none)) h

-- a fault that is handed on
pub handed : {T : Type 0} (P : T → Type 0) (Q : StaticFault → Type 0) (r : Result T StaticFault) (f : StaticFault) → IsErrAnd r (λ e. e ≡ f) → Q f → MatchResult r P Q
handed P Q (Ok x) f h q = absurd h
handed P Q (Err e) f h q = subst Q (sym h) q

-- what is refused where it is wrong
pub refused : (b : Bool) (why : StaticKind) (at : ℕ) (r : Result Unit StaticFault) → RefusesIf b why at r → IsJudged (fault_if b why at) r
refused b why at (Ok u) h = not_so b why at h
refused b why at (Err f) h = h.1

-- the only fault is the first of all
pub only_first : (xs : List Fault) (x : Fault) (f : StaticFault) → first_of xs ≡ Some x → IsFaultAt (x ∷ []) f → IsFaultAt xs f
only_first xs x (answer.Fault why at) is h = is ∙ h
only_first xs x answer.Memory is h = tt

-- ---- step by step

-- one step further
pub step_more : {S X : Type 0} (step : S → X → S) (s : S) (xs : List X) (i : ℕ) (x : X) → i < length xs → x ≡ get_or xs i x → fold step s (take (i + 1) xs) ≡ step (fold step s (take i xs)) x
step_more step s xs i x h is = fold_more step s xs i x h ∙ ap (step (fold step s (take i xs))) (sym is)

module _ {S X : Type 0} (step : S → X → S) (faults : S → List Fault) (keeps : (s : S) (x : X) (f : StaticFault) → IsFaultAt (faults s) f → IsFaultAt (faults (step s x)) f) where
  -- the first fault so far stays the first
  pub stays_first : (s : S) (xs : List X) (f : StaticFault) → IsFaultAt (faults s) f → IsFaultAt (faults (fold step s xs)) f
  stays_first s [] f h = h
  stays_first s (x ∷ xs) f h = stays_first (step s x) xs f (keeps s x f h)

  -- the first fault of a step is the first of all
  pub first_of_step : (s : S) (xs : List X) (i : ℕ) (x : X) (f : StaticFault) → i < length xs → x ≡ get_or xs i x → IsFaultAt (faults (step (fold step s (take i xs)) x)) f → IsFaultAt (faults (fold step s xs)) f
  first_of_step s xs i x f h is here =
      let all : fold step s xs ≡ fold step (fold step s (take (i + 1) xs)) (drop (i + 1) xs) = ap (fold step s) (sym (take-append-drop (i + 1) xs)) ∙ fold-append step s (take (i + 1) xs) (drop (i + 1) xs) in
      subst (λ (t : S). IsFaultAt (faults t) f) (sym all) (stays_first (fold step s (take (i + 1) xs)) (drop (i + 1) xs) f (subst (λ (t : S). IsFaultAt (faults t) f) (sym (step_more step s xs i x h is)) here))

-- lists in a list, one after the other
pub fold_nested : {S X Y : Type 0} (step : S → Y → S) (parts : X → List Y) (s : S) (xs : List X) → fold step s (flat_map parts xs) ≡ fold (λ t x. fold step t (parts x)) s xs
fold_nested step parts s [] = refl
fold_nested step parts s (x ∷ xs) = fold-append step s (parts x) (flat_map parts xs) ∙ fold_nested step parts (fold step s (parts x)) xs

pub flat_map_nested : {X Y Z : Type 0} (f : Y → List Z) (parts : X → List Y) (xs : List X) → flat_map f (flat_map parts xs) ≡ flat_map (λ x. flat_map f (parts x)) xs
flat_map_nested f parts [] = refl
flat_map_nested f parts (x ∷ xs) = flat_map-append f (parts x) (flat_map parts xs) ∙ ap (λ zs. flat_map f (parts x) ++ zs) (flat_map_nested f parts xs)
