-- The first of some faults, in lists one after the other.
pub use Rattle.hll_expressions.proofs.FirstFaults.{fault_front as before, fault_behind as behind, none_both, no_fault as not_so}
use Rattle.std.proofs.Common.{◌≡◌, ℕ, zero, suc, ◌+◌, ◌<◌, Bool, true, List, [], ◌∷◌, ◌++◌, take, length, get_or, refl, sym, ap, subst, ◌∙◌}
use Rattle.std.proofs.lemmas.Grind.{flat_map-append}
use Rattle.std.proofs.lemmas.List.{take_more}
use Rattle.std.specs.List.{flat_map}
use Rattle.hll_meaning.specs.declared.fault.StaticKind.{StaticKind}
use Rattle.hll_meaning.specs.Judging.{Fault, fault_if}
use Rattle.hll_expressions.specs.declared.faults.StaticFault.{StaticFault}
use Rattle.hll_expressions.specs.declared.faults.StaticFault.TheVariants as answer
use Rattle.hll_expressions.specs.Answers.{IsFaultAt}

-- want of memory is free
pub no_memory : (fs : List Fault) (f : StaticFault) → f ≡ answer.Memory → IsFaultAt fs f
no_memory fs f is = subst (IsFaultAt fs) (sym is) tt

-- what is so is a fault
pub so : (b : Bool) (why : StaticKind) (at : ℕ) → b ≡ true → IsFaultAt (fault_if b why at) (answer.Fault why at)
so b why at is = subst (λ x. IsFaultAt (fault_if x why at) (answer.Fault why at)) (sym is) refl

-- ---- one after the other

module _ {A : Type 0} (faults : A → List Fault) where
  taken : (xs : List A) (i : ℕ) (x : A) → i < length xs → x ≡ get_or xs i x → flat_map faults (take (i + 1) xs) ≡ flat_map faults (take i xs) ++ (faults x ++ [])
  taken xs i x h is = ap (flat_map faults) (take_more xs i x h) ∙ flat_map-append faults (take i xs) (get_or xs i x ∷ []) ∙ ap (λ (y : A). flat_map faults (take i xs) ++ (faults y ++ [])) (sym is)

  -- one that has no faults goes behind those that have none
  pub none_more : (xs : List A) (i : ℕ) (x : A) → i < length xs → x ≡ get_or xs i x → flat_map faults (take i xs) ≡ [] → faults x ≡ [] → flat_map faults (take (i + 1) xs) ≡ []
  none_more xs i x h is none here = taken xs i x h is ∙ none_both _ _ none (none_both _ _ here refl)

  -- the first fault of some of them is the first of all
  pub first_in : (xs : List A) (i : ℕ) (f : StaticFault) → IsFaultAt (flat_map faults (take i xs)) f → IsFaultAt (flat_map faults xs) f
  first_in xs zero answer.Memory h = tt
  first_in xs zero (answer.Fault why at) h = absurd (cc h)
  first_in [] (suc i) f h = h
  first_in (x ∷ xs) (suc i) f h = further (faults x) refl (first_in xs i f)
    where
      further : (fs : List Fault) → faults x ≡ fs → (IsFaultAt (flat_map faults (take i xs)) f → IsFaultAt (flat_map faults xs) f) → IsFaultAt (faults x ++ flat_map faults xs) f
      further [] is rest = behind (faults x) _ f is (rest (subst (λ fs. IsFaultAt (fs ++ flat_map faults (take i xs)) f) is h))
      further (y ∷ ys) is rest = subst (λ fs. IsFaultAt (fs ++ flat_map faults xs) f) (sym is) (same f (subst (λ fs. IsFaultAt (fs ++ flat_map faults (take i xs)) f) is h))
        where
          same : (f : StaticFault) → IsFaultAt (y ∷ (ys ++ flat_map faults (take i xs))) f → IsFaultAt (y ∷ (ys ++ flat_map faults xs)) f
          same answer.Memory k = tt
          same (answer.Fault why at) k = k

  -- the first fault behind those that have none is the first of all
  pub first_at : (xs : List A) (i : ℕ) (x : A) (f : StaticFault) → i < length xs → x ≡ get_or xs i x → flat_map faults (take i xs) ≡ [] → IsFaultAt (faults x) f → IsFaultAt (flat_map faults xs) f
  first_at xs i x f h is none here =
      first_in xs (i + 1) f (subst (λ fs. IsFaultAt fs f) (sym (taken xs i x h is)) (behind _ _ f none (before (faults x) [] f here)))
