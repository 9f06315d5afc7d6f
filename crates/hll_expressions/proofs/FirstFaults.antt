-- The first of faults that stand one behind the other.
use Rattle.std.proofs.Common.{◌≡◌, ℕ, Bool, false, List, [], ◌∷◌, ◌++◌, sym, ap, subst}
use Rattle.hll_meaning.specs.Judging.{Fault, fault_if}
use Rattle.hll_meaning.specs.declared.fault.StaticKind.{StaticKind}
use Rattle.hll_expressions.specs.declared.faults.StaticFault.{StaticFault}
use Rattle.hll_expressions.specs.declared.faults.StaticFault.TheVariants as answer
use Rattle.hll_expressions.specs.Answers.{IsFaultAt}

-- the first of those in front is the first of all
pub fault_front : (xs ys : List Fault) (a : StaticFault) → IsFaultAt xs a → IsFaultAt (xs ++ ys) a
fault_front [] ys (answer.Fault why at) h = absurd (cc h)
fault_front [] ys answer.Memory h = tt
fault_front (x ∷ xs) ys (answer.Fault why at) h = h
fault_front (x ∷ xs) ys answer.Memory h = tt

-- where there are none in front, it is the first of those behind
pub fault_behind : (xs ys : List Fault) (a : StaticFault) → xs ≡ [] → IsFaultAt ys a → IsFaultAt (xs ++ ys) a
fault_behind xs ys a none h = subst (λ (zs : List Fault). IsFaultAt (zs ++ ys) a) (sym none) h

-- so it is of the same faults
pub fault_same : (xs ys : List Fault) (a : StaticFault) → xs ≡ ys → IsFaultAt xs a → IsFaultAt ys a
fault_same xs ys a same h = subst (λ (zs : List Fault). IsFaultAt zs a) same h

-- none in front and none behind are none
pub none_both : (xs ys : List Fault) → xs ≡ [] → ys ≡ [] → xs ++ ys ≡ []
none_both xs ys p q = (λ i. p i ++ q i)

-- what isn't so is no fault
pub no_fault : (b : Bool) (why : StaticKind) (at : ℕ) → b ≡ false → fault_if b why at ≡ []
no_fault b why at h = ap (λ (x : Bool). fault_if x why at) h
