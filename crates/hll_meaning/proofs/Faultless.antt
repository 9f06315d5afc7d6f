-- What follows where there are no faults.
use Rattle.std.proofs.Common.{◌≡◌, ℕ, Bool, true, false, not, ◌&&◌, ◌||◌, List, [], ◌∷◌, ◌++◌, refl}
use Rattle.hll_meaning.specs.declared.fault.StaticKind.{StaticKind}
use Rattle.hll_meaning.specs.Kinds.{Kind, truth, whole, element, array, struct}
use Rattle.hll_meaning.specs.Fitting.{is_truth, is_whole, ends_of}
use Rattle.hll_meaning.specs.Judging.{fault_if}

-- a list that is empty has empty parts
pub empty_parts : {A : Type 0} (xs ys : List A) → xs ++ ys ≡ [] → (xs ≡ []) × (ys ≡ [])
empty_parts [] ys h = (refl, h)
empty_parts (x ∷ xs) ys h = absurd (cc h)

pub first_empty : {A : Type 0} (xs ys : List A) → xs ++ ys ≡ [] → xs ≡ []
first_empty xs ys h = (empty_parts xs ys h).0

pub second_empty : {A : Type 0} (xs ys : List A) → xs ++ ys ≡ [] → ys ≡ []
second_empty xs ys h = (empty_parts xs ys h).1

-- where there is no fault, what would be one isn't so
pub not_so : (b : Bool) (why : StaticKind) (at : ℕ) → fault_if b why at ≡ [] → b ≡ false
not_so true why at h = absurd (cc h)
not_so false why at h = refl

pub must_be : (b : Bool) (why : StaticKind) (at : ℕ) → fault_if (not b) why at ≡ [] → b ≡ true
must_be true why at h = refl
must_be false why at h = absurd (cc h)

-- a truth value is a truth value, a whole number is one of its ends
pub a_truth : (k : Kind) → is_truth k ≡ true → k ≡ truth
a_truth truth h = refl
a_truth (whole e) h = absurd (cc h)
a_truth (element root e) h = absurd (cc h)
a_truth (array n k) h = absurd (cc h)
a_truth (struct name fields) h = absurd (cc h)

pub a_whole : (k : Kind) → is_whole k ≡ true → k ≡ whole (ends_of k)
a_whole truth h = absurd (cc h)
a_whole (whole e) h = refl
a_whole (element root e) h = absurd (cc h)
a_whole (array n k) h = absurd (cc h)
a_whole (struct name fields) h = absurd (cc h)

-- one of two is neither, where neither is so
pub neither : (a b : Bool) → (a || b) ≡ false → (a ≡ false) × (b ≡ false)
neither true b h = absurd (cc h)
neither false b h = (refl, h)

pub both : (a b : Bool) → (a && b) ≡ true → (a ≡ true) × (b ≡ true)
both true b h = (refl, h)
both false b h = absurd (cc h)
