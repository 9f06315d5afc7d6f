-- Lists no two places of which have the same.
use Rattle.std.proofs.Common.{◌≡◌, ◌≢◌, ◌+◌, ◌<◌, ◌++◌, ◌∷◌, [], ◌⊎◌, inl, inr, ℕ, suc, List, refl, sym, ap, ◌∙◌, length, get_or, arith}
use Rattle.std.specs.Prelude.{Contains, swap}
use Rattle.std.specs.List.Sorted.{IsPermutation}
use Rattle.std.proofs.Math.Decide.{ℕ_discrete}
use Rattle.std.proofs.lemmas.List.{get_or_default, length_push, get_or_push, get_or_append_left}
use Rattle.std.proofs.lemmas.List.Edits.{swapped_from_swap, length-swap}
use Rattle.std.proofs.lemmas.List.Elements.{Contains-get_or}
use Rattle.std.proofs.lemmas.List.Sorted.{IsPermutation-keeps}
use Rattle.cdcl_solver.specs.Watches.{AreApart}

-- where the element that a place has after an exchange stood before
record StoodAt (i j k from : ℕ) : Type 0 where
  moved : ((k ≡ i) × (from ≡ j)) ⊎ (((k ≢ i) × (k ≡ j) × (from ≡ i)) ⊎ ((k ≢ i) × (k ≢ j) × (from ≡ k)))

stood_at : {X : Type 0} (xs : List X) (i j k : ℕ) (d : X) → i < length xs → j < length xs → k < length xs
    → (from : ℕ) × (from < length xs) × (get_or (swap xs i j) k d ≡ get_or xs from d) × StoodAt i j k from
stood_at xs i j k d low_i low_j low_k =
    let s = swapped_from_swap xs (swap xs i j) i j d low_i low_j refl in
    elim (ℕ_discrete k i) [
      | yes e ↦ (j, low_j, ap (λ (n : ℕ). get_or (swap xs i j) n d) e ∙ s.0, record { moved = inl (e, refl) })
      | no ne ↦ elim (ℕ_discrete k j) [
        | yes e ↦ (i, low_i, ap (λ (n : ℕ). get_or (swap xs i j) n d) e ∙ s.1, record { moved = inr (inl (ne, e, refl)) })
        | no nf ↦ (k, low_k, s.2 k ne nf, record { moved = inr (inr (ne, nf, refl)) })
      ]
    ]

stood_once : (i j k m from to : ℕ) → StoodAt i j k from → StoodAt i j m to → from ≡ to → k ≡ m
stood_once i j k m from to p q e = elim p.moved [
  | inl a ↦ elim q.moved [ inl b ↦ omega arith | inr (inl b) ↦ omega arith | inr (inr b) ↦ absurd (b.1 (omega arith)) ]
  | inr (inl a) ↦ elim q.moved [ inl b ↦ omega arith | inr (inl b) ↦ omega arith | inr (inr b) ↦ absurd (b.0 (omega arith)) ]
  | inr (inr a) ↦ elim q.moved [ inl b ↦ absurd (a.1 (omega arith)) | inr (inl b) ↦ absurd (a.0 (omega arith)) | inr (inr b) ↦ omega arith ]
]

pub apart_swap : {X Y : Type 0} (f : X → Y) (xs : List X) (i j : ℕ) → i < length xs → j < length xs → AreApart f xs → AreApart f (swap xs i j)
apart_swap f xs i j low_i low_j apart k m d low_k low_m same =
    let size = length-swap xs i j in
    let p = stood_at xs i j k d low_i low_j (omega (arith, size)) in
    let q = stood_at xs i j m d low_i low_j (omega (arith, size)) in
    stood_once i j k m p.0 q.0 p.3 q.3 (apart p.0 q.0 d p.1 q.1 (sym (ap f p.2) ∙ same ∙ ap f q.2))

pub apart_permuted : {X Y : Type 0} (f : X → Y) (xs ys : List X) → IsPermutation xs ys → AreApart f xs → AreApart f ys
apart_permuted f xs ys p apart = IsPermutation-keeps xs (AreApart f) apart (λ l i j low_i low_j h. apart_swap f l i j low_i low_j h) ys p

pub apart_tail : {X Y : Type 0} (f : X → Y) (x : X) (xs : List X) → AreApart f (x ∷ xs) → AreApart f xs
apart_tail f x xs apart k m d low_k low_m same = let e = apart (suc k) (suc m) d (omega (arith, low_k)) (omega (arith, low_m)) same in omega (arith, e)

-- the first element is none of the others
pub apart_head : {X Y : Type 0} (f : X → Y) (x y : X) (xs : List X) → AreApart f (x ∷ xs) → Contains xs y → f y ≢ f x
apart_head f x y xs apart there same =
    let e = apart (suc there.0) 0 y (omega (arith, there.1)) (omega arith) (ap f there.2 ∙ same) in omega (arith, e)

-- one more element
pub apart_push : {X Y : Type 0} (f : X → Y) (xs : List X) (x : X) → AreApart f xs → ((y : X) → Contains xs y → f y ≢ f x) → AreApart f (xs ++ x ∷ [])
apart_push f xs x apart other k m d low_k low_m same =
    elim (place k (length xs) (omega (arith, low_k, length_push xs x))) [
      | inl before ↦ elim (place m (length xs) (omega (arith, low_m, length_push xs x))) [
        | inl also ↦ apart k m d before also (sym (ap f (get_or_append_left xs (x ∷ []) d k before)) ∙ same ∙ ap f (get_or_append_left xs (x ∷ []) d m also))
        | inr last ↦ absurd (other (get_or xs k d) (Contains-get_or xs k d before)
            (sym (ap f (get_or_append_left xs (x ∷ []) d k before)) ∙ same ∙ ap f (get_or_push xs x d m (sym last))))
      ]
      | inr last ↦ elim (place m (length xs) (omega (arith, low_m, length_push xs x))) [
        | inl also ↦ absurd (other (get_or xs m d) (Contains-get_or xs m d also)
            (sym (ap f (get_or_append_left xs (x ∷ []) d m also)) ∙ sym same ∙ ap f (get_or_push xs x d k (sym last))))
        | inr too ↦ omega (arith, last, too)
      ]
    ]
  where
    place : (n k : ℕ) → n < k + 1 → (n < k) ⊎ (n ≡ k)
    place n k h = grind arith

-- an element that stands at a place stands at no other
pub apart_at : {X Y : Type 0} (f : X → Y) (xs : List X) (k : ℕ) (d x : X) → AreApart f xs → k < length xs → Contains xs x → f x ≡ f (get_or xs k d) → (there : Contains xs x) → there.0 ≡ k
apart_at f xs k d x apart low here same there = apart there.0 k d there.1 low (ap f (get_or_default xs there.0 d x there.1 ∙ there.2) ∙ same)
