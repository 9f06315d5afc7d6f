-- Members of lists of numbers.
use Rattle.std.proofs.Common.{◌≡◌, ◌<◌, ◌≤◌, ◌++◌, ◌∷◌, [], ◌⊎◌, ℕ, zero, suc, Bool, true, false, List, length, get_or, take, eqb, inl, inr, refl, sym, subst, ◌∙◌, arith}
use Rattle.std.specs.Prelude.{◌≢◌, All, AllPairs, Contains}
use Rattle.std.proofs.lemmas.Bool.{cases_eq, cases_order}
use Rattle.std.proofs.lemmas.Bool.Decides.{Decides-eqb}
use Rattle.std.proofs.lemmas.List.{get_or_default, get_or-take, length-take, length_push}
use Rattle.std.specs.List.{list_any}
use Rattle.std.proofs.lemmas.List.Elements.{Contains-push, Contains-push_cases, Contains-append_left, Contains-append_right, Contains-append_cases, All-push}
use Rattle.std.proofs.lemmas.List.Quantifiers.{all_pairs_push}
use Rattle.std.proofs.lemmas.Map.Keys.{IsDistinct-from_apart}
use Rattle.std.proofs.lemmas.Map.Steps.{length-le_from_distinct_below}
use Rattle.std.proofs.lemmas.Map.Views.{Contains-from_any}

-- an empty list has no member
pub no_member : {X : Type 0} (y : X) → Contains [] y → ⊥
no_member y h = grind (arith, h)

-- a member of a list of one
pub only_member : {X : Type 0} (x y : X) → Contains (x ∷ []) y → x ≡ y
only_member x y there = elim (Contains-push_cases [] x y there) [ inl none ↦ absurd (no_member y none) | inr same ↦ same ]

-- the first element, or one of the others
pub member_cases : {X : Type 0} (x : X) (xs : List X) (y : X) → Contains (x ∷ xs) y → (x ≡ y) ⊎ Contains xs y
member_cases x xs y there = elim (Contains-append_cases (x ∷ []) xs y there) [ inl first ↦ inl (only_member x y first) | inr later ↦ inr later ]

-- the first element
pub member_first : {X : Type 0} (x : X) (xs : List X) → Contains (x ∷ xs) x
member_first x xs = Contains-append_left (x ∷ []) xs x (Contains-push [] x)

-- one of the others
pub member_later : {X : Type 0} (x : X) (xs : List X) (y : X) → Contains xs y → Contains (x ∷ xs) y
member_later x xs y there = Contains-append_right (x ∷ []) xs y there

-- the element at a place is a member
pub member_at : (xs : List ℕ) (i x : ℕ) → i < length xs → get_or xs i 0 ≡ x → Contains xs x
member_at xs i x within is = (i, within, get_or_default xs i x 0 within ∙ is)

-- a member has a place
pub place_of : (xs : List ℕ) (x : ℕ) → Contains xs x → (i : ℕ) × (i < length xs) × (get_or xs i 0 ≡ x)
place_of xs x (i, within, is) = (i, within, get_or_default xs i 0 x within ∙ is)

-- a number is in a list or not
pub member_or_not : (xs : List ℕ) (x : ℕ) → Contains xs x ⊎ (¬ (Contains xs x))
member_or_not [] x = inr (no_member x)
member_or_not (y ∷ ys) x = elim (cases_eq y x) [
  | inl same ↦ inl (subst (Contains (y ∷ ys)) same (member_first y ys))
  | inr differ ↦ elim (member_or_not ys x) [
    | inl there ↦ inl (member_later y ys x there)
    | inr out ↦ inr (λ there. elim (member_cases y ys x there) [ inl same ↦ differ same | inr later ↦ out later ])
  ]
]

-- of the elements of a list, all are in another, or some is not
pub all_or_not : (ts xs : List ℕ) → ((b : ℕ) → Contains ts b → Contains xs b) ⊎ ((b : ℕ) × Contains ts b × ¬ (Contains xs b))
all_or_not [] xs = inl (λ b there. absurd (no_member b there))
all_or_not (t ∷ ts) xs = elim (member_or_not xs t) [
  | inr out ↦ inr (t, member_first t ts, out)
  | inl first ↦ elim (all_or_not ts xs) [
    | inr later ↦ inr (later.0, member_later t ts later.0 later.1, later.2)
    | inl all ↦ inl (λ b there. elim (member_cases t ts b there) [ inl same ↦ subst (Contains xs) same first | inr later ↦ all b later ])
  ]
]

-- of the numbers below n, all are in a list, or some is not
pub all_below_or_not : (n : ℕ) (xs : List ℕ) → ((b : ℕ) → b < n → Contains xs b) ⊎ ((b : ℕ) × (b < n) × ¬ (Contains xs b))
all_below_or_not zero xs = inl (λ b low. absurd (omega (arith, low)))
all_below_or_not (suc n) xs = elim (member_or_not xs n) [
  | inr out ↦ inr (n, omega arith, out)
  | inl last ↦ elim (all_below_or_not n xs) [
    | inr lower ↦ inr (lower.0, (let low : lower.0 < n = lower.1 in omega arith), lower.2)
    | inl all ↦ inl (λ b low. elim (cases_eq b n) [ inl same ↦ subst (Contains xs) (sym same) last | inr differ ↦ all b (omega (arith, low, differ)) ])
  ]
]

-- one element more, which no other is equal to
pub distinct_push : (xs : List ℕ) (x : ℕ) → AllPairs (λ a b. a ≢ b) xs → ¬ (Contains xs x) → AllPairs (λ a b. a ≢ b) (xs ++ x ∷ [])
distinct_push xs x once out = all_pairs_push (λ a b. a ≢ b) xs x once (λ k d within is. out (k, within, get_or_default xs k x d within ∙ is))

-- in a list of different numbers each has one place
pub same_place : (xs : List ℕ) (i j : ℕ) → AllPairs (λ a b. a ≢ b) xs → i < length xs → j < length xs → get_or xs i 0 ≡ get_or xs j 0 → i ≡ j
same_place xs i j once one other same = elim (cases_order i j) [
  | inl is ↦ is
  | inr (inl before) ↦ absurd (once i j 0 before other same)
  | inr (inr after) ↦ absurd (once j i 0 after one (sym same))
]

-- a member of the first part of a list has a place there
pub place_in_take : (k : ℕ) (xs : List ℕ) (x : ℕ) → k ≤ length xs → Contains (take k xs) x → (i : ℕ) × (i < k) × (get_or xs i 0 ≡ x)
place_in_take k xs x within there =
    let at = place_of (take k xs) x there in
    let low : at.0 < k = grind (arith, at.1, length-take) in
    (at.0, low, sym (get_or-take k xs at.0 0 low) ∙ at.2)

-- different numbers below n are at most n
pub numbers_few : (n : ℕ) (xs : List ℕ) → All (λ a. a < n) xs → AllPairs (λ a b. a ≢ b) xs → length xs ≤ n
numbers_few n xs low once = length-le_from_distinct_below xs n (IsDistinct-from_apart eqb xs differ) below
  where
    not_true : (b : Bool) → ¬ (b ≡ true) → b ≡ false
    not_true true h = absurd (h refl)
    not_true false h = refl

    differ : (i j d : ℕ) → i < j → j < length xs → eqb (get_or xs i d) (get_or xs j d) ≡ false
    differ i j d before within = not_true _ (λ same. once i j d before within ((Decides-eqb (get_or xs i d) (get_or xs j d)).0 same))

    below : (q : ℕ) → list_any (eqb q) xs ≡ true → q < n
    below q there =
        let at = Contains-from_any (λ x y. (Decides-eqb x y).0) q xs there in
        subst (λ (m : ℕ). m < n) at.2 (low at.0 q at.1)

-- one number more, which is another one, makes too many
pub one_more_few : (n : ℕ) (xs : List ℕ) (x : ℕ) → All (λ a. a < n) xs → AllPairs (λ a b. a ≢ b) xs → x < n → ¬ (Contains xs x) → length xs < n
one_more_few n xs x low once below out =
    let few = numbers_few n (xs ++ x ∷ []) (All-push (λ a. a < n) xs x low below) (distinct_push xs x once out) in
    omega (arith, length_push xs x, few)
