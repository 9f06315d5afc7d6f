-- Members of lists, and sets of marks that grow and shrink by one literal.
use Rattle.std.proofs.Common.{◌≡◌, ◌+◌, ◌<◌, ◌++◌, ◌∷◌, [], ℕ, zero, suc, List, length, take, get_or, inl, inr, refl, sym, ap, subst, ◌∙◌, ◌-ℤ◌, pos, to_z, of_z, w32, SFits, arith}
use Rattle.std.specs.Prelude.{◌≢◌, ◌≤◌, ◌↔◌, ◌⊎◌, ℤ, neg_ℤ, negsuc, nat_abs, Option, Some, None, IsSomeAnd, Contains}
use Rattle.std.specs.Ordering.{int_eq}
use Rattle.std.proofs.Math.IntN.{neg_ℤ-neg_ℤ}
use Rattle.std.proofs.lemmas.Int.{to_z-of_z, ints}
use Rattle.std.proofs.lemmas.Bool.{cases_Bool}
use Rattle.std.proofs.lemmas.List.{take_more}
use Rattle.std.proofs.lemmas.Bool.Decides.{Decides-int_eq}
use Rattle.std.proofs.lemmas.List.Elements.{Contains-push, Contains-push_cases, Contains-append_left, Contains-append_right, Contains-append_cases}
use Rattle.rup_checker.specs.Formulas.{IsLiteral}
use Rattle.rup_checker.specs.Marks.{LiteralMarks, IsMarked, Marks}
use Rattle.rup_checker.proofs.Statuses.{false_alarm}

-- two numbers are equal or not
pub same_or_not : (x y : ℤ) → (x ≡ y) ⊎ (x ≢ y)
same_or_not x y =
    let d = Decides-int_eq x y in
    elim (cases_Bool (int_eq x y)) [ inl is ↦ inl (d.0 is) | inr is_not ↦ inr (λ e. false_alarm (int_eq x y) (d.1 e) is_not) ]

-- the value that has a property
pub value_of : {X : Type 0} (o : Option X) (P : X → Type 0) → IsSomeAnd o P → (x : X) × (o ≡ Some x) × P x
value_of None P h = absurd h
value_of (Some x) P h = (x, refl, h)

-- a value with a property
pub has_value : {X : Type 0} (o : Option X) (P : X → Type 0) (x : X) → o ≡ Some x → P x → IsSomeAnd o P
has_value {X} o P x is p = subst (λ (q : Option X). IsSomeAnd q P) (sym is) p

-- an empty list has no member
pub no_member : {X : Type 0} (y : X) → Contains [] y → ⊥
no_member y h = grind (arith, h)

-- a member of a list of one
pub only_member : {X : Type 0} (x y : X) → Contains (x ∷ []) y → x ≡ y
only_member x y there = elim (Contains-push_cases [] x y there) [ inl none ↦ absurd (no_member y none) | inr same ↦ same ]

-- the first element, or one of the others
pub member_cases : {X : Type 0} (x : X) (xs : List X) (y : X) → Contains (x ∷ xs) y → (x ≡ y) ⊎ Contains xs y
member_cases x xs y there = elim (Contains-append_cases (x ∷ []) xs y there) [ inl first ↦ inl (only_member x y first) | inr later ↦ inr later ]

-- the first element
pub member_first : {X : Type 0} (x : X) (xs : List X) → Contains (x ∷ xs) x
member_first x xs = Contains-append_left (x ∷ []) xs x (Contains-push [] x)

-- one of the others
pub member_later : {X : Type 0} (x : X) (xs : List X) (y : X) → Contains xs y → Contains (x ∷ xs) y
member_later x xs y there = Contains-append_right (x ∷ []) xs y there

-- a set of marks that has grown by one literal
pub record Inserts (old new : LiteralMarks) (x : ℤ) : Type 0 where
  pub variables : new.variables ≡ old.variables
  pub itself : IsMarked new x
  pub others : (l : ℤ) → IsLiteral old.variables l → l ≢ x → IsMarked new l ↔ IsMarked old l

-- then the list that it marks has grown by that literal
pub marks-insert : (old new : LiteralMarks) (x : ℤ) (list more : List ℤ) → Inserts old new x → ((l : ℤ) → Contains more l → Contains list l ⊎ (x ≡ l)) → ((l : ℤ) → Contains list l ⊎ (x ≡ l) → Contains more l) → Marks old list → Marks new more
marks-insert old new x list more inserts less grown marks l known = elim (same_or_not l x) [
  | inl e ↦ (λ _. grown l (inr (sym e)), λ _. subst (IsMarked new) (sym e) inserts.itself)
  | inr differs ↦ (λ marked. grown l (inl ((marks l old_known).0 ((inserts.others l old_known differs).0 marked))), λ there. elim (less l there) [ inl before ↦ (inserts.others l old_known differs).1 ((marks l old_known).1 before) | inr same ↦ absurd (differs (sym same)) ])
]
  where
    old_known : IsLiteral old.variables l
    old_known = subst (λ (n : ℕ). IsLiteral n l) inserts.variables known

-- marks of a list, with a literal more at its end
pub marks-push : (old new : LiteralMarks) (x : ℤ) (list : List ℤ) → Inserts old new x → Marks old list → Marks new (list ++ x ∷ [])
marks-push old new x list inserts marks =
    marks-insert old new x list (list ++ x ∷ []) inserts (λ l there. Contains-push_cases list x l there)
    (λ l h. elim h [ inl before ↦ Contains-append_left list (x ∷ []) l before | inr same ↦ subst (Contains (list ++ x ∷ [])) same (Contains-push list x) ]) marks

-- marks of a list, with a literal more at its front
pub marks-cons : (old new : LiteralMarks) (x : ℤ) (list : List ℤ) → Inserts old new x → Marks old list → Marks new (x ∷ list)
marks-cons old new x list inserts marks =
    marks-insert old new x list (x ∷ list) inserts (λ l there. elim (member_cases x list l there) [ inl same ↦ inr same | inr later ↦ inl later ])
    (λ l h. elim h [ inl before ↦ member_later x list l before | inr same ↦ subst (Contains (x ∷ list)) same (member_first x list) ]) marks

-- a set of marks that has lost one literal
pub record Removes (old new : LiteralMarks) (x : ℤ) : Type 0 where
  pub variables : new.variables ≡ old.variables
  pub itself : ¬ (IsMarked new x)
  pub others : (l : ℤ) → IsLiteral old.variables l → l ≢ x → IsMarked new l ↔ IsMarked old l

-- what is marked after a removal was marked before, and is another literal
pub left_after : (old new : LiteralMarks) (x l : ℤ) → Removes old new x → IsLiteral old.variables l → IsMarked new l → IsMarked old l × (x ≢ l)
left_after old new x l removes known marked = elim (same_or_not l x) [
  | inl e ↦ absurd (removes.itself (subst (IsMarked new) e marked))
  | inr differs ↦ ((removes.others l known differs).0 marked, λ e. differs (sym e))
]

-- a number and its negation's negation
pub negated : (x y : ℤ) → neg_ℤ x ≢ y → x ≢ neg_ℤ y
negated x y differs e = differs (ap neg_ℤ e ∙ neg_ℤ-neg_ℤ y)

-- an element more, which is another one
pub not_pushed : (xs : List ℤ) (i : ℕ) (d l : ℤ) → i < length xs → ¬ (Contains (take i xs) l) → get_or xs i d ≢ l → ¬ (Contains (take (i + 1) xs) l)
not_pushed xs i d l within before differs there = elim (Contains-push_cases (take i xs) (get_or xs i d) l (subst (λ (ys : List ℤ). Contains ys l) (take_more xs i d within) there)) [ inl old ↦ before old | inr same ↦ differs same ]

-- the negation of a number, as it is computed
pub negation_is : (x : ℤ) → SFits w32 x → SFits w32 (pos 0 -ℤ to_z w32 (of_z w32 x)) → to_z w32 (of_z w32 (pos 0 -ℤ to_z w32 (of_z w32 x))) ≡ neg_ℤ x
negation_is x fits fits_negated = to_z-of_z w32 (pos 0 -ℤ to_z w32 (of_z w32 x)) fits_negated ∙ ap (λ (z : ℤ). pos 0 -ℤ z) (to_z-of_z w32 x fits) ∙ minus x
  where
    minus : (x : ℤ) → pos 0 -ℤ x ≡ neg_ℤ x
    minus x = omega (arith, ints)

-- the negation of a literal is a literal
pub IsLiteral-negation : (n : ℕ) (l : ℤ) → IsLiteral n l → IsLiteral n (neg_ℤ l)
IsLiteral-negation n l known = record { some = subst (λ (a : ℕ). 1 ≤ a) (sym (size l)) known.some; known = subst (λ (a : ℕ). a ≤ n) (sym (size l)) known.known }
  where
    size : (l : ℤ) → nat_abs (neg_ℤ l) ≡ nat_abs l
    size (pos zero) = refl
    size (pos (suc n)) = refl
    size (negsuc n) = refl
