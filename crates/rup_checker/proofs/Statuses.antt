-- How the literals of a clause that were seen so far stand to those that are taken false.
use Rattle.std.proofs.Common.{◌≡◌, ◌+◌, ◌<◌, ◌++◌, ◌∷◌, [], ℕ, List, length, take, drop, get_or, inl, inr, sym, subst, ◌∙◌, true≢false}
use Rattle.std.specs.Prelude.{ℤ, Bool, false, IsTrue, Option, Some, None, All, Contains}
use Rattle.std.proofs.lemmas.List.{take_more, take-append-drop}
use Rattle.std.proofs.lemmas.List.Elements.{All-push, All-contains, Contains-push, Contains-push_cases, Contains-append_left}
use Rattle.rup_checker.specs.Steps.{IsUnit}

-- the one literal that was left among those seen so far, if there was one
abbrev pub IsLeft : (ℤ → Type 0) → List ℤ → Option ℤ → Type 0
IsLeft Taken seen None = All Taken seen
IsLeft Taken seen (Some l) = IsUnit Taken seen l

-- a taken literal changes nothing
pub left-taken : (Taken : ℤ → Type 0) (seen : List ℤ) (left : Option ℤ) (x : ℤ) → IsLeft Taken seen left → Taken x → IsLeft Taken (seen ++ x ∷ []) left
left-taken Taken seen None x all t = All-push Taken seen x all t
left-taken Taken seen (Some l) x unit t = record {
  stands = Contains-append_left seen (x ∷ []) l unit.stands;
  left = unit.left;
  alone = λ m there free. elim (Contains-push_cases seen x m there) [ inl old ↦ unit.alone m old free | inr same ↦ absurd (free (subst Taken same t)) ];
}

-- the first literal that is left
pub left-first : (Taken : ℤ → Type 0) (seen : List ℤ) (x : ℤ) → All Taken seen → ¬ (Taken x) → IsUnit Taken (seen ++ x ∷ []) x
left-first Taken seen x all free = record {
  stands = Contains-push seen x;
  left = free;
  alone = λ m there free'. elim (Contains-push_cases seen x m there) [ inl old ↦ absurd (free' (All-contains Taken seen m all old)) | inr same ↦ sym same ];
}

-- the same literal once more
pub left-again : (Taken : ℤ → Type 0) (seen : List ℤ) (x : ℤ) → IsUnit Taken seen x → IsUnit Taken (seen ++ x ∷ []) x
left-again Taken seen x unit = record {
  stands = Contains-push seen x;
  left = unit.left;
  alone = λ m there free. elim (Contains-push_cases seen x m there) [ inl old ↦ unit.alone m old free | inr same ↦ sym same ];
}

-- the same, a literal further into the clause
pub next-taken : (Taken : ℤ → Type 0) (clause : List ℤ) (i : ℕ) (d : ℤ) (left : Option ℤ) → i < length clause → IsLeft Taken (take i clause) left → Taken (get_or clause i d) → IsLeft Taken (take (i + 1) clause) left
next-taken Taken clause i d left h is t = subst (λ (seen : List ℤ). IsLeft Taken seen left) (sym (take_more clause i d h)) (left-taken Taken (take i clause) left (get_or clause i d) is t)

-- the first literal that is left, further into the clause
pub next-first : (Taken : ℤ → Type 0) (clause : List ℤ) (i : ℕ) (d : ℤ) → i < length clause → All Taken (take i clause) → ¬ (Taken (get_or clause i d)) → IsUnit Taken (take (i + 1) clause) (get_or clause i d)
next-first Taken clause i d h is free = subst (λ (seen : List ℤ). IsUnit Taken seen (get_or clause i d)) (sym (take_more clause i d h)) (left-first Taken (take i clause) (get_or clause i d) is free)

-- the same literal once more, further into the clause
pub next-again : (Taken : ℤ → Type 0) (clause : List ℤ) (i : ℕ) (d l : ℤ) → i < length clause → IsUnit Taken (take i clause) l → get_or clause i d ≡ l → IsUnit Taken (take (i + 1) clause) l
next-again Taken clause i d l h is same = subst (λ (seen : List ℤ). IsUnit Taken seen l) (sym (take_more clause i d h)) (subst (λ (m : ℤ). IsUnit Taken (take i clause ++ m ∷ []) l) (sym same) (left-again Taken (take i clause) l is))

-- what is among the first elements is among all
pub Contains-take : {X : Type 0} (xs : List X) (i : ℕ) (x : X) → Contains (take i xs) x → Contains xs x
Contains-take {X} xs i x there = subst (λ (ys : List X). Contains ys x) (take-append-drop i xs) (Contains-append_left (take i xs) (drop i xs) x there)

-- a truth value is not both
pub false_alarm : (b : Bool) → IsTrue b → b ≡ false → ⊥
false_alarm b is is_not = true≢false (sym is ∙ is_not)
