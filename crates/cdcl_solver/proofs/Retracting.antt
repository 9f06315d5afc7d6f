-- Literals taken from the end of a trail.
use Rattle.std.proofs.Common.{◌≡◌, ◌≢◌, ◌+◌, ◌<◌, ◌≤◌, ◌++◌, ◌∷◌, [], inl, inr, ℕ, List, refl, sym, ap, subst, ◌∙◌, length, get_or, take, Bool, arith}
use Rattle.std.specs.Prelude.{ℤ, neg_ℤ, Contains, ◌↔◌}
use Rattle.std.proofs.Math.IntN.{ℤ_discrete}
use Rattle.std.proofs.lemmas.List.{length_push, length-take, take_at, take-take, get_or_push, get_or-take}
use Rattle.std.proofs.lemmas.List.Elements.{Contains-append_left, Contains-push_cases}
use Rattle.rup_checker.specs.Formulas.{IsLiteral}
use Rattle.cdcl_solver.specs.declared.trail.Assigned.{Assigned}
use Rattle.cdcl_solver.specs.Literals.{Marking, IsMarked, Marks}
use Rattle.cdcl_solver.specs.Watches.{Lists}
use Rattle.cdcl_solver.specs.Trails.{falses, IsTrail}
use Rattle.cdcl_solver.specs.Searches.{Searched}
use Rattle.cdcl_solver.proofs.Asserting.{nothing}
use Rattle.cdcl_solver.proofs.TrailParts.{falses_push}

module _ (n : ℕ) (clauses : List (List ℤ)) (all xs ys : List Assigned) (a : Assigned) (t : IsTrail n clauses all) (rest : xs ≡ take (length xs) all) (split : xs ≡ ys ++ a ∷ []) where
  size : length xs ≡ length ys + 1
  size = ap length split ∙ length_push ys a

  pub still_front : ys ≡ take (length ys) all
  still_front =
      sym (take_at ys (a ∷ []) (length ys) refl) ∙ ap (λ (ts : List Assigned). take (length ys) ts) (sym split ∙ rest)
      ∙ take-take (length ys) (length xs) all (omega (arith, size))

  inside : length xs ≤ length all
  inside = omega (arith, ap length rest, length-take (length xs) all)

  low : length ys < length all
  low = omega (arith, size, inside)

  is_last : get_or all (length ys) nothing ≡ a
  is_last = sym (get_or-take (length xs) all (length ys) nothing (omega (arith, size))) ∙ ap (λ (ts : List Assigned). get_or ts (length ys) nothing) (sym rest ∙ split)
      ∙ get_or_push ys a nothing (length ys) refl

  last_in_range : IsLiteral n a.literal
  last_in_range = subst (λ (b : Assigned). IsLiteral n b.literal) is_last (t (length ys) nothing low).in_range

  last_free : ¬ (Contains (falses ys) (neg_ℤ a.literal))
  last_free h = (t (length ys) nothing low).free.1
      (subst (λ (ts : List Assigned). Contains (falses ts) (neg_ℤ (get_or all (length ys) nothing).literal)) still_front
      (subst (λ (b : Assigned). Contains (falses ys) (neg_ℤ b.literal)) (sym is_last) h))

  pub range_of_last : IsLiteral n a.literal
  range_of_last = last_in_range

  pub still_marks : (old new : Marking) (opposite : ℤ) → opposite ≡ neg_ℤ a.literal → Marks old (falses xs) → new.variables ≡ old.variables → ¬ (IsMarked new opposite)
      → ((l : ℤ) → l ≢ opposite → IsMarked new l ↔ IsMarked old l) → Marks new (falses ys)
  still_marks old new opposite is marks same itself others l lit = elim (ℤ_discrete l opposite) [
    | yes e ↦ (
      (λ h. absurd (itself (subst (IsMarked new) e h))),
      (λ h. absurd (last_free (subst (Contains (falses ys)) (e ∙ is) h))),
    )
    | no ne ↦ (
      (λ h. elim (Contains-push_cases (falses ys) (neg_ℤ a.literal) l
          (subst (λ (ls : List ℤ). Contains ls l) (ap falses split ∙ falses_push ys a) ((marks l (subst (λ (k : ℕ). IsLiteral k l) same lit)).0 ((others l ne).0 h)))) [
            | inl there ↦ there
            | inr e ↦ absurd (ne (sym (is ∙ e)))
          ]),
      (λ h. (others l ne).1 ((marks l (subst (λ (k : ℕ). IsLiteral k l) same lit)).1
          (subst (λ (ls : List ℤ). Contains ls l) (sym (ap falses split ∙ falses_push ys a)) (Contains-append_left (falses ys) (neg_ℤ a.literal ∷ []) l h)))),
    )
  ]

-- a state with less on its trail, from its parts
pub retracted_is : (s : Searched) (n : ℕ) (clauses : List (List ℤ)) (lists : Lists) (trail : List Assigned) (started : Bool) (place : ℕ) → n ≡ s.variables → clauses ≡ s.clauses → lists ≡ s.lists
    → trail ≡ take place s.trail → started ≡ s.started
    → record { variables = n; clauses = clauses; lists = lists; trail = trail; followed = place; started = started } ≡ record s { trail = take place s.trail; followed = place }
retracted_is s n clauses lists trail started place p q r t u =
    λ i. record { variables = p i; clauses = q i; lists = r i; trail = t i; followed = place; started = u i }
