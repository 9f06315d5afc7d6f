-- The clauses that a false literal watches, looked at one after the other.
use Rattle.std.proofs.Common.{◌≡◌, ◌≢◌, ◌+◌, ◌<◌, ◌≤◌, ◌++◌, ◌∷◌, [], ◌⊎◌, inl, inr, ℕ, List, refl, sym, ap, subst, ◌∙◌, length, get_or, take, arith, pos, false}
use Rattle.std.specs.Prelude.{ℤ, Any, Contains, None}
use Rattle.std.proofs.Math.Decide.{ℕ_discrete}
use Rattle.std.proofs.Math.IntN.{ℤ_discrete}
use Rattle.std.proofs.lemmas.List.{get_or_default, take_all, length-take, length-take-le, get_or-take}
use Rattle.rup_checker.specs.Formulas.{IsLiteral}
use Rattle.rup_checker.specs.Stores.{clause_at}
use Rattle.cdcl_solver.specs.declared.watches.Watch.{Watch}
use Rattle.cdcl_solver.specs.Watches.{listed, IsWatched, HasOpenPair, IsSafe}
use Rattle.cdcl_solver.specs.Searches.{Searched, taken, followed_up, IsSearch, IsVisited, IsFound, GoesOn, AreSafeAfter, number_at}
use Rattle.cdcl_solver.proofs.Safety.{safe_later}
use Rattle.cdcl_solver.proofs.Visiting.{goes_on_refl, goes_on_trans, goes_on_taken, goes_on_followed}
use Rattle.std.proofs.lemmas.List.Elements.{Contains-push_cases}

-- each clause is safe with the literal followed up, or has a watch among the first ones that are left
pub record IsFollowing (old s : Searched) (l : ℤ) (left : ℕ) : Type 0 where
  pub search : IsSearch s
  pub goes_on : GoesOn old s
  pub followed : s.followed ≡ old.followed
  pub started : s.started ≡ old.started
  pub in_range : IsLiteral s.variables l
  pub gone : Contains (taken s) l
  pub within : left ≤ length (listed s.lists l)
  pub safe : (n : ℕ) → n < length s.clauses → 2 ≤ length (clause_at s.clauses n) →
      IsSafe (followed_up s ++ l ∷ []) (taken s) (clause_at s.clauses n) ⊎ Any (λ (w : Watch). w.number ≡ n) (take left (listed s.lists l))

-- a literal that watches a clause has a watch of it, and a clause that it doesn't watch stays safe
pub following_starts : (s : Searched) (l : ℤ) → IsSearch s → IsLiteral s.variables l → Contains (taken s) l → IsFollowing s s l (length (listed s.lists l))
following_starts s l search lit gone = record {
  search = search;
  goes_on = goes_on_refl s;
  followed = refl;
  started = refl;
  in_range = lit;
  gone = gone;
  within = omega arith;
  safe = λ n low long. at_clause n long (search.safe n low (inr long));
}
  where
    open_after : (n : ℕ) → HasOpenPair (followed_up s) (clause_at s.clauses n) → ¬ (IsWatched (clause_at s.clauses n) l) → HasOpenPair (followed_up s ++ l ∷ []) (clause_at s.clauses n)
    open_after n h out = record {
      long = h.long;
      open_both = λ m w in'. elim (Contains-push_cases (followed_up s) l m in') [
        | inl before ↦ h.open_both m w before
        | inr is ↦ out (subst (IsWatched (clause_at s.clauses n)) (sym is) w)
      ];
    }

    listed_all : (n : ℕ) → Any (λ (w : Watch). w.number ≡ n) (listed s.lists l) → Any (λ (w : Watch). w.number ≡ n) (take (length (listed s.lists l)) (listed s.lists l))
    listed_all n h = subst (Any (λ (w : Watch). w.number ≡ n)) (sym (take_all (length (listed s.lists l)) (listed s.lists l) (omega arith))) h

    decide_watched : (n : ℕ) → 2 ≤ length (clause_at s.clauses n) → IsWatched (clause_at s.clauses n) l ⊎ ¬ (IsWatched (clause_at s.clauses n) l)
    decide_watched n long = elim (ℤ_discrete (get_or (clause_at s.clauses n) 0 l) l) [
      | yes e ↦ inl (record { long = long; first_two = inl e })
      | no ne ↦ elim (ℤ_discrete (get_or (clause_at s.clauses n) 1 l) l) [
        | yes f ↦ inl (record { long = long; first_two = inr f })
        | no nf ↦ inr (λ w. elim w.first_two [ inl a ↦ ne a | inr b ↦ nf b ])
      ]
    ]

    at_clause : (n : ℕ) → 2 ≤ length (clause_at s.clauses n) → IsSafe (followed_up s) (taken s) (clause_at s.clauses n)
        → IsSafe (followed_up s ++ l ∷ []) (taken s) (clause_at s.clauses n) ⊎ Any (λ (w : Watch). w.number ≡ n) (take (length (listed s.lists l)) (listed s.lists l))
    at_clause n long (inl h) = inl (inl h)
    at_clause n long (inr h) = elim (decide_watched n long) [
      | inl w ↦ inr (listed_all n (search.watched.stands n l lit w))
      | inr out ↦ inl (inr (open_after n h out))
    ]

-- one more watch was looked at
pub following_more : (old s t : Searched) (l : ℤ) (at : ℕ) → IsFollowing old s l (at + 1) → IsSearch t → IsVisited s t l at (number_at s l at) → IsFound t l (number_at s l at) None → IsFollowing old t l at
following_more old s t l at f search v found = record {
  search = search;
  goes_on = goes_on_trans old s t f.goes_on v.goes_on;
  followed = v.followed ∙ f.followed;
  started = v.started ∙ f.started;
  in_range = subst (λ (n : ℕ). IsLiteral n l) (sym v.goes_on.variables) f.in_range;
  gone = goes_on_taken s t v.goes_on l f.gone;
  within = front_long (omega (arith, length-take-le at (listed s.lists l) (omega (arith, f.within)), ap length v.front));
  safe = λ n low long. elim (ℕ_discrete n (number_at s l at)) [
    | yes e ↦ inl (subst (λ (k : ℕ). IsSafe (followed_up t ++ l ∷ []) (taken t) (clause_at t.clauses k)) (sym e) found)
    | no ne ↦ other n ne (f.safe n (omega (arith, low, v.goes_on.clauses.count)) (subst (λ (xs : List ℤ). 2 ≤ length xs) (v.others n ne) long))
  ];
}
  where
    front_long : length (take at (listed t.lists l)) ≡ at → at ≤ length (listed t.lists l)
    front_long e = omega (arith, e, length-take at (listed t.lists l))

    -- a watch of another clause is still left
    still_left : (n : ℕ) → n ≢ number_at s l at → Any (λ (w : Watch). w.number ≡ n) (take (at + 1) (listed s.lists l)) → Any (λ (w : Watch). w.number ≡ n) (take at (listed t.lists l))
    still_left n ne h =
        let all = length-take-le (at + 1) (listed s.lists l) f.within in
        let here : h.0 < at + 1 = omega (arith, h.2, all) in
        let read : get_or (listed s.lists l) h.0 h.1 ≡ h.1 = sym (get_or-take (at + 1) (listed s.lists l) h.0 h.1 here) ∙ h.3 in
        let before : h.0 < at = last h.0 h.1 here read h.4 in
        subst (Any (λ (w : Watch). w.number ≡ n)) (sym v.front)
        (h.0, h.1, omega (arith, before, length-take-le at (listed s.lists l) (omega (arith, f.within))), get_or-take at (listed s.lists l) h.0 h.1 before ∙ read, h.4)
      where
        order : (a b : ℕ) → a < b + 1 → (a < b) ⊎ (a ≡ b)
        order a b h = grind arith

        last : (k : ℕ) (w : Watch) → k < at + 1 → get_or (listed s.lists l) k w ≡ w → w.number ≡ n → k < at
        last k w low read is = elim (order k at low) [
          | inl less ↦ less
          | inr same ↦ absurd (ne (sym is ∙ ap (λ (v : Watch). v.number) (sym read ∙ ap (λ (j : ℕ). get_or (listed s.lists l) j w) same
              ∙ get_or_default (listed s.lists l) at w (record { number = 0; other = pos 0; binary = false }) (omega (arith, f.within)))))
        ]

    other : (n : ℕ) → n ≢ number_at s l at → IsSafe (followed_up s ++ l ∷ []) (taken s) (clause_at s.clauses n) ⊎ Any (λ (w : Watch). w.number ≡ n) (take (at + 1) (listed s.lists l))
        → IsSafe (followed_up t ++ l ∷ []) (taken t) (clause_at t.clauses n) ⊎ Any (λ (w : Watch). w.number ≡ n) (take at (listed t.lists l))
    other n ne (inl safe) = inl (subst (λ (ls : List ℤ). IsSafe (ls ++ l ∷ []) (taken t) (clause_at t.clauses n)) (sym (goes_on_followed s t f.search v.goes_on v.followed))
        (subst (IsSafe (followed_up s ++ l ∷ []) (taken t)) (sym (v.others n ne))
        (safe_later (followed_up s ++ l ∷ []) (taken s) (taken t) (clause_at s.clauses n) (goes_on_taken s t v.goes_on) safe)))
    other n ne (inr left) = inr (still_left n ne left)

-- none is left
pub following_ends : (old s : Searched) (l : ℤ) → IsFollowing old s l 0 → AreSafeAfter s l
following_ends old s l f n low long = elim (f.safe n low long) [
  | inl safe ↦ safe
  | inr left ↦ absurd (omega (arith, left.2, length-take-le 0 (listed s.lists l) (omega arith)))
]
