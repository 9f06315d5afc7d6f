-- The state of a search after one more literal.
use Rattle.std.proofs.Common.{◌≡◌, ◌≢◌, ◌++◌, ◌∷◌, [], inl, inr, ℕ, zero, suc, List, sym, ap, subst, ◌∙◌, get_or, arith}
use Rattle.std.specs.Prelude.{ℤ, neg_ℤ, Contains, Option, Some, slice_get, ◌↔◌}
use Rattle.std.proofs.Math.IntN.{ℤ_discrete}
use Rattle.std.proofs.lemmas.List.{length_push, take-append-le}
use Rattle.std.proofs.lemmas.List.Elements.{All-contains, Contains-append_left, Contains-push, Contains-push_cases}
use Rattle.rup_checker.specs.Formulas.{IsLiteral}
use Rattle.rup_checker.specs.Stores.{clause_at}
use Rattle.cdcl_solver.specs.declared.trail.Assigned.{Assigned}
use Rattle.cdcl_solver.specs.declared.trail.Reason.{Reason}
use Rattle.cdcl_solver.specs.declared.trail.Reason.TheVariants as reason
use Rattle.cdcl_solver.specs.Literals.{Marking, IsMarked, Marks}
use Rattle.cdcl_solver.specs.Watches.{IsSafe}
use Rattle.cdcl_solver.specs.Trails.{falses, IsReason, IsJustified}
use Rattle.cdcl_solver.specs.Searches.{Searched, taken, followed_up, IsSearch, IsMarkedSearch, assigned, IsLast, IsConflict}
use Rattle.cdcl_solver.proofs.Members.{IsWithin, all_from_in}
use Rattle.cdcl_solver.proofs.Safety.{safe_later}
use Rattle.cdcl_solver.proofs.TrailParts.{falses_push, trail_push}

-- what is read at a place
pub at_get : {X : Type 0} (xs : List X) (k : ℕ) (x d : X) → slice_get xs k ≡ Some x → get_or xs k d ≡ x
at_get [] k x d e = cc
at_get {X} (y ∷ xs) zero x d e = some_same e
  where
    some_same : {x y : X} → ◌≡◌ {A = Option X} (Some x) (Some y) → x ≡ y
    some_same e = cc
at_get (y ∷ xs) (suc k) x d e = at_get xs k x d e

-- a state with one more literal, from its parts
pub assigned_is : (s : Searched) (n : ℕ) (trail : List Assigned) (a : Assigned) → n ≡ s.variables → trail ≡ s.trail ++ a ∷ []
    → record { variables = n; clauses = s.clauses; lists = s.lists; trail = trail; followed = s.followed; started = s.started } ≡ assigned s a
assigned_is s n trail a p q = λ i. record { variables = p i; clauses = s.clauses; lists = s.lists; trail = q i; followed = s.followed; started = s.started }

module _ (s : Searched) (a : Assigned) (search : IsSearch s) where
  pub taken_push : taken (assigned s a) ≡ taken s ++ neg_ℤ a.literal ∷ []
  taken_push = falses_push s.trail a

  pub more_taken : IsWithin (taken s) (taken (assigned s a))
  more_taken l h = subst (λ (ls : List ℤ). Contains ls l) (sym taken_push) (Contains-append_left (taken s) (neg_ℤ a.literal ∷ []) l h)

  pub same_followed : followed_up (assigned s a) ≡ followed_up s
  same_followed = ap falses (take-append-le s.followed s.trail (a ∷ []) search.within)

  pub assigned_marks : (old new : Marking) → Marks old (taken s) → new.variables ≡ old.variables → IsMarked new (neg_ℤ a.literal)
      → ((l : ℤ) → l ≢ neg_ℤ a.literal → IsMarked new l ↔ IsMarked old l) → Marks new (taken (assigned s a))
  assigned_marks old new marks same itself others l lit = (
    (λ h. subst (λ (ls : List ℤ). Contains ls l) (sym taken_push) (elim (ℤ_discrete l (neg_ℤ a.literal)) [
      | yes e ↦ subst (Contains (taken s ++ neg_ℤ a.literal ∷ [])) (sym e) (Contains-push (taken s) (neg_ℤ a.literal))
      | no ne ↦ Contains-append_left (taken s) (neg_ℤ a.literal ∷ []) l ((marks l (before lit)).0 ((others l ne).0 h))
    ])),
    (λ h. elim (ℤ_discrete l (neg_ℤ a.literal)) [
      | yes e ↦ subst (IsMarked new) (sym e) itself
      | no ne ↦ (others l ne).1 ((marks l (before lit)).1 (elim (Contains-push_cases (taken s) (neg_ℤ a.literal) l (subst (λ (ls : List ℤ). Contains ls l) taken_push h)) [
        | inl there ↦ there
        | inr e ↦ absurd (ne (sym e))
      ]))
    ]),
  )
    where
      before : IsLiteral new.variables l → IsLiteral old.variables l
      before lit = subst (λ (n : ℕ). IsLiteral n l) same lit

  module _ (why : IsJustified s.variables s.clauses (taken s) a) where
    pub assigned_search : IsSearch (assigned s a)
    assigned_search = record {
      few = search.few;
      count = search.count;
      clauses = search.clauses;
      lists = search.lists;
      watched = search.watched;
      justified = trail_push s.variables s.clauses s.trail search.justified a why;
      within = omega (arith, search.within, length_push s.trail a);
      safe = λ n low seen. subst (λ (ls : List ℤ). IsSafe ls (taken (assigned s a)) (clause_at s.clauses n)) (sym same_followed)
          (safe_later (followed_up s) (taken s) (taken (assigned s a)) (clause_at s.clauses n) more_taken (search.safe n low seen));
    }

    pub assigned_both : (old new : Marking) (n : ℕ) (trail : List Assigned) (opposite : ℤ) → Marks old (taken s) → new.variables ≡ old.variables → opposite ≡ neg_ℤ a.literal
        → IsMarked new opposite → ((l : ℤ) → l ≢ opposite → IsMarked new l ↔ IsMarked old l) → n ≡ s.variables → trail ≡ s.trail ++ a ∷ []
        → IsMarkedSearch (record { variables = n; clauses = s.clauses; lists = s.lists; trail = trail; followed = s.followed; started = s.started }) new
    assigned_both old new n trail opposite marks same is itself others p q = subst (λ (t : Searched). IsMarkedSearch t new) (sym (assigned_is s n trail a p q)) (record {
      search = assigned_search;
      marks = assigned_marks old new marks same (subst (IsMarked new) is itself) (λ l ne. others l (λ e. ne (e ∙ is)));
    })

  -- a clause that leaves one literal without a value justifies it
  pub last_justified : (number : ℕ) → IsLast s number a.literal → a.reason ≡ reason.Clause number → ¬ (Contains (taken s) a.literal) → ¬ (Contains (taken s) (neg_ℤ a.literal))
      → IsJustified s.variables s.clauses (taken s) a
  last_justified number last is free opposite = record {
    in_range = All-contains (IsLiteral s.variables) (clause_at s.clauses number) a.literal (search.clauses.in_range number [] last.there) last.stands;
    free = (free, opposite);
    reason = subst (λ (r : Reason). IsReason s.clauses (taken s) a.literal r) (sym is) (
      last.there,
      record {
        stands = last.stands;
        left = free;
        alone = λ m here out. elim (ℤ_discrete m a.literal) [
          | yes e ↦ e
          | no ne ↦ absurd (out (last.others m here ne))
        ];
      },
    );
  }

-- a clause whose one literal that may be left is false too
pub last_conflict : (s : Searched) (number : ℕ) (l : ℤ) → IsLast s number l → Contains (taken s) l → IsConflict s number
last_conflict s number l last here = record {
  there = last.there;
  false = all_from_in (Contains (taken s)) (clause_at s.clauses number) (λ m in_c. elim (ℤ_discrete m l) [
    | yes e ↦ subst (Contains (taken s)) (sym e) here
    | no ne ↦ last.others m in_c ne
  ]);
}
