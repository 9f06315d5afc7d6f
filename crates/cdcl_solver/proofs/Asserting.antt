-- A search that goes back before a decision, and one that learns a clause.
use Rattle.std.proofs.Common.{◌≡◌, ◌≢◌, ◌+◌, ◌<◌, ◌++◌, ◌∷◌, [], ◌⊎◌, inl, inr, ℕ, zero, suc, List, refl, sym, ap, subst, ◌∙◌, length, get_or, take, arith}
use Rattle.std.specs.Prelude.{ℤ, pos, neg_ℤ, All, Contains, ◌↔◌}
use Rattle.std.proofs.Math.IntN.{ℤ_discrete}
use Rattle.std.proofs.lemmas.List.{get_or_default, length_push, length-take-le, take_all, take-append-le}
use Rattle.std.proofs.lemmas.List.Elements.{All-push, Contains-get_or, Contains-append_left, Contains-push}
use Rattle.rup_checker.specs.Formulas.{IsLiteral}
use Rattle.rup_checker.specs.Steps.{IsUnit}
use Rattle.rup_checker.specs.Stores.{clause_at}
use Rattle.cdcl_solver.specs.declared.trail.Assigned.{Assigned}
use Rattle.cdcl_solver.specs.declared.trail.Reason.{Reason}
use Rattle.cdcl_solver.specs.declared.trail.Reason.TheVariants as reason
use Rattle.cdcl_solver.specs.Literals.{Marking, IsMarked, Marks}
use Rattle.cdcl_solver.specs.Watches.{Lists, listed, AreApart, AreWatched, IsSafe}
use Rattle.cdcl_solver.specs.Trails.{falses, IsReason, IsTrail}
use Rattle.cdcl_solver.specs.Searches.{Searched, taken, followed_up, IsSearch, IsMarkedSearch, IsSettled, IsAsserting}
use Rattle.cdcl_solver.proofs.Members.{IsWithin}
use Rattle.cdcl_solver.proofs.Attaching.{clause_before, clause_last_at}
use Rattle.cdcl_solver.proofs.Safety.{safe_later}
use Rattle.cdcl_solver.proofs.States.{assigned_marks}
use Rattle.cdcl_solver.proofs.TrailParts.{falses_push, falses_front, trail_front, trail_changed, trail_push}

abbrev pub nothing : Assigned
nothing = record { literal = pos 0; reason = reason.Decision }

-- propagation was complete before a decision
pub decision_safe : (clauses : List (List ℤ)) (taken : List ℤ) (l : ℤ) (r : Reason) → IsReason clauses taken l r → r ≡ reason.Decision → All (IsSafe taken taken) clauses
decision_safe clauses taken l r why is = subst (IsReason clauses taken l) is why

-- what stood before a decision is a search with nothing to follow up
pub backtracked : (s : Searched) (place : ℕ) → IsSearch s → place < length s.trail → (get_or s.trail place nothing).reason ≡ reason.Decision
    → IsSearch (record s { trail = take place s.trail; followed = place })
backtracked s place search low decided = record {
  few = search.few;
  count = search.count;
  clauses = search.clauses;
  lists = search.lists;
  watched = search.watched;
  justified = trail_front s.variables s.clauses s.trail search.justified place (omega (arith, low));
  within = omega (arith, length-take-le place s.trail (omega (arith, low)));
  safe = λ n below seen.
      subst (λ (ts : List Assigned). IsSafe (falses ts) (falses (take place s.trail)) (clause_at s.clauses n)) (sym (take_all place (take place s.trail) (omega (arith, length-take-le place s.trail (omega (arith, low))))))
      (decision_safe s.clauses (falses (take place s.trail)) _ _ (search.justified place nothing low).reason decided n [] below);
}

module _ (s : Searched) (clause : List ℤ) (search : IsSearch s) (settled : IsSettled s) (asks : IsAsserting s clause) where
  abbrev u : ℤ
  u = get_or clause 0 (pos 0)

  abbrev a : Assigned
  a = record { literal = u; reason = reason.Clause (length s.clauses) }

  abbrev after : List (List ℤ)
  after = s.clauses ++ clause ∷ []

  u_in : Contains clause u
  u_in = Contains-get_or clause 0 (pos 0) asks.some

  others_false : (m : ℤ) → Contains clause m → m ≢ u → Contains (taken s) m
  others_false m here ne = by_place here.0 here.1 here.2
    where
      by_place : (k : ℕ) → k < length clause → get_or clause k m ≡ m → Contains (taken s) m
      by_place zero low e = absurd (ne (sym e ∙ get_or_default clause 0 m (pos 0) asks.some))
      by_place (suc k) low e = subst (Contains (taken s)) e (asks.others (suc k) m (omega arith) low)

  asserting_unit : IsUnit (Contains (taken s)) clause u
  asserting_unit = record {
    stands = u_in;
    left = (asks.free (pos 0)).0;
    alone = λ m here out. elim (ℤ_discrete m u) [ yes e ↦ e | no ne ↦ absurd (out (others_false m here ne)) ];
  }

  -- before a decision the clause had two literals without a value
  open_before : (j : ℕ) (d : Assigned) → j < length s.trail → (get_or s.trail j d).reason ≡ reason.Decision → IsSafe (falses (take j s.trail)) (falses (take j s.trail)) clause
  open_before j d low decided = inr (record {
    long = (asks.second j d (pos 0) low decided).0;
    open_both = λ m w. elim w.first_two [
      | inl e ↦ (λ h. (asks.free m).0 (falses_front j s.trail (get_or clause 0 m) (subst (Contains (falses (take j s.trail))) (sym e) h)))
      | inr e ↦ (λ h. (asks.second j d m low decided).1 (subst (Contains (falses (take j s.trail))) (sym e) h))
    ];
  })

  reason_more : (j : ℕ) (d : Assigned) → j < length s.trail → (r : Reason) → (get_or s.trail j d).reason ≡ r → IsReason s.clauses (falses (take j s.trail)) (get_or s.trail j d).literal r
      → IsReason after (falses (take j s.trail)) (get_or s.trail j d).literal r
  reason_more j d low reason.Decision is why = All-push (IsSafe (falses (take j s.trail)) (falses (take j s.trail))) s.clauses clause why (open_before j d low is)
  reason_more j d low (reason.Clause k) is why = (
    omega (arith, why.0, length_push s.clauses clause),
    subst (λ (c : List ℤ). IsUnit (Contains (falses (take j s.trail))) c (get_or s.trail j d).literal) (sym (clause_before s.clauses clause k why.0)) why.1,
  )

  trail_after : IsTrail s.variables after (s.trail ++ a ∷ [])
  trail_after = trail_push s.variables after s.trail
      (trail_changed s.variables s.clauses s.trail search.justified after (λ j d low why. reason_more j d low (get_or s.trail j d).reason refl why))
      a (record {
        in_range = asks.in_range 0 (pos 0) asks.some;
        free = asks.free (pos 0);
        reason = (omega (arith, length_push s.clauses clause), subst (λ (c : List ℤ). IsUnit (Contains (taken s)) c u) (sym (clause_last_at s.clauses clause (length s.clauses) refl)) asserting_unit);
      })

  more_false : IsWithin (taken s) (falses (s.trail ++ a ∷ []))
  more_false m h = subst (λ (ls : List ℤ). Contains ls m) (sym (falses_push s.trail a)) (Contains-append_left (taken s) (neg_ℤ u ∷ []) m h)

  u_true : Contains (falses (s.trail ++ a ∷ [])) (neg_ℤ u)
  u_true = subst (λ (ls : List ℤ). Contains ls (neg_ℤ u)) (sym (falses_push s.trail a)) (Contains-push (taken s) (neg_ℤ u))

  module _ (room : length s.clauses + 1 < 4294967295) (lists : Lists) (same : lists.variables ≡ s.variables) (watched : AreWatched s.variables after (listed lists)) where
    abbrev next : Searched
    next = record { variables = s.variables; clauses = after; lists = lists; trail = s.trail ++ a ∷ []; followed = s.followed; started = s.started }

    safe_at : (n : ℕ) → (n < length s.clauses) ⊎ (n ≡ length s.clauses) → IsSafe (followed_up next) (taken next) (clause_at after n)
    safe_at n (inl low) = subst (IsSafe (followed_up next) (taken next)) (sym (clause_before s.clauses clause n low))
        (subst (λ (ls : List ℤ). IsSafe ls (taken next) (clause_at s.clauses n)) (sym (ap falses (take-append-le s.followed s.trail (a ∷ []) search.within)))
        (safe_later (followed_up s) (taken s) (taken next) (clause_at s.clauses n) more_false (search.safe n low (inl settled.started))))
    safe_at n (inr is) = subst (IsSafe (followed_up next) (taken next)) (sym (clause_last_at s.clauses clause n is))
        (inl (record { literal = u; stands = u_in; negated = u_true }))

    pub learnt_search : IsSearch next
    learnt_search = record {
      few = search.few;
      count = omega (arith, room, length_push s.clauses clause);
      clauses = record {
        in_range = All-push (All (IsLiteral s.variables)) s.clauses clause search.clauses.in_range asks.in_range;
        apart = All-push (AreApart (λ (l : ℤ). l)) s.clauses clause search.clauses.apart asks.apart;
      };
      lists = same;
      watched = watched;
      justified = trail_after;
      within = omega (arith, search.within, length_push s.trail a);
      safe = λ n low seen. safe_at n (order n (length s.clauses) (omega (arith, low, length_push s.clauses clause)));
    }
      where
        order : (a b : ℕ) → a < b + 1 → (a < b) ⊎ (a ≡ b)
        order a b h = grind arith

    -- the same, with the false literals marked
    pub learnt_both : (old new : Marking) (n : ℕ) (cs : List (List ℤ)) (trail : List Assigned) (literal : ℤ) (number : ℕ) (opposite : ℤ) → n ≡ s.variables → cs ≡ after
        → trail ≡ s.trail ++ record { literal = literal; reason = reason.Clause number } ∷ [] → literal ≡ u → number ≡ length s.clauses → opposite ≡ neg_ℤ u
        → Marks old (taken s) → new.variables ≡ old.variables → IsMarked new opposite → ((l : ℤ) → l ≢ opposite → IsMarked new l ↔ IsMarked old l)
        → IsMarkedSearch (record { variables = n; clauses = cs; lists = lists; trail = trail; followed = s.followed; started = s.started }) new
    learnt_both old new n cs trail literal number opposite p q r is_u is_number is marks variables itself others =
        subst (λ (t : Searched). IsMarkedSearch t new) (λ i. record {
          variables = sym p i;
          clauses = sym q i;
          lists = lists;
          trail = sym (r ∙ ap (λ (l : ℤ). s.trail ++ record { literal = l; reason = reason.Clause number } ∷ []) is_u
              ∙ ap (λ (k : ℕ). s.trail ++ record { literal = u; reason = reason.Clause k } ∷ []) is_number) i;
          followed = s.followed;
          started = s.started;
        }) (record {
          search = learnt_search;
          marks = assigned_marks s a search old new marks variables (subst (IsMarked new) is itself) (λ l ne. others l (λ e. ne (e ∙ is)));
        })
