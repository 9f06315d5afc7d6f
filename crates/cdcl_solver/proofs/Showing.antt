-- What a whole walk shows: the step is accepted, and no mark is left.
use Rattle.std.proofs.Common.{◌≡◌, ◌<◌, ◌++◌, ◌∷◌, [], ◌⊎◌, inl, inr, ℕ, List, sym, subst, ◌∙◌, length, get_or, drop, reverse, arith}
use Rattle.std.specs.Prelude.{ℤ, Contains}
use Rattle.std.proofs.lemmas.List.{reverse-append}
use Rattle.rup_checker.specs.Steps.{Refutes}
use Rattle.cdcl_solver.specs.declared.analysis.Explained.{Explained}
use Rattle.cdcl_solver.specs.declared.analysis.Learnt.{Learnt}
use Rattle.cdcl_solver.specs.Literals.{Marking, IsClear}
use Rattle.cdcl_solver.specs.Watches.{AreApart}
use Rattle.cdcl_solver.specs.Searches.{Searched, taken, IsSearch}
use Rattle.cdcl_solver.specs.Explanations.{IsPicked, IsBack, IsWhole, IsShown}
use Rattle.cdcl_solver.proofs.Members.{none_in}
use Rattle.cdcl_solver.proofs.Derivations.{derives_more, derives_refutes}
use Rattle.cdcl_solver.proofs.TrailParts.{trail_consistent}

first_and_rest : (hints : List ℕ) → 0 < length hints → reverse hints ≡ reverse (drop 1 hints) ++ get_or hints 0 0 ∷ []
first_and_rest [] some = absurd (omega (arith, some))
first_and_rest (h ∷ hs) some = reverse-append (h ∷ []) hs

module _ (s : Searched) (search : IsSearch s) (e : Explained) (w : IsWhole s e) where
  -- no literal is marked after the walk
  pub is_clear : IsClear e.seen
  is_clear l lit marked = none_in l (w.explained.walked.marked l (lit, marked))

  refutes : Refutes s.clauses e.clause (reverse e.hints)
  refutes = subst (Refutes s.clauses e.clause) (sym (first_and_rest e.hints w.explained.walked.some))
      (derives_refutes s.clauses (taken s) e.clause (reverse (drop 1 e.hints)) (get_or e.hints 0 0) (trail_consistent s.variables s.clauses s.trail search.justified) (λ l here. (w.explained.walked.kept l here).0)
      (derives_more s.clauses (taken s) (λ l. Contains e.clause l ⊎ IsPicked e.seen l) (Contains e.clause) (reverse (drop 1 e.hints)) (get_or e.hints 0 0)
      (λ m d. elim d [ inl there ↦ there | inr picked ↦ absurd (none_in m (w.explained.walked.marked m picked)) ]) w.explained.walked.derives))

  pub shown : (hints : List ℕ) → hints ≡ reverse e.hints → IsShown s (record { step = record { clause = e.clause; hints = hints }; back = e.back })
  shown hints is = record {
    start = w.start;
    level = w.level;
    refuted = subst (Refutes s.clauses e.clause) (sym is) refutes;
    within = λ l here. (w.explained.walked.kept l here).0;
    apart = w.explained.walked.apart;
    none = w.explained.none;
    back = w.explained.back;
  }
