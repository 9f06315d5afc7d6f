use Rattle.std.proofs.Common.{◌≡◌, ◌+◌, ◌<◌, ◌≤◌, ◌∙◌, ◌⊎◌, inl, inr, ℕ, List, [], refl, ap, sym, subst, length, get_or, arith, rules, pos, to_z, of_z, w32}
use Rattle.std.proofs.lemmas.List.{get_or_default}
use Rattle.rup_checker.specs.Formulas.{IsLiteral}
use Rattle.cdcl_solver.specs.Literals.{IsMarked}
use Rattle.std.specs.Prelude.{ℤ, All, Contains}
use Rattle.rup_checker.specs.Stores.{clause_at}
use Rattle.cdcl_solver.specs.Trails.{falses}
use Rattle.cdcl_solver.specs.Searches.{Searched, taken}
use Rattle.cdcl_solver.proofs.States.{at_get}
use Rattle.cdcl_solver.proofs.search.Search.find_open.Goals as goal

pub returns-clause-none : goal.returns-clause-none
returns-clause-none c =
    let is = at_get c.self.inside.clauses.clauses c.args.number c.clause-clause.result.now [] c.clause-clause.ensures in
    subst (λ (s : Searched). (k : ℕ) (d : ℤ) → 2 ≤ k → k < length (clause_at s.clauses c.args.number) → Contains (taken s) (get_or (clause_at s.clauses c.args.number) k d)) c.self.view_is
    (subst (λ (xs : List ℤ). (k : ℕ) (d : ℤ) → 2 ≤ k → k < length xs → Contains (falses c.self.inside.trail) (get_or xs k d)) (sym is)
    (λ k d far low. c.loop-place.invariant k d far (omega (arith, low, c.loop-place-test.false))))

pub loop-place-preserved : goal.loop-place-preserved
loop-place-preserved c = λ k d far less. elim (place k c.loop-place.place less) [
  | inl before ↦ c.loop-place.invariant k d far before
  | inr last ↦
      let clause = c.clause-clause.result.now in
      let here : k < length c.clause-clause.result.now = omega (arith, last, c.loop-place-test.true) in
      let l : ℤ = get_or c.clause-clause.result.now c.loop-place.place (pos 0) in
      let same : to_z w32 (of_z w32 l) ≡ l = search rules in
      let is = at_get c.self.inside.clauses.clauses c.args.number clause [] c.clause-clause.ensures in
      let read : get_or c.clause-clause.result.now k d ≡ l = ap (λ (n : ℕ). get_or c.clause-clause.result.now n d) last ∙ get_or_default c.clause-clause.result.now c.loop-place.place d (pos 0) c.loop-place-test.true in
      let lit = subst (IsLiteral c.self.inside.falsified.variables) read
      (subst (λ (xs : List ℤ). All (IsLiteral c.self.inside.falsified.variables) xs) is (c.self.invariant.search.clauses.in_range c.args.number [] (subst (λ (t : Searched). c.args.number < length t.clauses) (sym c.self.view_is) c.requires)) k d here) in
      subst (Contains (falses c.self.inside.trail)) (sym read) ((c.self.invariant.marks l lit).0 (subst (IsMarked c.self.inside.falsified) same (c.if-not-contains.ensures.0 refl)))
]
  where
    place : (n k : ℕ) → n < k + 1 → (n < k) ⊎ (n ≡ k)
    place n k h = grind arith
