use Rattle.std.proofs.Common.{◌≡◌, ◌+◌, ◌<◌, ◌⊎◌, inl, inr, ℕ, sym, ap, subst, arith, pos}
use Rattle.std.specs.Prelude.{neg_ℤ, Contains}
use Rattle.cdcl_solver.specs.Searches.{Searched, taken}
use Rattle.cdcl_solver.proofs.search.Search.unassigned.Goals as goal

pub loop-variable-preserved : goal.loop-variable-preserved
loop-variable-preserved c = λ v some less. elim (order v c.loop-variable.variable less) [
  | inl before ↦ c.loop-variable.invariant v some before
  | inr is ↦ subst (λ (n : ℕ). Contains (taken c.args.self.now) (pos n) ⊎ Contains (taken c.args.self.now) (neg_ℤ (pos n))) (sym is) (c.has_value.ensures.yes c.if-not-has_value.false)
]
  where
    order : (a b : ℕ) → a < b + 1 → (a < b) ⊎ (a ≡ b)
    order a b h = grind arith

pub returns-clause-none : goal.returns-clause-none
returns-clause-none c = λ v some le. c.loop-variable.invariant v some (omega (arith, le, c.loop-variable-test.false, c.variables-variables.ensures.value, ap (λ (s : Searched). s.variables) c.self.view_is))
