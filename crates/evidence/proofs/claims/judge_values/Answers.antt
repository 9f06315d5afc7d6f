use Rattle.std.proofs.Common.{◌≡◌, true, refl, sym, subst}
use Rattle.rup_checker.specs.Formulas.{Cnf, Satisfies, listed}
use Rattle.evidence.proofs.claims.judge_values.Goals as goal

pub returns-then-satisfies : goal.returns-then-satisfies
returns-then-satisfies c = subst (λ (f : Cnf). Satisfies (listed c.args.values.now) f.clauses) c.in_ok-formula.ensures (c.satisfies.ensures.0 c.if-satisfies.true)

pub returns : goal.returns
returns c = (
  refl,
  refl,
  λ all.
      let yes : c.satisfies.result ≡ true = c.satisfies.ensures.1 (subst (λ (f : Cnf). Satisfies (listed c.args.values.now) f.clauses) (sym c.in_ok-formula.ensures) all) in
      cc,
)
