use Rattle.std.proofs.Common.{rules, ◌≡◌, ◌<◌, Bool, [], true, List, length, refl, sym, subst, arith}
use Rattle.std.specs.Prelude.{ℤ, All, Any}
use Rattle.std.proofs.lemmas.Bool.{false≢true}
use Rattle.std.proofs.lemmas.List.{take_all}
use Rattle.std.proofs.lemmas.List.Elements.{All-more}
use Rattle.std.proofs.lemmas.Option.{get_or_from_slice_get}
use Rattle.rup_checker.specs.Formulas.{truth, listed}
use Rattle.evidence.proofs.assignment.satisfies.Goals as goal

abbrev IsTrueClause : List Bool → List ℤ → Type 0
IsTrueClause values clause = Any (λ l. truth (listed values) l ≡ true) clause

pub returns-then-not-is_true : goal.returns-then-not-is_true
returns-then-not-is_true c = (
  λ no. absurd (false≢true no),
  λ all.
      let clauses = c.args.formula.now.clauses in
      let i = c.loop-number.number in
      let within : i < length clauses = omega (arith, c.loop-number-test.true, c.len-number-end.ensures.value) in
      let here = subst (IsTrueClause c.args.values.now) (get_or_from_slice_get clauses i c.clause.result.now [] c.clause.ensures.value) (all i [] within) in
      let yes : c.is_true.result ≡ true = c.is_true.ensures.1 here in
      absurd (search rules),
)

pub loop-number-preserved : goal.loop-number-preserved
loop-number-preserved c =
    let clauses = c.args.formula.now.clauses in
    let i = c.loop-number.number in
    let within : i < length clauses = omega (arith, c.loop-number-test.true, c.len-number-end.ensures.value) in
    let yes : c.is_true.result ≡ true = search rules in
    All-more (IsTrueClause c.args.values.now) clauses i [] within c.loop-number.invariant
    (subst (IsTrueClause c.args.values.now) (sym (get_or_from_slice_get clauses i c.clause.result.now [] c.clause.ensures.value)) (c.is_true.ensures.0 yes))

pub returns : goal.returns
returns c = (
  λ yes. subst (λ (cs : List (List ℤ)). All (IsTrueClause c.args.values.now) cs) (take_all c.loop-number.number c.args.formula.now.clauses (omega (arith, c.loop-number-test.false, c.len-number-end.ensures.value))) c.loop-number.invariant,
  λ all. refl,
)
