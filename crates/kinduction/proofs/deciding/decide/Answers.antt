use Rattle.std.proofs.Common.{ℕ, ◌+◌, List, ap, sym, subst, ◌∙◌, arith, map}
use Rattle.std.specs.Prelude.{Bool}
use Rattle.lll_core.specs.Tables.{input_values}
use Rattle.rup_checker.specs.Formulas.{listed}
use Rattle.cdcl_solver.specs.declared.answer.Answer.{Answer}
use Rattle.cdcl_solver.specs.Answers.{Answers, IsModel}
use Rattle.unroll_cnf.specs.Unrollings.{base_formula, step_formula}
use Rattle.unroll_cnf.specs.Counterexamples.{shown}
use Rattle.kinduction.specs.Rounds.{IsReached}
use Rattle.kinduction.proofs.Reaching.{base_pushed, step_satisfied, is_falsified}
use Rattle.kinduction.proofs.deciding.decide.Goals as goal

pub returns-in-Sat : goal.returns-in-Sat
returns-in-Sat c =
    let l = c.args.l.now in
    let n = c.loop-bases.instant in
    let model = subst (λ (a : Answer). Answers (base_formula l c.args.p n) c.args.budget a) c.in-Sat.is c.in_ok-values.ensures in
    let rows = c.in_ok-bits-in-Sat.ensures.rows ∙ ap (λ (values : List Bool). map (input_values l.signals) (shown l.signals (n + 1) (listed values))) c.deref.ensures.value in
    is_falsified l c.args.p c.args.budget c.args.depth n c.loop-bases.bases c.in-Sat.values.items c.in_ok-bits-in-Sat.bits c.requires.obligation c.loop-bases.invariant.below c.loop-bases.invariant.reached model rows

pub returns-then-round-depth : goal.returns-then-round-depth
returns-then-round-depth c =
    let l = c.args.l.now in
    let n = c.loop-bases.instant in
    let reached = base_pushed l c.args.p c.args.budget n (n + 1) c.loop-bases.bases c.push.new.self c.in-Unsat.log c.in_ok-values.field-0
    c.loop-bases.invariant.reached c.in_ok-values.ensures c.in-Unsat.is c.in_ok-push-in-Unsat.ensures.ok in
    let model = subst (λ (a : Answer). Answers (step_formula l c.args.p (n + 1)) c.args.budget a) c.in-Sat-2.is c.in_ok-values-2.ensures in
    record {
      reached = subst (λ (k : ℕ). IsReached l c.args.p c.args.budget k k c.push.new.self) c.if-round-depth.true reached;
      satisfied = subst (λ (k : ℕ). IsModel (step_formula l c.args.p k) c.from_vec-step_model.result) c.if-round-depth.true
          (subst (λ (values : List Bool). IsModel (step_formula l c.args.p (n + 1)) values) (sym c.from_vec-step_model.ensures) model);
    }

pub returns-in-Unsat-2 : goal.returns-in-Unsat-2
returns-in-Unsat-2 c =
    let l = c.args.l.now in
    let n = c.loop-bases.instant in
    record {
      some = omega arith;
      within = omega (arith, c.loop-bases.invariant.below);
      reached = base_pushed l c.args.p c.args.budget n (n + 1) c.loop-bases.bases c.push.new.self c.in-Unsat.log c.in_ok-values.field-0
          c.loop-bases.invariant.reached c.in_ok-values.ensures c.in-Unsat.is c.in_ok-push-in-Unsat.ensures.ok;
      refuted = subst (λ (a : Answer). Answers (step_formula l c.args.p (n + 1)) c.args.budget a) c.in-Unsat-2.is c.in_ok-values-2.ensures;
    }

pub returns-in-Spent-2 : goal.returns-in-Spent-2
returns-in-Spent-2 c =
    let l = c.args.l.now in
    let n = c.loop-bases.instant in
    record {
      some = omega arith;
      within = omega (arith, c.loop-bases.invariant.below);
      reached = base_pushed l c.args.p c.args.budget n (n + 1) c.loop-bases.bases c.push.new.self c.in-Unsat.log c.in_ok-values.field-0
          c.loop-bases.invariant.reached c.in_ok-values.ensures c.in-Unsat.is c.in_ok-push-in-Unsat.ensures.ok;
      spent = subst (λ (a : Answer). Answers (step_formula l c.args.p (n + 1)) c.args.budget a) c.in-Spent-2.is c.in_ok-values-2.ensures;
    }

pub loop-bases-preserved : goal.loop-bases-preserved
loop-bases-preserved c =
    let l = c.args.l.now in
    let n = c.loop-bases.instant in
    let reached = base_pushed l c.args.p c.args.budget n (n + 1) c.loop-bases.bases c.push.new.self c.in-Unsat.log c.in_ok-values.field-0
    c.loop-bases.invariant.reached c.in_ok-values.ensures c.in-Unsat.is c.in_ok-push-in-Unsat.ensures.ok in
    let model = subst (λ (a : Answer). Answers (step_formula l c.args.p (n + 1)) c.args.budget a) c.in-Sat-2.is c.in_ok-values-2.ensures in
    record {
      below = omega (arith, c.loop-bases.invariant.below, c.if-round-depth.false);
      reached = step_satisfied l c.args.p c.args.budget (n + 1) (n + 1) c.push.new.self c.in-Sat-2.values.items reached model;
    }
