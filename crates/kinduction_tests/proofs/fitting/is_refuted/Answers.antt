use Rattle.std.proofs.Common.{◌≡◌, ◌∙◌, true, false, ap, sym, subst}
use Rattle.std.specs.Prelude.{Bool, ℕ, ◌<◌, List, length}
use Rattle.miter.specs.declared.parts.MiterLll.{MiterLll}
use Rattle.rup_checker.specs.declared.log.Step.{Step}
use Rattle.rup_checker.specs.Formulas.{Cnf, IsUnsatisfiable}
use Rattle.rup_checker.specs.Logs.{Accepts}
use Rattle.rup_checker.proofs.Soundness.{log_sound}
use Rattle.cdcl_solver.specs.declared.answer.Answer.{Answer}
use Rattle.cdcl_solver.specs.Answers.{Answers}
use Rattle.kinduction.specs.Parts.{part_formula}
use Rattle.kinduction.proofs.Ranges.{part_base_in_range, part_step_in_range}
use Rattle.kinduction_tests.proofs.fitting.is_refuted.Goals.{then-stepping+in_ok-formula, else-stepping+in_ok-formula-2}
use Rattle.kinduction_tests.proofs.fitting.is_refuted.Goals as goal

refuted : (m : MiterLll) (i : ℕ) → i < length m.parts → (stepping : Bool) (steps : List Step) → Accepts (part_formula m i stepping) steps → IsUnsatisfiable (part_formula m i stepping)
refuted m i lt true steps accepted = log_sound (part_formula m i true) steps (part_step_in_range m i lt) accepted
refuted m i lt false steps accepted = log_sound (part_formula m i false) steps (part_base_in_range m i lt) accepted

pub returns-in-Unsat : goal.returns-in-Unsat
returns-in-Unsat c =
    let refutation = subst (λ (a : Answer). Answers c.if-stepping.formula 1000000 a) c.in-Unsat.is c.in_ok-solve.ensures.answer in
    let same : c.if-stepping.formula ≡ part_formula c.args.m.now c.args.part c.args.stepping =
    elim c.if-stepping.branch [
      | then-stepping+in_ok-formula w ↦ w.formula-is ∙ w.in_ok-formula.ensures ∙ sym (ap (part_formula c.args.m.now c.args.part) w.if-stepping.true)
      | else-stepping+in_ok-formula-2 w ↦ w.formula-is ∙ w.in_ok-formula-2.ensures ∙ sym (ap (part_formula c.args.m.now c.args.part) w.if-stepping.false)
    ] in
    λ is. refuted c.args.m.now c.args.part c.requires.part c.args.stepping c.in-Unsat.field-0.steps (subst (λ (f : Cnf). Accepts f c.in-Unsat.field-0.steps) same refutation.accepted)
