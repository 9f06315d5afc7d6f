use Rattle.std.proofs.Common.{ℕ, true, false, rules, below_more}
use Rattle.std.specs.Prelude.{Bool}
use Rattle.miter.specs.declared.parts.MiterLll.{MiterLll}
use Rattle.rup_checker.specs.Formulas.{IsUnsatisfiable}
use Rattle.kinduction.specs.Parts.{part_formula}
use Rattle.kinduction_tests.proofs.fitting.is_never_different.Goals as goal

both : (m : MiterLll) (i : ℕ) → IsUnsatisfiable (part_formula m i false) → IsUnsatisfiable (part_formula m i true) → (stepping : Bool) → IsUnsatisfiable (part_formula m i stepping)
both m i base step true = step
both m i base step false = base

pub loop-part-preserved : goal.loop-part-preserved
loop-part-preserved c =
    let m = c.args.m.now in
    let n = c.loop-part.part in
    below_more (λ i. (stepping : Bool) → IsUnsatisfiable (part_formula m i stepping)) n c.loop-part.invariant
    (both m n (c.in_ok-is_refuted.ensures (search rules)) (c.in_ok-is_refuted-2.ensures (search rules)))
