use Rattle.std.proofs.Common.{ℕ, ◌<◌}
use Rattle.std.specs.Prelude.{Bool}
use Rattle.rup_checker.specs.Formulas.{IsUnsatisfiable}
use Rattle.kinduction.specs.Parts.{part_formula}
use Rattle.kinduction_tests.proofs.fitting.is_never_different.Given as goal

abbrev pub invariant-loop-part : goal.invariant-loop-part
invariant-loop-part l = (i : ℕ) → i < l.part → (stepping : Bool) → IsUnsatisfiable (part_formula l.m i stepping)
