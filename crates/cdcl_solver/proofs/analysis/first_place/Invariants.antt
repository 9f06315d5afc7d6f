use Rattle.std.proofs.Common.{take}
use Rattle.std.specs.Prelude.{ℤ, Contains}
use Rattle.cdcl_solver.specs.Searches.{taken}
use Rattle.cdcl_solver.specs.Explanations.{IsSince}
use Rattle.cdcl_solver.proofs.analysis.first_place.Given as goal

abbrev pub invariant-loop-literal : goal.invariant-loop-literal
invariant-loop-literal l = (m : ℤ) → Contains (take l.literal-index l.clause) m → Contains (taken l.search) m → IsSince l.search l.start l.first m
