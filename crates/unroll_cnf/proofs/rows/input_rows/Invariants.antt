use Rattle.std.proofs.Common.{◌≡◌, map}
use Rattle.lll_core.specs.Tables.{input_values}
use Rattle.rup_checker.specs.Formulas.{listed}
use Rattle.unroll_cnf.specs.Counterexamples.{shown}
use Rattle.unroll_cnf.proofs.rows.input_rows.Given as goal

abbrev pub invariant-loop-instant : goal.invariant-loop-instant
invariant-loop-instant l = l.rows ≡ map (input_values l.l.signals) (shown l.l.signals l.instant (listed l.values))
