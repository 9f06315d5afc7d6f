use Rattle.std.proofs.Common.{◌≡◌, take, length}
use Rattle.lll_core.specs.Tables.{values_where}
use Rattle.rup_checker.specs.Formulas.{listed}
use Rattle.unroll_cnf.specs.Counterexamples.{shown_at}
use Rattle.unroll_cnf.specs.Rows.{is_chosen}
use Rattle.unroll_cnf.proofs.rows.row.Given as goal

abbrev pub invariant-loop-number : goal.invariant-loop-number
invariant-loop-number l = l.bits ≡ values_where (is_chosen l.chosen) (take l.number l.signals) (take l.number (shown_at (length l.signals) (listed l.values) l.instant))
