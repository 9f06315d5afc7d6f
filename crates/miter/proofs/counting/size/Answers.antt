use Rattle.std.proofs.Common.{ap, length, arith}
use Rattle.lll_core.specs.Signals.{is_latch}
use Rattle.lll_core.proofs.RowLemmas.{count_where-le}
use Rattle.miter.proofs.counting.size.Goals as goal

pub overflow_add-result : goal.overflow_add-result
overflow_add-result c = omega (arith, ap length c.as_slice-signals.ensures, c.latch_count.ensures, count_where-le is_latch c.as_slice-signals.result.now, c.args.lll.now.is_lll.are_signals.few)

pub overflow_add-result-2 : goal.overflow_add-result-2
overflow_add-result-2 c = omega (arith, ap length c.as_slice-signals.ensures, c.latch_count.ensures, count_where-le is_latch c.as_slice-signals.result.now, c.args.lll.now.is_lll.are_signals.few, c.as_slice.type_inv, c.as_slice-2.type_inv)

pub returns-clause-small : goal.returns-clause-small
returns-clause-small c = omega (arith, ap length c.as_slice-signals.ensures, c.latch_count.ensures, count_where-le is_latch c.as_slice-signals.result.now, c.args.lll.now.is_lll.are_signals.few, c.as_slice.type_inv, c.as_slice-2.type_inv)
