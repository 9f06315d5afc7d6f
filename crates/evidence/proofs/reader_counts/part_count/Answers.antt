use Rattle.std.proofs.Common.{ap, length, arith}
use Rattle.lll_core.specs.Signals.{is_latch}
use Rattle.lll_core.proofs.RowLemmas.{count_where-le}
use Rattle.evidence.proofs.reader_counts.part_count.Goals as goal

pub overflow_add-result : goal.overflow_add-result
overflow_add-result c = omega (arith, ap length c.as_slice-3.ensures, c.latch_count.ensures, count_where-le is_latch c.as_slice-3.result.now, c.args.model.now.is_lll.are_signals.few, c.as_slice.type_inv, c.as_slice-2.type_inv)

pub overflow_add-result-2 : goal.overflow_add-result-2
overflow_add-result-2 c = omega (arith, ap length c.as_slice-3.ensures, c.latch_count.ensures, count_where-le is_latch c.as_slice-3.result.now, c.args.model.now.is_lll.are_signals.few, c.as_slice.type_inv, c.as_slice-2.type_inv)

pub returns-clause-few : goal.returns-clause-few
returns-clause-few c = omega (arith, ap length c.as_slice-3.ensures, c.latch_count.ensures, count_where-le is_latch c.as_slice-3.result.now, c.args.model.now.is_lll.are_signals.few, c.as_slice.type_inv, c.as_slice-2.type_inv)
