use Rattle.lll_core.proofs.EquationLemmas.{IsWritten}
use Rattle.lll_core.proofs.evaluation.eval_into.Given as goal

abbrev pub invariant-loop-number : goal.invariant-loop-number
invariant-loop-number l = IsWritten l.first l.before l.inputs l.lll.signals l.number l.taken l.now
