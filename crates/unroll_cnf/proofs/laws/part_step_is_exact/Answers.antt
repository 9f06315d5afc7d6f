use Rattle.unroll_cnf.proofs.Exact.{part_step_exact}
use Rattle.unroll_cnf.proofs.laws.part_step_is_exact.Goals as goal

pub returns : goal.returns
returns c = λ m i within. part_step_exact m i within
