use Rattle.unroll_cnf.proofs.Exact.{part_base_exact}
use Rattle.unroll_cnf.proofs.laws.part_base_is_exact.Goals as goal

pub returns : goal.returns
returns c = λ m i within. part_base_exact m i within
