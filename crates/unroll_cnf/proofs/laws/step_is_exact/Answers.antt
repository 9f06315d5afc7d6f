use Rattle.unroll_cnf.proofs.Exact.{step_exact}
use Rattle.unroll_cnf.proofs.laws.step_is_exact.Goals as goal

pub returns : goal.returns
returns c = λ l p n within. step_exact l p within n
