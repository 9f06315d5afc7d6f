use Rattle.unroll_cnf.proofs.Exact.{base_exact}
use Rattle.unroll_cnf.proofs.laws.base_is_exact.Goals as goal

pub returns : goal.returns
returns c = λ l p n within. base_exact l p within n
