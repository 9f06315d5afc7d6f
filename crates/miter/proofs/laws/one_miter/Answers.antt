use Rattle.miter.proofs.OneMiter.{same_miters}
use Rattle.miter.proofs.laws.one_miter.Goals as goal

pub returns : goal.returns
returns c = λ a b m n x y. same_miters a b m n x.0 y.0 x.1 x.2 x.3 y.1 y.2 y.3 x.4 y.4
