use Rattle.std.proofs.Common.{arith}
use Rattle.rup_checker.proofs.Pieces.{length-pieces}
use Rattle.rup_checker.proofs.store.Store.len.Goals as goal

pub returns-clause-value : goal.returns-clause-value
returns-clause-value c = grind (arith, length-pieces, c.self.view_is, c.len.ensures)
