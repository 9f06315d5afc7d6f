use Rattle.std.proofs.Common.{rules}
use Rattle.rup_checker.proofs.OneAnswer.{none_outside}
use Rattle.rup_checker.proofs.formula.Formula.allows.Goals as goal

pub returns : goal.returns
returns c =
    let says = none_outside c.first_outside.result c.self.inside.variables c.args.clause.now c.first_outside.ensures in
    search (rules, says, c.is_none.ensures, c.self.view_is)
