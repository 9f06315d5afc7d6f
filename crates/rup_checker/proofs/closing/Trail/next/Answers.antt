use Rattle.std.proofs.Common.{arith}
use Rattle.std.proofs.lemmas.Option.{slice_get_within}
use Rattle.rup_checker.proofs.Places.{literals_few}
use Rattle.rup_checker.proofs.closing.Trail.next.Goals as goal

pub returns-in_err-literal-clause-bound : goal.returns-in_err-literal-clause-bound
returns-in_err-literal-clause-bound c =
    let few = literals_few c.self.inside.marks.variables c.self.inside.literals.items c.self.invariant.0.in_range c.self.invariant.0.apart in
    grind (arith, few, c.self.view_is)

pub returns-clause-bound : goal.returns-clause-bound
returns-clause-bound c =
    let few = literals_few c.self.inside.marks.variables c.self.inside.literals.items c.self.invariant.0.in_range c.self.invariant.0.apart in
    grind (arith, few, c.self.view_is, slice_get_within)
