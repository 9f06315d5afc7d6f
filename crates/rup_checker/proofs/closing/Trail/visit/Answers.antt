use Rattle.std.proofs.Common.{◌≡◌, ap, arith}
use Rattle.std.proofs.lemmas.Int.{ints}
use Rattle.std.proofs.lemmas.List.Elements.{All-contains}
use Rattle.rup_checker.specs.Formulas.{IsLiteral}
use Rattle.rup_checker.specs.declared.status.Status.TheVariants as status
use Rattle.rup_checker.specs.Closing.{TrailState}
use Rattle.rup_checker.proofs.TrailLemmas.{HasStatus-now, visited_open, visited_unit}
use Rattle.rup_checker.proofs.closing.Trail.visit.Goals as goal

pub returns-in-False-clause-visited : goal.returns-in-False-clause-visited
returns-in-False-clause-visited c =
    let inside = c.self.inside in
    HasStatus-now c.args.self.now inside.marks inside.literals.items c.args.clause.now status.False (ap (λ (t : TrailState). t.variables) c.self.view_is) (ap (λ (t : TrailState). t.taken) c.self.view_is) c.self.invariant.0 c.requires c.in-False.ensures

pub overflow_sub-literal : goal.overflow_sub-literal
overflow_sub-literal c =
    let known : IsLiteral c.args.self.now.variables c.in-Unit.literal = All-contains (IsLiteral c.args.self.now.variables) c.args.clause.now c.in-Unit.literal c.requires c.in-Unit.ensures.stands in
    let bound = c.self.invariant.0.bound in
    let same : c.self.inside.marks.variables ≡ c.args.self.now.variables = ap (λ (t : TrailState). t.variables) c.self.view_is in
    omega (arith, ints, known.known)

pub returns-in_ok-take-in-Unit-clause-visited : goal.returns-in_ok-take-in-Unit-clause-visited
returns-in_ok-take-in-Unit-clause-visited c =
    let inside = c.self.inside in
    let unit = HasStatus-now c.args.self.now inside.marks inside.literals.items c.args.clause.now (status.Unit c.in-Unit.literal) (ap (λ (t : TrailState). t.variables) c.self.view_is) (ap (λ (t : TrailState). t.taken) c.self.view_is) c.self.invariant.0 c.requires c.in-Unit.ensures in
    let known : IsLiteral c.args.self.now.variables c.in-Unit.literal = All-contains (IsLiteral c.args.self.now.variables) c.args.clause.now c.in-Unit.literal c.requires unit.stands in
    let bound = c.self.invariant.0.bound in
    let same : inside.marks.variables ≡ c.args.self.now.variables = ap (λ (t : TrailState). t.variables) c.self.view_is in
    visited_unit c.args.self.now c.take.new.self c.args.clause.now c.in-Unit.literal _ unit c.in_ok-take-in-Unit.ensures.taken (omega (arith, ints, known.known))

pub returns-in-Open-clause-visited : goal.returns-in-Open-clause-visited
returns-in-Open-clause-visited c =
    let inside = c.self.inside in
    visited_open c.args.self.now c.args.clause.now (HasStatus-now c.args.self.now inside.marks inside.literals.items c.args.clause.now status.Open (ap (λ (t : TrailState). t.variables) c.self.view_is) (ap (λ (t : TrailState). t.taken) c.self.view_is) c.self.invariant.0 c.requires c.in-Open.ensures)
