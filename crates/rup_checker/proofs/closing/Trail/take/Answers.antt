use Rattle.std.proofs.Common.{◌≡◌, ◌∙◌, subst, arith, to_z, of_z, w32, length-append}
use Rattle.std.proofs.lemmas.Int.{ints}
use Rattle.rup_checker.specs.Formulas.{IsLiteral}
use Rattle.rup_checker.specs.Marks.{IsMarked}
use Rattle.rup_checker.proofs.TrailLemmas.{trail_more}
use Rattle.rup_checker.proofs.closing.Trail.take.Goals as goal

pub invariant_of-self-then-not-contains : goal.invariant_of-self-then-not-contains
invariant_of-self-then-not-contains c =
    let inside = c.self.inside in
    let same : to_z w32 (of_z w32 c.args.literal) ≡ c.args.literal = omega (arith, ints) in
    let known : IsLiteral inside.marks.variables c.args.literal = grind (arith, c.self.view_is, c.requires) in
    let free : ¬ (IsMarked inside.marks c.args.literal) = grind (arith, same, c.contains.ensures) in
    let more = trail_more inside.marks c.insert.new.self inside.literals.items c.args.literal c.self.invariant.0 known free c.insert.ensures.variables (subst (IsMarked c.insert.new.self) same c.insert.ensures.itself) (λ m range differ. c.insert.ensures.others m range (λ is. differ (is ∙ same))) in
    grind (arith, more, c.self.invariant.1, c.in_ok-push.ensures.items, length-append)
