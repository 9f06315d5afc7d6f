use Rattle.std.proofs.Common.{◌≡◌, take}
use Rattle.std.specs.Prelude.{ℤ, Contains}
use Rattle.rup_checker.specs.Formulas.{IsLiteral}
use Rattle.rup_checker.specs.Marks.{IsMarked}
use Rattle.rup_checker.proofs.hints.remove_all.Given as goal

abbrev pub invariant-loop-literal : goal.invariant-loop-literal
invariant-loop-literal l =
    (l.taken.variables ≡ l.initial.taken.variables)
    × ((x : ℤ) → IsLiteral l.initial.taken.variables x → IsMarked l.taken x → IsMarked l.initial.taken x × ¬ (Contains (take l.literal-index l.literals) x))
