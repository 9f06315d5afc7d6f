use Rattle.std.proofs.Common.{◌≡◌, take}
use Rattle.std.specs.Prelude.{ℤ, neg_ℤ}
use Rattle.rup_checker.specs.Formulas.{IsLiteral}
use Rattle.rup_checker.specs.Marks.{IsMarked, IsHinted}
use Rattle.rup_checker.proofs.hints.remove_hinted.Given as goal

abbrev pub invariant-loop-hint : goal.invariant-loop-hint
invariant-loop-hint l =
    (l.taken.variables ≡ l.initial.taken.variables)
    × ((x : ℤ) → IsLiteral l.known.variables x → IsMarked l.taken x → IsMarked l.initial.taken x × ¬ (IsHinted l.known.clauses (take l.hint-index l.hints) (neg_ℤ x)))
