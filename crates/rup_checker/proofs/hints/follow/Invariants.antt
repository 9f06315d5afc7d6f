use Rattle.std.proofs.Common.{◌≡◌, take}
use Rattle.std.specs.Prelude.{ℤ, neg_ℤ, ◌⊎◌}
use Rattle.rup_checker.specs.Formulas.{IsLiteral}
use Rattle.rup_checker.specs.Marks.{IsMarked, IsHinted}
use Rattle.rup_checker.proofs.Following.{Followed}
use Rattle.rup_checker.proofs.hints.follow.Given as goal

abbrev pub invariant-loop-place : goal.invariant-loop-place
invariant-loop-place l =
    (l.taken.variables ≡ l.initial.taken.variables)
    × Followed l.known.clauses l.initial.taken l.taken (take l.place l.hints)
    × ((x : ℤ) → IsLiteral l.known.variables x → IsMarked l.taken x → IsMarked l.initial.taken x ⊎ IsHinted l.known.clauses (take l.place l.hints) (neg_ℤ x))
