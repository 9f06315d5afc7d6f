use Rattle.std.proofs.Common.{All, take}
use Rattle.rup_checker.specs.Occurrences.{listed}
use Rattle.rup_checker.specs.Containment.{IsCovered}
use Rattle.rup_checker.proofs.containment.Subsumption.covers_any.Given as goal

abbrev pub invariant-loop-literal : goal.invariant-loop-literal
invariant-loop-literal l = All (λ m. All (λ n. ¬ (IsCovered l.self.known.clauses l.self.marks n)) (listed l.self.anchors.occurrences m)) (take l.literal-index l.clause)
