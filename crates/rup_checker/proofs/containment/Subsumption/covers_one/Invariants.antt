use Rattle.rup_checker.proofs.ContainmentLemmas.{IsScanned}
use Rattle.rup_checker.proofs.containment.Subsumption.covers_one.Given as goal

abbrev pub invariant-loop-cell : goal.invariant-loop-cell
invariant-loop-cell l = IsScanned l.self.known.clauses l.self.anchors.occurrences l.self.marks l.literal l.link

abbrev pub decreases-loop-cell : goal.decreases-loop-cell
decreases-loop-cell l = l.link
