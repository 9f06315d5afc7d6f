use Rattle.std.proofs.Common.{◌≡◌, ◌+◌, ◌-◌, ◌*◌}
use Rattle.rup_checker.specs.Closing.{IsQuietBut}
use Rattle.rup_checker.proofs.closing.Propagation.follow_up.Given as goal

abbrev pub invariant-loop-literal : goal.invariant-loop-literal
invariant-loop-literal l = record {
  known : l.self.known ≡ l.initial.self.known;
  quiet : IsQuietBut l.self.known.clauses (λ _. ⊥) l.self.trail;
}

abbrev pub decreases-loop-literal : goal.decreases-loop-literal
decreases-loop-literal l = 2 * l.self.known.variables + 1 - l.self.trail.followed
