use Rattle.std.proofs.Common.{◌≡◌, ℕ, subst, arith}
use Rattle.rup_checker.specs.Containment.{AreAnchored}
use Rattle.rup_checker.proofs.replay.anchors.Goals as goal

pub returns-clause-anchored : goal.returns-clause-anchored
returns-clause-anchored c =
    let all : c.loop-number.number ≡ c.args.count = omega arith in
    subst (λ (n : ℕ). AreAnchored c.args.known.now.clauses n c.loop-number.anchors) all c.loop-number.invariant.anchored
