use Rattle.std.proofs.Common.{Option, inl, inr, subst, ◌∙◌, arith}
use Rattle.graphs.specs.Spreading.{IsBest}
use Rattle.graphs.specs.declared.cycle.Near.{Near}
use Rattle.graphs.proofs.Walking.{best_only, best_takes, best_keeps}
use Rattle.graphs.proofs.cycle.better.Goals as goal

pub returns-then-before-distance : goal.returns-then-before-distance
returns-then-before-distance c = λ targets known is best.
    best_keeps targets known c.args.node c.in-Some.distance c.in-Some-best.before (is ∙ c.in-Some.is) (subst (λ (o : Option Near). IsBest targets known o) c.in-Some-best.is best) (inl c.if-before-distance.true)

pub returns-then-before-node : goal.returns-then-before-node
returns-then-before-node c = λ targets known is best.
    best_keeps targets known c.args.node c.in-Some.distance c.in-Some-best.before (is ∙ c.in-Some.is) (subst (λ (o : Option Near). IsBest targets known o) c.in-Some-best.is best) (inr (c.if-before-distance-2.true, c.if-before-node.true))

pub returns-else-before-distance-2 : goal.returns-else-before-distance-2
returns-else-before-distance-2 c = λ targets known is best.
    best_takes targets known c.args.node c.in-Some.distance c.in-Some-best.before (is ∙ c.in-Some.is) (subst (λ (o : Option Near). IsBest targets known o) c.in-Some-best.is best)
    (elim c.else-before-distance-2.either [
      | inl as_near ↦ inr (omega (arith, as_near.0), as_near.1)
      | inr differ ↦ inl (omega (arith, differ, c.if-before-distance.false))
    ])

pub returns-in_default-best : goal.returns-in_default-best
returns-in_default-best c = λ targets known is best.
    best_only targets known c.args.node c.in-Some.distance (is ∙ c.in-Some.is) (subst (λ (o : Option Near). IsBest targets known o) c.in_default-best.is best)
