use Rattle.std.proofs.Common.{rules, ◌≡◌, true, refl, ◌∙◌, get_or, subst}
use Rattle.std.specs.Prelude.{All}
use Rattle.std.proofs.lemmas.List.{take_all}
use Rattle.std.proofs.lemmas.List.Elements.{All-more}
use Rattle.lll_core.specs.Tables.{value as value_of}
use Rattle.evidence.proofs.trace.is_admitted.Goals as goal

pub loop-constraint-preserved : goal.loop-constraint-preserved
loop-constraint-preserved c =
    let xs = c.as_slice-constraints.result.now in
    let here : value_of c.args.now.now (get_or xs c.loop-constraint.constraint-index 0) ≡ true = search rules in
    All-more (λ x. value_of c.args.now.now x ≡ true) xs c.loop-constraint.constraint-index 0 c.loop-constraint-test.true c.loop-constraint.invariant here

pub returns : goal.returns
returns c =
    let assumed : value_of c.args.now.now c.args.l.now.assume ≡ true = search rules in (
      λ yes. record {
        assumed = assumed;
        constrained = subst (All (λ x. value_of c.args.now.now x ≡ true)) (take_all c.loop-constraint.constraint-index c.as_slice-constraints.result.now c.loop-constraint-test.false ∙ c.as_slice-constraints.ensures) c.loop-constraint.invariant;
      },
      λ admitted. refl,
    )
