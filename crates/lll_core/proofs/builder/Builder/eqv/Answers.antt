use Rattle.std.proofs.Common.{◌<◌, ◌*◌, not, length, ap, sym, ◌∙◌, subst, arith, Some}
use Rattle.lll_core.specs.declared.draft.Draft.TheVariants.{Whole}
use Rattle.lll_core.specs.declared.signal.Signal.TheVariants.{Eqv}
use Rattle.lll_core.specs.Signals.{AreSignals}
use Rattle.lll_core.specs.Drafts.{signals_in, lower}
use Rattle.lll_core.specs.Tables.{value, are_equal}
use Rattle.lll_core.proofs.BuildingLemmas.{true_holds, there, eqv_value}
use Rattle.lll_core.proofs.ValueLemmas.{equal_signs, other_signs}
use Rattle.lll_core.proofs.builder.Builder.eqv.Goals as goal

pub returns-in-Some-clause-value : goal.returns-in-Some-clause-value
returns-in-Some-clause-value c = λ now holds. c.in-Some.ensures.value now
    (true_holds _ now (subst (λ ds. AreSignals (signals_in ds)) c.self.view_is c.self.invariant.signals_right) holds)

pub returns-then-a-b-clause-there : goal.returns-then-a-b-clause-there
returns-then-a-b-clause-there c = there _ _ c.in_ok-gate-in-None.gate c.in_ok-gate-in-None.ensures.literal

pub returns-then-a-b-clause-value : goal.returns-then-a-b-clause-value
returns-then-a-b-clause-value c = λ now holds. eqv_value _ _ _ now c.in_ok-gate-in-None.gate c.in_ok-gate-in-None.ensures.literal holds
    ∙ ap (λ x. are_equal (value now x) (value now c.positive-high.result)) (c.positive-low.ensures ∙ ap (λ n. 2 * n) c.min.ensures)
    ∙ ap (λ y. are_equal (value now (lower c.args.a c.args.b)) (value now y)) (c.positive-high.ensures ∙ ap (λ n. 2 * n) c.max.ensures)
    ∙ equal_signs now c.args.a c.args.b c.if-a-b.true

pub returns-else-a-b-clause-there : goal.returns-else-a-b-clause-there
returns-else-a-b-clause-there c = subst (λ k. k < length c.gate.new.self) (sym c.opposite.ensures.signal) (there _ _ c.in_ok-gate-in-None.gate c.in_ok-gate-in-None.ensures.literal)

pub returns-else-a-b-clause-value : goal.returns-else-a-b-clause-value
returns-else-a-b-clause-value c = λ now holds. c.opposite.ensures.value now ∙ ap not (eqv_value _ _ _ now c.in_ok-gate-in-None.gate c.in_ok-gate-in-None.ensures.literal holds
    ∙ ap (λ x. are_equal (value now x) (value now c.positive-high.result)) (c.positive-low.ensures ∙ ap (λ n. 2 * n) c.min.ensures)
    ∙ ap (λ y. are_equal (value now (lower c.args.a c.args.b)) (value now y)) (c.positive-high.ensures ∙ ap (λ n. 2 * n) c.max.ensures))
    ∙ other_signs now c.args.a c.args.b c.if-a-b.false

pub returns-else-a-b-clause-gate : goal.returns-else-a-b-clause-gate
returns-else-a-b-clause-gate c = λ proper.
    let g = c.in_ok-gate-in-None.ensures.literal in (
      g.0,
      omega (arith, g.1, c.opposite.ensures.both, c.if-a-b.false),
      g.2 ∙ ap (λ x. Some (Whole (Eqv x c.positive-high.result))) (c.positive-low.ensures ∙ ap (λ n. 2 * n) c.min.ensures) ∙ ap (λ y. Some (Whole (Eqv (lower c.args.a c.args.b) y))) (c.positive-high.ensures ∙ ap (λ n. 2 * n) c.max.ensures),
    )
