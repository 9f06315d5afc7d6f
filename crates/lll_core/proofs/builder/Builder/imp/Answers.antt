use Rattle.std.proofs.Common.{refl, inl, subst}
use Rattle.lll_core.specs.Signals.{AreSignals}
use Rattle.lll_core.specs.Drafts.{signals_in}
use Rattle.lll_core.proofs.BuildingLemmas.{true_holds, there, if_ok, imp_value}
use Rattle.lll_core.proofs.builder.Builder.imp.Goals as goal

pub gate-requires-clause-gate : goal.gate-requires-clause-gate
gate-requires-clause-gate c = (c.args.a, c.args.b, inl refl)

pub returns-in-Some-clause-value : goal.returns-in-Some-clause-value
returns-in-Some-clause-value c = λ now holds. c.in-Some.ensures.value now
    (true_holds _ now (subst (λ ds. AreSignals (signals_in ds)) c.self.view_is c.self.invariant.signals_right) holds)

pub returns-in-None-clause-there : goal.returns-in-None-clause-there
returns-in-None-clause-there c = if_ok c.gate.result c.gate.ensures.literal (λ literal gate. there _ _ literal gate)

pub returns-in-None-clause-value : goal.returns-in-None-clause-value
returns-in-None-clause-value c = if_ok c.gate.result c.gate.ensures.literal (λ literal gate now. imp_value _ _ _ now literal gate)
