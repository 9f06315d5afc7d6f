use Rattle.std.proofs.Common.{arith, ap, sym, ◌∙◌, slice_get}
use Rattle.lll_core.proofs.BuildingLemmas.{gate_small, gate_there, added_gate}
use Rattle.lll_core.proofs.builder.Builder.gate.Goals as goal

pub overflow_cast-number : goal.overflow_cast-number
overflow_cast-number c = omega (arith, gate_small _ _ _ _ _ c.self.invariant c.requires.gate c.requires.tied c.in-Some.ensures.found)

pub positive-requires : goal.positive-requires
positive-requires c = gate_small _ _ _ _ _ c.self.invariant c.requires.gate c.requires.tied c.in-Some.ensures.found

pub returns-in-Some-clause-literal : goal.returns-in-Some-clause-literal
returns-in-Some-clause-literal c =
    (c.in-Some.number, c.positive.ensures, ap (λ ds. slice_get ds c.in-Some.number) (sym c.self.view_is) ∙ gate_there _ _ _ _ _ c.self.invariant c.requires.gate c.requires.tied c.in-Some.ensures.found)

pub returns-in-None-clause-literal : goal.returns-in-None-clause-literal
returns-in-None-clause-literal c = added_gate c.add.result _ _ _ c.add.ensures.literal c.add.ensures.added
