use Rattle.std.proofs.Common.{inl, inr, arith}
use Rattle.ports.specs.Causes.{Rose}
use Rattle.hll_tests.proofs.memory.run_surely.Goals as goal

-- a count that stands at 0 didn't rise
never : Rose 0 0 → ⊥
never rose = omega (arith, rose)

pub returns-clause-prove : goal.returns-clause-prove
returns-clause-prove g c = λ name asked has.
    elim (c.run.ensures.complete name asked has) [
      | inl reported ↦ reported
      | inr failed ↦ elim failed [ inl rose ↦ absurd (never rose) | inr rose ↦ absurd (never rose) ]
    ]

pub returns-clause-format : goal.returns-clause-format
returns-clause-format g c = λ name asked has.
    elim (c.run.ensures.format_complete name asked has) [
      | inl done ↦ done
      | inr failed ↦ elim failed [ inl rose ↦ absurd (never rose) | inr rose ↦ absurd (never rose) ]
    ]

pub returns-clause-check : goal.returns-clause-check
returns-clause-check g c = λ name asked has.
    elim (c.run.ensures.check_complete name asked has) [
      | inl summarized ↦ summarized
      | inr failed ↦ elim failed [ inl rose ↦ absurd (never rose) | inr rose ↦ absurd (never rose) ]
    ]
