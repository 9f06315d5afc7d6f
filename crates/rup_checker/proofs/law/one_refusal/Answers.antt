use Rattle.std.proofs.Common.{inl, inr, sym, ap, ◌∙◌}
use Rattle.rup_checker.specs.declared.fault.StepFault.TheVariants as fault
use Rattle.rup_checker.proofs.OneAnswer.{one_prevention, one_outside, outside_stands}
use Rattle.rup_checker.proofs.law.one_refusal.Goals as goal

pub returns : goal.returns
returns c = λ variables clauses clause hints one other a b. elim a [
  | inl literal ↦ elim b [
    | inl literal' ↦ literal.1 ∙ ap fault.Literal (one_outside variables literal.2.before literal.2.after literal'.2.before literal'.2.after literal.0 literal'.0 (sym literal.2.split ∙ literal'.2.split) literal.2.inside literal'.2.inside literal.2.outside literal'.2.outside) ∙ sym literal'.1
    | inr prevented ↦ absurd (outside_stands variables clause literal.0 literal.2 prevented.0)
  ]
  | inr prevented ↦ elim b [
    | inl literal ↦ absurd (outside_stands variables clause literal.0 literal.2 prevented.0)
    | inr prevented' ↦ one_prevention clauses hints clause one other prevented.1 prevented'.1
  ]
]
