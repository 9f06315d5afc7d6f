use Rattle.std.proofs.Common.{inl, inr}
use Rattle.rup_checker.proofs.OneAnswer.{refuted_not_prevented, outside_stands}
use Rattle.rup_checker.proofs.law.accepted_is_not_refused.Goals as goal

pub returns : goal.returns
returns c = λ variables clauses clause hints why accepted refused. elim refused [
  | inl literal ↦ outside_stands variables clause literal.0 literal.2 accepted.in_range
  | inr prevented ↦ refuted_not_prevented clauses hints clause why accepted.refuted prevented.1
]
