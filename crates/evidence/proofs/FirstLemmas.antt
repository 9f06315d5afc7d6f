-- Which of the causes of a log comes first.
use Rattle.std.proofs.Common.{◌≡◌, ◌≢◌, ℕ, ◌<◌, List, length, take, slice_get, refl, sym, ap, subst, ◌∙◌, inl, inr, arith}
use Rattle.std.specs.Prelude.{ℤ, Option, IsSomeAnd}
use Rattle.std.proofs.lemmas.Bool.{cases_lt}
use Rattle.rup_checker.specs.declared.fault.StepFault.{StepFault}
use Rattle.rup_checker.specs.declared.fault.StepFault.TheVariants as fault
use Rattle.rup_checker.specs.declared.log.Log.{Log}
use Rattle.rup_checker.specs.declared.log.Step.{Step}
use Rattle.rup_checker.specs.Formulas.{Cnf}
use Rattle.rup_checker.specs.Steps.{IsAccepted, IsRefused}
use Rattle.rup_checker.specs.Logs.{known, AreAccepted, IsEnded, IsBusy}
use Rattle.rup_checker.proofs.OneAnswer.{one_prevention, one_outside, outside_stands, refuted_not_prevented}
use Rattle.evidence.specs.declared.fault.Cause.{Cause}
use Rattle.evidence.specs.declared.fault.Cause.TheVariants as cause
use Rattle.evidence.specs.Refusals.{line_after, IsStepCause, StepFails, RefutationFails, SpentLogFails}
use Rattle.evidence.specs.Claims.{ComesBefore, IsFirstOf, IsFirstStop}
use Rattle.evidence.proofs.AtOnce.{at_once, some_within, take-get, take-take}
use Rattle.evidence.proofs.Holding.{step_never_fails}

-- ---- one step

not_both : (n : ℕ) (clauses : List (List ℤ)) (c : List ℤ) (hints : List ℕ) (why : StepFault) → IsAccepted n clauses c hints → IsRefused n clauses c hints why → ⊥
not_both n clauses c hints why accepted refused = elim refused [
  | inl literal ↦ outside_stands n c literal.0 literal.2 accepted.in_range
  | inr prevented ↦ refuted_not_prevented clauses hints c why accepted.refuted prevented.1
]

one_refusal : (n : ℕ) (clauses : List (List ℤ)) (c : List ℤ) (hints : List ℕ) (one other : StepFault) → IsRefused n clauses c hints one → IsRefused n clauses c hints other → one ≡ other
one_refusal n clauses c hints one other a b = elim a [
  | inl literal ↦ elim b [
    | inl l ↦ literal.1 ∙ ap fault.Literal (one_outside n literal.2.before literal.2.after l.2.before l.2.after literal.0 l.0 (sym literal.2.split ∙ l.2.split) literal.2.inside l.2.inside literal.2.outside l.2.outside) ∙ sym l.1
    | inr prevented ↦ absurd (outside_stands n c literal.0 literal.2 prevented.0)
  ]
  | inr prevented ↦ elim b [
    | inl l ↦ absurd (outside_stands n c l.0 l.2 prevented.0)
    | inr p ↦ one_prevention clauses hints c one other prevented.1 p.1
  ]
]

one_cause : (stop : StepFault) (why other : Cause) → IsStepCause stop why → IsStepCause stop other → other ≡ why
one_cause (fault.Unknown hint) why other p q = q ∙ sym p
one_cause (fault.NotUnit hint) why other p q = q ∙ sym p
one_cause fault.NoConflict why other p q = q ∙ sym p
one_cause (fault.Literal l) why other p q = q ∙ sym p
one_cause fault.Memory why other p q = absurd p

-- ---- the steps of a log

earlier_step : (f : Cnf) (steps : List Step) (n k : ℕ) (stop : StepFault) → k < n → AreAccepted f (take n steps) → IsSomeAnd (slice_get steps k) (λ s. IsRefused f.variables (known f (take k steps)) s.clause s.hints stop) → ⊥
earlier_step f steps n k stop lt accepted refused =
    let clauses = known f (take k steps) in
    let Bad = λ (s : Step). IsRefused f.variables clauses s.clause s.hints stop in
    let Good = λ (s : Step). IsAccepted f.variables clauses s.clause s.hints in
    let there : IsSomeAnd (slice_get (take n steps) k) Bad = subst (λ (o : Option Step). IsSomeAnd o Bad) (sym (take-get steps n k lt)) refused in
    let good : IsSomeAnd (slice_get (take n steps) k) Good =
    subst (λ (ts : List Step). IsSomeAnd (slice_get (take n steps) k) (λ s. IsAccepted f.variables (known f ts) s.clause s.hints)) (take-take steps n k lt) (accepted k (some_within (take n steps) k Bad there)) in
    let s = at_once (slice_get (take n steps) k) Good Bad good there in
    not_both f.variables clauses s.0.clause s.0.hints stop s.1 s.2

-- the first step that is refused comes before any other that is
first_step : (f : Cnf) (front : List ℕ) (log : Log) (at line : ℕ) (why : Cause) → at ≡ line_after front → IsFirstStop f at log.steps line why → (other : ℕ) (reason : Cause) → StepFails f front log other reason → ComesBefore line why other reason
first_step f front log at line why begins stop other reason fails = elim (cases_lt stop.n fails.n) [
  | inl later ↦ inl (omega (arith, begins, stop.place, fails.at, later))
  | inr le ↦ elim (cases_lt fails.n stop.n) [
    | inl earlier ↦ absurd (earlier_step f log.steps stop.n fails.n fails.fault earlier stop.refused.before fails.refused)
    | inr ge ↦ (
        let same : fails.n ≡ stop.n = omega (arith, le, ge) in
        let Fault = λ (k : ℕ) (t : StepFault) (s : Step). IsRefused f.variables (known f (take k log.steps)) s.clause s.hints t in
        let here : IsSomeAnd (slice_get log.steps stop.n) (Fault stop.n fails.fault) = subst (λ (k : ℕ). IsSomeAnd (slice_get log.steps k) (Fault k fails.fault)) same fails.refused in
        let s = at_once (slice_get log.steps stop.n) (Fault stop.n stop.stop) (Fault stop.n fails.fault) stop.refused.refused here in
        let faults : stop.stop ≡ fails.fault = one_refusal f.variables (known f (take stop.n log.steps)) s.0.clause s.0.hints stop.stop fails.fault s.1 s.2 in
        inr (omega (arith, begins, stop.place, fails.at, same), inl (one_cause fails.fault why reason (subst (λ (t : StepFault). IsStepCause t why) faults stop.named) fails.named)))
  ]
]

step_fails : (f : Cnf) (front : List ℕ) (log : Log) (at line : ℕ) (why : Cause) → at ≡ line_after front → IsFirstStop f at log.steps line why → StepFails f front log line why
step_fails f front log at line why begins stop = record {
  n = stop.n;
  at = omega (arith, begins, stop.place);
  fault = stop.stop;
  named = stop.named;
  refused = stop.refused.refused;
}

-- where a step is refused not all are accepted
stop_not_accepted : (f : Cnf) (front : List ℕ) (log : Log) (at line : ℕ) (why : Cause) → at ≡ line_after front → IsFirstStop f at log.steps line why → AreAccepted f log.steps → ⊥
stop_not_accepted f front log at line why begins stop accepted = step_never_fails f front log line why accepted (step_fails f front log at line why begins stop)

-- ---- refutations

-- a step of a refutation is refused
pub refutation_stops : (f : Cnf) (front : List ℕ) (log : Log) (at line : ℕ) (why : Cause) → at ≡ line_after front → IsFirstStop f at log.steps line why → IsFirstOf (RefutationFails f front log) line why
refutation_stops f front log at line why begins stop = record {
  fails = inl (step_fails f front log at line why begins stop);
  first = λ other reason fails. elim fails [
    | inl step ↦ first_step f front log at line why begins stop other reason step
    | inr unended ↦ absurd (stop_not_accepted f front log at line why begins stop unended.2.accepted)
  ];
}

-- it doesn't end with the empty clause
pub refutation_unended : (f : Cnf) (front : List ℕ) (log : Log) (at : ℕ) → at ≡ line_after front → AreAccepted f log.steps → ¬ (IsEnded log.steps) → IsFirstOf (RefutationFails f front log) at cause.Unended
refutation_unended f front log at begins accepted unended = record {
  fails = inr (begins, refl, record { accepted = accepted; unended = unended });
  first = λ other reason fails. elim fails [
    | inl step ↦ absurd (step_never_fails f front log other reason accepted step)
    | inr again ↦ inr (begins ∙ sym again.0, inl again.1)
  ];
}

-- ---- spent logs

-- it hasn't as many steps as the budget
pub spent_count : (f : Cnf) (budget : ℕ) (front : List ℕ) (log : Log) (at : ℕ) → at ≡ line_after front → length log.steps ≢ budget → IsFirstOf (SpentLogFails f budget front log) at cause.Count
spent_count f budget front log at begins differs = record {
  fails = inl (begins, refl, differs);
  first = λ other reason fails. elim fails [
    | inl count ↦ inr (begins ∙ sym count.0, inl count.1)
    | inr more ↦ elim more [
      | inl step ↦ inl (omega (arith, begins, step.at))
      | inr idle ↦ inr (begins ∙ sym idle.0, inr (refl, idle.1))
    ]
  ];
}

-- a step of it is refused
pub spent_stops : (f : Cnf) (budget : ℕ) (front : List ℕ) (log : Log) (at line : ℕ) (why : Cause) → at ≡ line_after front → length log.steps ≡ budget → IsFirstStop f at log.steps line why
    → IsFirstOf (SpentLogFails f budget front log) line why
spent_stops f budget front log at line why begins whole stop = record {
  fails = inr (inl (step_fails f front log at line why begins stop));
  first = λ other reason fails. elim fails [
    | inl count ↦ absurd (count.2 whole)
    | inr more ↦ elim more [
      | inl step ↦ first_step f front log at line why begins stop other reason step
      | inr idle ↦ absurd (stop_not_accepted f front log at line why begins stop idle.2.accepted)
    ]
  ];
}

-- it isn't busy
pub spent_idle : (f : Cnf) (budget : ℕ) (front : List ℕ) (log : Log) (at : ℕ) → at ≡ line_after front → length log.steps ≡ budget → AreAccepted f log.steps → ¬ (IsBusy f log.steps)
    → IsFirstOf (SpentLogFails f budget front log) at cause.Idle
spent_idle f budget front log at begins whole accepted idle = record {
  fails = inr (inr (begins, refl, record { accepted = accepted; idle = idle }));
  first = λ other reason fails. elim fails [
    | inl count ↦ absurd (count.2 whole)
    | inr more ↦ elim more [
      | inl step ↦ absurd (step_never_fails f front log other reason accepted step)
      | inr again ↦ inr (begins ∙ sym again.0, inl again.1)
    ]
  ];
}
