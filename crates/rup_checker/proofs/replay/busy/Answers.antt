use Rattle.std.proofs.Common.{rules, ◌≡◌, ◌<◌, ◌++◌, ◌∷◌, [], ◌∙◌, ℕ, Bool, List, length, take, get_or, inl, inr, refl, append_assoc, sym, ap, subst}
use Rattle.std.specs.Prelude.{◌↔◌, ℤ, IsTrue, IfOk, Result, Ok, Err}
use Rattle.std.proofs.lemmas.Bool.{false≢true}
use Rattle.std.proofs.lemmas.List.{take_all}
use Rattle.rup_checker.specs.declared.log.Step.{Step}
use Rattle.rup_checker.specs.Formulas.{Cnf}
use Rattle.rup_checker.specs.Steps.{IsAccepted}
use Rattle.rup_checker.specs.Logs.{known, AreAccepted, IsBusyFrom, IsBusy}
use Rattle.rup_checker.proofs.LogLemmas.{each-take, known-take, accepted-same}
use Rattle.rup_checker.proofs.ReplayLemmas.{idle_step, busy_clauses}
use Rattle.rup_checker.proofs.replay.busy.Goals as goal

pub returns-in-Err-Unknown : goal.returns-in-Err-Unknown
returns-in-Err-Unknown c =
    let f = c.args.formula.now in
    let steps = c.as_slice-steps.result.now in
    elim c.in-Err-Unknown.ensures.answer [
      | inl refused ↦ (
        λ no. absurd (false≢true no),
        λ busy. absurd (idle_step f steps c.loop-step.step-index c.step-item.result (f.clauses ++ c.loop-step.derivation.added.clauses) c.as_slice.result.now c.as_slice-in-loop-step.result.now c.in-Err-Unknown.field-0 c.loop-step-test.true c.step-item.is
            c.loop-step.invariant.known c.as_slice.ensures c.as_slice-in-loop-step.ensures refused (subst (IsBusy f) (sym c.as_slice-steps.ensures) busy)),
      )
      | inr memory ↦ absurd (search rules)
    ]

pub loop-step-preserved : goal.loop-step-preserved
loop-step-preserved c =
    let f = c.args.formula.now in
    let steps = c.as_slice-steps.result.now in
    let i = c.loop-step.step-index in
    let s = c.step-item.result in
    let old = c.loop-step.derivation.added.clauses in
    let before = c.loop-step.invariant in
    let within : i < length steps = c.loop-step-test.true in
    let same : s ≡ get_or steps i s = c.step-item.is in
    let clause : c.as_slice.result.now ≡ (get_or steps i s).clause = c.as_slice.ensures ∙ ap (λ (s : Step). s.clause) same in
    let hints : c.as_slice-in-loop-step.result.now ≡ (get_or steps i s).hints = c.as_slice-in-loop-step.ensures ∙ ap (λ (s : Step). s.hints) same in
    let accepted : IsAccepted f.variables (known f (take i steps)) (get_or steps i s).clause (get_or steps i s).hints =
    accepted-same f.variables f.variables (f.clauses ++ old) (known f (take i steps)) c.as_slice.result.now (get_or steps i s).clause c.as_slice-in-loop-step.result.now (get_or steps i s).hints refl before.known clause hints c.in-Ok.ensures.answer in
    record {
      variables = c.in-Ok.ensures.variables ∙ before.variables;
      known = ap (λ (more : List (List ℤ)). f.clauses ++ more) c.in-Ok.ensures.added ∙ sym (append_assoc f.clauses old (c.as_slice.result.now ∷ [])) ∙ ap (λ (cs : List (List ℤ)). cs ++ c.as_slice.result.now ∷ []) before.known ∙ ap (λ (x : List ℤ). known f (take i steps) ++ x ∷ []) clause ∙ sym (known-take f steps i s within);
      accepted = each-take (λ clauses s. IsAccepted f.variables clauses s.clause s.hints) f steps i s within before.accepted accepted;
    }

-- what is answered of the clauses is answered of the log
handed_on : {E : Type 0} (f : Cnf) (steps : List Step) (clauses : List (List ℤ)) (from : ℕ) (result : Result Bool E) → clauses ≡ known f steps → from ≡ length f.clauses → AreAccepted f steps → IfOk result (λ yes. IsTrue yes ↔ IsBusyFrom clauses from) → IfOk result (λ yes. IsTrue yes ↔ IsBusy f steps)
handed_on f steps clauses from (Err why) same given accepted told = tt
handed_on f steps clauses from (Ok answer) same given accepted told =
    let there : IsTrue answer ↔ IsBusyFrom (known f steps) (length f.clauses) = subst (λ (n : ℕ). IsTrue answer ↔ IsBusyFrom (known f steps) n) given (subst (λ (cs : List (List ℤ)). IsTrue answer ↔ IsBusyFrom cs from) same told) in
    let both = busy_clauses f steps accepted in
    (λ is. both.0 (there.0 is), λ busy. there.1 (both.1 busy))

pub returns : goal.returns
returns c =
    let f = c.args.formula.now in
    let before = c.loop-step.invariant in
    let all : take c.loop-step.step-index c.as_slice-steps.result.now ≡ c.args.log.now.steps = take_all c.loop-step.step-index c.as_slice-steps.result.now c.loop-step-test.false ∙ c.as_slice-steps.ensures in
    handed_on f c.args.log.now.steps c.known.result.clauses c.len.result c.is_busy.result (ap (λ (k : Cnf). k.clauses) c.known.ensures ∙ before.known ∙ ap (known f) all) c.len.ensures.value (subst (AreAccepted f) all before.accepted) c.is_busy.ensures
