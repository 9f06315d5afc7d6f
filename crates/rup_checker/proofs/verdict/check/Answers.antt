use Rattle.std.proofs.Common.{rules, ◌≡◌, ◌<◌, ◌≤◌, ◌++◌, ◌∷◌, [], ℕ, List, length, take, get_or, inl, inr, refl, append_assoc, sym, ap, subst, ◌∙◌}
use Rattle.std.specs.Prelude.{ℤ}
use Rattle.std.proofs.lemmas.List.{take_all}
use Rattle.rup_checker.specs.declared.log.Step.{Step}
use Rattle.rup_checker.specs.Formulas.{Cnf}
use Rattle.rup_checker.specs.Steps.{IsAccepted}
use Rattle.rup_checker.specs.Logs.{known, AreAccepted, IsEnded, IsFirstRefused}
use Rattle.rup_checker.proofs.LogLemmas.{each-take, known-take, accepted-same, refused-same, first-refused}
use Rattle.rup_checker.proofs.Soundness.{log_sound}
use Rattle.rup_checker.proofs.verdict.check.Goals as goal

pub returns-in-Err-step : goal.returns-in-Err-step
returns-in-Err-step c =
    let f = c.args.formula.now in
    let steps = c.as_slice-steps.result.now in
    let i = c.loop-place.place in
    let s = c.index-steps-place.result in
    let before = c.loop-place.invariant in
    let same : s ≡ get_or steps i s = c.index-steps-place.is in
    elim c.in-Err-step.ensures.answer [
      | inl refused ↦ record {
        accepted = tt;
        sound = tt;
        refused = subst (λ (steps : List Step). IsFirstRefused f steps i c.in-Err-step.fault) c.as_slice-steps.ensures (first-refused f steps i s c.in-Err-step.fault c.loop-place-test.true before.2
            (refused-same f.variables f.variables (f.clauses ++ c.loop-place.derivation.added.clauses) (known f (take i steps)) c.as_slice.result.now (get_or steps i s).clause c.as_slice-in-loop-place.result.now (get_or steps i s).hints c.in-Err-step.fault refl before.1 (c.as_slice.ensures ∙ ap (λ (s : Step). s.clause) same) (c.as_slice-in-loop-place.ensures ∙ ap (λ (s : Step). s.hints) same) refused));
      }
      | inr memory ↦ absurd (search rules)
    ]

pub loop-place-preserved : goal.loop-place-preserved
loop-place-preserved c =
    let f = c.args.formula.now in
    let steps = c.as_slice-steps.result.now in
    let i = c.loop-place.place in
    let s = c.index-steps-place.result in
    let before = c.loop-place.invariant in
    let within : i < length steps = c.loop-place-test.true in
    let same : s ≡ get_or steps i s = c.index-steps-place.is in
    let clause : c.as_slice.result.now ≡ (get_or steps i s).clause = c.as_slice.ensures ∙ ap (λ (s : Step). s.clause) same in
    let accepted : IsAccepted f.variables (known f (take i steps)) (get_or steps i s).clause (get_or steps i s).hints =
    accepted-same f.variables f.variables (f.clauses ++ c.loop-place.derivation.added.clauses) (known f (take i steps)) c.as_slice.result.now (get_or steps i s).clause c.as_slice-in-loop-place.result.now (get_or steps i s).hints refl before.1 clause (c.as_slice-in-loop-place.ensures ∙ ap (λ (s : Step). s.hints) same) c.in-Ok-step.ensures.answer in (
      c.in-Ok-step.ensures.variables ∙ before.0,
      ap (λ (more : List (List ℤ)). f.clauses ++ more) c.in-Ok-step.ensures.added ∙ sym (append_assoc f.clauses c.loop-place.derivation.added.clauses (c.as_slice.result.now ∷ [])) ∙ ap (λ (cs : List (List ℤ)). cs ++ c.as_slice.result.now ∷ []) before.1 ∙ ap (λ (x : List ℤ). known f (take i steps) ++ x ∷ []) clause ∙ sym (known-take f steps i s within),
      each-take (λ clauses s. IsAccepted f.variables clauses s.clause s.hints) f steps i s within before.2 accepted,
    )

-- all steps of the loop are those of the log, and they are accepted
all_accepted : (f : Cnf) (steps all : List Step) (i : ℕ) → length steps ≤ i → steps ≡ all → AreAccepted f (take i steps) → AreAccepted f all
all_accepted f steps all i past same accepted = subst (AreAccepted f) (take_all i steps past ∙ same) accepted

pub returns-then-ends_empty-clause-accepted : goal.returns-then-ends_empty-clause-accepted
returns-then-ends_empty-clause-accepted c = record {
  accepted = all_accepted c.args.formula.now c.as_slice-steps.result.now c.args.log.now.steps c.loop-place.place (search rules) c.as_slice-steps.ensures c.loop-place.invariant.2;
  ended = subst IsEnded c.as_slice-steps.ensures (c.ends_empty.ensures.0 (search rules));
}

pub returns-then-ends_empty-clause-sound : goal.returns-then-ends_empty-clause-sound
returns-then-ends_empty-clause-sound c = log_sound c.args.formula.now c.args.log.now.steps c.variables.ensures.in_range (returns-then-ends_empty-clause-accepted c)
