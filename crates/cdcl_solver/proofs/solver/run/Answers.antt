use Rattle.std.proofs.Common.{◌≡◌, ◌∙◌, ◌+◌, ◌<◌, ◌∷◌, [], ℕ, List, sym, ap, subst, refl, length, length-append, take, reverse, arith, Option, true, false}
use Rattle.std.specs.Prelude.{ℤ, Contains}
use Rattle.std.specs.Option.{IfNone}
use Rattle.std.proofs.lemmas.List.{length_push}
use Rattle.rup_checker.specs.Logs.{IsComplete}
use Rattle.cdcl_solver.specs.Searches.{Searched, taken, IsSettled, IsAsserting, IsLearnt}
use Rattle.cdcl_solver.proofs.Bound.{busy_short}
use Rattle.cdcl_solver.proofs.Short.{trail_short}
use Rattle.cdcl_solver.proofs.Solving.{solving_goes_on, solving_decides, solving_learns, is_refuted, is_spent, is_started, back_decided, back_settled, back_asserting, is_model}
use Rattle.cdcl_solver.proofs.solver.run.Goals as goal

some_length : {X : Type 0} (xs : List X) → ¬ (xs ≡ []) → 0 < length xs
some_length [] h = absurd (h refl)
some_length (x ∷ xs) h = omega arith

false_true : false ≡ true → ⊥
false_true e = cc

pub returns-then-is_empty-clause-answer : goal.returns-then-is_empty-clause-answer
returns-then-is_empty-clause-answer c =
    let solving = solving_goes_on c.args.formula.now c.loop-steps.search c.propagate.new.self c.loop-steps.steps c.loop-steps.invariant.solving
    c.in_ok-conflict.ensures.search c.in_ok-conflict.ensures.goes_on c.in_ok-conflict.ensures.started in
    let ex = c.in_ok-learnt.ensures.shown in
    is_refuted c.args.formula.now c.propagate.new.self c.loop-steps.steps solving c.in_ok-learnt.learnt ex c.args.budget c.in_ok-learnt.learnt.step c.push.new.self refl refl (c.if-is_empty.ensures.0 refl) c.loop-steps.invariant.few c.in_ok-push.ensures.ok

pub returns-then-len-budget-clause-answer : goal.returns-then-len-budget-clause-answer
returns-then-len-budget-clause-answer c =
    let solving = solving_goes_on c.args.formula.now c.loop-steps.search c.propagate.new.self c.loop-steps.steps c.loop-steps.invariant.solving
    c.in_ok-conflict.ensures.search c.in_ok-conflict.ensures.goes_on c.in_ok-conflict.ensures.started in
    let ex = c.in_ok-learnt.ensures.shown in
    let some = some_length c.in_ok-learnt.learnt.step.clause (λ e. false_true (c.if-is_empty.ensures.1 e)) in
    is_spent c.args.formula.now c.propagate.new.self c.loop-steps.steps solving c.in_ok-learnt.learnt ex some c.args.budget (sym c.len.ensures ∙ c.if-len-budget.true)

pub returns-then-len-budget-clause-decided : goal.returns-then-len-budget-clause-decided
returns-then-len-budget-clause-decided c =
    λ low. let r = returns-then-len-budget-clause-answer c in omega (arith, low, r.whole, busy_short c.args.formula.now c.loop-steps.steps r.busy)

pub backtrack-requires-clause-decided : goal.backtrack-requires-clause-decided
backtrack-requires-clause-decided c =
    let solving = solving_goes_on c.args.formula.now c.loop-steps.search c.propagate.new.self c.loop-steps.steps c.loop-steps.invariant.solving
    c.in_ok-conflict.ensures.search c.in_ok-conflict.ensures.goes_on c.in_ok-conflict.ensures.started in
    let ex = c.in_ok-learnt.ensures.shown in
    let some = some_length c.in_ok-learnt.learnt.step.clause (λ e. false_true (c.if-is_empty.ensures.1 e)) in
    back_decided c.args.formula.now c.propagate.new.self c.loop-steps.steps solving c.in_ok-learnt.learnt ex some

pub backtrack-requires-clause-started : goal.backtrack-requires-clause-started
backtrack-requires-clause-started c =
    let solving = solving_goes_on c.args.formula.now c.loop-steps.search c.propagate.new.self c.loop-steps.steps c.loop-steps.invariant.solving
    c.in_ok-conflict.ensures.search c.in_ok-conflict.ensures.goes_on c.in_ok-conflict.ensures.started in
    let ex = c.in_ok-learnt.ensures.shown in
    let some = some_length c.in_ok-learnt.learnt.step.clause (λ e. false_true (c.if-is_empty.ensures.1 e)) in
    is_started c.args.formula.now c.propagate.new.self c.loop-steps.steps solving c.in_ok-learnt.learnt ex some

pub learn-requires-clause-settled : goal.learn-requires-clause-settled
learn-requires-clause-settled c =
    let solving = solving_goes_on c.args.formula.now c.loop-steps.search c.propagate.new.self c.loop-steps.steps c.loop-steps.invariant.solving
    c.in_ok-conflict.ensures.search c.in_ok-conflict.ensures.goes_on c.in_ok-conflict.ensures.started in
    let ex = c.in_ok-learnt.ensures.shown in
    let some = some_length c.in_ok-learnt.learnt.step.clause (λ e. false_true (c.if-is_empty.ensures.1 e)) in
    subst IsSettled (sym c.backtrack.ensures.state) (back_settled c.args.formula.now c.propagate.new.self c.loop-steps.steps solving c.in_ok-learnt.learnt ex some)

pub learn-requires-clause-asserting : goal.learn-requires-clause-asserting
learn-requires-clause-asserting c =
    let solving = solving_goes_on c.args.formula.now c.loop-steps.search c.propagate.new.self c.loop-steps.steps c.loop-steps.invariant.solving
    c.in_ok-conflict.ensures.search c.in_ok-conflict.ensures.goes_on c.in_ok-conflict.ensures.started in
    let ex = c.in_ok-learnt.ensures.shown in
    let some = some_length c.in_ok-learnt.learnt.step.clause (λ e. false_true (c.if-is_empty.ensures.1 e)) in
    subst (λ (s : Searched). IsAsserting s c.as_slice.result.now) (sym c.backtrack.ensures.state)
    (subst (λ (ls : List ℤ). IsAsserting (record c.propagate.new.self { trail = take c.in_ok-learnt.learnt.back c.propagate.new.self.trail; followed = c.in_ok-learnt.learnt.back }) ls) (sym c.as_slice.ensures) (back_asserting c.args.formula.now c.propagate.new.self c.loop-steps.steps solving c.in_ok-learnt.learnt ex some))

pub loop-steps-preserved-in_ok-push-2 : goal.loop-steps-preserved-in_ok-push-2
loop-steps-preserved-in_ok-push-2 c =
    let solving = solving_goes_on c.args.formula.now c.loop-steps.search c.propagate.new.self c.loop-steps.steps c.loop-steps.invariant.solving
    c.in_ok-conflict.ensures.search c.in_ok-conflict.ensures.goes_on c.in_ok-conflict.ensures.started in
    let ex = c.in_ok-learnt.ensures.shown in
    let some = some_length c.in_ok-learnt.learnt.step.clause (λ e. false_true (c.if-is_empty.ensures.1 e)) in
    let learnt = subst (λ (s : Searched). IsLearnt s c.in_ok-search-2.search c.in_ok-learnt.learnt.step.clause) c.backtrack.ensures.state
    (subst (λ (ls : List ℤ). IsLearnt c.backtrack.new.self c.in_ok-search-2.search ls) c.as_slice.ensures c.in_ok-search-2.ensures.learnt) in
    record {
      solving = solving_learns c.args.formula.now c.propagate.new.self c.loop-steps.steps solving c.in_ok-learnt.learnt ex some c.in_ok-search-2.search c.in_ok-learnt.learnt.step c.push-in-Some.new.self
          c.in_ok-search-2.ensures.search learnt refl refl c.in_ok-push-2.ensures.ok;
      variables = c.in_ok-learnt.ensures.variables ∙ solving.variables;
      clear = c.in_ok-learnt.ensures.clear;
      size = c.in_ok-learnt.ensures.size ∙ ap (λ (n : ℕ). n + 1) solving.variables;
      few = omega (arith, c.if-len-budget.false, c.len.ensures, c.loop-steps.invariant.few, ap length c.in_ok-push-2.ensures.ok, length_push c.loop-steps.steps c.in_ok-learnt.learnt.step);
    }

pub loop-steps-smaller : goal.loop-steps-smaller
loop-steps-smaller c =
    let solving = solving_goes_on c.args.formula.now c.loop-steps.search c.propagate.new.self c.loop-steps.steps c.loop-steps.invariant.solving
    c.in_ok-conflict.ensures.search c.in_ok-conflict.ensures.goes_on c.in_ok-conflict.ensures.started in
    let is = c.in_ok-assume.ensures.ok in
    let short = trail_short c.assume.new.self.variables c.assume.new.self.clauses c.assume.new.self.trail c.in_ok-assume.ensures.search.justified in
    let count : length c.assume.new.self.trail ≡ length c.propagate.new.self.trail + 1 = ap (λ (s : Searched). length s.trail) is ∙ length_push c.propagate.new.self.trail _ in
    let variables : c.assume.new.self.variables ≡ c.args.formula.now.variables = ap (λ (s : Searched). s.variables) is ∙ solving.variables in
    omega (arith, short, count, variables, ap length c.in_ok-conflict.ensures.goes_on.trail, length-append c.loop-steps.search.trail c.in_ok-conflict.ensures.goes_on.more)

pub loop-steps-preserved : goal.loop-steps-preserved
loop-steps-preserved c =
    let solving = solving_goes_on c.args.formula.now c.loop-steps.search c.propagate.new.self c.loop-steps.steps c.loop-steps.invariant.solving
    c.in_ok-conflict.ensures.search c.in_ok-conflict.ensures.goes_on c.in_ok-conflict.ensures.started in
    let settled = subst (λ (o : Option ℕ). IfNone o (IsSettled c.propagate.new.self)) c.in_default.is c.in_ok-conflict.ensures.settled in
    record {
      solving = solving_decides c.args.formula.now c.propagate.new.self c.assume.new.self c.loop-steps.steps _ solving c.in_ok-assume.ensures.search c.in_ok-assume.ensures.ok settled.started;
      few = c.loop-steps.invariant.few;
      variables = c.loop-steps.invariant.variables;
      clear = c.loop-steps.invariant.clear;
      size = c.loop-steps.invariant.size;
    }

pub returns-in_default-next-clause-answer : goal.returns-in_default-next-clause-answer
returns-in_default-next-clause-answer c =
    let solving = solving_goes_on c.args.formula.now c.loop-steps.search c.propagate.new.self c.loop-steps.steps c.loop-steps.invariant.solving
    c.in_ok-conflict.ensures.search c.in_ok-conflict.ensures.goes_on c.in_ok-conflict.ensures.started in
    let quiet = subst (λ (o : Option ℕ). IfNone o (IsComplete c.propagate.new.self.clauses (Contains (taken c.propagate.new.self)))) c.in_default.is c.in_ok-conflict.ensures.quiet in
    is_model c.args.formula.now c.propagate.new.self c.loop-steps.steps c.in_ok-assignment.field-0.items solving quiet c.in_default-next.ensures.none
    c.in_ok-assignment.ensures.count c.in_ok-assignment.ensures.values
