use Rattle.std.proofs.Common.{rules, ◌≡◌, ◌≢◌, ◌∙◌, ◌+◌, ◌-◌, ◌<◌, ◌≤◌, ◌++◌, ◌∷◌, [], ◌⊎◌, inl, inr, ℕ, List, sym, ap, subst, refl, length, get_or, take, drop, arith, pos, to_z, of_z, w32, Option, None, Some, true, false, Bool}
use Rattle.std.specs.Prelude.{ℤ, neg_ℤ, nat_abs, Contains, All, ◌↔◌, IsTrue}
use Rattle.cdcl_solver.specs.declared.analysis.Explained.{Explained}
use Rattle.cdcl_solver.specs.declared.trail.Assigned.{Assigned}
use Rattle.cdcl_solver.specs.declared.trail.Reason.{Reason}
use Rattle.cdcl_solver.specs.declared.trail.Reason.TheVariants as reason
use Rattle.cdcl_solver.specs.Literals.{IsMarked}
use Rattle.cdcl_solver.proofs.Asserting.{nothing}
use Rattle.std.specs.Prelude.{Result, Ok, Err, OnOk}
use Rattle.std.proofs.lemmas.Bool.{lt-ltb}
use Rattle.cdcl_solver.proofs.Explaining.{decision_low, passed, resolved, kept_first, kept_more}
use Rattle.cdcl_solver.proofs.analysis.take_in.Goals.{then-at-fixed, else-at-fixed}
use Rattle.cdcl_solver.proofs.analysis.take_in.Goals as goal

false_true : false ≡ true → ⊥
false_true e = cc

some_length : {X : Type 0} (xs : List X) → ¬ (xs ≡ []) → 0 < length xs
some_length [] h = absurd (h refl)
some_length (x ∷ xs) h = omega arith

clause_decision : (k : ℕ) → reason.Clause k ≡ reason.Decision → ⊥
clause_decision k e = cc

reason_cases : (r : Reason) → (r ≡ reason.Decision) ⊎ (r ≢ reason.Decision)
reason_cases reason.Decision = inl refl
reason_cases (reason.Clause k) = inr (clause_decision k)

on_ok : {E : Type 0} (r : Result Unit E) (P Q : Type 0) → OnOk r P → (P → Q) → OnOk r Q
on_ok (Ok u) P Q h f = f h
on_ok (Err e) P Q h f = tt

pub returns-then-not-contains : goal.returns-then-not-contains
returns-then-not-contains c =
    let is : get_or c.trail.result.now c.args.at nothing ≡ get_or c.args.search.now.trail c.args.at nothing = ap (λ (ts : List Assigned). get_or ts c.args.at nothing) c.trail.ensures.value in
    let read : to_z w32 (of_z w32 (get_or c.trail.result.now c.args.at nothing).literal) ≡ (get_or c.trail.result.now c.args.at nothing).literal = search rules in
    let put : to_z w32 (of_z w32 c.negation-literal.result) ≡ c.negation-literal.result = search rules in
    let own : to_z w32 (of_z w32 c.negation-literal.result) ≡ neg_ℤ (get_or c.args.search.now.trail c.args.at nothing).literal =
    put ∙ c.negation-literal.ensures ∙ ap neg_ℤ (read ∙ ap (λ (b : Assigned). b.literal) is) in
    passed c.args.search.now c.args.start c.args.at c.trail.ensures.search c.requires.low c.args.explained.now c.pass.new.explained c.requires.explained
    (λ (h : IsMarked c.args.explained.now.seen (neg_ℤ (get_or c.args.search.now.trail c.args.at nothing).literal)). false_true (sym c.if-not-contains.true ∙ c.contains.ensures.1 (subst (IsMarked c.args.explained.now.seen) (sym own) h)))
    c.pass.ensures.state (λ d few. c.pass.ensures.first (ap (λ (b : Assigned). b.reason) is ∙ d) few) c.pass.ensures.more (λ d. c.pass.ensures.implied (λ e. d (ap (λ (b : Assigned). b.reason) (sym is) ∙ e)))
    (reason_cases (get_or c.args.search.now.trail c.args.at nothing).reason)

pub returns-in_ok-keep-in-Decision : goal.returns-in_ok-keep-in-Decision
returns-in_ok-keep-in-Decision c =
    let is : get_or c.trail.result.now c.args.at nothing ≡ get_or c.args.search.now.trail c.args.at nothing = ap (λ (ts : List Assigned). get_or ts c.args.at nothing) c.trail.ensures.value in
    let read : to_z w32 (of_z w32 (get_or c.trail.result.now c.args.at nothing).literal) ≡ (get_or c.trail.result.now c.args.at nothing).literal = search rules in
    let put : to_z w32 (of_z w32 c.negation-literal.result) ≡ c.negation-literal.result = search rules in
    let own : to_z w32 (of_z w32 c.negation-literal.result) ≡ neg_ℤ (get_or c.args.search.now.trail c.args.at nothing).literal =
    put ∙ c.negation-literal.ensures ∙ ap neg_ℤ (read ∙ ap (λ (b : Assigned). b.literal) is) in
    let decided = ap (λ (b : Assigned). b.reason) (sym is) ∙ c.in-Decision.is in
    let less = decision_low c.args.search.now c.args.start c.args.at c.trail.ensures.search c.requires.low c.requires.level decided in
    kept_first c.args.search.now c.args.start c.args.at c.trail.ensures.search c.requires.low c.args.explained.now (record c.keep.new.explained { back = c.args.at }) (to_z w32 (of_z w32 c.negation-literal.result)) c.requires.explained own
    c.in_ok-keep-in-Decision.ensures.clause c.in_ok-keep-in-Decision.ensures.hints c.in_ok-keep-in-Decision.ensures.variables c.in_ok-keep-in-Decision.ensures.itself c.in_ok-keep-in-Decision.ensures.others c.requires.level (omega (arith, less))
    decided (c.if-is_empty.ensures.0 refl) refl

pub returns-in-Decision-2 : goal.returns-in-Decision-2
returns-in-Decision-2 c =
    let is : get_or c.trail.result.now c.args.at nothing ≡ get_or c.args.search.now.trail c.args.at nothing = ap (λ (ts : List Assigned). get_or ts c.args.at nothing) c.trail.ensures.value in
    let read : to_z w32 (of_z w32 (get_or c.trail.result.now c.args.at nothing).literal) ≡ (get_or c.trail.result.now c.args.at nothing).literal = search rules in
    let put : to_z w32 (of_z w32 c.negation-literal.result) ≡ c.negation-literal.result = search rules in
    let own : to_z w32 (of_z w32 c.negation-literal.result) ≡ neg_ℤ (get_or c.args.search.now.trail c.args.at nothing).literal =
    put ∙ c.negation-literal.ensures ∙ ap neg_ℤ (read ∙ ap (λ (b : Assigned). b.literal) is) in
    let decided = ap (λ (b : Assigned). b.reason) (sym is) ∙ c.in-Decision-2.is in
    let less = decision_low c.args.search.now c.args.start c.args.at c.trail.ensures.search c.requires.low c.requires.level decided in
    on_ok c.keep-in-Decision-2.result _ _ c.keep-in-Decision-2.ensures.clause (λ grown.
    kept_more c.args.search.now c.args.start c.args.at c.trail.ensures.search c.requires.low c.args.explained.now c.keep-in-Decision-2.new.explained (to_z w32 (of_z w32 c.negation-literal.result)) c.requires.explained own
    grown c.keep-in-Decision-2.ensures.hints c.keep-in-Decision-2.ensures.variables c.keep-in-Decision-2.ensures.itself c.keep-in-Decision-2.ensures.others c.requires.level (omega (arith, less))
    (inl (some_length c.args.explained.now.clause (λ e. false_true (c.if-is_empty.ensures.1 e)))) c.keep-in-Decision-2.ensures.back)

pub returns-in-Clause : goal.returns-in-Clause
returns-in-Clause c =
    let is : get_or c.trail.result.now c.args.at nothing ≡ get_or c.args.search.now.trail c.args.at nothing = ap (λ (ts : List Assigned). get_or ts c.args.at nothing) c.trail.ensures.value in
    let read : to_z w32 (of_z w32 (get_or c.trail.result.now c.args.at nothing).literal) ≡ (get_or c.trail.result.now c.args.at nothing).literal = search rules in
    let put : to_z w32 (of_z w32 c.negation-literal.result) ≡ c.negation-literal.result = search rules in
    let own : to_z w32 (of_z w32 c.negation-literal.result) ≡ neg_ℤ (get_or c.args.search.now.trail c.args.at nothing).literal =
    put ∙ c.negation-literal.ensures ∙ ap neg_ℤ (read ∙ ap (λ (b : Assigned). b.literal) is) in
    on_ok c.resolve.result _ _ c.resolve.ensures.walked (λ walked.
    resolved c.args.search.now c.args.start c.args.at c.trail.ensures.search c.requires.low c.args.explained.now c.resolve.new.explained c.requires.explained walked c.resolve.ensures.clause c.resolve.ensures.back
    (λ d. clause_decision c.in-Clause.number (sym (ap (λ (b : Assigned). b.reason) (sym is) ∙ c.in-Clause.is) ∙ d)))

pub returns-in-Clause-2 : goal.returns-in-Clause-2
returns-in-Clause-2 c =
    let is : get_or c.trail.result.now c.args.at nothing ≡ get_or c.args.search.now.trail c.args.at nothing = ap (λ (ts : List Assigned). get_or ts c.args.at nothing) c.trail.ensures.value in
    let read : to_z w32 (of_z w32 (get_or c.trail.result.now c.args.at nothing).literal) ≡ (get_or c.trail.result.now c.args.at nothing).literal = search rules in
    let put : to_z w32 (of_z w32 c.negation-literal.result) ≡ c.negation-literal.result = search rules in
    let own : to_z w32 (of_z w32 c.negation-literal.result) ≡ neg_ℤ (get_or c.args.search.now.trail c.args.at nothing).literal =
    put ∙ c.negation-literal.ensures ∙ ap neg_ℤ (read ∙ ap (λ (b : Assigned). b.literal) is) in
    let far : c.args.fixed ≤ c.args.at = elim c.if-at-fixed.branch [ then-at-fixed w ↦ absurd (false_true (sym c.if-is_covered.false ∙ w.value-is ∙ lt-ltb c.args.at c.args.fixed w.if-at-fixed.true)) | else-at-fixed w ↦ omega (arith, w.if-at-fixed.false) ] in
    let some : 0 < c.args.start = grind (arith, c.requires.fixed) in
    on_ok c.keep-in-Clause-2.result _ _ c.keep-in-Clause-2.ensures.clause (λ grown.
    kept_more c.args.search.now c.args.start c.args.at c.trail.ensures.search c.requires.low c.args.explained.now c.keep-in-Clause-2.new.explained (to_z w32 (of_z w32 c.negation-literal.result)) c.requires.explained own
    grown c.keep-in-Clause-2.ensures.hints c.keep-in-Clause-2.ensures.variables c.keep-in-Clause-2.ensures.itself c.keep-in-Clause-2.ensures.others c.requires.level some
    (inr (λ d. clause_decision c.in-Clause-2.field-0 (sym (ap (λ (b : Assigned). b.reason) (sym is) ∙ c.in-Clause-2.is) ∙ d))) c.keep-in-Clause-2.ensures.back)
