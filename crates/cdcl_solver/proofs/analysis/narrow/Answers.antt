use Rattle.std.proofs.Common.{rules, ◌≡◌, ◌≢◌, ◌∙◌, ◌+◌, ◌-◌, ◌<◌, ◌≤◌, ◌++◌, ◌∷◌, [], ◌⊎◌, inl, inr, ℕ, List, sym, ap, subst, refl, length, get_or, take, drop, arith, pos, to_z, of_z, w32, Option, None, Some, true, false, Bool}
use Rattle.std.specs.Prelude.{ℤ, neg_ℤ, nat_abs, Contains, All, ◌↔◌, IsTrue}
use Rattle.cdcl_solver.specs.declared.analysis.Explained.{Explained}
use Rattle.cdcl_solver.specs.declared.trail.Assigned.{Assigned}
use Rattle.cdcl_solver.specs.declared.trail.Reason.{Reason}
use Rattle.cdcl_solver.specs.declared.trail.Reason.TheVariants as reason
use Rattle.cdcl_solver.specs.Literals.{IsMarked}
use Rattle.cdcl_solver.proofs.Asserting.{nothing}
use Rattle.cdcl_solver.proofs.Explaining.{opened_passed, opened_resolved, opened_cut}
use Rattle.cdcl_solver.proofs.analysis.narrow.Goals as goal

false_true : false ≡ true → ⊥
false_true e = cc

pub returns-then-not-contains-clause-opened : goal.returns-then-not-contains-clause-opened
returns-then-not-contains-clause-opened c = λ _.
    let is : get_or c.trail.result.now c.args.at nothing ≡ get_or c.args.search.now.trail c.args.at nothing = ap (λ (ts : List Assigned). get_or ts c.args.at nothing) c.trail.ensures.value in
    let read : to_z w32 (of_z w32 (get_or c.trail.result.now c.args.at nothing).literal) ≡ (get_or c.trail.result.now c.args.at nothing).literal = search rules in
    let put : to_z w32 (of_z w32 c.negation-literal.result) ≡ c.negation-literal.result = search rules in
    let own : to_z w32 (of_z w32 c.negation-literal.result) ≡ neg_ℤ (get_or c.args.search.now.trail c.args.at nothing).literal =
    put ∙ c.negation-literal.ensures ∙ ap neg_ℤ (read ∙ ap (λ (b : Assigned). b.literal) is) in
    opened_passed c.args.search.now c.args.start c.args.at c.trail.ensures.search c.requires.low c.args.explained.now c.requires.opened
    (λ (h : IsMarked c.args.explained.now.seen (neg_ℤ (get_or c.args.search.now.trail c.args.at nothing).literal)). false_true (sym c.if-not-contains.true ∙ c.contains.ensures.1 (subst (IsMarked c.args.explained.now.seen) (sym own) h)))

pub returns-then-first-explained-clause-opened : goal.returns-then-first-explained-clause-opened
returns-then-first-explained-clause-opened c = λ _.
    opened_resolved c.args.search.now c.args.start c.args.at c.trail.ensures.search c.requires.low c.args.explained.now (record c.resolve.new.explained { lowest = c.first_place-first.result }) c.in-Clause.number c.first_place-first.result c.requires.opened c.in_ok-resolve-in-Clause.ensures.walked c.in_ok-resolve-in-Clause.ensures.clause
    (omega (arith, c.if-first-explained.true, c.in_ok-resolve-in-Clause.ensures.lowest)) (omega arith) c.in_ok-resolve-in-Clause.ensures.picked (λ l there here. c.first_place-first.ensures l (subst (λ (ls : List ℤ). Contains ls l) c.clause.ensures.value there) here)

pub returns-else-first-explained-clause-opened : goal.returns-else-first-explained-clause-opened
returns-else-first-explained-clause-opened c = λ _.
    opened_resolved c.args.search.now c.args.start c.args.at c.trail.ensures.search c.requires.low c.args.explained.now c.resolve.new.explained c.in-Clause.number c.first_place-first.result c.requires.opened c.in_ok-resolve-in-Clause.ensures.walked c.in_ok-resolve-in-Clause.ensures.clause
    (omega (arith, c.in_ok-resolve-in-Clause.ensures.lowest)) (omega (arith, c.if-first-explained.false)) c.in_ok-resolve-in-Clause.ensures.picked (λ l there here. c.first_place-first.ensures l (subst (λ (ls : List ℤ). Contains ls l) c.clause.ensures.value there) here)

pub returns-in_ok-keep-in-Clause-2-clause-kept : goal.returns-in_ok-keep-in-Clause-2-clause-kept
returns-in_ok-keep-in-Clause-2-clause-kept c = λ _.
    let is : get_or c.trail.result.now c.args.at nothing ≡ get_or c.args.search.now.trail c.args.at nothing = ap (λ (ts : List Assigned). get_or ts c.args.at nothing) c.trail.ensures.value in
    let read : to_z w32 (of_z w32 (get_or c.trail.result.now c.args.at nothing).literal) ≡ (get_or c.trail.result.now c.args.at nothing).literal = search rules in
    let put : to_z w32 (of_z w32 c.negation-literal.result) ≡ c.negation-literal.result = search rules in
    let own : to_z w32 (of_z w32 c.negation-literal.result) ≡ neg_ℤ (get_or c.args.search.now.trail c.args.at nothing).literal =
    put ∙ c.negation-literal.ensures ∙ ap neg_ℤ (read ∙ ap (λ (b : Assigned). b.literal) is) in
    opened_cut c.args.search.now c.args.start c.args.at c.trail.ensures.search c.requires.low c.args.explained.now (record c.keep.new.explained { back = c.args.start - 1 }) (to_z w32 (of_z w32 c.negation-literal.result)) c.requires.some c.requires.inside c.requires.level c.requires.opened own
    c.in_ok-keep-in-Clause-2.ensures.clause c.in_ok-keep-in-Clause-2.ensures.hints refl c.in_ok-keep-in-Clause-2.ensures.variables c.in_ok-keep-in-Clause-2.ensures.itself c.in_ok-keep-in-Clause-2.ensures.others
    (inl (omega (arith, c.if-explained-at.false)))

pub returns-in_ok-keep-in-Decision-clause-kept : goal.returns-in_ok-keep-in-Decision-clause-kept
returns-in_ok-keep-in-Decision-clause-kept c = λ _.
    let is : get_or c.trail.result.now c.args.at nothing ≡ get_or c.args.search.now.trail c.args.at nothing = ap (λ (ts : List Assigned). get_or ts c.args.at nothing) c.trail.ensures.value in
    let read : to_z w32 (of_z w32 (get_or c.trail.result.now c.args.at nothing).literal) ≡ (get_or c.trail.result.now c.args.at nothing).literal = search rules in
    let put : to_z w32 (of_z w32 c.negation-literal.result) ≡ c.negation-literal.result = search rules in
    let own : to_z w32 (of_z w32 c.negation-literal.result) ≡ neg_ℤ (get_or c.args.search.now.trail c.args.at nothing).literal =
    put ∙ c.negation-literal.ensures ∙ ap neg_ℤ (read ∙ ap (λ (b : Assigned). b.literal) is) in
    opened_cut c.args.search.now c.args.start c.args.at c.trail.ensures.search c.requires.low c.args.explained.now (record c.keep-in-Decision.new.explained { back = c.args.start - 1 }) (to_z w32 (of_z w32 c.negation-literal.result)) c.requires.some c.requires.inside c.requires.level c.requires.opened own
    c.in_ok-keep-in-Decision.ensures.clause c.in_ok-keep-in-Decision.ensures.hints refl c.in_ok-keep-in-Decision.ensures.variables c.in_ok-keep-in-Decision.ensures.itself c.in_ok-keep-in-Decision.ensures.others
    (inr (ap (λ (b : Assigned). b.reason) (sym is) ∙ c.in-Decision.is))
