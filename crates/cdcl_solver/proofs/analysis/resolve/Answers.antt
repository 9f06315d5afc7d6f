use Rattle.std.proofs.Common.{rules, ◌≡◌, ◌≢◌, ◌∙◌, ◌+◌, ◌-◌, ◌<◌, ◌≤◌, ◌++◌, ◌∷◌, [], ◌⊎◌, inl, inr, ℕ, List, sym, ap, subst, refl, length, get_or, take, drop, arith, pos, to_z, of_z, w32, Option, None, Some, true, false, Bool}
use Rattle.std.specs.Prelude.{ℤ, neg_ℤ, nat_abs, Contains, All, ◌↔◌, IsTrue}
use Rattle.cdcl_solver.specs.declared.analysis.Explained.{Explained}
use Rattle.cdcl_solver.specs.declared.trail.Assigned.{Assigned}
use Rattle.cdcl_solver.specs.declared.trail.Reason.{Reason}
use Rattle.cdcl_solver.specs.declared.trail.Reason.TheVariants as reason
use Rattle.cdcl_solver.specs.Literals.{IsMarked}
use Rattle.cdcl_solver.proofs.Asserting.{nothing}
use Rattle.cdcl_solver.proofs.Walking.{walked_resolved, resolved_picked}
use Rattle.cdcl_solver.proofs.analysis.resolve.Goals as goal

pub returns-clause-walked : goal.returns-clause-walked
returns-clause-walked c =
    let is : get_or c.trail.result.now c.args.at nothing ≡ get_or c.args.search.now.trail c.args.at nothing = ap (λ (ts : List Assigned). get_or ts c.args.at nothing) c.trail.ensures.value in
    let read : to_z w32 (of_z w32 (get_or c.trail.result.now c.args.at nothing).literal) ≡ (get_or c.trail.result.now c.args.at nothing).literal = search rules in
    let put : to_z w32 (of_z w32 c.negation.result) ≡ c.negation.result = search rules in
    let own : to_z w32 (of_z w32 c.negation.result) ≡ neg_ℤ (get_or c.args.search.now.trail c.args.at nothing).literal =
    put ∙ c.negation.ensures ∙ ap neg_ℤ (read ∙ ap (λ (b : Assigned). b.literal) is) in
    walked_resolved c.args.search.now c.args.at c.trail.ensures.search c.requires.low c.args.explained.now.clause c.args.explained.now.hints c.args.explained.now.seen c.remove.new.self (to_z w32 (of_z w32 c.negation.result)) c.requires.walked own
    c.remove.ensures.variables c.remove.ensures.itself c.remove.ensures.others c.args.number c.clause.result.now c.mark.new.seen c.remove-2.new.self (to_z w32 (of_z w32 (get_or c.trail.result.now c.args.at nothing).literal)) c.requires.reason c.clause.ensures.value
    c.mark.ensures.variables c.mark.ensures.marked (read ∙ ap (λ (b : Assigned). b.literal) is) c.remove-2.ensures.variables c.remove-2.ensures.itself c.remove-2.ensures.others c.push.new.self c.in_ok-push.ensures.ok

pub returns-clause-picked : goal.returns-clause-picked
returns-clause-picked c =
    let is : get_or c.trail.result.now c.args.at nothing ≡ get_or c.args.search.now.trail c.args.at nothing = ap (λ (ts : List Assigned). get_or ts c.args.at nothing) c.trail.ensures.value in
    let read : to_z w32 (of_z w32 (get_or c.trail.result.now c.args.at nothing).literal) ≡ (get_or c.trail.result.now c.args.at nothing).literal = search rules in
    let put : to_z w32 (of_z w32 c.negation.result) ≡ c.negation.result = search rules in
    let own : to_z w32 (of_z w32 c.negation.result) ≡ neg_ℤ (get_or c.args.search.now.trail c.args.at nothing).literal =
    put ∙ c.negation.ensures ∙ ap neg_ℤ (read ∙ ap (λ (b : Assigned). b.literal) is) in
    resolved_picked c.args.search.now c.args.at c.trail.ensures.search c.requires.low c.args.explained.now.clause c.args.explained.now.hints c.args.explained.now.seen c.remove.new.self (to_z w32 (of_z w32 c.negation.result)) c.requires.walked own
    c.remove.ensures.variables c.remove.ensures.itself c.remove.ensures.others c.args.number c.clause.result.now c.mark.new.seen c.remove-2.new.self (to_z w32 (of_z w32 (get_or c.trail.result.now c.args.at nothing).literal)) c.requires.reason c.clause.ensures.value
    c.mark.ensures.variables c.mark.ensures.marked (read ∙ ap (λ (b : Assigned). b.literal) is) c.remove-2.ensures.variables c.remove-2.ensures.itself c.remove-2.ensures.others
