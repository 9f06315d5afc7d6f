use Rattle.std.proofs.Common.{◌≡◌, ◌++◌, ◌∷◌, [], ◌∙◌, ap, sym, subst, rules, to_z, of_z, w32}
use Rattle.std.specs.Prelude.{ℤ, neg_ℤ}
use Rattle.cdcl_solver.specs.Searches.{Searched, taken}
use Rattle.cdcl_solver.specs.Trails.{IsJustified}
use Rattle.cdcl_solver.proofs.States.{assigned_both}
use Rattle.cdcl_solver.proofs.search.Search.assign.Goals as goal

pub invariant_of-self-2 : goal.invariant_of-self-2
invariant_of-self-2 c =
    let why = subst (λ (t : Searched). IsJustified t.variables t.clauses (taken t) (record { literal = c.args.literal; reason = c.args.reason })) (sym c.self.view_is) c.requires in
    let same : to_z w32 (of_z w32 c.negation-opposite.result) ≡ c.negation-opposite.result = search rules in
    let read : to_z w32 (of_z w32 c.args.literal) ≡ c.args.literal = search rules in
    assigned_both _ (record { literal = c.args.literal; reason = c.args.reason }) c.self.invariant.search why
    c.self.inside.falsified c.insert.new.self c.insert.new.self.variables c.push.new.self (to_z w32 (of_z w32 c.negation-opposite.result)) c.self.invariant.marks
    c.insert.ensures.variables (same ∙ c.negation-opposite.ensures ∙ ap neg_ℤ read) c.insert.ensures.itself c.insert.ensures.others c.insert.ensures.variables
    (c.in_ok-push.ensures.ok ∙ ap (λ (l : ℤ). c.self.inside.trail ++ record { literal = l; reason = c.args.reason } ∷ []) read)

pub returns-clause-search : goal.returns-clause-search
returns-clause-search c = (invariant_of-self-2 c).search
