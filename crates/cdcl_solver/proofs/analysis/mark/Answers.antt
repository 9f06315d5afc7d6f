use Rattle.std.proofs.Common.{rules, ◌≡◌, ◌≢◌, ◌∙◌, ◌+◌, ◌-◌, ◌<◌, ◌≤◌, ◌++◌, ◌∷◌, [], ◌⊎◌, inl, inr, ℕ, List, sym, ap, subst, refl, length, get_or, take, drop, arith, pos, to_z, of_z, w32, Option, None, Some, true, false, Bool}
use Rattle.std.specs.Prelude.{ℤ, neg_ℤ, Contains, All, ◌↔◌, IsTrue}
use Rattle.std.proofs.lemmas.List.{take_all}
use Rattle.cdcl_solver.specs.Literals.{IsMarked}
use Rattle.cdcl_solver.proofs.Marking.{marked_more}
use Rattle.cdcl_solver.proofs.analysis.mark.Goals as goal

pub loop-literal-preserved : goal.loop-literal-preserved
loop-literal-preserved c =
    let x : ℤ = get_or c.args.clause.now c.loop-literal.literal-index (pos 0) in
    let same : to_z w32 (of_z w32 x) ≡ x = search rules in
    record {
      variables = c.insert.ensures.variables ∙ c.loop-literal.invariant.variables;
      marked = marked_more c.args.seen.now c.loop-literal.seen c.insert.new.self c.args.clause.now c.loop-literal.literal-index (to_z w32 (of_z w32 x)) c.loop-literal-test.true same
          c.insert.ensures.itself c.insert.ensures.others c.loop-literal.invariant.marked;
    }

pub returns-clause-marked : goal.returns-clause-marked
returns-clause-marked c = subst (λ (ls : List ℤ). (l : ℤ) → IsMarked c.loop-literal.seen l ↔ (IsMarked c.args.seen.now l ⊎ Contains ls l))
    (take_all c.loop-literal.literal-index c.args.clause.now c.loop-literal-test.false) c.loop-literal.invariant.marked
