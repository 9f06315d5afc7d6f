use Rattle.std.proofs.Common.{rules, ◌≡◌, ◌∙◌, ℕ, List, sym, subst, get_or, pos, to_z, of_z, w32}
use Rattle.std.specs.Prelude.{ℤ, Contains, All, ◌↔◌}
use Rattle.rup_checker.specs.Formulas.{IsLiteral}
use Rattle.std.proofs.lemmas.List.{take_all}
use Rattle.cdcl_solver.proofs.Marking.{same_more, range_front}
use Rattle.cdcl_solver.proofs.search.distinct.Goals as goal

pub loop-literal-preserved : goal.loop-literal-preserved
loop-literal-preserved c =
    let x : ℤ = get_or c.args.clause.now c.loop-literal.literal-index (pos 0) in
    let same : to_z w32 (of_z w32 x) ≡ x = search rules in
    record {
      variables = c.in_ok-put.ensures.variables ∙ c.loop-literal.invariant.variables;
      same = same_more c.loop-literal.list c.put.new.list c.args.clause.now c.loop-literal.literal-index (to_z w32 (of_z w32 x)) c.loop-literal-test.true same c.loop-literal.invariant.same c.in_ok-put.ensures.same;
      apart = c.in_ok-put.ensures.apart;
      marks = c.in_ok-put.ensures.marks;
    }

pub unmark-requires-clause-in_range : goal.unmark-requires-clause-in_range
unmark-requires-clause-in_range c =
    subst (λ (ls : List ℤ). All (IsLiteral c.loop-literal.seen.variables) ls) (sym c.as_slice.ensures)
    (subst (λ (n : ℕ). All (IsLiteral n) c.loop-literal.list) (sym c.loop-literal.invariant.variables)
    (range_front c.args.seen.now.variables c.loop-literal.list c.args.clause.now c.loop-literal.literal-index c.loop-literal.invariant.same c.requires.in_range))

pub returns-clause-same : goal.returns-clause-same
returns-clause-same c =
    subst (λ (ls : List ℤ). (l : ℤ) → Contains c.loop-literal.list l ↔ Contains ls l) (take_all c.loop-literal.literal-index c.args.clause.now c.loop-literal-test.false) c.loop-literal.invariant.same
