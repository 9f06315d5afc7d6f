use Rattle.std.proofs.Common.{rules, ◌≡◌, ◌∙◌, get_or, pos, to_z, of_z, w32}
use Rattle.std.specs.Prelude.{ℤ}
use Rattle.cdcl_solver.proofs.Marking.{unmarked_more}
use Rattle.cdcl_solver.proofs.search.unmark.Goals as goal

pub loop-literal-preserved : goal.loop-literal-preserved
loop-literal-preserved c =
    let x : ℤ = get_or c.args.list.now c.loop-literal.literal-index (pos 0) in
    let same : to_z w32 (of_z w32 x) ≡ x = search rules in
    record {
      variables = c.remove.ensures.variables ∙ c.loop-literal.invariant.variables;
      marked = unmarked_more c.loop-literal.seen c.remove.new.self c.args.list.now c.loop-literal.literal-index (to_z w32 (of_z w32 x)) c.loop-literal-test.true same
          c.remove.ensures.variables c.remove.ensures.itself c.remove.ensures.others c.loop-literal.invariant.marked;
    }
