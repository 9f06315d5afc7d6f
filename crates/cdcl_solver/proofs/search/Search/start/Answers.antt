use Rattle.std.proofs.Common.{◌∙◌, ℕ, subst, Option}
use Rattle.cdcl_solver.specs.Searches.{IsLookedAt}
use Rattle.cdcl_solver.proofs.Settling.{short_more}
use Rattle.cdcl_solver.proofs.Visiting.{goes_on_trans}
use Rattle.cdcl_solver.proofs.search.Search.start.Goals as goal

pub returns-in-Some-clause-goes_on : goal.returns-in-Some-clause-goes_on
returns-in-Some-clause-goes_on c = goes_on_trans c.args.self.now c.loop-number.self c.look.new.self c.loop-number.invariant.goes_on c.in_ok-conflict.ensures.found.goes_on

pub loop-number-preserved : goal.loop-number-preserved
loop-number-preserved c =
    let looked = subst (λ (o : Option ℕ). IsLookedAt c.loop-number.self c.look.new.self c.loop-number.number o) c.in_default.is c.in_ok-conflict.ensures.found in
    record {
      goes_on = goes_on_trans c.args.self.now c.loop-number.self c.look.new.self c.loop-number.invariant.goes_on looked.goes_on;
      clauses = looked.clauses ∙ c.loop-number.invariant.clauses;
      followed = looked.followed ∙ c.loop-number.invariant.followed;
      short = short_more c.loop-number.self c.look.new.self c.loop-number.number c.loop-number.invariant.short looked;
    }
