use Rattle.std.proofs.Common.{rules, ◌≡◌, ◌≢◌, ◌∙◌, ◌+◌, ◌-◌, ◌<◌, ◌≤◌, ◌++◌, ◌∷◌, [], ◌⊎◌, inl, inr, ℕ, List, sym, ap, subst, refl, length, get_or, take, drop, arith, pos, to_z, of_z, w32, Option, None, Some, true, false, Bool}
use Rattle.std.specs.Prelude.{ℤ, neg_ℤ, nat_abs, Contains, All, ◌↔◌, IsTrue}
use Rattle.cdcl_solver.proofs.Locating.{located_more, located_all}
use Rattle.cdcl_solver.specs.declared.trail.Assigned.{Assigned}
use Rattle.cdcl_solver.proofs.Asserting.{nothing}
use Rattle.cdcl_solver.proofs.analysis.locate.Goals as goal

pub loop-at-preserved : goal.loop-at-preserved
loop-at-preserved c =
    let is : get_or c.trail-trail.result.now c.loop-at.at nothing ≡ get_or c.args.search.now.trail c.loop-at.at nothing = ap (λ (ts : List Assigned). get_or ts c.loop-at.at nothing) c.trail-trail.ensures.value in
    let read : to_z w32 (of_z w32 (get_or c.trail-trail.result.now c.loop-at.at nothing).literal) ≡ (get_or c.trail-trail.result.now c.loop-at.at nothing).literal = search rules in
    record {
      size = search rules;
      located = located_more c.args.search.now c.args.start c.loop-at.at c.loop-at.places c.set.new.self c.unsigned_abs.result c.trail-trail.ensures.search
          (omega (arith, c.loop-at-test.true, ap length c.trail-trail.ensures.value)) c.loop-at.invariant.size (c.unsigned_abs.ensures.value ∙ ap nat_abs (read ∙ ap (λ (b : Assigned). b.literal) is)) c.set.ensures c.loop-at.invariant.located;
    }

pub returns-clause-located : goal.returns-clause-located
returns-clause-located c = located_all c.args.search.now c.args.start c.loop-at.at c.loop-at.places (omega (arith, c.loop-at-test.false, ap length c.trail-trail.ensures.value)) c.loop-at.invariant.located
