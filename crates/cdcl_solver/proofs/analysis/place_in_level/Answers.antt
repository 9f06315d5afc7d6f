use Rattle.std.proofs.Common.{rules, ◌≡◌, ◌≢◌, ◌∙◌, ◌+◌, ◌-◌, ◌<◌, ◌≤◌, ◌++◌, ◌∷◌, [], ◌⊎◌, inl, inr, ℕ, List, sym, ap, subst, refl, length, get_or, take, drop, arith, pos, to_z, of_z, w32, Option, None, Some, true, false, Bool}
use Rattle.std.specs.Prelude.{ℤ, neg_ℤ, nat_abs, Contains, All, ◌↔◌, IsTrue}
use Rattle.cdcl_solver.specs.declared.trail.Assigned.{Assigned}
use Rattle.cdcl_solver.proofs.Asserting.{nothing}
use Rattle.cdcl_solver.proofs.Locating.{since_early}
use Rattle.cdcl_solver.proofs.analysis.place_in_level.Goals.{else-at-trail-via-then-at-trail+then-start-at+else-trail-at, else-at-trail-via-then-at-trail+else-start-at, else-at-trail-via-else-at-trail}
use Rattle.cdcl_solver.proofs.analysis.place_in_level.Goals as goal

pub returns : goal.returns
returns c =
    let at : ℕ = get_or c.args.places.now c.unsigned_abs.result 0 in
    let is : get_or c.trail-trail.result.now at nothing ≡ get_or c.args.search.now.trail at nothing = ap (λ (ts : List Assigned). get_or ts at nothing) c.trail-trail.ensures.value in
    let put : to_z w32 (of_z w32 c.args.literal) ≡ c.args.literal = search rules in
    since_early c.args.search.now c.args.start c.trail-trail.ensures.search c.args.places.now c.args.literal at (length c.trail-trail.result.now) c.requires.within c.requires.located (ap (λ (v : ℕ). get_or c.args.places.now v 0) (c.unsigned_abs.ensures.value ∙ ap nat_abs put))
    (λ low from here. elim c.else-at-trail.branch [
      | else-at-trail-via-then-at-trail+then-start-at+else-trail-at w ↦ w.if-trail-at.false (ap (of_z w32) (ap (λ (b : Assigned). b.literal) is ∙ here ∙ ap neg_ℤ (sym put) ∙ sym w.negation.ensures))
      | else-at-trail-via-then-at-trail+else-start-at w ↦ omega (arith, w.if-start-at.false, from)
      | else-at-trail-via-else-at-trail w ↦ absurd (omega (arith, w.if-at-trail.false, low, ap length c.trail-trail.ensures.value))
    ])
