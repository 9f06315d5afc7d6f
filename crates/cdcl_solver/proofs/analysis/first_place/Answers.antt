use Rattle.std.proofs.Common.{rules, ◌≡◌, ◌≢◌, ◌∙◌, ◌+◌, ◌-◌, ◌<◌, ◌≤◌, ◌++◌, ◌∷◌, [], ◌⊎◌, inl, inr, ℕ, List, sym, ap, subst, refl, length, get_or, take, drop, arith, pos, to_z, of_z, w32, Option, None, Some, true, false, Bool}
use Rattle.std.specs.Prelude.{ℤ, neg_ℤ, nat_abs, Contains, All, ◌↔◌, IsTrue}
use Rattle.std.proofs.lemmas.List.{take_all}
use Rattle.cdcl_solver.specs.Searches.{taken}
use Rattle.cdcl_solver.specs.Explanations.{IsSince}
use Rattle.cdcl_solver.proofs.Locating.{since_more}
use Rattle.cdcl_solver.proofs.analysis.first_place.Goals.{then-at-first, else-at-first}
use Rattle.cdcl_solver.proofs.analysis.first_place.Goals as goal

pub loop-literal-preserved : goal.loop-literal-preserved
loop-literal-preserved c =
    let x : ℤ = get_or c.args.clause.now c.loop-literal.literal-index (pos 0) in
    let same : to_z w32 (of_z w32 x) ≡ x = search rules in
    since_more c.args.search.now c.args.start c.loop-literal.first c.if-at-first.first c.place_in_level-at.result c.loop-literal.literal-index c.args.clause.now (to_z w32 (of_z w32 x)) c.loop-literal-test.true same
    (elim c.if-at-first.branch [ then-at-first w ↦ omega (arith, w.first-is, w.if-at-first.true) | else-at-first w ↦ omega (arith, w.first-is, w.if-at-first.false) ])
    (elim c.if-at-first.branch [ then-at-first w ↦ omega (arith, w.first-is, w.if-at-first.true) | else-at-first w ↦ omega (arith, w.first-is, w.if-at-first.false) ])
    c.loop-literal.invariant c.place_in_level-at.ensures

pub returns : goal.returns
returns c = subst (λ (ls : List ℤ). (l : ℤ) → Contains ls l → Contains (taken c.args.search.now) l → IsSince c.args.search.now c.args.start c.loop-literal.first l)
    (take_all c.loop-literal.literal-index c.args.clause.now c.loop-literal-test.false) c.loop-literal.invariant
