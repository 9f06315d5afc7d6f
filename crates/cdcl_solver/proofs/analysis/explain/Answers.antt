use Rattle.std.proofs.Common.{rules, ◌≡◌, ◌≢◌, ◌∙◌, ◌+◌, ◌-◌, ◌<◌, ◌≤◌, ◌++◌, ◌∷◌, [], ◌⊎◌, inl, inr, ℕ, List, sym, ap, subst, refl, length, get_or, take, drop, arith, pos, to_z, of_z, w32, Option, None, Some, true, false, Bool}
use Rattle.std.specs.Prelude.{ℤ, neg_ℤ, nat_abs, Contains, All, ◌↔◌, IsTrue}
use Rattle.cdcl_solver.specs.declared.analysis.Explained.{Explained}
use Rattle.cdcl_solver.specs.declared.trail.Assigned.{Assigned}
use Rattle.cdcl_solver.specs.declared.trail.Reason.{Reason}
use Rattle.cdcl_solver.specs.declared.trail.Reason.TheVariants as reason
use Rattle.cdcl_solver.specs.Literals.{IsMarked}
use Rattle.cdcl_solver.proofs.Asserting.{nothing}
use Rattle.cdcl_solver.specs.Explanations.{IsExplained}
use Rattle.cdcl_solver.proofs.Explaining.{starts, starts_opened, starts_explained}
use Rattle.cdcl_solver.proofs.analysis.explain.Goals.{then-start-eq0, else-start-eq0+in_ok-cut}
use Rattle.cdcl_solver.proofs.analysis.explain.Goals as goal

pub cut-requires-clause-opened : goal.cut-requires-clause-opened
cut-requires-clause-opened c =
    let one : c.push.new.self ≡ c.args.conflict ∷ [] = c.in_ok-push.ensures.ok ∙ ap (λ (hs : List ℕ). hs ++ c.args.conflict ∷ []) c.new-hints.ensures in
    let walked = starts c.args.search.now c.args.conflict c.args.seen c.mark.new.seen c.clause-clause.result.now c.trail-at.ensures.search c.requires.conflict c.requires.variables c.requires.clear c.mark.ensures.variables (sym c.clause-clause.ensures.value) c.mark.ensures.marked in
    starts_opened c.args.search.now c.last_level-start.result c.args.conflict c.args.seen c.mark.new.seen c.clause-clause.result.now (record { clause = c.new.result; hints = c.push.new.self; back = 0; lowest = c.first_place.result; seen = c.mark.new.seen })
    walked c.requires.variables c.requires.clear c.mark.ensures.variables c.mark.ensures.marked c.first_place.ensures c.new.ensures one refl

pub walk-requires-clause-explained : goal.walk-requires-clause-explained
walk-requires-clause-explained c =
    let one : c.push.new.self ≡ c.args.conflict ∷ [] = c.in_ok-push.ensures.ok ∙ ap (λ (hs : List ℕ). hs ++ c.args.conflict ∷ []) c.new-hints.ensures in
    let walked = starts c.args.search.now c.args.conflict c.args.seen c.mark.new.seen c.clause-clause.result.now c.trail-at.ensures.search c.requires.conflict c.requires.variables c.requires.clear c.mark.ensures.variables (sym c.clause-clause.ensures.value) c.mark.ensures.marked in
    elim c.if-start-eq0.branch [
      | then-start-eq0 w ↦ subst (λ (k : ℕ). IsExplained c.args.search.now c.last_level-start.result k c.if-start-eq0.explained) (sym (w.at-is ∙ ap length c.trail-at.ensures.value))
          (subst (IsExplained c.args.search.now c.last_level-start.result (length c.args.search.now.trail)) (sym w.explained-is)
          (starts_explained c.args.search.now c.last_level-start.result (record { clause = c.new.result; hints = c.push.new.self; back = 0; lowest = 0; seen = c.mark.new.seen }) (c.args.conflict ∷ []) c.mark.new.seen walked w.if-start-eq0.true c.new.ensures one refl))
      | else-start-eq0+in_ok-cut w ↦ subst (λ (k : ℕ). IsExplained c.args.search.now c.last_level-start.result k c.if-start-eq0.explained) (sym w.at-is)
          (subst (IsExplained c.args.search.now c.last_level-start.result (c.last_level-start.result - 1)) (sym w.explained-is) w.in_ok-cut.ensures)
    ]
