use Rattle.std.proofs.Common.{rules, ◌≡◌, ◌∙◌, sym, subst, to_z, of_z, w32, true, false}
use Rattle.std.specs.Prelude.{ℤ, Contains}
use Rattle.cdcl_solver.specs.Literals.{IsMarked}
use Rattle.cdcl_solver.specs.Watches.{AreApart}
use Rattle.cdcl_solver.proofs.Apart.{apart_push}
use Rattle.cdcl_solver.proofs.Marking.{marks_push, same_push}
use Rattle.cdcl_solver.proofs.search.put.Goals as goal

false_true : false ≡ true → ⊥
false_true e = cc

pub returns-clause-marks : goal.returns-clause-marks
returns-clause-marks c = marks_push c.args.seen.now c.insert.new.self c.args.list.now c.push.new.self (to_z w32 (of_z w32 c.args.literal)) c.requires.marks c.insert.ensures.variables c.insert.ensures.itself c.insert.ensures.others c.in_ok-push.ensures.ok

pub returns-clause-apart : goal.returns-clause-apart
returns-clause-apart c =
    let own : to_z w32 (of_z w32 c.args.literal) ≡ c.args.literal = search rules in
    subst (AreApart (λ (l : ℤ). l)) (sym c.in_ok-push.ensures.ok) (apart_push (λ (l : ℤ). l) c.args.list.now (to_z w32 (of_z w32 c.args.literal)) c.requires.apart (λ y there e.
    false_true (c.if-contains.ensures.1 (subst (IsMarked c.args.seen.now) (sym own) ((c.requires.marks c.args.literal c.requires.in_range).1 (subst (Contains c.args.list.now) (e ∙ own) there))))))

pub returns-clause-same : goal.returns-clause-same
returns-clause-same c =
    let own : to_z w32 (of_z w32 c.args.literal) ≡ c.args.literal = search rules in
    same_push c.args.list.now c.push.new.self (to_z w32 (of_z w32 c.args.literal)) c.args.literal own c.in_ok-push.ensures.ok
