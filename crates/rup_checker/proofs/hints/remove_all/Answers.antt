use Rattle.std.proofs.Common.{rules, ◌≡◌, ℕ, List, get_or, ℤ, pos, to_z, of_z, w32, sym, subst, ◌∙◌}
use Rattle.std.specs.Prelude.{Contains}
use Rattle.std.proofs.lemmas.Int.{to_z-of_z}
use Rattle.std.proofs.lemmas.List.{take_all}
use Rattle.rup_checker.specs.Formulas.{IsLiteral}
use Rattle.rup_checker.proofs.Sets.{Removes, left_after, not_pushed}
use Rattle.rup_checker.proofs.hints.remove_all.Goals as goal

pub loop-literal-preserved : goal.loop-literal-preserved
loop-literal-preserved c =
    let i = c.loop-literal.literal-index in
    let literals = c.args.literals.now in
    let x = get_or literals i (pos 0) in
    let old = c.loop-literal.taken in
    let new = c.remove.new.self in
    let same : to_z w32 (of_z w32 x) ≡ x = to_z-of_z w32 x (search rules) in
    let removes : Removes old new x = subst (Removes old new) same (record {
      variables = c.remove.ensures.variables;
      itself = c.remove.ensures.itself;
      others = c.remove.ensures.others;
    }) in (
      c.remove.ensures.variables ∙ c.loop-literal.invariant.0,
      λ l known marked. (
          let left = left_after old new x l removes (subst (λ (n : ℕ). IsLiteral n l) (sym c.loop-literal.invariant.0) known) marked in
          let before = c.loop-literal.invariant.1 l known left.0 in
          (before.0, not_pushed literals i (pos 0) l c.loop-literal-test.true before.1 left.1)),
    )

pub returns-clause-left : goal.returns-clause-left
returns-clause-left c = λ l known marked. (
    let left = c.loop-literal.invariant.1 l known marked in
    (left.0, λ there. left.1 (subst (λ (ys : List ℤ). Contains ys l) (sym (take_all c.loop-literal.literal-index c.args.literals.now (search rules))) there)))
