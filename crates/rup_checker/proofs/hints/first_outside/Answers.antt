use Rattle.std.proofs.Common.{rules, ◌≡◌, ◌+◌, ◌++◌, List, take, drop, get_or, ℤ, pos, to_z, of_z, w32, sym, ap, subst, ◌∙◌}
use Rattle.std.specs.Prelude.{All}
use Rattle.std.proofs.lemmas.Int.{to_z-of_z}
use Rattle.std.proofs.lemmas.List.{take_all, take-append-drop, drop_more}
use Rattle.std.proofs.lemmas.List.Elements.{All-more}
use Rattle.rup_checker.specs.Formulas.{IsLiteral}
use Rattle.rup_checker.specs.Steps.{IsFirstOutside}
use Rattle.rup_checker.proofs.Statuses.{false_alarm}
use Rattle.rup_checker.proofs.hints.first_outside.Goals as goal

pub returns-then-not-is_literal : goal.returns-then-not-is_literal
returns-then-not-is_literal c =
    let i = c.loop-literal.literal-index in
    let clause = c.args.clause.now in
    let x = get_or clause i (pos 0) in
    let same : to_z w32 (of_z w32 x) ≡ x = to_z-of_z w32 x (search rules) in
    let outside : ¬ (IsLiteral c.args.variables (to_z w32 (of_z w32 x))) = λ h. false_alarm c.is_literal.result (c.is_literal.ensures.1 h) (search rules) in
    subst (IsFirstOutside c.args.variables clause) (sym same) (record {
      before = take i clause;
      after = drop (i + 1) clause;
      split = sym (take-append-drop i clause) ∙ ap (λ (rest : List ℤ). take i clause ++ rest) (drop_more clause i (pos 0) c.loop-literal-test.true);
      inside = c.loop-literal.invariant;
      outside = λ h. outside (subst (IsLiteral c.args.variables) (sym same) h);
    })

pub loop-literal-preserved : goal.loop-literal-preserved
loop-literal-preserved c =
    let i = c.loop-literal.literal-index in
    let clause = c.args.clause.now in
    let x = get_or clause i (pos 0) in
    let same : to_z w32 (of_z w32 x) ≡ x = to_z-of_z w32 x (search rules) in
    let inside : IsLiteral c.args.variables (to_z w32 (of_z w32 x)) = c.is_literal.ensures.0 (search rules) in
    All-more (IsLiteral c.args.variables) clause i (pos 0) c.loop-literal-test.true c.loop-literal.invariant (subst (IsLiteral c.args.variables) same inside)

pub returns : goal.returns
returns c = subst (All (IsLiteral c.args.variables)) (take_all c.loop-literal.literal-index c.args.clause.now (search rules)) c.loop-literal.invariant
