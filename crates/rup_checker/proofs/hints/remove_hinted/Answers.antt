use Rattle.std.proofs.Common.{rules, ◌≡◌, ◌+◌, ℕ, List, take, ℤ, neg_ℤ, sym, subst, ◌∙◌, arith}
use Rattle.std.proofs.lemmas.List.{take_all}
use Rattle.rup_checker.specs.Formulas.{IsLiteral}
use Rattle.rup_checker.specs.Marks.{LiteralMarks, IsMarked, IsHinted}
use Rattle.rup_checker.proofs.Following.{not_hinted-push, not_hinted-past}
use Rattle.rup_checker.proofs.hints.remove_hinted.Goals.{then-hint-len, else-hint-len}
use Rattle.rup_checker.proofs.hints.remove_hinted.Goals as goal

-- what is marked was marked before, and is not hinted by the first hints
abbrev Left : List (List ℤ) → ℕ → LiteralMarks → List ℕ → LiteralMarks → Type 0
Left clauses variables old hints now = (now.variables ≡ old.variables) × ((x : ℤ) → IsLiteral variables x → IsMarked now x → IsMarked old x × ¬ (IsHinted clauses hints (neg_ℤ x)))

pub loop-hint-preserved : goal.loop-hint-preserved
loop-hint-preserved c =
    let clauses = c.args.known.now.clauses in
    let hints = c.args.hints.now in
    let i = c.loop-hint.hint-index in
    let variables : c.loop-hint.taken.variables ≡ c.args.known.now.variables = c.loop-hint.invariant.0 ∙ c.requires in
    elim c.if-hint-len.branch [
      | then-hint-len w ↦ subst (Left clauses c.args.known.now.variables c.args.taken.now (take (i + 1) hints)) (sym w.taken-is) (
        w.remove_negations.ensures.variables ∙ c.loop-hint.invariant.0,
        λ x known marked. (
            let left = w.remove_negations.ensures.left x (subst (λ (n : ℕ). IsLiteral n x) (sym variables) known) marked in
            let before = c.loop-hint.invariant.1 x known left.0 in
            (before.0, not_hinted-push clauses hints i w.clause.result.now (neg_ℤ x) c.loop-hint-test.true w.clause.ensures.value left.1 before.1)),
      )
      | else-hint-len w ↦ subst (Left clauses c.args.known.now.variables c.args.taken.now (take (i + 1) hints)) (sym w.taken-is) (
        c.loop-hint.invariant.0,
        λ x known marked. (
            let before = c.loop-hint.invariant.1 x known marked in
            (before.0, not_hinted-past clauses hints i (neg_ℤ x) c.loop-hint-test.true (grind (arith, c.len.ensures, w.if-hint-len.false)) before.1)),
      )
    ]

pub returns-clause-left : goal.returns-clause-left
returns-clause-left c = λ l known marked. (
    let left = c.loop-hint.invariant.1 l known marked in
    (left.0, λ hinted. left.1 (subst (λ (hs : List ℕ). IsHinted c.args.known.now.clauses hs (neg_ℤ l)) (sym (take_all c.loop-hint.hint-index c.args.hints.now (search rules))) hinted)))
