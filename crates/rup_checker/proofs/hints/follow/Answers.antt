use Rattle.std.proofs.Common.{rules, ◌≡◌, ℕ, List, take, ℤ, neg_ℤ, inl, inr, sym, subst, ◌∙◌, arith}
use Rattle.std.specs.Prelude.{◌⊎◌, All}
use Rattle.std.proofs.lemmas.List.Elements.{All-contains}
use Rattle.rup_checker.specs.Formulas.{IsLiteral}
use Rattle.rup_checker.specs.Steps.{IsUnit}
use Rattle.rup_checker.specs.Marks.{LiteralMarks, IsMarked, IsHinted}
use Rattle.rup_checker.proofs.Sets.{Inserts, negation_is, IsLiteral-negation}
use Rattle.rup_checker.proofs.Following.{followed-push, followed-refutes, followed-unknown, followed-stuck, followed-done, false_not_unit, open_not_unit, open_not_false, hinted-push, hinted-all}
use Rattle.rup_checker.proofs.hints.follow.Goals as goal

-- what was marked so far, by all hints
hinted_so_far : (clauses : List (List ℤ)) (hints : List ℕ) (i : ℕ) (old : LiteralMarks) (l : ℤ) → IsMarked old l ⊎ IsHinted clauses (take i hints) (neg_ℤ l) → IsMarked old l ⊎ IsHinted clauses hints (neg_ℤ l)
hinted_so_far clauses hints i old l (inl was) = inl was
hinted_so_far clauses hints i old l (inr hinted) = inr (hinted-all clauses hints i (neg_ℤ l) hinted)

pub returns-then-hint-len-clause-answer : goal.returns-then-hint-len-clause-answer
returns-then-hint-len-clause-answer c =
    followed-unknown c.args.known.now.clauses c.args.taken.now c.loop-place.taken c.args.hints.now c.loop-place.place c.loop-place-test.true c.loop-place.invariant.1 (search rules)

pub returns-then-hint-len-clause-marked : goal.returns-then-hint-len-clause-marked
returns-then-hint-len-clause-marked c = λ l known marked. hinted_so_far c.args.known.now.clauses c.args.hints.now c.loop-place.place c.args.taken.now l (c.loop-place.invariant.2 l known marked)

pub insert-requires : goal.insert-requires
insert-requires c =
    let unit : IsUnit (IsMarked c.loop-place.taken) c.clause.result.now c.in-Unit.literal = c.in-Unit.ensures in
    let known : IsLiteral c.args.known.now.variables c.in-Unit.literal = All-contains (IsLiteral c.args.known.now.variables) c.clause.result.now c.in-Unit.literal c.clause.ensures.in_range unit.stands in
    subst (IsLiteral c.loop-place.taken.variables) (sym (negation_is c.in-Unit.literal (search rules) (search rules))) (IsLiteral-negation c.loop-place.taken.variables c.in-Unit.literal (subst (λ (n : ℕ). IsLiteral n c.in-Unit.literal) (sym (c.loop-place.invariant.0 ∙ c.requires)) known))

pub returns-in-False-clause-answer : goal.returns-in-False-clause-answer
returns-in-False-clause-answer c = λ list marks.
    followed-refutes c.args.known.now.clauses c.args.taken.now c.loop-place.taken c.args.hints.now c.loop-place.place c.clause.result.now (search rules) c.loop-place.invariant.1 c.clause.ensures.value (subst (λ (n : ℕ). All (IsLiteral n) c.clause.result.now) (sym (c.loop-place.invariant.0 ∙ c.requires)) c.clause.ensures.in_range) c.in-False.ensures list marks

pub returns-in-False-clause-marked : goal.returns-in-False-clause-marked
returns-in-False-clause-marked c = λ l known marked. hinted_so_far c.args.known.now.clauses c.args.hints.now c.loop-place.place c.args.taken.now l (c.loop-place.invariant.2 l known marked)

pub returns-in-False-2-clause-answer : goal.returns-in-False-2-clause-answer
returns-in-False-2-clause-answer c = λ list marks.
    followed-stuck c.args.known.now.clauses c.args.taken.now c.loop-place.taken c.args.hints.now c.loop-place.place c.clause.result.now c.loop-place-test.true c.loop-place.invariant.1 c.clause.ensures.value (subst (λ (n : ℕ). All (IsLiteral n) c.clause.result.now) (sym (c.loop-place.invariant.0 ∙ c.requires)) c.clause.ensures.in_range)
    (λ l. false_not_unit (IsMarked c.loop-place.taken) c.clause.result.now l c.in-False.ensures) (λ both. grind (arith, both.0, c.if-place-hints.false)) list marks

pub returns-in-False-2-clause-marked : goal.returns-in-False-2-clause-marked
returns-in-False-2-clause-marked c = λ l known marked. hinted_so_far c.args.known.now.clauses c.args.hints.now c.loop-place.place c.args.taken.now l (c.loop-place.invariant.2 l known marked)

pub returns-in-False-2-2-clause-answer : goal.returns-in-False-2-2-clause-answer
returns-in-False-2-2-clause-answer c = λ list marks.
    followed-stuck c.args.known.now.clauses c.args.taken.now c.loop-place.taken c.args.hints.now c.loop-place.place c.clause.result.now c.loop-place-test.true c.loop-place.invariant.1 c.clause.ensures.value (subst (λ (n : ℕ). All (IsLiteral n) c.clause.result.now) (sym (c.loop-place.invariant.0 ∙ c.requires)) c.clause.ensures.in_range)
    (λ l. open_not_unit (IsMarked c.loop-place.taken) c.clause.result.now l c.in-False-2.ensures) (λ both. open_not_false (IsMarked c.loop-place.taken) c.clause.result.now c.in-False-2.ensures both.1) list marks

pub returns-in-False-2-2-clause-marked : goal.returns-in-False-2-2-clause-marked
returns-in-False-2-2-clause-marked c = λ l known marked. hinted_so_far c.args.known.now.clauses c.args.hints.now c.loop-place.place c.args.taken.now l (c.loop-place.invariant.2 l known marked)

pub loop-place-preserved : goal.loop-place-preserved
loop-place-preserved c =
    let clauses = c.args.known.now.clauses in
    let hints = c.args.hints.now in
    let i = c.loop-place.place in
    let old = c.args.taken.now in
    let now = c.loop-place.taken in
    let new = c.insert.new.self in
    let clause = c.clause.result.now in
    let x = c.in-Unit.literal in
    let variables : now.variables ≡ c.args.known.now.variables = c.loop-place.invariant.0 ∙ c.requires in
    let unit : IsUnit (IsMarked now) clause x = c.in-Unit.ensures in
    let inserts : Inserts now new (neg_ℤ x) = subst (Inserts now new) (negation_is x (search rules) (search rules)) (record {
      variables = c.insert.ensures.variables;
      itself = c.insert.ensures.itself;
      others = c.insert.ensures.others;
    }) in (
      c.insert.ensures.variables ∙ c.loop-place.invariant.0,
      followed-push clauses old now new hints i 0 clause x c.loop-place-test.true c.loop-place.invariant.1 c.clause.ensures.value (subst (λ (n : ℕ). All (IsLiteral n) clause) (sym variables) c.clause.ensures.in_range) unit inserts,
      λ l known marked. hinted-push clauses old now new hints i clause x c.loop-place-test.true c.clause.ensures.value unit.stands inserts l (subst (λ (n : ℕ). IsLiteral n l) (sym variables) known) (c.loop-place.invariant.2 l known) marked,
    )

pub returns-clause-answer : goal.returns-clause-answer
returns-clause-answer c = followed-done c.args.known.now.clauses c.args.taken.now c.loop-place.taken c.args.hints.now c.loop-place.place (search rules) c.loop-place.invariant.1

pub returns-clause-marked : goal.returns-clause-marked
returns-clause-marked c = λ l known marked. hinted_so_far c.args.known.now.clauses c.args.hints.now c.loop-place.place c.args.taken.now l (c.loop-place.invariant.2 l known marked)
