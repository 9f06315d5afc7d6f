use Rattle.std.proofs.Common.{true, []}
use Rattle.std.proofs.lemmas.Result.{err_from_is_err_and}
use Rattle.hll_expressions.specs.Scopes.{context}
use Rattle.hll_expressions.specs.Things.{names_of}
use Rattle.hll_types.proofs.ConstantAnswers.{judged_wrong, truth_answer, whole_answer}
use Rattle.hll_types.proofs.Lookups.{place}
use Rattle.hll_types.proofs.NameAnswers.{described_there, fault_there}
use Rattle.hll_types.proofs.declare.Declared.constant_value.Goals as goal

pub returns-in_err-value : goal.returns-in_err-value
returns-in_err-value c =
    let e = c.args.item.now.value in
    let here = context c.scope.result in
    let there = place (names_of c.args.self.now.names) [] true in
    let p = err_from_is_err_and c.from_residual.result c.from_residual.ensures.1 in
    rw (p.1, p.2) (λ names further h. judged_wrong c.args.self.now.names names further h e c.args.item.now.boolean _ (fault_there here there e _ c.scope.ensures c.in_err-value.ensures))

pub returns-then-item : goal.returns-then-item
returns-then-item c =
    let e = c.args.item.now.value in
    let g = c.in_ok-value.value in
    let d = described_there (context c.scope.result) (place (names_of c.args.self.now.names) [] true) e g c.scope.ensures c.in_ok-value.ensures in
    rw c.if-item.true (λ names further h. truth_answer c.args.self.now.names names further h e g d c.truth_value.result c.truth_value.ensures)

pub returns : goal.returns
returns c =
    let e = c.args.item.now.value in
    let g = c.in_ok-value.value in
    let d = described_there (context c.scope.result) (place (names_of c.args.self.now.names) [] true) e g c.scope.ensures c.in_ok-value.ensures in
    rw c.if-item.false (λ names further h. whole_answer c.args.self.now.names names further h e g d c.whole_number.result c.whole_number.ensures)
