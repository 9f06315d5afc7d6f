use Rattle.std.proofs.lemmas.Result.{err_from_is_err_and}
use Rattle.hll_meaning.specs.StaticRules.{taken_by}
use Rattle.hll_expressions.specs.Things.{declared_names}
use Rattle.hll_expressions.specs.Things.{said_of}
use Rattle.hll_types.proofs.ItemAnswers.{constant_twice, constant_wrong, constant_right}
use Rattle.hll_types.proofs.FreshNames.{new_name}
use Rattle.hll_types.proofs.NameAnswers.{declared_answer}
use Rattle.hll_types.proofs.declare.Declared.constant.Goals as goal

pub returns-in_err-fresh : goal.returns-in_err-fresh
returns-in_err-fresh c =
    let p = err_from_is_err_and c.from_residual.result c.from_residual.ensures.1 in
    rw (p.1, p.2) (λ q further h. constant_twice c.args.self.now q further h c.args.item.now _ c.in_err-fresh.ensures)

pub returns-in_err-value : goal.returns-in_err-value
returns-in_err-value c =
    let p = err_from_is_err_and c.from_residual-in_err-value.result c.from_residual-in_err-value.ensures.1 in
    rw (p.1, p.2) (λ q further h. constant_wrong c.args.self.now q further h c.args.item.now _ c.in_ok-fresh.ensures (c.in_err-value.ensures q.names further h.names))

pub returns : goal.returns
returns c = λ q further h.
    let value = c.in_ok-value.ensures q.names further h.names in
    declared_answer _ c.declare.result c.declare.ensures.declared c.declare.ensures.memory
    (λ adds. let added = adds (new_name (taken_by (declared_names c.args.self.now.names)) c.args.item.now.name c.in_ok-fresh.ensures) in constant_right c.args.self.now q further h c.declare.new.self c.args.item.now (said_of c.in_ok-value.value) c.in_ok-fresh.ensures value.0 value.1 added c.declare.ensures.others.0 c.declare.ensures.others.1)
